use Rattle.phys_mem.specs.Memory.{frame_bytes, patched}
use Rattle.std.proofs.Common.{rules}
use Rattle.phys_mem.proofs.memory.PhysMem.frame_mut.Goals as goal

pub returns : goal.returns
unfolding frame_bytes patched
returns c = search rules
