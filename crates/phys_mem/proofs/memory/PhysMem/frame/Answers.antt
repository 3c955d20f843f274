use Rattle.phys_mem.specs.Memory.{frame_bytes}
use Rattle.std.proofs.Common.{rules}
use Rattle.phys_mem.proofs.memory.PhysMem.frame.Goals as goal

pub returns-clause-bytes : goal.returns-clause-bytes
unfolding frame_bytes
returns-clause-bytes c = search rules
