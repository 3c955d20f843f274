use Rattle.std.proofs.Common.{rules}
use Rattle.phys_mem.specs.Memory.{stores, stored}
use Rattle.phys_mem.proofs.memory.PhysMem.store8.Goals as goal

pub returns-clause-stored : goal.returns-clause-stored
unfolding stores stored
returns-clause-stored c = search rules
