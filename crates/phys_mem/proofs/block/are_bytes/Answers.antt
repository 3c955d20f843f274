use Rattle.std.proofs.Common.{arith}
use Rattle.phys_mem.proofs.block.are_bytes.Goals as goal

pub returns : goal.returns
returns c = λ p. let fits = c.type_inv.bytes p in omega arith
