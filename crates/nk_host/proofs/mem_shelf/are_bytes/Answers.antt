use Rattle.std.proofs.Common.{arith}
use Rattle.nk_host.proofs.mem_shelf.are_bytes.Goals as goal

pub returns : goal.returns
returns c = λ i. omega (arith, c.type_inv.file i)
