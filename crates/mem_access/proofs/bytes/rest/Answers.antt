use Rattle.std.proofs.Common.{◌/◌, ap}
use Rattle.mem_access.proofs.Numbers.{bits_of_bytes}
use Rattle.mem_access.proofs.bytes.rest.Goals as goal

pub returns : goal.returns
returns c = ap (λ x. c.args.value / x) (bits_of_bytes c.args.part)
