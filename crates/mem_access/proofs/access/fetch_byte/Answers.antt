use Rattle.std.proofs.Common.{arith}
use Rattle.mem_access.proofs.Spans.{part_of_one}
use Rattle.mem_access.proofs.access.fetch_byte.Goals as goal

pub load8-requires : goal.load8-requires
load8-requires c = omega (arith, c.in-Ok.ensures.places.first_fits, part_of_one c.args.va)
