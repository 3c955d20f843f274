use Rattle.trap_unit.proofs.DeliveryLaws.{return_leaves}
use Rattle.trap_unit.proofs.laws.return_law.Goals as goal

pub returns : goal.returns
returns c = return_leaves
