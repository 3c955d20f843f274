use Rattle.cpu_step.proofs.StoresOfTurns.{turned_stored}
use Rattle.cpu_step.proofs.laws.turn_stores_law.Goals as goal

pub returns : goal.returns
returns c = record { memory = turned_stored c.memory_law.ensures c.delivery_law.ensures }
