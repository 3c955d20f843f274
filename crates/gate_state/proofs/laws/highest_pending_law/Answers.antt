use Rattle.gate_state.proofs.PendingOrder.{highest_waits}
use Rattle.gate_state.proofs.laws.highest_pending_law.Goals as goal

pub returns : goal.returns
returns c = record { highest = highest_waits }
