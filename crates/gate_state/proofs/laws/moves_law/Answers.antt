use Rattle.gate_state.proofs.RunsSafe.{step_counts}
use Rattle.gate_state.proofs.laws.moves_law.Goals as goal

pub returns : goal.returns
returns c = step_counts
