use Rattle.cpu_step.proofs.PendingVectors.{pending_changed, vector_bounds}
use Rattle.cpu_step.proofs.laws.pending_law.Goals as goal

pub returns : goal.returns
returns c = record {
  left = pending_changed;
  vector = vector_bounds;
}
