-- What is still to be looked at tells it.
use Rattle.std.proofs.Common.{◌≡◌, drop}
use Rattle.step_trace.specs.StepChanges.{has_pair}
use Rattle.step_trace.proofs.kept.first_place.Given as goal

abbrev pub invariant-loop-i : goal.invariant-loop-i
invariant-loop-i l = has_pair l.pair l.pairs ≡ has_pair l.pair (drop l.i l.pairs)
