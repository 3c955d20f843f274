-- What is still to be looked at tells it.
use Rattle.std.proofs.Common.{◌≡◌, drop}
use Rattle.step_trace.specs.StepChanges.{has_span}
use Rattle.step_trace.proofs.kept.has_span.Given as goal

abbrev pub invariant-loop-i : goal.invariant-loop-i
invariant-loop-i l = has_span l.entry l.upper ≡ has_span l.entry (drop l.i l.upper)
