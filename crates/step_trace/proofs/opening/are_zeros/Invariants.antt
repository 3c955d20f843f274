-- What is still to be looked at tells it.
use Rattle.std.proofs.Common.{◌≡◌, drop}
use Rattle.step_trace.specs.StepTexts.{are_zeros}
use Rattle.step_trace.proofs.opening.are_zeros.Given as goal

abbrev pub invariant-loop-i : goal.invariant-loop-i
invariant-loop-i l = are_zeros (drop l.i l.bytes) ≡ are_zeros l.bytes
