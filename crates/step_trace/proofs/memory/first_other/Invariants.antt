use Rattle.std.proofs.Common.{◌≡◌, ℕ, ◌+◌, drop}
use Rattle.step_trace.specs.StepChanges.{runs}
use Rattle.step_trace.proofs.memory.first_other.Given as goal

abbrev pub invariant-loop-i : goal.invariant-loop-i
invariant-loop-i l = (place : ℕ) → runs (place + l.from) 0 (drop l.from l.old) (drop l.from l.new) ≡ runs (place + l.i) 0 (drop l.i l.old) (drop l.i l.new)
