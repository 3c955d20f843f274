use Rattle.std.proofs.Common.{◌≡◌, ℕ, ◌+◌, drop}
use Rattle.step_trace.specs.StepChanges.{stay}
use Rattle.step_trace.proofs.memory.stay.Given as goal

abbrev pub invariant-loop-i : goal.invariant-loop-i
invariant-loop-i l = (n : ℕ) → n + l.i ≡ 8 → stay n (drop l.i l.old) (drop l.i l.new) ≡ stay 8 l.old l.new
