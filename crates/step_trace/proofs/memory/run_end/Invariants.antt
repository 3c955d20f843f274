use Rattle.std.proofs.Common.{◌≡◌, ◌+◌, drop}
use Rattle.step_trace.specs.StepChanges.{run_rest}
use Rattle.step_trace.proofs.memory.run_end.Given as goal

abbrev pub invariant-loop-i : goal.invariant-loop-i
invariant-loop-i l = l.i + run_rest (drop l.i l.old) (drop l.i l.new) ≡ l.from + run_rest (drop l.from l.old) (drop l.from l.new)
