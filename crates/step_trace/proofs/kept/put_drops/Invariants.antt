-- What stands in the line, and what is still to come, are the whole.
use Rattle.std.proofs.Common.{◌≡◌, ◌++◌, drop}
use Rattle.step_trace.specs.StepChanges.{drops}
use Rattle.step_trace.specs.StepTexts.{changes_text}
use Rattle.step_trace.proofs.kept.put_drops.Given as goal

abbrev pub invariant-loop-i : goal.invariant-loop-i
invariant-loop-i l = l.line.items ++ changes_text (drops (drop l.i l.before) l.after)
    ≡ l.initial.line.items ++ changes_text (drops l.before l.after)
