-- What stands in the line, and what is still to come, are the whole.
use Rattle.std.proofs.Common.{◌≡◌, ◌++◌, drop}
use Rattle.step_trace.specs.StepChanges.{fills}
use Rattle.step_trace.specs.StepTexts.{changes_text}
use Rattle.step_trace.proofs.kept.put_fills.Given as goal

abbrev pub invariant-loop-i : goal.invariant-loop-i
invariant-loop-i l = l.line.items ++ changes_text (fills l.before (drop l.i l.after))
    ≡ l.initial.line.items ++ changes_text (fills l.before l.after)
