-- What stands in the line, and what is still to come, are the whole.
use Rattle.std.proofs.Common.{◌≡◌, ◌++◌, drop}
use Rattle.step_trace.specs.StepChanges.{general_changes}
use Rattle.step_trace.specs.StepTexts.{changes_text}
use Rattle.step_trace.proofs.registers.put_general.Given as goal

abbrev pub invariant-loop-number : goal.invariant-loop-number
invariant-loop-number l = l.line.items
    ++ changes_text (general_changes l.number (drop l.number l.before) (drop l.number l.after))
    ≡ l.initial.line.items ++ changes_text (general_changes 0 l.before l.after)
