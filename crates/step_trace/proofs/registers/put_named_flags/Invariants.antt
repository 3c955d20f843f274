-- What stands in the line, and what is still to come, are the whole.
use Rattle.std.proofs.Common.{◌≡◌, ◌++◌, drop}
use Rattle.step_trace.specs.StepChanges.{flag_changes, named_flags}
use Rattle.step_trace.specs.StepTexts.{changes_text}
use Rattle.step_trace.proofs.registers.put_named_flags.Given as goal

abbrev pub invariant-loop-number : goal.invariant-loop-number
invariant-loop-number l = l.line.items ++ changes_text (flag_changes (drop l.number named_flags) l.before l.after)
    ≡ l.initial.line.items ++ changes_text (flag_changes named_flags l.before l.after)
