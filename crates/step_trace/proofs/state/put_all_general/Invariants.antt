-- What stands in the line, and what is still to come, are the whole.
use Rattle.std.proofs.Common.{◌≡◌, ◌++◌, drop}
use Rattle.step_trace.specs.StepTexts.{register_names, registers_text}
use Rattle.step_trace.proofs.state.put_all_general.Given as goal

abbrev pub invariant-loop-number : goal.invariant-loop-number
invariant-loop-number l = l.line.items ++ registers_text (drop l.number register_names) (drop l.number l.general)
    ≡ l.initial.line.items ++ registers_text register_names l.general
