use Rattle.std.proofs.Common.{◌++◌, ap, ◌∙◌, sym}
use Rattle.step_trace.specs.StepChanges.{named_flags}
use Rattle.step_trace.proofs.ChangeTexts.{flag_first, no_flag}
use Rattle.step_trace.proofs.TextsBehind.{none_left, part_behind}
use Rattle.step_trace.proofs.registers.put_named_flags.Goals as goal

pub loop-number-preserved : goal.loop-number-preserved
loop-number-preserved c =
    part_behind c.loop-number.line.items c.put_flag_change.new.line.items _ _ _
    (ap (λ l. c.loop-number.line.items ++ l)
    (sym (flag_first named_flags c.args.before c.args.after c.loop-number.number c.loop-number-test.true))
    ∙ c.loop-number.invariant)
    c.in_ok-put_flag_change.ensures

pub returns : goal.returns
returns c =
    none_left c.loop-number.line.items _ _ c.loop-number.invariant
    (no_flag named_flags c.args.before c.args.after c.loop-number.number c.loop-number-test.false)
