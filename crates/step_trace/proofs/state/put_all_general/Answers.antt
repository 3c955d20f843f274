use Rattle.std.proofs.Common.{◌++◌, ap, ◌∙◌, sym, arith}
use Rattle.step_trace.specs.StepTexts.{register_names}
use Rattle.step_trace.proofs.StateTexts.{held_first, none_held, sixteen_names}
use Rattle.step_trace.proofs.TextsBehind.{none_left, part_behind}
use Rattle.step_trace.proofs.state.put_all_general.Goals as goal

pub loop-number-preserved : goal.loop-number-preserved
loop-number-preserved c =
    let first = held_first register_names c.args.general.now c.loop-number.number
    (omega (arith, sixteen_names, c.loop-number-test.true)) (omega (arith, c.told-general, c.loop-number-test.true)) in
    part_behind c.loop-number.line.items c.put_one.new.line.items _ _ _
    (ap (λ l. c.loop-number.line.items ++ l) (sym first) ∙ c.loop-number.invariant) c.in_ok-put_one.ensures

pub returns : goal.returns
returns c =
    none_left c.loop-number.line.items _ _ c.loop-number.invariant
    (none_held register_names c.args.general.now c.loop-number.number
    (omega (arith, sixteen_names, c.loop-number-test.false)))
