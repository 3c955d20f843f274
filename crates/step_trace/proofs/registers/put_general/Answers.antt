use Rattle.std.proofs.Common.{◌++◌, ap, ◌∙◌, sym, arith}
use Rattle.step_trace.proofs.ChangeTexts.{no_register, register_first}
use Rattle.step_trace.proofs.TextsBehind.{none_left, part_behind}
use Rattle.step_trace.proofs.registers.put_general.Goals as goal

pub loop-number-preserved : goal.loop-number-preserved
loop-number-preserved c =
    let before = c.args.before.now in
    let after = c.args.after.now in
    let number = c.loop-number.number in
    let first = register_first before after number (omega (arith, c.told-before, c.loop-number-test.true))
    (omega (arith, c.told-after, c.loop-number-test.true)) in
    part_behind c.loop-number.line.items c.put_register.new.line.items _ _ _
    (ap (λ l. c.loop-number.line.items ++ l) (sym first) ∙ c.loop-number.invariant) c.in_ok-put_register.ensures

pub returns : goal.returns
returns c =
    none_left c.loop-number.line.items _ _ c.loop-number.invariant
    (no_register c.args.before.now c.args.after.now c.loop-number.number
    (omega (arith, c.told-before, c.loop-number-test.false)))
