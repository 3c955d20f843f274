use Rattle.std.proofs.Common.{◌++◌, ap, sym, ◌∙◌, arith}
use Rattle.step_trace.proofs.KeptParts.{forget_first, no_forget}
use Rattle.step_trace.proofs.TextsBehind.{none_left, part_behind}
use Rattle.step_trace.proofs.kept.put_forgets.Goals as goal

pub loop-i-preserved : goal.loop-i-preserved
loop-i-preserved c =
    part_behind c.loop-i.line.items c.put_new_forget.new.line.items _ _ _
    (ap (λ l. c.loop-i.line.items ++ l)
    (sym (forget_first c.args.before.now c.args.after.now c.loop-i.i _ c.loop-i-test.true))
    ∙ c.loop-i.invariant)
    c.in_ok-put_new_forget.ensures

pub returns : goal.returns
returns c =
    none_left c.loop-i.line.items _ _ c.loop-i.invariant
    (no_forget c.args.before.now c.args.after.now c.loop-i.i (omega (arith, c.loop-i-test.false)))
