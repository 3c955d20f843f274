use Rattle.std.proofs.Common.{◌++◌, ap, sym, ◌∙◌, arith}
use Rattle.step_trace.proofs.KeptParts.{drop_first, no_drop, told_so}
use Rattle.step_trace.proofs.TextsBehind.{none_left, part_behind}
use Rattle.step_trace.proofs.kept.put_drops.Goals as goal

pub loop-i-preserved : goal.loop-i-preserved
loop-i-preserved c =
    part_behind c.loop-i.line.items c.put_new_drop.new.line.items _ _ _
    (ap (λ l. c.loop-i.line.items ++ l)
    (sym (drop_first c.args.before.now c.args.after.now c.loop-i.i _ c.loop-i-test.true))
    ∙ c.loop-i.invariant)
    (told_so c.loop-i.line.items c.put_new_drop.new.line.items _ _ _ c.in_ok-put_new_drop.ensures c.page_place-place.ensures)

pub returns : goal.returns
returns c =
    none_left c.loop-i.line.items _ _ c.loop-i.invariant
    (no_drop c.args.before.now c.args.after.now c.loop-i.i (omega (arith, c.loop-i-test.false)))
