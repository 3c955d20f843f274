use Rattle.std.proofs.Common.{◌++◌, ap, sym, ◌∙◌, not, arith}
use Rattle.step_trace.proofs.KeptParts.{fill_first, no_fill, told_so}
use Rattle.step_trace.proofs.TextsBehind.{none_left, part_behind}
use Rattle.step_trace.proofs.kept.put_fills.Goals as goal

pub loop-i-preserved : goal.loop-i-preserved
loop-i-preserved c =
    part_behind c.loop-i.line.items c.put_new_fill.new.line.items _ _ _
    (ap (λ l. c.loop-i.line.items ++ l)
    (sym (fill_first c.args.before.now c.args.after.now c.loop-i.i _ c.loop-i-test.true))
    ∙ c.loop-i.invariant)
    (told_so c.loop-i.line.items c.put_new_fill.new.line.items _ _ _ c.in_ok-put_new_fill.ensures (ap not c.place_of-place.ensures))

pub returns : goal.returns
returns c =
    none_left c.loop-i.line.items _ _ c.loop-i.invariant
    (no_fill c.args.before.now c.args.after.now c.loop-i.i (omega (arith, c.loop-i-test.false)))
