use Rattle.std.proofs.Common.{◌++◌, ap, ◌∙◌, sym}
use Rattle.step_trace.proofs.TextsBehind.{byte_first, no_byte, none_left, part_behind}
use Rattle.step_trace.proofs.words.put_bytes.Goals as goal

pub loop-i-preserved : goal.loop-i-preserved
loop-i-preserved c =
    part_behind c.loop-i.line.items c.put_byte.new.line.items _ _ _
    (ap (λ l. c.loop-i.line.items ++ l) (sym (byte_first c.args.bytes.now c.loop-i.i c.loop-i-test.true))
    ∙ c.loop-i.invariant)
    c.in_ok-put_byte.ensures

pub returns : goal.returns
returns c =
    none_left c.loop-i.line.items _ _ c.loop-i.invariant (no_byte c.args.bytes.now c.loop-i.i c.loop-i-test.false)
