use Rattle.std.proofs.Common.{sym, ◌∙◌}
use Rattle.asm_text.proofs.Orders.{ends_first}
use Rattle.asm_text.proofs.order.is_bytewise_least.Goals as goal

pub returns-then-i-other : goal.returns-then-i-other
returns-then-i-other c =
    sym (c.loop-i.invariant ∙ ends_first c.args.bytes.now c.args.other.now c.loop-i.i c.loop-i-test.true c.if-i-other.true)
