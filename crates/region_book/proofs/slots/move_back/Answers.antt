use Rattle.std.proofs.Common.{arith, subst}
use Rattle.region_book.proofs.SlotOrder.{IsMovedBack, front_moved, once_moved}
use Rattle.region_book.proofs.slots.move_back.Goals as goal

pub returns-clause-front : goal.returns-clause-front
returns-clause-front c =
    front_moved c.args.order.now c.loop-i.order c.args.from c.args.to c.requires.order (omega arith)
    (subst (IsMovedBack c.args.order.now c.loop-i.order c.args.from) (omega arith) c.loop-i.invariant.moved)

pub returns-clause-once : goal.returns-clause-once
returns-clause-once c =
    once_moved c.args.order.now c.loop-i.order c.args.from c.args.to c.requires.order (omega arith)
    (subst (IsMovedBack c.args.order.now c.loop-i.order c.args.from) (omega arith) c.loop-i.invariant.moved)
    c.requires.once
