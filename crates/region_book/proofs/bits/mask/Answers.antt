use Rattle.std.proofs.Common.{arith}
use Rattle.region_book.proofs.ByteBits.{mask_bits, mask_order}
use Rattle.region_book.proofs.bits.mask.Goals as goal

pub overflow_sub-ones : goal.overflow_sub-ones
overflow_sub-ones c = mask_order c.edge-2.result c.edge.result (omega arith) (omega arith)

pub returns : goal.returns
returns c = λ i inside. mask_bits c.args.byte c.args.first c.args.end _ _ i c.edge-2.ensures c.edge.ensures
    c.requires.order inside
