use Rattle.std.proofs.Common.{arith}
use Rattle.nk_bits.specs.UpperEntries.{upper_capacity}
use Rattle.tlb_model.proofs.entries.with_room.Goals as goal

pub invariant_of-result : goal.invariant_of-result
unfolding upper_capacity
invariant_of-result c = rw c.requires.none (omega arith, rw c.requires.room (omega arith), λ i j d below fits e. absurd (omega arith))
