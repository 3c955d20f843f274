use Rattle.std.proofs.Common.{arith, sym}
use Rattle.region_book.proofs.SlotForms.{frames_are}
use Rattle.region_book.proofs.slots.frames_at.Goals as goal

pub returns : goal.returns
returns c =
    sym (frames_are c.args.mem.now c.args.place c.loop-i.frames c.loop-i.invariant.size
    (λ i inside. sym (c.loop-i.invariant.each i (omega (arith, inside)))))
