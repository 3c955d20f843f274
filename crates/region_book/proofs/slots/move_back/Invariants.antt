use Rattle.std.proofs.Common.{◌≡◌, ◌<◌, ◌≤◌, All, length}
use Rattle.region_book.proofs.SlotOrder.{IsMovedBack}
use Rattle.region_book.proofs.slots.move_back.Given as goal

abbrev pub invariant-loop-i : goal.invariant-loop-i
invariant-loop-i l = record {
  size : length l.order ≡ 256;
  least : l.from ≤ l.i;
  most : l.i ≤ l.to;
  moved : IsMovedBack l.initial.order l.order l.from l.i;
  below : All (λ s. s < 256) l.order;
}
