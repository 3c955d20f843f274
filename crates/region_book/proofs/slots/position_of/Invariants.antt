use Rattle.std.proofs.Common.{◌≡◌, ◌<◌, ◌==◌, ℕ, false, slice_index}
use Rattle.region_book.specs.RegionBytes.{row_in}
use Rattle.region_book.proofs.slots.position_of.Given as goal

abbrev pub invariant-loop-i : goal.invariant-loop-i
invariant-loop-i l = record {
  none : (k : ℕ) → k < l.i → ((row_in l.mem (slice_index l.slots k)).id == l.id) ≡ false;
}
