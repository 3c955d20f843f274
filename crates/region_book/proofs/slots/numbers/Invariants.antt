use Rattle.std.proofs.Common.{◌≡◌, ◌<◌, ℕ, length, slice_index}
use Rattle.region_book.proofs.slots.numbers.Given as goal

abbrev pub invariant-loop-i : goal.invariant-loop-i
invariant-loop-i l = record {
  size : length l.order ≡ 256;
  each : (k : ℕ) → k < l.i → slice_index l.order k ≡ k;
}
