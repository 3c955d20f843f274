use Rattle.std.proofs.Common.{◌≡◌, ◌<◌, ◌≤◌, ℕ, slice_index, length}
use Rattle.tlb_model.proofs.order.ascending.Given as goal

abbrev pub invariant-loop-at : goal.invariant-loop-at
invariant-loop-at l = record {
  length : length l.slots ≡ 1024;
  most : l.at ≤ 1024;
  numbers : (k : ℕ) → k < l.at → slice_index l.slots k ≡ k;
}
