use Rattle.std.proofs.Common.{◌≡◌, ◌<◌, ◌+◌, ◌*◌, ℕ, length, slice_index}
use Rattle.phys_mem.specs.Memory.{number_at}
use Rattle.region_book.proofs.slots.frames_at.Given as goal

abbrev pub invariant-loop-i : goal.invariant-loop-i
invariant-loop-i l = record {
  size : length l.frames ≡ 16;
  each : (k : ℕ) → k < l.i → slice_index l.frames k ≡ number_at l.mem 2 (l.place + 32 + 2 * k);
}
