use Rattle.std.proofs.Common.{◌≡◌, ◌<◌, ◌+◌, ◌*◌, ℕ, slice_index}
use Rattle.phys_mem.specs.Memory.{number_at}
use Rattle.region_book.specs.SlotChanges.{DiffersWithin}
use Rattle.region_book.proofs.slots.put_frames.Given as goal

abbrev pub invariant-loop-i : goal.invariant-loop-i
invariant-loop-i l = record {
  each : (k : ℕ) → k < l.i → number_at l.mem 2 (l.place + 32 + 2 * k) ≡ slice_index l.frames k;
  differs : DiffersWithin (l.place + 32) (l.place + 64) l.initial.mem l.mem;
}
