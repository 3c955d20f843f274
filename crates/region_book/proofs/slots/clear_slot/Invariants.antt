use Rattle.std.proofs.Common.{◌≡◌, ◌<◌, ◌+◌, ◌*◌, ℕ}
use Rattle.phys_mem.specs.Memory.{byte_at}
use Rattle.region_book.specs.SlotChanges.{DiffersWithin}
use Rattle.region_book.proofs.slots.clear_slot.Given as goal

abbrev pub invariant-loop-i : goal.invariant-loop-i
invariant-loop-i l = record {
  zero : (p : ℕ) → p < 8 * l.i → byte_at l.mem (l.place + p) ≡ 0;
  differs : DiffersWithin l.place (l.place + 64) l.initial.mem l.mem;
}
