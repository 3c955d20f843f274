-- The frames from 42 to the next one are 0, and no byte before them or behind them changed.
use Rattle.std.proofs.Common.{◌≡◌, ◌⊎◌, ℕ, ◌*◌, ◌<◌, ◌≤◌, length}
use Rattle.phys_mem.specs.Memory.{byte_at}
use Rattle.region_book.proofs.stores.clear_books.Given as goal

abbrev pub invariant-loop-frame : goal.invariant-loop-frame
invariant-loop-frame l = record {
  size : length l.mem ≡ length l.fn.mem;
  zero : (p : ℕ) → 0x2A000 ≤ p → p < 4096 * l.frame → byte_at l.mem p ≡ 0;
  elsewhere : (p : ℕ) → (p < 0x2A000) ⊎ (0x40000 ≤ p) → byte_at l.mem p ≡ byte_at l.fn.mem p;
}
