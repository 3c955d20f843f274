-- A log in memory, over changes of other bytes and of its own.
use Rattle.std.specs.Prelude.{◌≡◌, ◌<◌, ◌≤◌, ℕ, List, length}
use Rattle.phys_mem.specs.MaskedMemory.{seen}
use Rattle.phys_mem.specs.Memory.{byte_at}
use Rattle.write_log.specs.LogBytes.{DiffersInLog, HoldsLog, LogCounts, log_in}
use Rattle.write_log.specs.LogRecords.{log_size}

pub record HeldLogLaws : Type 0 where
  pub counts : (counts : LogCounts) (m : List ℕ) → HoldsLog counts m
      → (length (log_in counts m) ≡ counts.records) × (log_size (log_in counts m) ≡ counts.used)
  pub agree : (counts : LogCounts) (m n : List ℕ) → HoldsLog counts m → length n ≡ length m
      → ((p : ℕ) → 0x1A000 ≤ p → p < 0x2A000 → byte_at n p ≡ byte_at m p)
      → (log_in counts n ≡ log_in counts m) × HoldsLog counts n
  pub unseen : (m n : List ℕ) → 0x40000 ≤ length m → DiffersInLog m n → seen n ≡ seen m
