-- How memory holds the log: in frames 26 to 41, records one after another. Each has its number, which counts from 0, in eight
-- bytes, the region's identifier in eight, the offset in four, the count of bytes in four, and the bytes. All numbers are
-- little-endian. Behind the last record there is 0.
use Rattle.std.specs.Prelude.{◌≡◌, ◌⊎◌, ◌<◌, ◌≤◌, ℕ, zero, suc, ◌+◌, List, [], ◌∷◌, length, take, drop}
use Rattle.phys_mem.specs.Memory.{byte_at, number_at}
use Rattle.write_log.specs.LogRecords.{LogRecord}

-- what the log keeps outside memory: how many records there are, and how many bytes they take
pub record LogCounts : Type 0 where
  pub records : ℕ
  pub used : ℕ

-- where the record that stands at a place ends
abbrev pub end_of : List ℕ → ℕ → ℕ
end_of m p = p + 24 + number_at m 4 (p + 20)

-- the record that stands at a place
unfoldable pub record_at : List ℕ → ℕ → LogRecord
record_at m p = record {
  region = number_at m 8 (p + 8);
  offset = number_at m 4 (p + 16);
  bytes = take (number_at m 4 (p + 20)) (drop (p + 24) m);
}

-- so many records from a place on, and where the last of them ends
unfoldable pub records_from : List ℕ → ℕ → ℕ → List LogRecord
records_from m p zero = []
records_from m p (suc n) = record_at m p ∷ records_from m (end_of m p) n

unfoldable pub end_from : List ℕ → ℕ → ℕ → ℕ
end_from m p zero = p
end_from m p (suc n) = end_from m (end_of m p) n

-- where a record stands, by its number
abbrev pub record_place : List ℕ → ℕ → ℕ
record_place m i = end_from m 0x1A000 i

-- the records that stand in memory
abbrev pub log_in : LogCounts → List ℕ → List LogRecord
log_in counts m = records_from m 0x1A000 counts.records

-- memory holds a log of these counts
pub record HoldsLog (counts : LogCounts) (m : List ℕ) : Type 0 where
  pub size : 0x2A000 ≤ length m
  pub used : counts.used ≤ 65536
  pub end : record_place m counts.records ≡ 0x1A000 + counts.used
  pub numbers : (i : ℕ) → i < counts.records → number_at m 8 (record_place m i) ≡ i
  pub behind : (p : ℕ) → 0x1A000 + counts.used ≤ p → p < 0x2A000 → byte_at m p ≡ 0

-- two memories of one size differ in no byte but those of the log
pub record DiffersInLog (before after : List ℕ) : Type 0 where
  pub size : length after ≡ length before
  pub elsewhere : (p : ℕ) → (p < 0x1A000) ⊎ (0x2A000 ≤ p) → byte_at after p ≡ byte_at before p
