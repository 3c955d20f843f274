-- How a record is put into memory: its four numbers, and then its bytes one by one; and what that leaves.
use Rattle.std.specs.Prelude.{◌≡◌, ◌⊎◌, ◌<◌, ◌≤◌, ℕ, ◌+◌, List, [], ◌∷◌, length, take, drop}
use Rattle.phys_mem.specs.Memory.{byte_at, number_at, stored, stores}
use Rattle.write_log.specs.LogRecords.{LogRecord}

-- the memory with a record's four numbers at a place
unfoldable pub with_head : List ℕ → ℕ → ℕ → ℕ → ℕ → ℕ → List ℕ
with_head m at number region offset count =
    stored (stored (stored (stored m (stores 8 at number)) (stores 8 (at + 8) region)) (stores 4 (at + 16) offset))
    (stores 4 (at + 20) count)

-- the stores of bytes from a place on
unfoldable pub byte_stores : ℕ → List ℕ → List (ℕ × ℕ)
byte_stores p [] = []
byte_stores p (b ∷ bs) = (p, b) ∷ byte_stores (p + 1) bs

-- two memories of one size differ in no byte but those of a record at a place, which stands in the second under this number
pub record IsPut (at i : ℕ) (it : LogRecord) (before after : List ℕ) : Type 0 where
  pub size : length after ≡ length before
  pub number : number_at after 8 at ≡ i
  pub region : number_at after 8 (at + 8) ≡ it.region
  pub offset : number_at after 4 (at + 16) ≡ it.offset
  pub count : number_at after 4 (at + 20) ≡ length it.bytes
  pub bytes : take (length it.bytes) (drop (at + 24) after) ≡ it.bytes
  pub elsewhere : (p : ℕ) → (p < at) ⊎ (at + 24 + length it.bytes ≤ p) → byte_at after p ≡ byte_at before p
