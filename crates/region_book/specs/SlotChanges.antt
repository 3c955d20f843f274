-- What a change of one slot leaves, the rows that a slot can hold, and numbers that memory holds one behind another.
use Rattle.std.specs.Prelude.{◌≡◌, ◌⊎◌, ◌<◌, ◌≤◌, ℕ, ◌+◌, ◌*◌, true, if◌then◌else◌, List, [], ◌∷◌, length, slice_index, ⊤}
use Rattle.phys_mem.specs.Memory.{byte_at, number_at}
use Rattle.region_book.specs.declared.row.Row.{Row}
use Rattle.region_book.specs.RegionBytes.{slot_place}

-- two memories of one size differ in no byte but those of a slot
pub record DiffersInSlot (s : ℕ) (before after : List ℕ) : Type 0 where
  pub size : length after ≡ length before
  pub elsewhere : (p : ℕ) → (p < slot_place s) ⊎ (slot_place s + 64 ≤ p) → byte_at after p ≡ byte_at before p

-- two memories of one size differ in no byte but those from one place on and before another
pub record DiffersWithin (from to : ℕ) (before after : List ℕ) : Type 0 where
  pub size : length after ≡ length before
  pub elsewhere : (p : ℕ) → (p < from) ⊎ (to ≤ p) → byte_at after p ≡ byte_at before p

-- the row has the form of a slot's
pub record IsStorableRow (row : Row) : Type 0 where
  pub slot : row.slot < 65536
  pub frames : (i : ℕ) → i < 16 → (row.pooled ≡ true) ⊎ (row.size ≤ 4096 * i) → slice_index row.frames i ≡ 0

-- memory holds these numbers, each a place, a count of bytes and a value
abbrev pub Holds : List ℕ → List (ℕ × ℕ × ℕ) → Type 0
Holds m [] = ⊤
Holds m (f ∷ fs) = (number_at m f.1 f.0 ≡ f.2) × Holds m fs

-- the numbers of a row's first 32 bytes, which begin at a place
abbrev pub head_of : ℕ → Row → List (ℕ × ℕ × ℕ)
head_of p row =
    (p, 8, row.id) ∷ (p + 8, 8, row.first) ∷ (p + 16, 4, row.size) ∷ (p + 20, 4, row.tail) ∷ (p + 24, 1, row.policy)
    ∷ (p + 25, 1, if row.pooled then 1 else 0) ∷ (p + 26, 2, row.slot) ∷ (p + 28, 4, 0) ∷ []
