-- A shelf of files at two moments, by what its type tells of a value.
use Rattle.std.specs.Prelude.{ℕ, List, Option}

-- files, by the bytes of their names
abbrev pub Files : Type 0
Files = List ℕ → Option (List ℕ)

-- counts of faults, by the bytes of names
abbrev pub NameCounts : Type 0
NameCounts = List ℕ → ℕ

-- a shelf at one moment: its files, where it tells them, its counts of faults, and its count of wants of memory
pub record ShelfState : Type 0 where
  pub files : Option Files
  pub faults : NameCounts
  pub wants : ℕ

-- the same thing at two moments
pub record Change (A : Type 0) : Type 0 where
  pub before : A
  pub after : A

-- a shelf that had one value and then another
abbrev pub shelf_change : {S : Type 0} → (S → Option Files) → (S → NameCounts) → (S → ℕ) → S → S → Change ShelfState
shelf_change files faults wants old new = record {
  before = record { files = files old; faults = faults old; wants = wants old };
  after = record { files = files new; faults = faults new; wants = wants new };
}
