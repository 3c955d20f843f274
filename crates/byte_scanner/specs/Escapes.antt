-- The next place of a slice at which an encoding may begin.
use Rattle.std.specs.Prelude.{◌≡◌, ℕ, ◌<◌, ◌≤◌, List, length, slice_get, false}
use Rattle.decode_fields.specs.Protected.{is_protected_at}

-- no protected encoding stands from a place on
abbrev pub NoneFrom : List ℕ → ℕ → Type 0
NoneFrom bytes from = (k : ℕ) → from ≤ k → is_protected_at (slice_get bytes) k ≡ false

-- none stands from a place on and below this one, which is inside
pub record IsNextFrom (bytes : List ℕ) (from place : ℕ) : Type 0 where
  pub low : from ≤ place
  pub inside : place < length bytes
  pub clean : (k : ℕ) → from ≤ k → k < place → is_protected_at (slice_get bytes) k ≡ false
