-- The least place with a protected encoding, and that there is none.
use Rattle.std.specs.Prelude.{◌≡◌, ℕ, ◌<◌, Option, true, false}
use Rattle.decode_fields.specs.Protected.{is_protected_at}

-- no protected encoding stands at a place below the limit
abbrev pub NoneBelow : (ℕ → Option ℕ) → ℕ → Type 0
NoneBelow byte_at limit = (place : ℕ) → place < limit → is_protected_at byte_at place ≡ false

-- no protected encoding stands anywhere
abbrev pub IsNowhere : (ℕ → Option ℕ) → Type 0
IsNowhere byte_at = (place : ℕ) → is_protected_at byte_at place ≡ false

-- a protected encoding stands at this place and at no lower one
pub record IsLeastPlace (byte_at : ℕ → Option ℕ) (place : ℕ) : Type 0 where
  pub stands : is_protected_at byte_at place ≡ true
  pub lowest : NoneBelow byte_at place
