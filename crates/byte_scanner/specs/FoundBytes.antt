-- The encoding that three bytes make, where they stand one after the other.
use Rattle.std.specs.Prelude.{◌≡◌, ℕ, ◌==◌, if◌then◌else◌, [], ◌∷◌, Option, unwrap_or, true, nat_lt}
use Rattle.byte_scanner.specs.declared.encoding.Found.{Found}
use Rattle.decode_fields.specs.Protected.{length_of_bytes}

-- the bytes as an encoding that stands at an address
abbrev pub found_from : ℕ → Option ℕ → Option ℕ → Option ℕ → Found
found_from at first second third = record {
  at = at;
  bytes =
      unwrap_or first 0
      ∷ unwrap_or second 0
      ∷ (if length_of_bytes first second third == 3 then unwrap_or third 0 else 0)
      ∷ [];
  count = length_of_bytes first second third;
}

-- a protected encoding begins with these bytes, and is this one
pub record IsFoundOf (at : ℕ) (first second third : Option ℕ) (found : Found) : Type 0 where
  pub stands : nat_lt 0 (length_of_bytes first second third) ≡ true
  pub is : found ≡ found_from at first second third
