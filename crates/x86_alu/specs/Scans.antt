-- The least and the greatest set bit.
use Rattle.std.specs.Prelude.{◌≡◌, ℕ, ◌-◌, ◌<◌, Bool, true, false, ◌==◌, if◌then◌else◌}
use Rattle.std.specs.Int.{trailing_zeros, leading_zeros, w64}
use Rattle.x86_alu.specs.SignedNumbers.{bit}

-- the number of the least set bit, which has only zeros below it, or of the greatest, which has only zeros
-- above it in 64 bits; 0 where no bit is set
abbrev pub scanned : Bool → ℕ → ℕ
scanned up a = (if a == 0 then 0 else if up then trailing_zeros w64 a else 63 - leading_zeros w64 a)

-- a scan upwards passes the places below the one that it finds, a scan downwards those above it
abbrev pub Passes : Bool → ℕ → ℕ → Type 0
Passes true k j = j < k
Passes false k j = k < j

-- bit k of a is set, and no bit that the scan passes is
pub record IsFirstSet (up : Bool) (a k : ℕ) : Type 0 where
  pub set : bit a k ≡ true
  pub passed : (j : ℕ) → Passes up k j → bit a j ≡ false
