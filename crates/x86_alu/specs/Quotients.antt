-- A number of 2 w bits, divided by one of w bits.
use Rattle.std.specs.Prelude.{ℕ, ◌+◌, ◌*◌, ◌/◌, ◌%◌, ◌^◌, Bool, true, false, ◌||◌, ◌==◌, nat_le}
use Rattle.x86_alu.specs.SignedNumbers.{sign, size, differ, spelled}
use Rattle.x86_alu.specs.Products.{exceeds_width}

-- the dividend, from its two halves
abbrev pub joined : ℕ → ℕ → ℕ → ℕ
joined w high low = high * 2 ^ w + low

-- the dividend and the divisor have different signs
abbrev pub is_negative : ℕ → ℕ → ℕ → Bool
is_negative w n by = differ (sign (2 * w) n) (sign w by)

-- the quotient of the sizes, rounded down, and what is left
abbrev pub quotient_size : ℕ → ℕ → ℕ → ℕ
quotient_size w n by = size (2 * w) n / size w by

abbrev pub rest_size : ℕ → ℕ → ℕ → ℕ
rest_size w n by = size (2 * w) n % size w by

-- the divisor is zero, or the quotient doesn't fit w bits
abbrev pub is_refused : Bool → ℕ → ℕ → ℕ → Bool
is_refused false w n by = (by == 0) || nat_le (2 ^ w) (n / by)
is_refused true w n by = (by == 0) || exceeds_width w (is_negative w n by) (quotient_size w n by)

-- the quotient, rounded toward zero
abbrev pub quotient : Bool → ℕ → ℕ → ℕ → ℕ
quotient false w n by = n / by
quotient true w n by = spelled w (is_negative w n by) (quotient_size w n by)

-- the remainder, which has the dividend's sign
abbrev pub rest : Bool → ℕ → ℕ → ℕ → ℕ
rest false w n by = n % by
rest true w n by = spelled w (sign (2 * w) n) (rest_size w n by)
