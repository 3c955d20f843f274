-- The product of two numbers of w bits, which has twice as many.
use Rattle.std.specs.Prelude.{ℕ, ◌-◌, ◌*◌, ◌/◌, ◌^◌, Bool, true, false, nat_lt, nat_le}
use Rattle.x86_alu.specs.SignedNumbers.{cut, sign, size, differ, spelled}
use Rattle.x86_alu.specs.Flags.{carry_flag, overflow_flag, with_flag}

-- the signed product is negative, or zero times a negative number
abbrev pub signs_differ : ℕ → ℕ → ℕ → Bool
signs_differ w a b = differ (sign w a) (sign w b)

-- the product in 2 w bits, of unsigned or of signed numbers
abbrev pub product : Bool → ℕ → ℕ → ℕ → ℕ
product false w a b = a * b
product true w a b = spelled (2 * w) (signs_differ w a b) (size w a * size w b)

-- a signed number with this sign and this size is not one of w bits
abbrev pub exceeds_width : ℕ → Bool → ℕ → Bool
exceeds_width w true n = nat_lt (2 ^ (w - 1)) n
exceeds_width w false n = nat_le (2 ^ (w - 1)) n

-- the product does not fit w bits, unsigned or signed
abbrev pub product_overflows : Bool → ℕ → ℕ → ℕ → Bool
product_overflows false w a b = nat_le (2 ^ w) (a * b)
product_overflows true w a b = exceeds_width w (signs_differ w a b) (size w a * size w b)

-- the high or the low w bits of a product
abbrev pub half_of : Bool → ℕ → ℕ → ℕ
half_of true w n = n / 2 ^ w
half_of false w n = cut w n

-- CF and OF both say that the product doesn't fit
abbrev pub product_flags : Bool → ℕ → ℕ → ℕ → ℕ → ℕ
product_flags signed w a b flags =
    with_flag carry_flag (product_overflows signed w a b)
    (with_flag overflow_flag (product_overflows signed w a b) flags)
