-- Sums and differences of two numbers of w bits, with a carry or a borrow in.
use Rattle.std.specs.Prelude.{ℕ, ◌+◌, ◌-◌, ◌^◌, Bool, ◌||◌, nat_lt, nat_le}
use Rattle.x86_alu.specs.SignedNumbers.{cut, one_if, above_least}
use Rattle.x86_alu.specs.Flags.{auxiliary_carry_flag, carry_flag, overflow_flag, result_flags, with_flag}

-- a + b + carry, cut to the width
abbrev pub sum_of : ℕ → ℕ → ℕ → Bool → ℕ
sum_of w a b carry = cut w (a + b + one_if carry)

-- a + b + carry has a carry out of w bits
abbrev pub has_carry : ℕ → ℕ → ℕ → Bool → Bool
has_carry w a b carry = nat_le (2 ^ w) (a + b + one_if carry)

-- how far the signed sum is above the sum of the two least numbers, - 2 ^ w
abbrev pub signed_sum : ℕ → ℕ → ℕ → Bool → ℕ
signed_sum w a b carry = above_least w a + above_least w b + one_if carry

-- the signed sum is below - 2 ^ (w - 1), or not below 2 ^ (w - 1)
abbrev pub sum_overflows : ℕ → ℕ → ℕ → Bool → Bool
sum_overflows w a b carry =
    nat_lt (signed_sum w a b carry) (2 ^ (w - 1))
    || nat_le (2 ^ w + 2 ^ (w - 1)) (signed_sum w a b carry)

-- CF, AF (the carry out of bit 3), OF and the flags of the result
abbrev pub sum_flags : ℕ → ℕ → ℕ → Bool → ℕ → ℕ
sum_flags w a b carry flags =
    with_flag carry_flag (has_carry w a b carry)
    (with_flag auxiliary_carry_flag (has_carry 4 (cut 4 a) (cut 4 b) carry)
    (with_flag overflow_flag (sum_overflows w a b carry)
    (result_flags w (sum_of w a b carry) flags)))

-- a - b - borrow, cut to the width
abbrev pub difference_of : ℕ → ℕ → ℕ → Bool → ℕ
difference_of w a b borrow = cut w (2 ^ w + a - (b + one_if borrow))

-- a - b - borrow has a borrow out of w bits
abbrev pub has_borrow : ℕ → ℕ → Bool → Bool
has_borrow a b borrow = nat_lt a (b + one_if borrow)

-- the signed difference is below - 2 ^ (w - 1), or not below 2 ^ (w - 1)
abbrev pub difference_overflows : ℕ → ℕ → ℕ → Bool → Bool
difference_overflows w a b borrow =
    nat_lt (above_least w a + 2 ^ (w - 1)) (above_least w b + one_if borrow)
    || nat_le (above_least w b + one_if borrow + 2 ^ (w - 1)) (above_least w a)

-- CF, AF (the borrow out of bit 3), OF and the flags of the result
abbrev pub difference_flags : ℕ → ℕ → ℕ → Bool → ℕ → ℕ
difference_flags w a b borrow flags =
    with_flag carry_flag (has_borrow a b borrow)
    (with_flag auxiliary_carry_flag (has_borrow (cut 4 a) (cut 4 b) borrow)
    (with_flag overflow_flag (difference_overflows w a b borrow)
    (result_flags w (difference_of w a b borrow) flags)))
