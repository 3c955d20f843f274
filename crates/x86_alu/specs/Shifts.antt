-- Shifts and rotations of a number of w bits.
use Rattle.std.specs.Prelude.{ℕ, ◌+◌, ◌-◌, ◌*◌, ◌/◌, ◌%◌, ◌^◌, Bool, true, false, ◌==◌, nat_lt, if◌then◌else◌}
use Rattle.x86_alu.specs.declared.choices.Shift.{Shift}
use Rattle.x86_alu.specs.declared.choices.Shift.TheVariants.{Left, Right, Signed}
use Rattle.x86_alu.specs.SignedNumbers.{cut, bit, sign, differ, one_if}
use Rattle.x86_alu.specs.Flags.{carry_flag, overflow_flag, result_flags, with_flag}

-- the count that a shift or a rotation obeys: its low 5 bits, or 6 at width 64
abbrev pub masked_count : ℕ → ℕ → ℕ
masked_count w count = (if w == 64 then count % 64 else count % 32)

-- n with 64 copies of its sign above it
abbrev pub sign_filled : ℕ → ℕ → ℕ
sign_filled w n = one_if (sign w n) * (2 ^ 64 - 1) * 2 ^ w + n

-- times 2 ^ n, divided by 2 ^ n, or divided by it as a signed number, rounded down
abbrev pub shifted : Shift → ℕ → ℕ → ℕ → ℕ
shifted Left w a n = cut w (a * 2 ^ n)
shifted Right w a n = a / 2 ^ n
shifted Signed w a n = cut w (sign_filled w a / 2 ^ n)

-- CF of a shift by 1 or more: the last bit out; past the width the sign for SAR, else what it was
abbrev pub shift_carry : Shift → ℕ → ℕ → ℕ → Bool → Bool
shift_carry Left w a n was = (if nat_lt n w then bit a (w - n) else was)
shift_carry Right w a n was = (if nat_lt n w then bit a (n - 1) else was)
shift_carry Signed w a n was = (if nat_lt n w then bit a (n - 1) else sign w a)

-- OF of a shift by 1: for SHL, the result's highest bit differs from CF; for SHR, the operand's highest bit;
-- for SAR, 0
abbrev pub shift_overflow : Shift → ℕ → ℕ → ℕ → Bool → Bool
shift_overflow Left w a value carry = differ (sign w value) carry
shift_overflow Right w a value carry = sign w a
shift_overflow Signed w a value carry = false

-- the flags of a shift by the masked count n: none for 0, and OF for 1 alone
abbrev pub shift_flags : Shift → ℕ → ℕ → ℕ → ℕ → ℕ
shift_flags op w a n flags =
    let value = shifted op w a n in
    let carry = shift_carry op w a n (bit flags carry_flag) in
    let overflow = (if n == 1 then shift_overflow op w a value carry else bit flags overflow_flag) in
    (if n == 0 then flags
    else with_flag carry_flag carry (with_flag overflow_flag overflow (result_flags w value flags)))

-- the low n of w bits stand above the others
abbrev pub low_above : ℕ → ℕ → ℕ → ℕ
low_above w a n = a % 2 ^ n * 2 ^ (w - n) + a / 2 ^ n

-- the bits turned around by n places, to the left or to the right
abbrev pub rotated : Bool → ℕ → ℕ → ℕ → ℕ
rotated true w a n = low_above w a (w - n % w)
rotated false w a n = low_above w a (n % w)

-- CF of a rotation: the result's lowest bit to the left, its highest to the right
abbrev pub rotate_carry : Bool → ℕ → ℕ → Bool
rotate_carry true w value = bit value 0
rotate_carry false w value = sign w value

-- OF of a rotation by 1: the result's highest bit differs from CF to the left, from the next bit to the right
abbrev pub rotate_overflow : Bool → ℕ → ℕ → Bool
rotate_overflow true w value = differ (sign w value) (bit value 0)
rotate_overflow false w value = differ (sign w value) (bit value (w - 2))

-- the flags of a rotation by the masked count n: none for 0, and OF for 1 alone
abbrev pub rotate_flags : Bool → ℕ → ℕ → ℕ → ℕ → ℕ
rotate_flags left w value n flags = (if n == 0 then flags else
    with_flag carry_flag (rotate_carry left w value)
    (with_flag overflow_flag
    (if n == 1 then rotate_overflow left w value else bit flags overflow_flag) flags))
