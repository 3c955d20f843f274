-- Shifts, rotations, products, quotients and scans at worked values: SDM volume 2, SAL/SAR/SHL/SHR, RCL/RCR/ROL/ROR, MUL, IMUL,
-- DIV, IDIV, BSF and BSR. Flags: CF is 1, PF 4, AF 10, ZF 40, SF 80, OF 800 (hexadecimal), and 2 always stands.
use Rattle.std.proofs.Common.{◌≡◌, ℕ, ◌+◌, ◌-◌, ◌^◌, ◌<◌, true, false, refl, arith}
use Rattle.x86_alu.specs.declared.choices.Shift.TheVariants.{Left, Right, Signed}
use Rattle.x86_alu.specs.Flags.{with_flag}
use Rattle.x86_alu.specs.Products.{exceeds_width, half_of, product, product_flags, product_overflows, signs_differ}
use Rattle.x86_alu.specs.Quotients.{is_negative, is_refused, joined, quotient, quotient_size, rest, rest_size}
use Rattle.x86_alu.specs.Scans.{IsFirstSet, Passes, scanned}
use Rattle.x86_alu.specs.Shifts.{low_above, masked_count, rotate_carry, rotate_flags, rotate_overflow, rotated, shift_carry, shift_flags, shift_overflow, shifted, sign_filled}

-- the count has five bits, and six with an operand of 64: 32 is 0 but there, and 64 is 0 there too
counts :
    (masked_count 8 8 ≡ 8) × (masked_count 8 31 ≡ 31) × (masked_count 8 32 ≡ 0) × (masked_count 16 33 ≡ 1) × (masked_count 32 31 ≡ 31) ×
    (masked_count 32 32 ≡ 0) × (masked_count 32 0xFF ≡ 31) × (masked_count 64 32 ≡ 32) × (masked_count 64 63 ≡ 63) × (masked_count 64 64 ≡ 0) ×
    (masked_count 64 0xFF ≡ 63) × (masked_count 64 0 ≡ 0)
counts = (refl, refl, refl, refl, refl, refl, refl, refl, refl, refl, refl, refl)

-- SHL and SHR fill with zeros, SAR with the sign, rounding down: -1 stays -1; from the width on nothing but that is left
shifts :
    (shifted Left 8 0x81 1 ≡ 2) × (shifted Left 8 0x81 0 ≡ 0x81) × (shifted Left 8 1 8 ≡ 0) × (shifted Left 8 0xFF 31 ≡ 0) ×
    (shifted Left 64 3 63 ≡ 2 ^ 63) × (shifted Right 8 0x81 1 ≡ 0x40) × (shifted Right 8 0xFF 8 ≡ 0) × (shifted Right 64 (2 ^ 63) 63 ≡ 1) ×
    (shifted Signed 8 0x81 1 ≡ 0xC0) × (shifted Signed 8 0x7F 1 ≡ 0x3F) × (shifted Signed 8 0xFF 1 ≡ 0xFF) × (shifted Signed 8 0x80 7 ≡ 0xFF) ×
    (shifted Signed 8 0x80 31 ≡ 0xFF) × (shifted Signed 8 0x40 31 ≡ 0) × (shifted Signed 16 0x8000 15 ≡ 0xFFFF) ×
    (shifted Signed 32 0x80000000 4 ≡ 0xF8000000) × (shifted Signed 64 (2 ^ 63) 63 ≡ 2 ^ 64 - 1) ×
    (sign_filled 8 0x80 ≡ 0xFFFFFFFFFFFFFFFF80) × (sign_filled 8 0x7F ≡ 0x7F)
shifts = (refl, refl, refl, refl, refl, refl, refl, refl, refl, refl, refl, refl, refl, refl, refl, refl, refl, refl, refl)

-- CF is the last bit out: bit 7 of 81 by SHL 1, bit 6 of 40 by SHL 2, bit 0 by SHR 1, bit 6 by SHR 7. From the width on,
-- where it is undefined but for SAR, it stays (own)
shift_carries :
    (shift_carry Left 8 0x81 1 false ≡ true) × (shift_carry Left 8 0x40 2 false ≡ true) × (shift_carry Left 8 0x80 2 true ≡ false) ×
    (shift_carry Left 8 1 7 true ≡ false) × (shift_carry Left 8 2 7 false ≡ true) × (shift_carry Left 8 0xFF 8 false ≡ false) ×
    (shift_carry Left 8 0 8 true ≡ true) ×
    (shift_carry Right 8 1 1 false ≡ true) × (shift_carry Right 8 2 1 true ≡ false) × (shift_carry Right 8 0x40 7 false ≡ true) ×
    (shift_carry Right 8 0x80 7 true ≡ false) × (shift_carry Right 16 0xFFFF 16 false ≡ false) × (shift_carry Right 64 (2 ^ 62) 63 false ≡ true) ×
    (shift_carry Signed 8 1 1 false ≡ true) × (shift_carry Signed 8 0x80 7 true ≡ false) × (shift_carry Signed 8 0x80 8 false ≡ true) ×
    (shift_carry Signed 8 0x7F 31 true ≡ false)
shift_carries = (refl, refl, refl, refl, refl, refl, refl, refl, refl, refl, refl, refl, refl, refl, refl, refl, refl)

-- OF of a shift by 1: SHL changes the sign of 40 and 80 and not of C0; SHR has the operand's sign; SAR none
shift_overflow_rows :
    (shift_overflow Left 8 0x40 0x80 false ≡ true) × (shift_overflow Left 8 0x80 0 true ≡ true) × (shift_overflow Left 8 0xC0 0x80 true ≡ false) ×
    (shift_overflow Left 8 1 2 false ≡ false) × (shift_overflow Right 8 0x80 0x40 false ≡ true) × (shift_overflow Right 8 0x7F 0x3F true ≡ false) ×
    (shift_overflow Signed 8 0x81 0xC0 true ≡ false)
shift_overflow_rows = (refl, refl, refl, refl, refl, refl, refl)

-- a count of 0 keeps all flags; by more than 1 OF, which is undefined, stays, and so does AF at each count (own)
shift_flag_words :
    (shift_flags Left 8 0x80 1 2 ≡ 0x847) × (shift_flags Left 8 0xC0 1 0x802 ≡ 0x83) × (shift_flags Left 8 0x40 1 2 ≡ 0x882) ×
    (shift_flags Left 64 0 0 0x897 ≡ 0x897) × (shift_flags Left 8 0xFF 9 0x813 ≡ 0x857) × (shift_flags Right 8 0x81 1 2 ≡ 0x803) ×
    (shift_flags Right 8 0xF8 4 0x802 ≡ 0x807) × (shift_flags Right 8 0 0 0x8D7 ≡ 0x8D7) × (shift_flags Signed 8 0x81 1 0x802 ≡ 0x87) ×
    (shift_flags Signed 8 0x80 9 2 ≡ 0x87) × (shift_flags Signed 64 1 1 2 ≡ 0x47)
unfolding with_flag lib.Count.ones
shift_flag_words = (refl, refl, refl, refl, refl, refl, refl, refl, refl, refl, refl)

-- ROL and ROR: the bits that leave come in at the other end; a count of the width changes nothing, and one more is 1
turns :
    (low_above 8 0xAB 4 ≡ 0xBA) × (low_above 8 0x81 1 ≡ 0xC0) × (low_above 8 0xAB 0 ≡ 0xAB) × (low_above 8 0xAB 8 ≡ 0xAB) ×
    (rotated true 8 0x81 1 ≡ 3) × (rotated true 8 0xAB 0 ≡ 0xAB) × (rotated true 8 0xAB 8 ≡ 0xAB) × (rotated true 8 0xAB 9 ≡ 0x57) ×
    (rotated true 16 0x1234 4 ≡ 0x2341) × (rotated true 16 0x1234 20 ≡ 0x2341) × (rotated true 64 (2 ^ 63) 1 ≡ 1) × (rotated true 64 1 63 ≡ 2 ^ 63) ×
    (rotated false 8 0x81 1 ≡ 0xC0) × (rotated false 8 0xAB 0 ≡ 0xAB) × (rotated false 8 0xAB 8 ≡ 0xAB) × (rotated false 8 0xAB 9 ≡ 0xD5) ×
    (rotated false 32 0x12345678 8 ≡ 0x78123456) × (rotated false 64 1 63 ≡ 2)
turns = (refl, refl, refl, refl, refl, refl, refl, refl, refl, refl, refl, refl, refl, refl, refl, refl, refl, refl)

-- CF is the bit that came around; OF by 1 tells that ROL's highest bit differs from it, and ROR's two highest from each other
turn_flags :
    (rotate_carry true 8 3 ≡ true) × (rotate_carry true 8 0x80 ≡ false) × (rotate_carry false 8 0x80 ≡ true) × (rotate_carry false 8 0x7F ≡ false) ×
    (rotate_overflow true 8 1 ≡ true) × (rotate_overflow true 8 0x81 ≡ false) × (rotate_overflow true 8 0x80 ≡ true) ×
    (rotate_overflow false 8 0x80 ≡ true) × (rotate_overflow false 8 0xC0 ≡ false) × (rotate_overflow false 8 0x40 ≡ true) ×
    (rotate_overflow false 8 0x3F ≡ false)
turn_flags = (refl, refl, refl, refl, refl, refl, refl, refl, refl, refl, refl)

-- ZF, SF, PF and AF stay; a count of 0 keeps all, and one of 8 at width 8 sets CF
turn_flag_words :
    (rotate_flags true 8 1 1 2 ≡ 0x803) × (rotate_flags true 8 0x81 1 0x8D7 ≡ 0xD7) × (rotate_flags true 8 0x80 1 0x8D7 ≡ 0x8D6) ×
    (rotate_flags true 8 0x81 8 0xD2 ≡ 0xD3) × (rotate_flags true 32 0x80000001 0 0x8D6 ≡ 0x8D6) ×
    (rotate_flags false 16 0x8000 1 2 ≡ 0x803) × (rotate_flags false 64 0xF000000000000001 4 0x802 ≡ 0x803) ×
    (rotate_flags false 8 1 0 3 ≡ 3)
unfolding with_flag
turn_flag_words = (refl, refl, refl, refl, refl, refl, refl, refl)

-- MUL and IMUL: 255 * 255, -1 * -1, -128 * -128, -1 * 1, -1 * 0, -128 * 127, -2 * 3, and the greatest of 64 bits
products :
    (product false 8 0xFF 0xFF ≡ 0xFE01) × (product true 8 0xFF 0xFF ≡ 1) × (product true 8 0x80 0x80 ≡ 0x4000) × (product true 8 0xFF 1 ≡ 0xFFFF) ×
    (product true 8 0xFF 0 ≡ 0) × (product true 8 0x80 0x7F ≡ 0xC080) × (product true 16 0xFFFE 3 ≡ 0xFFFFFFFA) ×
    (product false 64 (2 ^ 64 - 1) (2 ^ 64 - 1) ≡ 0xFFFFFFFFFFFFFFFE0000000000000001) × (product true 64 (2 ^ 63) (2 ^ 64 - 1) ≡ 2 ^ 63) ×
    (signs_differ 8 0x80 1 ≡ true) × (signs_differ 8 0xFF 0x80 ≡ false) × (signs_differ 8 0 0xFF ≡ true) × (signs_differ 8 0 0x7F ≡ false) ×
    (half_of true 8 0xFE01 ≡ 0xFE) × (half_of false 8 0xFE01 ≡ 1) × (half_of true 64 (2 ^ 64) ≡ 1) × (half_of false 64 (2 ^ 64) ≡ 0)
products = (refl, refl, refl, refl, refl, refl, refl, refl, refl, refl, refl, refl, refl, refl, refl, refl, refl)

-- of 8 bits unsigned 255 is the last that fits; signed -128 and 127
product_overflow :
    (exceeds_width 8 true 128 ≡ false) × (exceeds_width 8 true 129 ≡ true) × (exceeds_width 8 false 127 ≡ false) × (exceeds_width 8 false 128 ≡ true) ×
    (exceeds_width 8 true 0 ≡ false) ×
    (product_overflows false 8 15 17 ≡ false) × (product_overflows false 8 16 16 ≡ true) × (product_overflows false 8 0xFF 1 ≡ false) ×
    (product_overflows true 8 0x80 0xFF ≡ true) × (product_overflows true 8 0x40 2 ≡ true) × (product_overflows true 8 0x40 0xFE ≡ false) ×
    (product_overflows true 8 0x80 2 ≡ true) × (product_overflows true 8 0x80 1 ≡ false) × (product_overflows true 8 0x80 0 ≡ false) ×
    (product_overflows true 64 (2 ^ 63) (2 ^ 64 - 1) ≡ true)
product_overflow = (refl, refl, refl, refl, refl, refl, refl, refl, refl, refl, refl, refl, refl, refl, refl)

-- CF and OF together; the others, which are undefined, stay (own)
product_flag_words :
    (product_flags false 8 0xFF 0xFF 2 ≡ 0x803) × (product_flags false 8 0xFF 1 0x803 ≡ 2) × (product_flags true 8 0xFF 0xFF 0x8D7 ≡ 0xD6) ×
    (product_flags true 8 0x40 2 0xD6 ≡ 0x8D7)
unfolding with_flag
product_flag_words = (refl, refl, refl, refl)

-- DIV: the dividend has twice the width; 0, and a quotient of 256 in 8 bits, is the divide error
divisions :
    (joined 8 1 0 ≡ 0x100) × (joined 16 0xDEAD 0xBEEF ≡ 0xDEADBEEF) × (joined 64 1 5 ≡ 2 ^ 64 + 5) ×
    (is_refused false 8 0 0 ≡ true) × (is_refused false 8 0xFF 1 ≡ false) × (is_refused false 8 0x100 1 ≡ true) ×
    (is_refused false 8 0xFE01 0xFF ≡ false) × (is_refused false 8 0xFF00 0xFF ≡ true) × (is_refused false 64 (2 ^ 64) 1 ≡ true) ×
    (is_refused false 64 (2 ^ 64 + 5) 16 ≡ false) ×
    (quotient false 8 7 2 ≡ 3) × (rest false 8 7 2 ≡ 1) × (quotient false 8 0xFE01 0xFF ≡ 0xFF) × (rest false 8 0xFE01 0xFF ≡ 0) ×
    (quotient false 64 (2 ^ 64 + 5) 16 ≡ 2 ^ 60) × (rest false 64 (2 ^ 64 + 5) 16 ≡ 5)
divisions = (refl, refl, refl, refl, refl, refl, refl, refl, refl, refl, refl, refl, refl, refl, refl, refl)

-- IDIV: -128 by -1 and 128 by 1 don't fit 8 bits, -128 by 1 and 128 by -1 do; -129 by 1 doesn't, nor 129 by -1
signed_refusals :
    (is_refused true 8 0 0 ≡ true) × (is_refused true 8 0xFF80 0xFF ≡ true) × (is_refused true 8 0xFF80 1 ≡ false) ×
    (is_refused true 8 0x7F 1 ≡ false) × (is_refused true 8 0x80 1 ≡ true) × (is_refused true 8 0x80 0xFF ≡ false) ×
    (is_refused true 8 0xFF7F 1 ≡ true) × (is_refused true 8 0x81 0xFF ≡ true) × (is_refused true 64 (2 ^ 128 - 2 ^ 63) (2 ^ 64 - 1) ≡ true) ×
    (is_negative 8 0xFF00 1 ≡ true) × (is_negative 8 0xFF00 0xFF ≡ false) × (is_negative 8 0xFF 0x80 ≡ true) × (is_negative 8 0xFF 0x7F ≡ false)
signed_refusals = (refl, refl, refl, refl, refl, refl, refl, refl, refl, refl, refl, refl, refl)

-- IDIV rounds toward zero, and the remainder has the dividend's sign: -7 by 2 is -3 and -1, 7 by -2 is -3 and 1, -7 by -2 is
-- 3 and -1, -1 by 2 is 0 and -1, -128 by 1 is -128 and 0, -7 by 3 is -2 and -1
signed_divisions :
    (quotient true 8 0xFFF9 2 ≡ 0xFD) × (rest true 8 0xFFF9 2 ≡ 0xFF) × (quotient true 8 7 0xFE ≡ 0xFD) × (rest true 8 7 0xFE ≡ 1) ×
    (quotient true 8 0xFFF9 0xFE ≡ 3) × (rest true 8 0xFFF9 0xFE ≡ 0xFF) × (quotient true 8 0xFFFF 2 ≡ 0) × (rest true 8 0xFFFF 2 ≡ 0xFF) ×
    (quotient true 8 0xFF80 1 ≡ 0x80) × (rest true 8 0xFF80 1 ≡ 0) × (quotient true 8 0xFFF9 3 ≡ 0xFE) × (rest true 8 0xFFF9 3 ≡ 0xFF) ×
    (quotient true 8 0 0xFB ≡ 0) × (rest true 8 0 0xFB ≡ 0) × (quotient_size 8 0xFFF9 2 ≡ 3) × (rest_size 8 0xFFF9 2 ≡ 1) × (rest_size 8 0xFFF9 3 ≡ 1)
signed_divisions = (refl, refl, refl, refl, refl, refl, refl, refl, refl, refl, refl, refl, refl, refl, refl, refl, refl)

-- BSF and BSR: 50 has the bits 4 and 6; of 0, where the destination is undefined, the number is 0 (own)
scans :
    (scanned true 1 ≡ 0) × (scanned true 0x50 ≡ 4) × (scanned true (2 ^ 63) ≡ 63) × (scanned true (2 ^ 64 - 1) ≡ 0) × (scanned true 0 ≡ 0) ×
    (scanned false 1 ≡ 0) × (scanned false 0x50 ≡ 6) × (scanned false (2 ^ 63) ≡ 63) × (scanned false (2 ^ 64 - 1) ≡ 63) × (scanned false 0 ≡ 0)
unfolding lib.Count.count_trailing_zeros lib.Count.count_leading_zeros
scans = (refl, refl, refl, refl, refl, refl, refl, refl, refl, refl)

-- BSF of a number whose bit 1 is found passes bit 0, BSR bit 2
passed : Passes true 1 0 × Passes false 1 2
passed = (omega arith, omega arith)

-- the statement on BSF of 6, whose bit 0 is clear and bit 1 set
below_1 : (j : ℕ) → j < 1 → j ≡ 0
below_1 j below = omega (arith, below)

first : IsFirstSet true 6 1
first = record { set = refl; passed = λ j below. rw (below_1 j below) refl }
