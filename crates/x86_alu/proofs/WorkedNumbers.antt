-- Numbers, flags, sums and bitwise results at worked values: SDM volume 1, 3.4.3.1 and 4.2.1, and the pages of volume 2.
-- Flags: CF is 1, PF 4, AF 10, ZF 40, SF 80, OF 800 (hexadecimal), and 2 always stands.
use Rattle.std.proofs.Common.{◌≡◌, ◌-◌, ◌^◌, true, false, refl}
use Rattle.x86_alu.specs.declared.choices.Logic.TheVariants.{And, Or, Xor}
use Rattle.x86_alu.specs.Bitwise.{combined, logic_flags}
use Rattle.x86_alu.specs.Flags.{auxiliary_carry_flag, carry_flag, even_parity, overflow_flag, parity_flag, result_flags, sign_flag, with_flag, zero_flag}
use Rattle.x86_alu.specs.SignedNumbers.{above_least, bit, cut, differ, negated, one_if, sign, size, spelled}
use Rattle.x86_alu.specs.Sums.{difference_flags, difference_of, difference_overflows, has_borrow, has_carry, signed_sum, sum_flags, sum_of, sum_overflows}

-- the low bits, one bit, and the highest one
parts :
    (cut 8 0x1FF ≡ 0xFF) × (cut 16 0xFFFF ≡ 0xFFFF) × (cut 32 0x100000005 ≡ 5) × (cut 64 (2 ^ 64) ≡ 0) ×
    (bit 0 0 ≡ false) × (bit 1 0 ≡ true) × (bit 1 1 ≡ false) × (bit 0x80 7 ≡ true) × (bit 0x7F 7 ≡ false) ×
    (bit (2 ^ 63) 63 ≡ true) × (bit 0xFFFF 16 ≡ false) ×
    (sign 8 0x7F ≡ false) × (sign 8 0x80 ≡ true) × (sign 8 0x17F ≡ false) × (sign 16 0x8000 ≡ true) × (sign 32 0x7FFFFFFF ≡ false) ×
    (sign 64 (2 ^ 63) ≡ true) × (sign 64 (2 ^ 63 - 1) ≡ false)
parts = (refl, refl, refl, refl, refl, refl, refl, refl, refl, refl, refl, refl, refl, refl, refl, refl, refl, refl)

-- exactly one of two
ones :
    (one_if true ≡ 1) × (one_if false ≡ 0) × (differ true true ≡ false) × (differ true false ≡ true) × (differ false true ≡ true) ×
    (differ false false ≡ false)
ones = (refl, refl, refl, refl, refl, refl)

-- SDM volume 1, 4.2.1.2: two's complement, whose least number is its own negation
signed :
    (negated 8 0 ≡ 0) × (negated 8 1 ≡ 0xFF) × (negated 8 0x7F ≡ 0x81) × (negated 8 0x80 ≡ 0x80) × (negated 32 0xFFFFFFFF ≡ 1) ×
    (negated 64 1 ≡ 2 ^ 64 - 1) ×
    (size 8 0 ≡ 0) × (size 8 0x7F ≡ 127) × (size 8 0x80 ≡ 128) × (size 8 0xFF ≡ 1) × (size 64 (2 ^ 63) ≡ 2 ^ 63) ×
    (above_least 8 0x80 ≡ 0) × (above_least 8 0xFF ≡ 127) × (above_least 8 0 ≡ 128) × (above_least 8 0x7F ≡ 255) ×
    (spelled 8 true 0 ≡ 0) × (spelled 8 true 1 ≡ 0xFF) × (spelled 8 true 128 ≡ 0x80) × (spelled 8 false 127 ≡ 0x7F) ×
    (spelled 64 true 1 ≡ 2 ^ 64 - 1)
signed = (refl, refl, refl, refl, refl, refl, refl, refl, refl, refl, refl, refl, refl, refl, refl, refl, refl, refl, refl, refl)

-- SDM volume 1, figure 3-8
places :
    (carry_flag ≡ 0) × (parity_flag ≡ 2) × (auxiliary_carry_flag ≡ 4) × (zero_flag ≡ 6) × (sign_flag ≡ 7) × (overflow_flag ≡ 11)
places = (refl, refl, refl, refl, refl, refl)

-- a flag alone is set or cleared, at either end of the word
written :
    (with_flag 0 true 0 ≡ 1) × (with_flag 0 false 0xFFFF ≡ 0xFFFE) × (with_flag 11 true 2 ≡ 0x802) × (with_flag 6 false 0x8D7 ≡ 0x897) ×
    (with_flag 6 true 0x40 ≡ 0x40) × (with_flag 63 true 0 ≡ 2 ^ 63) × (with_flag 63 false (2 ^ 64 - 1) ≡ 2 ^ 63 - 1)
unfolding with_flag
written = (refl, refl, refl, refl, refl, refl, refl)

-- PF looks at the low byte alone: SDM volume 1, 3.4.3.1
parities :
    (even_parity 0 ≡ true) × (even_parity 1 ≡ false) × (even_parity 3 ≡ true) × (even_parity 0x7F ≡ false) × (even_parity 0x80 ≡ false) ×
    (even_parity 0xFF ≡ true) × (even_parity 0x100 ≡ true) × (even_parity 0x8001 ≡ false)
unfolding lib.Count.ones
parities = (refl, refl, refl, refl, refl, refl, refl, refl)

-- zero has ZF and PF, a negative number SF; CF, AF and OF stay
results :
    (result_flags 8 0 0x82 ≡ 0x46) × (result_flags 8 0x80 2 ≡ 0x82) × (result_flags 8 0xFF 2 ≡ 0x86) × (result_flags 8 1 0xC6 ≡ 2) ×
    (result_flags 16 0x8000 2 ≡ 0x86) × (result_flags 32 0x7FFFFFFF 2 ≡ 6) × (result_flags 64 (2 ^ 63) 0x8D7 ≡ 0x897)
unfolding with_flag lib.Count.ones
results = (refl, refl, refl, refl, refl, refl, refl)

-- ADD and ADC: the carry out of the width, alone and with the carry in
sums :
    (sum_of 8 0xFF 1 false ≡ 0) × (sum_of 8 0xFF 0xFF true ≡ 0xFF) × (sum_of 16 0xFFFE 1 true ≡ 0) × (sum_of 32 0x80000000 0x80000000 false ≡ 0) ×
    (sum_of 64 (2 ^ 64 - 1) 1 false ≡ 0) × (sum_of 64 0 0 true ≡ 1) ×
    (has_carry 8 0xFF 0 false ≡ false) × (has_carry 8 0xFF 0 true ≡ true) × (has_carry 8 0xFE 1 false ≡ false) × (has_carry 8 0x80 0x80 false ≡ true) ×
    (has_carry 64 (2 ^ 64 - 1) 0 true ≡ true) × (has_carry 64 (2 ^ 63) (2 ^ 63 - 1) false ≡ false)
sums = (refl, refl, refl, refl, refl, refl, refl, refl, refl, refl, refl, refl)

-- in 8 bits: -128 - 128 is the least sum, 0 is 256 above it, 127 + 127 + 1 the greatest. 127 + 1, 64 + 64 and -128 - 1
-- don't fit; 63 + 64, -128 + 127, -1 + 1 and -128 - 1 + 1 do
sum_overflow :
    (signed_sum 8 0x80 0x80 false ≡ 0) × (signed_sum 8 0 0 false ≡ 256) × (signed_sum 8 0x7F 0x7F true ≡ 511) ×
    (sum_overflows 8 0x7F 1 false ≡ true) × (sum_overflows 8 0x7F 0 true ≡ true) × (sum_overflows 8 0x40 0x40 false ≡ true) ×
    (sum_overflows 8 0x80 0x80 false ≡ true) × (sum_overflows 8 0x80 0xFF false ≡ true) × (sum_overflows 8 0x3F 0x40 false ≡ false) ×
    (sum_overflows 8 0x7F 0x80 false ≡ false) × (sum_overflows 8 0xFF 1 false ≡ false) × (sum_overflows 8 0x80 0xFF true ≡ false) ×
    (sum_overflows 64 (2 ^ 63 - 1) 1 false ≡ true) × (sum_overflows 64 (2 ^ 64 - 1) (2 ^ 63) false ≡ true)
sum_overflow = (refl, refl, refl, refl, refl, refl, refl, refl, refl, refl, refl, refl, refl, refl)

-- AF is the carry out of bit 3; the flags that stood go, but for those that aren't status flags
sum_flag_words :
    (sum_flags 8 0xFF 1 false 2 ≡ 0x57) × (sum_flags 8 0x7F 1 false 2 ≡ 0x892) × (sum_flags 8 0x80 0x80 false 0x8D7 ≡ 0x847) ×
    (sum_flags 8 0x0F 0 true 2 ≡ 0x12) × (sum_flags 8 0x0E 1 false 0x12 ≡ 6) × (sum_flags 8 1 1 false 0xADF ≡ 0x20A) ×
    (sum_flags 16 0x7FFF 1 false 2 ≡ 0x896) × (sum_flags 32 0x7FFFFFFF 0x7FFFFFFF true 2 ≡ 0x896) ×
    (sum_flags 64 (2 ^ 64 - 1) 0 true 2 ≡ 0x57) × (sum_flags 64 0 0 false 2 ≡ 0x46)
unfolding with_flag lib.Count.ones
sum_flag_words = (refl, refl, refl, refl, refl, refl, refl, refl, refl, refl)

-- SUB, SBB and CMP: the borrow, alone and with the borrow in
differences :
    (difference_of 8 0 1 false ≡ 0xFF) × (difference_of 8 0 0xFF true ≡ 0) × (difference_of 8 0x80 1 false ≡ 0x7F) × (difference_of 8 5 2 true ≡ 2) ×
    (difference_of 16 0 0xFFFF false ≡ 1) × (difference_of 64 0 0 true ≡ 2 ^ 64 - 1) ×
    (has_borrow 0 0 false ≡ false) × (has_borrow 0 0 true ≡ true) × (has_borrow 0 1 false ≡ true) × (has_borrow 1 1 false ≡ false) ×
    (has_borrow 0xFF 0xFF true ≡ true) × (has_borrow 0xFF 0xFE true ≡ false)
differences = (refl, refl, refl, refl, refl, refl, refl, refl, refl, refl, refl, refl)

-- in 8 bits -128 - 1, -128 - 0 - 1, 127 + 1, 0 + 128 and -1 - 127 - 1 don't fit; 127 - 0, -1 - 127, -1 + 128 and
-- 0 + 128 - 1 do
difference_overflow :
    (difference_overflows 8 0x80 1 false ≡ true) × (difference_overflows 8 0x80 0 true ≡ true) × (difference_overflows 8 0x7F 0xFF false ≡ true) ×
    (difference_overflows 8 0 0x80 false ≡ true) × (difference_overflows 8 0xFF 0x7F true ≡ true) × (difference_overflows 8 0x7F 0 false ≡ false) ×
    (difference_overflows 8 0xFF 0x7F false ≡ false) × (difference_overflows 8 0xFF 0x80 false ≡ false) × (difference_overflows 8 0 0x80 true ≡ false) ×
    (difference_overflows 64 (2 ^ 63) 1 false ≡ true) × (difference_overflows 64 0 1 false ≡ false)
difference_overflow = (refl, refl, refl, refl, refl, refl, refl, refl, refl, refl, refl)

-- AF is the borrow out of bit 3
difference_flag_words :
    (difference_flags 8 0 1 false 2 ≡ 0x97) × (difference_flags 8 0x80 1 false 2 ≡ 0x812) × (difference_flags 8 0x10 0x0F false 2 ≡ 0x12) ×
    (difference_flags 8 0x1F 0x0F false 0x12 ≡ 2) × (difference_flags 8 0x1F 0x0F true 2 ≡ 0x16) × (difference_flags 16 0x8000 0 true 2 ≡ 0x816) ×
    (difference_flags 32 0 0xFFFFFFFF true 2 ≡ 0x57) × (difference_flags 64 5 5 false 0x8D3 ≡ 0x46)
unfolding with_flag lib.Count.ones
difference_flag_words = (refl, refl, refl, refl, refl, refl, refl, refl)

-- AND, OR and XOR bit by bit
bitwise :
    (combined And 0xF0 0x3C ≡ 0x30) × (combined Or 0xF0 0x0F ≡ 0xFF) × (combined Or 0xF0 0x3C ≡ 0xFC) × (combined Xor 0xF0 0x3C ≡ 0xCC) ×
    (combined Xor 0xFF 0xFF ≡ 0) × (combined And (2 ^ 64 - 1) (2 ^ 63) ≡ 2 ^ 63) × (combined Or 0 0 ≡ 0) × (combined And 0xFF 0 ≡ 0)
bitwise = (refl, refl, refl, refl, refl, refl, refl, refl)

-- CF and OF are cleared; AF, which is undefined, stays (own)
logic_flag_words :
    (logic_flags 8 0x80 0x813 ≡ 0x92) × (logic_flags 32 0xFFFFFFFF 2 ≡ 0x86) × (logic_flags 64 0 0x803 ≡ 0x46) × (logic_flags 16 0x7F 0x8C7 ≡ 2)
unfolding with_flag lib.Count.ones
logic_flag_words = (refl, refl, refl, refl)
