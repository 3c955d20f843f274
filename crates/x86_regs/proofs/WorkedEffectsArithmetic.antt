-- Arithmetic at worked values: SDM volume 1, 3.4.3.1, and the pages of volume 2. The operands are RAX and RCX
-- unless told. Flags: CF is 1, PF 4, AF 10, ZF 40, SF 80, OF 800 (hexadecimal), and 2 always stands.
use Rattle.std.proofs.Common.{◌≡◌, ◌^◌, ◌-◌, true, false, refl}
use Rattle.std.specs.Prelude.{Err}
use Rattle.decode_fields.specs.declared.place.Place.TheVariants.{Nothing, Reg, High, Value}
use Rattle.x86_decode.specs.declared.operation.Op.TheVariants as op
use Rattle.page_walk.specs.AccessPlans.{gathered}
use Rattle.x86_alu.specs.Flags.{with_flag}
use Rattle.x86_regs.specs.declared.faults.Fault.TheVariants as fault
use Rattle.x86_regs.specs.Combinations.{condition_stands, reversed_4, reversed_8}
use Rattle.x86_regs.specs.Effects.{effect_of}
use Rattle.x86_regs.proofs.WorkedState.{three, instr, effect, quiet}

-- ADD: FF and 1 are 0 in 8 bits with CF, AF, ZF and PF, and the bits above stay; 7FFF and 1 overflow in 16; of 32
-- bits the upper half is cleared; AH is a register of its own
adds :
    (effect (instr op.Add 8 (Reg 0) (Reg 1) 0) (three 0x55FF 1 0) 2 ≡ quiet (three 0x5500 1 0) 0x57) ×
    (effect (instr op.Add 16 (Reg 0) (Reg 1) 0) (three 0x557FFF 1 0) 2 ≡ quiet (three 0x558000 1 0) 0x896) ×
    (effect (instr op.Add 32 (Reg 0) (Reg 1) 0) (three 0x5555555500000001 2 0) 2 ≡ quiet (three 3 2 0) 6) ×
    (effect (instr op.Add 64 (Reg 0) (Reg 1) 0) (three (2 ^ 64 - 1) 1 0) 2 ≡ quiet (three 0 1 0) 0x57) ×
    (effect (instr op.Add 8 (High 0) (Reg 0) 0) (three 0x55F010 1 0) 2 ≡ quiet (three 0x550010 1 0) 0x47) ×
    (effect (instr op.Add 32 (Reg 0) Value 0xFFFFFFFF) (three 1 1 0) 2 ≡ quiet (three 0 1 0) 0x57)
unfolding effect_of gathered with_flag lib.Count.ones
adds = (refl, refl, refl, refl, refl, refl)

-- ADC and SBB take CF in: 7F and 0 and 1 are 80 with OF; 0 less FF less 1 is 0 with CF; the least less 0 less 1
-- overflows
carries :
    (effect (instr op.Adc 8 (Reg 0) (Reg 1) 0) (three 0x7F 0 0) 3 ≡ quiet (three 0x80 0 0) 0x892) ×
    (effect (instr op.Adc 64 (Reg 0) (Reg 1) 0) (three (2 ^ 64 - 1) 0 0) 3 ≡ quiet (three 0 0 0) 0x57) ×
    (effect (instr op.Adc 16 (Reg 0) (Reg 1) 0) (three 1 2 0) 2 ≡ quiet (three 3 2 0) 6) ×
    (effect (instr op.Sbb 8 (Reg 0) (Reg 1) 0) (three 0 0xFF 0) 3 ≡ quiet (three 0 0xFF 0) 0x57) ×
    (effect (instr op.Sbb 32 (Reg 0) (Reg 1) 0) (three 0xFFFFFFFF80000000 0 0) 3 ≡ quiet (three 0x7FFFFFFF 0 0) 0x816) ×
    (effect (instr op.Sbb 16 (Reg 0) (Reg 1) 0) (three 5 2 0) 2 ≡ quiet (three 3 2 0) 6)
unfolding effect_of gathered with_flag lib.Count.ones
carries = (refl, refl, refl, refl, refl, refl)

-- SUB: 0 less 1 borrows; AH less AL, 80 less 1, overflows. CMP sets the same flags and writes nothing
differences :
    (effect (instr op.Sub 16 (Reg 0) (Reg 1) 0) (three 0x90000 1 0) 2 ≡ quiet (three 0x9FFFF 1 0) 0x97) ×
    (effect (instr op.Sub 8 (High 0) (Reg 0) 0) (three 0x8001 1 0) 2 ≡ quiet (three 0x7F01 1 0) 0x812) ×
    (effect (instr op.Cmp 64 (Reg 0) (Reg 1) 0) (three 1 2 0) 2 ≡ quiet (three 1 2 0) 0x97) ×
    (effect (instr op.Cmp 8 (Reg 0) Value 0x80) (three 0x17F 2 0) 2 ≡ quiet (three 0x17F 2 0) 0x887)
unfolding effect_of gathered with_flag lib.Count.ones
differences = (refl, refl, refl, refl)

-- AND, OR, XOR and TEST clear CF and OF and keep AF; NOT keeps all flags
logic :
    (effect (instr op.And 32 (Reg 0) (Reg 1) 0) (three 0xFFFFFFFFF0F0F0F0 0xF0F0FF0 0) 0x813 ≡ quiet (three 0xF0 0xF0F0FF0 0) 0x16) ×
    (effect (instr op.Or 8 (Reg 0) (Reg 1) 0) (three 0x80 1 0) 0x803 ≡ quiet (three 0x81 1 0) 0x86) ×
    (effect (instr op.Xor 64 (Reg 0) (Reg 0) 0) (three (2 ^ 63) 1 0) 3 ≡ quiet (three 0 1 0) 0x46) ×
    (effect (instr op.Test 8 (Reg 0) (Reg 1) 0) (three 0xF0 0xF 0) 0x813 ≡ quiet (three 0xF0 0xF 0) 0x56) ×
    (effect (instr op.Test 16 (Reg 0) Value 0x8000) (three 0x8001 0 0) 2 ≡ quiet (three 0x8001 0 0) 0x86) ×
    (effect (instr op.Not 8 (High 0) Nothing 0) (three 0x0F01 1 0) 0x8D7 ≡ quiet (three 0xF001 1 0) 0x8D7) ×
    (effect (instr op.Not 64 (Reg 0) Nothing 0) (three 0 1 0) 2 ≡ quiet (three (2 ^ 64 - 1) 1 0) 2)
unfolding effect_of gathered with_flag lib.Count.ones
logic = (refl, refl, refl, refl, refl, refl, refl)

-- NEG: CF is clear for 0 alone, and the least number overflows to itself
negations :
    (effect (instr op.Neg 8 (Reg 0) Nothing 0) (three 0x100 1 0) 3 ≡ quiet (three 0x100 1 0) 0x46) ×
    (effect (instr op.Neg 8 (Reg 0) Nothing 0) (three 0x80 1 0) 2 ≡ quiet (three 0x80 1 0) 0x883) ×
    (effect (instr op.Neg 32 (Reg 0) Nothing 0) (three 0x7700000001 1 0) 2 ≡ quiet (three 0xFFFFFFFF 1 0) 0x97)
unfolding effect_of gathered with_flag lib.Count.ones
negations = (refl, refl, refl)

-- INC and DEC keep CF, set or clear
steps :
    (effect (instr op.Inc 8 (Reg 0) Nothing 0) (three 0xFF 1 0) 3 ≡ quiet (three 0 1 0) 0x57) ×
    (effect (instr op.Inc 8 (Reg 0) Nothing 0) (three 0xFF 1 0) 2 ≡ quiet (three 0 1 0) 0x56) ×
    (effect (instr op.Inc 32 (Reg 0) Nothing 0) (three 0x7FFFFFFF 1 0) 2 ≡ quiet (three 0x80000000 1 0) 0x896) ×
    (effect (instr op.Dec 16 (Reg 0) Nothing 0) (three 0 1 0) 2 ≡ quiet (three 0xFFFF 1 0) 0x96) ×
    (effect (instr op.Dec 8 (Reg 0) Nothing 0) (three 0x80 1 0) 3 ≡ quiet (three 0x7F 1 0) 0x813)
unfolding effect_of gathered with_flag lib.Count.ones
steps = (refl, refl, refl, refl, refl)

-- SHL by 1: CF is the bit out, and OF tells whether the sign changed. By CL, masked: 0 and 20 of 32 bits keep all
-- flags and clear the upper half, 21 is 1, 40 of 64 bits is 0. From the width on the result is 0 and CF and OF
-- stay
shifts_left :
    (effect (instr op.Shl 8 (Reg 0) Value 1) (three 0xC0 0 0) 2 ≡ quiet (three 0x80 0 0) 0x83) ×
    (effect (instr op.Shl 8 (Reg 0) Value 1) (three 0x80 0 0) 2 ≡ quiet (three 0 0 0) 0x847) ×
    (effect (instr op.Shl 32 (Reg 0) (Reg 1) 0) (three 0x1234567812345678 0 0) 0x8D7 ≡ quiet (three 0x12345678 0 0) 0x8D7) ×
    (effect (instr op.Shl 32 (Reg 0) (Reg 1) 0) (three 0x1234567812345678 0x20 0) 0x8D7 ≡ quiet (three 0x12345678 0x20 0) 0x8D7) ×
    (effect (instr op.Shl 32 (Reg 0) (Reg 1) 0) (three 0x12345678 0x21 0) 2 ≡ quiet (three 0x2468ACF0 0x21 0) 6) ×
    (effect (instr op.Shl 64 (Reg 0) (Reg 1) 0) (three 3 0x140 0) 2 ≡ quiet (three 3 0x140 0) 2) ×
    (effect (instr op.Shl 64 (Reg 0) (Reg 1) 0) (three 3 0x21 0) 2 ≡ quiet (three 0x600000000 0x21 0) 6) ×
    (effect (instr op.Shl 8 (Reg 0) (Reg 1) 0) (three 0xFF 9 0) 0x813 ≡ quiet (three 0 9 0) 0x857) ×
    (effect (instr op.Shl 8 (Reg 0) (Reg 1) 0) (three 1 8 0) 2 ≡ quiet (three 0 8 0) 0x46)
unfolding effect_of gathered with_flag lib.Count.ones
shifts_left = (refl, refl, refl, refl, refl, refl, refl, refl, refl)

-- SHR by 1: OF is the operand's sign; by more it stays. SAR by 1 clears OF; past the width all bits and CF are the
-- sign
shifts_right :
    (effect (instr op.Shr 16 (Reg 0) Value 1) (three 0x8001 0 0) 2 ≡ quiet (three 0x4000 0 0) 0x807) ×
    (effect (instr op.Shr 8 (Reg 0) Value 4) (three 0xF8 0 0) 0x802 ≡ quiet (three 0xF 0 0) 0x807) ×
    (effect (instr op.Shr 8 (High 0) Value 1) (three 0x0100 0 0) 2 ≡ quiet (three 0 0 0) 0x47) ×
    (effect (instr op.Sar 8 (Reg 0) Value 1) (three 0x81 0 0) 0x802 ≡ quiet (three 0xC0 0 0) 0x87) ×
    (effect (instr op.Sar 8 (Reg 0) (Reg 1) 0) (three 0x80 9 0) 2 ≡ quiet (three 0xFF 9 0) 0x87) ×
    (effect (instr op.Sar 64 (Reg 0) (Reg 1) 0) (three (2 ^ 63) 63 0) 2 ≡ quiet (three (2 ^ 64 - 1) 63 0) 0x86) ×
    (effect (instr op.Sar 32 (Reg 0) Value 31) (three 0x7FFFFFFF 0 0) 2 ≡ quiet (three 0 0 0) 0x47)
unfolding effect_of gathered with_flag lib.Count.ones
shifts_right = (refl, refl, refl, refl, refl, refl, refl)

-- ROL and ROR set CF and, by 1, OF; the other flags stay. A count of 8 at width 8 changes CF alone, and 20 at
-- width 16 is 4
rotations :
    (effect (instr op.Rol 8 (Reg 0) Value 1) (three 0x80 0 0) 2 ≡ quiet (three 1 0 0) 0x803) ×
    (effect (instr op.Rol 8 (Reg 0) (Reg 1) 0) (three 0x81 8 0) 0x2D2 ≡ quiet (three 0x81 8 0) 0x2D3) ×
    (effect (instr op.Rol 16 (Reg 0) (Reg 1) 0) (three 0x1234 20 0) 2 ≡ quiet (three 0x2341 20 0) 3) ×
    (effect (instr op.Rol 32 (Reg 0) (Reg 1) 0) (three 0xFFFFFFFF80000001 0x20 0) 0x8D6 ≡ quiet (three 0x80000001 0x20 0) 0x8D6) ×
    (effect (instr op.Ror 16 (Reg 0) Value 1) (three 1 0 0) 2 ≡ quiet (three 0x8000 0 0) 0x803) ×
    (effect (instr op.Ror 64 (Reg 0) (Reg 1) 0) (three 0x1F 4 0) 2 ≡ quiet (three 0xF000000000000001 4 0) 3)
unfolding effect_of gathered with_flag lib.Count.ones
rotations = (refl, refl, refl, refl, refl, refl)

-- MUL gives AX, or RDX and RAX at its side; CF and OF tell that the upper half isn't 0
products :
    (effect (instr op.Mul 8 (Reg 1) Nothing 0) (three 0xAAAA00FF 0xFF 7) 2 ≡ quiet (three 0xAAAAFE01 0xFF 7) 0x803) ×
    (effect (instr op.Mul 8 (High 0) Nothing 0) (three 0x0203 0 7) 0x803 ≡ quiet (three 6 0 7) 2) ×
    (effect (instr op.Mul 16 (Reg 1) Nothing 0) (three 0x1234FFFF 0xFFFF 0x56780000) 2 ≡ quiet (three 0x12340001 0xFFFF 0x5678FFFE) 0x803) ×
    (effect (instr op.Mul 32 (Reg 1) Nothing 0) (three 0xFFFFFFFF80000000 2 (2 ^ 64 - 1)) 2 ≡ quiet (three 0 2 1) 0x803) ×
    (effect (instr op.Mul 64 (Reg 1) Nothing 0) (three (2 ^ 63) 4 9) 2 ≡ quiet (three 0 4 2) 0x803)
unfolding effect_of gathered with_flag lib.Count.ones
products = (refl, refl, refl, refl, refl)

-- IMUL of one operand, of two, and of two and a number: CF and OF tell that the signed product doesn't fit
signed_products :
    (effect (instr op.Imul 8 (Reg 1) Nothing 0) (three 0xFF 0xFF 7) 0x803 ≡ quiet (three 1 0xFF 7) 2) ×
    (effect (instr op.Imul 8 (Reg 1) Nothing 0) (three 0x80 0xFF 7) 2 ≡ quiet (three 0x80 0xFF 7) 0x803) ×
    (effect (instr op.Imul 64 (Reg 1) Nothing 0) (three (2 ^ 64 - 1) 2 7) 2 ≡ quiet (three (2 ^ 64 - 2) 2 (2 ^ 64 - 1)) 2) ×
    (effect (instr op.Imul 16 (Reg 0) (Reg 1) 0) (three 0x4000 2 7) 2 ≡ quiet (three 0x8000 2 7) 0x803) ×
    (effect (instr op.Imul 16 (Reg 0) (Reg 1) 0) (three 0xFFFF 0xFFFF 7) 2 ≡ quiet (three 1 0xFFFF 7) 2) ×
    (effect (instr op.Imul 32 (Reg 0) (Reg 1) 0) (three 0xFFFFFFFF00010000 0x10000 7) 2 ≡ quiet (three 0 0x10000 7) 0x803) ×
    (effect (instr op.Imul3 32 (Reg 0) (Reg 1) 0xFFFFFFFE) (three 0x99 3 7) 2 ≡ quiet (three 0xFFFFFFFA 3 7) 2) ×
    (effect (instr op.Imul3 16 (Reg 0) (Reg 1) 0x100) (three 0x99 0x100 7) 2 ≡ quiet (three 0 0x100 7) 0x803)
unfolding effect_of gathered with_flag lib.Count.ones
signed_products = (refl, refl, refl, refl, refl, refl, refl, refl)

-- DIV keeps the flags; a quotient that doesn't fit, and a divisor 0, raise #DE
quotients :
    (effect (instr op.Div 8 (Reg 1) Nothing 0) (three 0x990107 4 7) 0x8D7 ≡ quiet (three 0x990341 4 7) 0x8D7) ×
    (effect (instr op.Div 8 (Reg 1) Nothing 0) (three 0x400 4 7) 2 ≡ Err fault.Divide) ×
    (effect (instr op.Div 8 (Reg 1) Nothing 0) (three 0x400 0x100 7) 2 ≡ Err fault.Divide) ×
    (effect (instr op.Div 32 (Reg 1) Nothing 0) (three 5 0x10 0xF00000001) 2 ≡ quiet (three 0x10000000 0x10 5) 2) ×
    (effect (instr op.Div 64 (Reg 1) Nothing 0) (three 1 2 1) 2 ≡ quiet (three (2 ^ 63) 2 1) 2) ×
    (effect (instr op.Div 64 (Reg 1) Nothing 0) (three 0 2 2) 2 ≡ Err fault.Divide)
unfolding effect_of gathered with_flag lib.Count.ones
quotients = (refl, refl, refl, refl, refl, refl)

-- IDIV rounds toward zero, and the remainder has the dividend's sign; the least number by -1 raises #DE, by 1 it
-- fits
signed_quotients :
    (effect (instr op.Idiv 8 (Reg 1) Nothing 0) (three 0xFFF9 2 7) 2 ≡ quiet (three 0xFFFD 2 7) 2) ×
    (effect (instr op.Idiv 8 (Reg 1) Nothing 0) (three 7 0xFE 7) 2 ≡ quiet (three 0x01FD 0xFE 7) 2) ×
    (effect (instr op.Idiv 8 (Reg 1) Nothing 0) (three 0xFF80 1 7) 2 ≡ quiet (three 0x80 1 7) 2) ×
    (effect (instr op.Idiv 8 (Reg 1) Nothing 0) (three 0xFF80 0xFF 7) 2 ≡ Err fault.Divide) ×
    (effect (instr op.Idiv 64 (Reg 1) Nothing 0) (three (2 ^ 63) (2 ^ 64 - 1) (2 ^ 64 - 1)) 2 ≡ Err fault.Divide) ×
    (effect (instr op.Idiv 16 (Reg 1) Nothing 0) (three 0 0 0) 2 ≡ Err fault.Divide)
unfolding effect_of gathered with_flag lib.Count.ones
signed_quotients = (refl, refl, refl, refl, refl, refl)

-- BSF and BSR: for a source 0 the whole register stays and ZF is set; only the source's width is searched
scans :
    (effect (instr op.Bsf 32 (Reg 0) (Reg 1) 0) (three 0xFFFFFFFF00000005 0 0) 2 ≡ quiet (three 0xFFFFFFFF00000005 0 0) 0x42) ×
    (effect (instr op.Bsf 32 (Reg 0) (Reg 1) 0) (three 0xFFFFFFFF00000005 0x300 0) 0x42 ≡ quiet (three 8 0x300 0) 2) ×
    (effect (instr op.Bsf 16 (Reg 0) (Reg 1) 0) (three 0x770000 0x8000 0) 2 ≡ quiet (three 0x77000F 0x8000 0) 2) ×
    (effect (instr op.Bsr 64 (Reg 0) (Reg 1) 0) (three 0 0x8000000000000001 0) 2 ≡ quiet (three 63 0x8000000000000001 0) 2) ×
    (effect (instr op.Bsr 16 (Reg 0) (Reg 1) 0) (three 5 0x10001 0) 2 ≡ quiet (three 0 0x10001 0) 2) ×
    (effect (instr op.Bsr 16 (Reg 0) (Reg 1) 0) (three 5 0x10000 0) 2 ≡ quiet (three 5 0x10000 0) 0x42)
unfolding effect_of gathered with_flag lib.Count.count_trailing_zeros lib.Count.count_leading_zeros
scans = (refl, refl, refl, refl, refl, refl)

-- BT and its kin: the bit's number counts modulo the width, and CF alone changes
bit_tests :
    (effect (instr op.Bt 32 (Reg 0) (Reg 1) 0) (three 0xFF00000002 33 0) 0x8D6 ≡ quiet (three 0xFF00000002 33 0) 0x8D7) ×
    (effect (instr op.Bt 16 (Reg 0) (Reg 1) 0) (three 0x7FFF 0x0FFF 0) 3 ≡ quiet (three 0x7FFF 0x0FFF 0) 2) ×
    (effect (instr op.Bts 64 (Reg 0) (Reg 1) 0) (three 0 64 0) 3 ≡ quiet (three 1 64 0) 2) ×
    (effect (instr op.Btr 16 (Reg 0) (Reg 1) 0) (three 0xFFFF 19 0) 2 ≡ quiet (three 0xFFF7 19 0) 3) ×
    (effect (instr op.Btr 32 (Reg 0) (Reg 1) 0) (three 0xFF00000005 1 0) 3 ≡ quiet (three 5 1 0) 2) ×
    (effect (instr op.Btc 32 (Reg 0) Value 0xFFFFFFFF) (three 0xFF80000000 0 0) 2 ≡ quiet (three 0 0 0) 3) ×
    (effect (instr op.Btc 64 (Reg 0) (Reg 1) 0) (three 5 63 0) 3 ≡ quiet (three 0x8000000000000005 63 0) 2)
unfolding effect_of gathered with_flag
bit_tests = (refl, refl, refl, refl, refl, refl, refl)

-- BSWAP of 32 bits clears the upper half
swaps :
    (effect (instr op.Bswap 32 (Reg 0) Nothing 0) (three 0xFFFFFFFF11223344 0 0) 2 ≡ quiet (three 0x44332211 0 0) 2) ×
    (effect (instr op.Bswap 64 (Reg 0) Nothing 0) (three 0x0102030405060708 0 0) 2 ≡ quiet (three 0x0807060504030201 0 0) 2)
unfolding effect_of gathered reversed_4 reversed_8
swaps = (refl, refl)

-- CMOVE: not moved, a destination of 32 bits loses its upper half all the same, one of 16 nothing
conditional_moves :
    (effect (instr (op.Cmov 4) 32 (Reg 0) (Reg 1) 0) (three 0xFFFFFFFF00000005 9 0) 2 ≡ quiet (three 5 9 0) 2) ×
    (effect (instr (op.Cmov 4) 32 (Reg 0) (Reg 1) 0) (three 0xFFFFFFFF00000005 9 0) 0x42 ≡ quiet (three 9 9 0) 0x42) ×
    (effect (instr (op.Cmov 4) 16 (Reg 0) (Reg 1) 0) (three 0xFFFFFFFF00000005 9 0) 2 ≡ quiet (three 0xFFFFFFFF00000005 9 0) 2)
unfolding effect_of gathered condition_stands
conditional_moves = (refl, refl, refl)

-- each condition at flags that set it, by SDM volume 1, appendix B: O, B, E, BE by either flag, S, P, L by SF or
-- OF, LE by ZF
conditions_set :
    (condition_stands 0 0x802 ≡ true) × (condition_stands 1 0x802 ≡ false) × (condition_stands 2 3 ≡ true) × (condition_stands 3 3 ≡ false) ×
    (condition_stands 4 0x42 ≡ true) × (condition_stands 5 0x42 ≡ false) × (condition_stands 6 3 ≡ true) × (condition_stands 6 0x42 ≡ true) ×
    (condition_stands 7 0x42 ≡ false) × (condition_stands 8 0x82 ≡ true) × (condition_stands 9 0x82 ≡ false) × (condition_stands 10 6 ≡ true) ×
    (condition_stands 11 6 ≡ false) × (condition_stands 12 0x82 ≡ true) × (condition_stands 12 0x802 ≡ true) × (condition_stands 12 0x882 ≡ false) ×
    (condition_stands 13 0x882 ≡ true) × (condition_stands 14 0x42 ≡ true) × (condition_stands 14 0x882 ≡ false) × (condition_stands 15 0x882 ≡ true)
unfolding condition_stands
conditions_set = (refl, refl, refl, refl, refl, refl, refl, refl, refl, refl, refl, refl, refl, refl, refl, refl, refl, refl, refl, refl)
