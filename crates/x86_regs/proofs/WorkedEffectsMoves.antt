-- Moves, the stack and strings at worked values, by the pages of SDM volume 2. At 2000 and 2008 (hexadecimal) stand
-- 0706050403020100 and 1716151413121110; RSP, RBP and RDI are 2008 unless told, and RSI is 2000.
use Rattle.std.proofs.Common.{◌≡◌, ℕ, ◌^◌, ◌-◌, true, false, List, refl}
use Rattle.std.specs.Prelude.{Some, None}
use Rattle.decode_fields.specs.declared.place.Place.TheVariants.{Nothing, Reg, High, Mem, Value}
use Rattle.decode_fields.specs.declared.parts.Rep.{Rep}
use Rattle.decode_fields.specs.declared.parts.Rep.TheVariants.{No, WhileEqual, WhileNot}
use Rattle.x86_decode.specs.declared.instruction.Instr.{Instr}
use Rattle.x86_decode.specs.declared.operation.Op.{Op}
use Rattle.x86_decode.specs.declared.operation.Op.TheVariants as op
use Rattle.nk_bits.specs.Accesses.{accessed, completed, reached, crosses, first_part, has_canonical_bytes, wp_of, smep_of}
use Rattle.phys_mem.specs.Memory.{number_at}
use Rattle.page_walk.specs.AccessPlans.{gathered}
use Rattle.x86_alu.specs.Flags.{with_flag}
use Rattle.x86_regs.specs.declared.effects.Act.TheVariants as act
use Rattle.x86_regs.specs.Combinations.{condition_stands}
use Rattle.x86_regs.specs.Effects.{effect_of}
use Rattle.x86_regs.proofs.WorkedState.{at, bytes_at, effect, general, going, instr, quiet, three, writing}

-- MOV: 64 bits, 32 that clear the upper half, 16 and 8 that keep the bits above, AH, and a number
registers_moved :
    (effect (instr op.Mov 64 (Reg 0) (Reg 1) 0) (three 5 0x1122334455667788 0) 0x8D7 ≡ quiet (three 0x1122334455667788 0x1122334455667788 0) 0x8D7) ×
    (effect (instr op.Mov 32 (Reg 0) (Reg 1) 0) (three (2 ^ 64 - 1) 0x1122334455667788 0) 2 ≡ quiet (three 0x55667788 0x1122334455667788 0) 2) ×
    (effect (instr op.Mov 16 (Reg 0) (Reg 1) 0) (three (2 ^ 64 - 1) 0x1122334455667788 0) 2 ≡ quiet (three 0xFFFFFFFFFFFF7788 0x1122334455667788 0) 2) ×
    (effect (instr op.Mov 8 (Reg 0) (High 1) 0) (three (2 ^ 64 - 1) 0x7788 0) 2 ≡ quiet (three 0xFFFFFFFFFFFFFF77 0x7788 0) 2) ×
    (effect (instr op.Mov 8 (High 0) (Reg 1) 0) (three (2 ^ 64 - 1) 0x7788 0) 2 ≡ quiet (three 0xFFFFFFFFFFFF88FF 0x7788 0) 2) ×
    (effect (instr op.Mov 32 (Reg 0) Value 0xFFFFFFFF) (three 5 6 0) 2 ≡ quiet (three 0xFFFFFFFF 6 0) 2)
unfolding effect_of gathered
registers_moved = (refl, refl, refl, refl, refl, refl)

-- MOV to and from memory: 8 bytes, 2 bytes that keep the bits above, 4 that clear them
memory_moved :
    (effect (instr op.Mov 64 (at 4 0) (Reg 0) 0) (three 5 6 0) 2 ≡ writing (three 5 6 0) 2 8 8 5) ×
    (effect (instr op.Mov 8 (at 6 1) (High 0) 0) (three 0x1234 6 0) 2 ≡ writing (three 0x1234 6 0) 2 1 1 0x12) ×
    (effect (instr op.Mov 64 (Reg 0) (at 4 0) 0) (three 5 6 0) 2 ≡ quiet (three 0x1716151413121110 6 0) 2) ×
    (effect (instr op.Mov 16 (Reg 0) (at 4 0) 0) (three 0x550000 6 0) 2 ≡ quiet (three 0x551110 6 0) 2) ×
    (effect (instr op.Mov 32 (Reg 0) (at 4 (2 ^ 64 - 8)) 0) (three (2 ^ 64 - 1) 6 0) 2 ≡ quiet (three 0x03020100 6 0) 2)
unfolding effect_of gathered accessed completed reached crosses has_canonical_bytes first_part number_at wp_of smep_of
memory_moved = (refl, refl, refl, refl, refl)

-- MOVZX and MOVSX, from AH and from memory too, and MOVSXD
extensions :
    (effect (instr op.Movzx8 32 (Reg 0) (High 0) 0) (three 0xFFFFFFFFFFFF8012 6 0) 2 ≡ quiet (three 0x80 6 0) 2) ×
    (effect (instr op.Movzx8 16 (Reg 0) (Reg 1) 0) (three 0x99FFFF 0x680 0) 2 ≡ quiet (three 0x990080 0x680 0) 2) ×
    (effect (instr op.Movsx8 16 (Reg 0) (Reg 1) 0) (three 0x990000 0x680 0) 2 ≡ quiet (three 0x99FF80 0x680 0) 2) ×
    (effect (instr op.Movsx8 64 (Reg 0) (at 4 7) 0) (three 5 6 0) 2 ≡ quiet (three 0x17 6 0) 2) ×
    (effect (instr op.Movzx16 64 (Reg 0) (at 4 0) 0) (three (2 ^ 64 - 1) 6 0) 2 ≡ quiet (three 0x1110 6 0) 2) ×
    (effect (instr op.Movsx16 64 (Reg 0) (Reg 1) 0) (three 5 0x18000 0) 2 ≡ quiet (three 0xFFFFFFFFFFFF8000 0x18000 0) 2) ×
    (effect (instr op.Movsx16 32 (Reg 0) (Reg 1) 0) (three 5 0x8000 0) 2 ≡ quiet (three 0xFFFF8000 0x8000 0) 2) ×
    (effect (instr op.Movsxd 64 (Reg 0) (Reg 1) 0) (three 5 0x180000000 0) 2 ≡ quiet (three 0xFFFFFFFF80000000 0x180000000 0) 2)
unfolding effect_of gathered accessed completed reached crosses has_canonical_bytes first_part number_at wp_of smep_of
extensions = (refl, refl, refl, refl, refl, refl, refl, refl)

-- SETcc writes 1 or 0 into a byte, also into AH and memory
conditions_written :
    (effect (instr (op.Set 2) 8 (High 0) Nothing 0) (three 0xFFFF 6 0) 3 ≡ quiet (three 0x01FF 6 0) 3) ×
    (effect (instr (op.Set 3) 8 (Reg 0) Nothing 0) (three 0xFFFF 6 0) 3 ≡ quiet (three 0xFF00 6 0) 3) ×
    (effect (instr (op.Set 2) 8 (at 6 3) Nothing 0) (three 5 6 0) 3 ≡ writing (three 5 6 0) 3 3 1 1)
unfolding effect_of gathered condition_stands accessed completed reached crosses has_canonical_bytes first_part wp_of smep_of
conditions_written = (refl, refl, refl)

-- LEA: the sum of base, scaled index and displacement wraps, is cut to the width, and starts at the next
-- instruction where it is relative to it; nothing is accessed
addresses :
    (effect (instr op.Lea 64 (Reg 0) (Mem (record { base = Some 1; index = Some 2; scale = 8; disp = 2 ^ 64 - 16; rip = false })) 0) (three 5 0x100 3) 2 ≡ quiet (three 0x108 0x100 3) 2) ×
    (effect (instr op.Lea 32 (Reg 0) (Mem (record { base = Some 1; index = None; scale = 1; disp = 1; rip = false })) 0) (three 5 0xFFFFFFFF 3) 2 ≡ quiet (three 0 0xFFFFFFFF 3) 2) ×
    (effect (instr op.Lea 16 (Reg 0) (at 1 0) 0) (three 0x990000 0xFFFFF 3) 2 ≡ quiet (three 0x99FFFF 0xFFFFF 3) 2) ×
    (effect (instr op.Lea 64 (Reg 0) (Mem (record { base = None; index = None; scale = 1; disp = 2 ^ 64 - 3; rip = true })) 0) (three 5 6 3) 2 ≡ quiet (three 0x1000 6 3) 2)
unfolding effect_of gathered
addresses = (refl, refl, refl, refl)

-- XCHG: AL with AH, 32 bits that clear both upper halves, one register with itself, and memory
exchanges :
    (effect (instr op.Xchg 8 (Reg 0) (High 0) 0) (three 0x991234 6 0) 0x8D7 ≡ quiet (three 0x993412 6 0) 0x8D7) ×
    (effect (instr op.Xchg 32 (Reg 0) (Reg 1) 0) (three 0x9900000005 0x9900000006 0) 2 ≡ quiet (three 6 5 0) 2) ×
    (effect (instr op.Xchg 64 (Reg 0) (Reg 0) 0) (three 5 6 0) 2 ≡ quiet (three 5 6 0) 2) ×
    (effect (instr op.Xchg 16 (at 4 0) (Reg 0) 0) (three 0x995678 6 0) 2 ≡ writing (three 0x991110 6 0) 2 8 2 0x5678)
unfolding effect_of gathered accessed completed reached crosses has_canonical_bytes first_part number_at wp_of smep_of
exchanges = (refl, refl, refl, refl)

-- XADD: the second operand gets the first, then the first gets the sum; one register twice is doubled
sums_exchanged :
    (effect (instr op.Xadd 8 (Reg 0) (Reg 0) 0) (three 0x9983 6 0) 2 ≡ quiet (three 0x9906 6 0) 0x807) ×
    (effect (instr op.Xadd 8 (High 0) (Reg 0) 0) (three 0x0102 6 0) 2 ≡ quiet (three 0x0301 6 0) 6) ×
    (effect (instr op.Xadd 32 (Reg 0) (Reg 1) 0) (three 0x9900000005 0x9900000006 0) 2 ≡ quiet (three 11 5 0) 2) ×
    (effect (instr op.Xadd 8 (at 4 0) (Reg 0) 0) (three 0xF0 6 0) 2 ≡ writing (three 0x10 6 0) 0x47 8 1 0)
unfolding effect_of gathered with_flag lib.Count.ones accessed completed reached crosses has_canonical_bytes first_part number_at wp_of smep_of
sums_exchanged = (refl, refl, refl, refl)

-- CMPXCHG of RBX, which is 3, and RCX: equal, RBX becomes RCX; else RAX becomes RBX, and both lose their upper
-- halves at 32 bits. To memory it writes in either case
comparisons_exchanged :
    (effect (instr op.Cmpxchg 64 (Reg 0) (Reg 1) 0) (three 5 6 0) 2 ≡ quiet (three 6 6 0) 0x46) ×
    (effect (instr op.Cmpxchg 32 (Reg 1) (Reg 2) 0) (three 0x9900000005 0x9900000005 7) 2 ≡ quiet (three 0x9900000005 7 7) 0x46) ×
    (effect (instr op.Cmpxchg 32 (Reg 1) (Reg 2) 0) (three 0x9900000005 0x9900000006 7) 2 ≡ quiet (three 6 6 7) 0x97) ×
    (effect (instr op.Cmpxchg 8 (High 0) (Reg 1) 0) (three 0x0205 6 0) 2 ≡ quiet (three 0x0202 6 0) 6) ×
    (effect (instr op.Cmpxchg 16 (at 4 0) (Reg 1) 0) (three 0x991110 0x5678 0) 2 ≡ writing (three 0x991110 0x5678 0) 0x46 8 2 0x5678) ×
    (effect (instr op.Cmpxchg 16 (at 4 0) (Reg 1) 0) (three 0x991112 0x5678 0) 2 ≡ writing (three 0x991110 0x5678 0) 2 8 2 0x1110)
unfolding effect_of gathered with_flag lib.Count.ones accessed completed reached crosses has_canonical_bytes first_part number_at wp_of smep_of
comparisons_exchanged = (refl, refl, refl, refl, refl, refl)

-- CBW, CWDE, CDQE widen the accumulator; CWD, CDQ, CQO fill RDX with its sign
signs :
    (effect (instr op.Cbw 16 Nothing Nothing 0) (three 0x990080 6 7) 2 ≡ quiet (three 0x99FF80 6 7) 2) ×
    (effect (instr op.Cwde 32 Nothing Nothing 0) (three 0x9900008000 6 7) 2 ≡ quiet (three 0xFFFF8000 6 7) 2) ×
    (effect (instr op.Cdqe 64 Nothing Nothing 0) (three 0x997FFFFFFF 6 7) 2 ≡ quiet (three 0x7FFFFFFF 6 7) 2) ×
    (effect (instr op.Cwd 16 Nothing Nothing 0) (three 0x8000 6 0x990000) 2 ≡ quiet (three 0x8000 6 0x99FFFF) 2) ×
    (effect (instr op.Cdq 32 Nothing Nothing 0) (three 0x80000000 6 0x9900000000) 2 ≡ quiet (three 0x80000000 6 0xFFFFFFFF) 2) ×
    (effect (instr op.Cqo 64 Nothing Nothing 0) (three (2 ^ 63) 6 7) 2 ≡ quiet (three (2 ^ 63) 6 (2 ^ 64 - 1)) 2) ×
    (effect (instr op.Cqo 64 Nothing Nothing 0) (three (2 ^ 63 - 1) 6 7) 2 ≡ quiet (three (2 ^ 63 - 1) 6 0) 2)
unfolding effect_of gathered
signs = (refl, refl, refl, refl, refl, refl, refl)

-- RAX, RSP and RBP
stack : ℕ → ℕ → ℕ → List ℕ
stack a sp bp = general a 6 7 sp bp 0x2000 0x2008

-- PUSH: RSP is pushed as it was; 16 bits lower RSP by 2; a number; a place in memory by RSP as it was
pushes :
    (effect (instr op.Push 64 Nothing (Reg 4) 0) (stack 5 0x2008 0) 2 ≡ writing (stack 5 0x2000 0) 2 0 8 0x2008) ×
    (effect (instr op.Push 16 Nothing (Reg 0) 0) (stack 0x99001234 0x2008 0) 2 ≡ writing (stack 0x99001234 0x2006 0) 2 6 2 0x1234) ×
    (effect (instr op.Push 64 Nothing Value (2 ^ 64 - 1)) (stack 5 0x2008 0) 2 ≡ writing (stack 5 0x2000 0) 2 0 8 (2 ^ 64 - 1)) ×
    (effect (instr op.Push 64 Nothing (at 4 0) 0) (stack 5 0x2008 0) 2 ≡ writing (stack 5 0x2000 0) 2 0 8 0x1716151413121110)
unfolding effect_of gathered stack accessed completed reached crosses has_canonical_bytes first_part number_at wp_of smep_of
pushes = (refl, refl, refl, refl)

-- POP: RSP is the popped number; SP of 16 bits keeps what RSP rose to above; to memory by RSP, as it rose
pops :
    (effect (instr op.Pop 64 (Reg 0) Nothing 0) (stack 5 0x2000 0) 2 ≡ quiet (stack 0x0706050403020100 0x2008 0) 2) ×
    (effect (instr op.Pop 64 (Reg 4) Nothing 0) (stack 5 0x2000 0) 2 ≡ quiet (stack 5 0x0706050403020100 0) 2) ×
    (effect (instr op.Pop 16 (Reg 0) Nothing 0) (stack 0x990000 0x2002 0) 2 ≡ quiet (stack 0x990302 0x2004 0) 2) ×
    (effect (instr op.Pop 16 (Reg 4) Nothing 0) (stack 5 0x2002 0) 2 ≡ quiet (stack 5 0x0302 0) 2) ×
    (effect (instr op.Pop 64 (at 4 0) Nothing 0) (stack 5 0x2000 0) 2 ≡ writing (stack 5 0x2008 0) 2 8 8 0x0706050403020100) ×
    (effect (instr op.Pop 16 (at 4 (2 ^ 64 - 2)) Nothing 0) (stack 5 0x2008 0) 2 ≡ writing (stack 5 0x200A 0) 2 8 2 0x1110)
unfolding effect_of gathered stack accessed completed reached crosses has_canonical_bytes first_part number_at wp_of smep_of
pops = (refl, refl, refl, refl, refl, refl)

-- LEAVE: RSP is behind what RBP named, and RBP is what stood there
leaves : effect (instr op.Leave 64 Nothing Nothing 0) (stack 5 0x9999 0x2000) 2 ≡ quiet (stack 5 0x2008 0x0706050403020100) 2
unfolding effect_of gathered stack accessed completed reached crosses has_canonical_bytes first_part number_at wp_of smep_of
leaves = refl

-- strings: RAX, RCX, RSI and RDI
strings : ℕ → ℕ → ℕ → ℕ → List ℕ
strings a c si di = general a c 7 0x2008 0x2008 si di

-- a string instruction, once, by F3, and by F2
string : Op → ℕ → Rep → Instr
string op width rep = record { op = op; width = width; to = Nothing; from = Nothing; value = 0; rep = rep; lock = false }

-- MOVS moves both pointers by the width, down where DF (400) is set
strings_moved :
    (effect (string op.Movs 8 No) (strings 5 6 0x2001 0x2008) 2 ≡ writing (strings 5 6 0x2002 0x2009) 2 8 1 1) ×
    (effect (string op.Movs 64 No) (strings 5 6 0x2000 0x2008) 0x402 ≡ writing (strings 5 6 0x1FF8 0x2000) 0x402 8 8 0x0706050403020100) ×
    (effect (string op.Movs 32 No) (strings 5 6 0x2008 0x2004) 0x402 ≡ writing (strings 5 6 0x2004 0x2000) 0x402 4 4 0x13121110)
unfolding effect_of gathered strings string accessed completed reached crosses has_canonical_bytes first_part number_at wp_of smep_of
strings_moved = (refl, refl, refl)

-- repeated with RCX 0 it does nothing, with 1 it goes on behind itself, with 2 it stays; F2 repeats as F3 does
moves_repeated :
    (effect (string op.Movs 16 WhileEqual) (strings 5 0 0x2002 0x2008) 2 ≡ quiet (strings 5 0 0x2002 0x2008) 2) ×
    (effect (string op.Movs 16 WhileEqual) (strings 5 1 0x2002 0x2008) 2 ≡ writing (strings 5 0 0x2004 0x200A) 2 8 2 0x0302) ×
    (effect (string op.Movs 16 WhileEqual) (strings 5 2 0x2002 0x2008) 2 ≡ going 0x1000 (strings 5 1 0x2004 0x200A) 2 (bytes_at 8 2 0x0302) act.Quiet) ×
    (effect (string op.Movs 16 WhileNot) (strings 5 2 0x2002 0x2008) 0x42 ≡ going 0x1000 (strings 5 1 0x2004 0x200A) 0x42 (bytes_at 8 2 0x0302) act.Quiet)
unfolding effect_of gathered strings string accessed completed reached crosses has_canonical_bytes first_part number_at wp_of smep_of
moves_repeated = (refl, refl, refl, refl)

-- STOS moves RDI alone, LODS RSI alone, and of 32 bits it clears RAX's upper half
stored_and_loaded :
    (effect (string op.Stos 16 No) (strings 0x991234 6 0x2000 0x2008) 2 ≡ writing (strings 0x991234 6 0x2000 0x200A) 2 8 2 0x1234) ×
    (effect (string op.Stos 64 WhileEqual) (strings 5 2 0x2000 0x2008) 0x402 ≡ going 0x1000 (strings 5 1 0x2000 0x2000) 0x402 (bytes_at 8 8 5) act.Quiet) ×
    (effect (string op.Stos 64 WhileEqual) (strings 5 0 0x2000 0x2008) 2 ≡ quiet (strings 5 0 0x2000 0x2008) 2) ×
    (effect (string op.Lods 8 No) (strings 0x9999 6 0x2007 0x2008) 2 ≡ quiet (strings 0x9907 6 0x2008 0x2008) 2) ×
    (effect (string op.Lods 32 WhileEqual) (strings (2 ^ 64 - 1) 1 0x2000 0x2008) 0x402 ≡ quiet (strings 0x03020100 0 0x1FFC 0x2008) 0x402)
unfolding effect_of gathered strings string accessed completed reached crosses has_canonical_bytes first_part number_at wp_of smep_of
stored_and_loaded = (refl, refl, refl, refl, refl)

-- CMPS: what stands at RSI less what stands at RDI. F3 goes on while they are equal, F2 while they differ, each
-- while RCX isn't 0; with RCX 0 the flags stay
strings_compared :
    (effect (string op.Cmps 8 No) (strings 5 6 0x2001 0x2009) 2 ≡ quiet (strings 5 6 0x2002 0x200A) 0x87) ×
    (effect (string op.Cmps 8 WhileEqual) (strings 5 2 0x2001 0x2009) 2 ≡ quiet (strings 5 1 0x2002 0x200A) 0x87) ×
    (effect (string op.Cmps 8 WhileNot) (strings 5 2 0x2001 0x2009) 2 ≡ going 0x1000 (strings 5 1 0x2002 0x200A) 0x87 None act.Quiet) ×
    (effect (string op.Cmps 64 WhileEqual) (strings 5 2 0x2008 0x2008) 2 ≡ going 0x1000 (strings 5 1 0x2010 0x2010) 0x46 None act.Quiet) ×
    (effect (string op.Cmps 64 WhileEqual) (strings 5 1 0x2008 0x2008) 2 ≡ quiet (strings 5 0 0x2010 0x2010) 0x46) ×
    (effect (string op.Cmps 64 WhileNot) (strings 5 2 0x2008 0x2008) 2 ≡ quiet (strings 5 1 0x2010 0x2010) 0x46) ×
    (effect (string op.Cmps 8 WhileNot) (strings 5 0 0x2001 0x2009) 0x8D7 ≡ quiet (strings 5 0 0x2001 0x2009) 0x8D7)
unfolding effect_of gathered with_flag lib.Count.ones strings string accessed completed reached crosses has_canonical_bytes first_part number_at wp_of smep_of
strings_compared = (refl, refl, refl, refl, refl, refl, refl)

-- SCAS: the accumulator less what stands at RDI, which alone moves
strings_scanned :
    (effect (string op.Scas 8 No) (strings 0x9901 6 0x2000 0x2009) 2 ≡ quiet (strings 0x9901 6 0x2000 0x200A) 0x87) ×
    (effect (string op.Scas 16 WhileNot) (strings 0x991110 2 0x2000 0x2008) 0x402 ≡ quiet (strings 0x991110 1 0x2000 0x2006) 0x446) ×
    (effect (string op.Scas 8 WhileNot) (strings 0x01 2 0x2000 0x2009) 2 ≡ going 0x1000 (strings 0x01 1 0x2000 0x200A) 0x87 None act.Quiet) ×
    (effect (string op.Scas 8 WhileEqual) (strings 0x01 2 0x2000 0x2009) 2 ≡ quiet (strings 0x01 1 0x2000 0x200A) 0x87)
unfolding effect_of gathered with_flag lib.Count.ones strings string accessed completed reached crosses has_canonical_bytes first_part number_at wp_of smep_of
strings_scanned = (refl, refl, refl, refl)
