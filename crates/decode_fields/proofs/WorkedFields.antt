-- Widths, prefix bytes, immediates and registers at worked values: SDM volume 2, 2.1.1, 2.2.1 and 2.2.1.5.
use Rattle.std.proofs.Common.{◌≡◌, ◌-◌, ◌^◌, true, false, [], ◌∷◌, None, Some, refl, arith, inl, inr}
use Rattle.decode_fields.specs.declared.parts.Rep.TheVariants.{No, WhileEqual, WhileNot}
use Rattle.decode_fields.specs.declared.place.Place.TheVariants.{Nothing, Reg, High, Mem, Value}
use Rattle.decode_fields.specs.Bounds.{IsHigh, IsLow, IsPlace}
use Rattle.decode_fields.specs.Immediates.{immediate_of, number_of, sign_extended, signed_number}
use Rattle.decode_fields.specs.Prefixes.{is_prefix, is_repeat, is_rex, prefix_bytes, prefixes_of, rep_named, rep_of, rex_named, rex_of}
use Rattle.decode_fields.specs.Widths.{IsWidth}

-- SDM volume 1, 4.1: a byte, a word, a doubleword and a quadword have 8, 16, 32 and 64 bits
widths : IsWidth 8 × IsWidth 16 × IsWidth 32 × IsWidth 64
widths = (inl refl, inr (inl refl), inr (inr (inl refl)), inr (inr (inr refl)))

-- SDM volume 2, 2.2.1: REX is 40 to 4F, and its neighbours are none
rex_bytes :
    (is_rex 0x3F ≡ false) × (is_rex 0x40 ≡ true) × (is_rex 0x48 ≡ true) × (is_rex 0x4F ≡ true) × (is_rex 0x50 ≡ false) ×
    (is_rex 0 ≡ false)
rex_bytes = (refl, refl, refl, refl, refl, refl)

-- SDM volume 2, 2.1.1: LOCK, REPNE, REP; CS, SS, DS and ES; the operand size
prefixes_there_are :
    (is_prefix 0xF0 ≡ true) × (is_prefix 0xF2 ≡ true) × (is_prefix 0xF3 ≡ true) ×
    (is_prefix 0x2E ≡ true) × (is_prefix 0x36 ≡ true) × (is_prefix 0x3E ≡ true) × (is_prefix 0x26 ≡ true) ×
    (is_prefix 0x66 ≡ true) × (is_prefix 0x40 ≡ true) × (is_prefix 0x4F ≡ true)
prefixes_there_are = (refl, refl, refl, refl, refl, refl, refl, refl, refl, refl)

-- FS, GS and the address size, which the machine doesn't have; 0F, which escapes to the second map; and opcodes beside
-- the prefixes: AND, SUB, XOR, CMP, PUSH, MOVSXD, PUSH Iz, INT1, HLT
other_bytes :
    (is_prefix 0x64 ≡ false) × (is_prefix 0x65 ≡ false) × (is_prefix 0x67 ≡ false) × (is_prefix 0x0F ≡ false) ×
    (is_prefix 0x25 ≡ false) × (is_prefix 0x2D ≡ false) × (is_prefix 0x35 ≡ false) × (is_prefix 0x3D ≡ false) ×
    (is_prefix 0x50 ≡ false) × (is_prefix 0x63 ≡ false) × (is_prefix 0x68 ≡ false) × (is_prefix 0xF1 ≡ false) ×
    (is_prefix 0xF4 ≡ false) × (is_prefix 0 ≡ false) × (is_prefix 0xFF ≡ false)
other_bytes = (refl, refl, refl, refl, refl, refl, refl, refl, refl, refl, refl, refl, refl, refl, refl)

-- 66 48 89 D8 is MOV RAX, RBX with two prefix bytes; 90 is NOP, which ends them
fronts :
    (prefix_bytes [] ≡ []) × (prefix_bytes (0xF3 ∷ []) ≡ 0xF3 ∷ []) ×
    (prefix_bytes (0x66 ∷ 0x48 ∷ 0x89 ∷ 0xD8 ∷ []) ≡ 0x66 ∷ 0x48 ∷ []) × (prefix_bytes (0x90 ∷ 0x66 ∷ []) ≡ []) ×
    (prefix_bytes (0x48 ∷ 0x66 ∷ 0xF0 ∷ 0x01 ∷ 0x48 ∷ []) ≡ 0x48 ∷ 0x66 ∷ 0xF0 ∷ [])
fronts = (refl, refl, refl, refl, refl)

-- SDM volume 2, 2.1.1: F2 is REPNE and F3 is REP and REPE; F0 is LOCK; of several the last counts
repeats :
    (is_repeat 0xF2 ≡ true) × (is_repeat 0xF3 ≡ true) × (is_repeat 0xF0 ≡ false) × (is_repeat 0xF1 ≡ false) ×
    (is_repeat 0xF4 ≡ false) × (rep_named None ≡ No) × (rep_named (Some 0xF2) ≡ WhileNot) ×
    (rep_named (Some 0xF3) ≡ WhileEqual) × (rep_of [] ≡ No) × (rep_of (0x66 ∷ 0xF0 ∷ 0x48 ∷ []) ≡ No) ×
    (rep_of (0xF2 ∷ 0xF3 ∷ []) ≡ WhileEqual) × (rep_of (0xF3 ∷ 0xF2 ∷ []) ≡ WhileNot) ×
    (rep_of (0xF3 ∷ 0x66 ∷ []) ≡ WhileEqual) × (rep_of (0xF3 ∷ 0xF2 ∷ 0x66 ∷ 0x48 ∷ []) ≡ WhileNot)
repeats = (refl, refl, refl, refl, refl, refl, refl, refl, refl, refl, refl, refl, refl, refl)

-- SDM volume 2, 2.2.1: REX stands right before the opcode, and elsewhere it is ignored
rexes :
    (rex_named None ≡ None) × (rex_named (Some 0x48) ≡ Some 0x48) × (rex_named (Some 0x66) ≡ None) × (rex_of [] ≡ None) ×
    (rex_of (0x41 ∷ []) ≡ Some 0x41) × (rex_of (0x66 ∷ 0x4F ∷ []) ≡ Some 0x4F) × (rex_of (0x48 ∷ 0x66 ∷ []) ≡ None) ×
    (rex_of (0x48 ∷ 0x41 ∷ []) ≡ Some 0x41) × (rex_of (0x48 ∷ 0xF3 ∷ 0x40 ∷ []) ≡ Some 0x40)
rexes = (refl, refl, refl, refl, refl, refl, refl, refl, refl)

-- what prefix bytes say together: of none, of each kind, and where two counted
said :
    (prefixes_of [] ≡ record { length = 0; narrow = false; lock = false; rep = No; rex = None }) ×
    (prefixes_of (0x66 ∷ []) ≡ record { length = 1; narrow = true; lock = false; rep = No; rex = None }) ×
    (prefixes_of (0xF0 ∷ 0x49 ∷ []) ≡ record { length = 2; narrow = false; lock = true; rep = No; rex = Some 0x49 }) ×
    (prefixes_of (0x2E ∷ 0xF2 ∷ []) ≡ record { length = 2; narrow = false; lock = false; rep = WhileNot; rex = None }) ×
    (prefixes_of (0xF0 ∷ 0xF2 ∷ 0x48 ∷ 0x66 ∷ 0xF3 ∷ 0x44 ∷ [])
    ≡ record { length = 6; narrow = true; lock = true; rep = WhileEqual; rex = Some 0x44 })
said = (refl, refl, refl, refl, refl)

-- the least byte stands first (SDM volume 1, 1.3.1); a byte that isn't there counts as 0
numbers :
    (number_of 0 (0x12 ∷ []) ≡ 0) × (number_of 1 (0x34 ∷ 0x12 ∷ []) ≡ 0x34) × (number_of 2 (0x34 ∷ 0x12 ∷ []) ≡ 0x1234) ×
    (number_of 4 (0x78 ∷ 0x56 ∷ 0x34 ∷ 0x12 ∷ []) ≡ 0x12345678) × (number_of 2 (0xFF ∷ []) ≡ 0xFF) × (number_of 4 [] ≡ 0) ×
    (number_of 8 (0xFF ∷ 0xFF ∷ 0xFF ∷ 0xFF ∷ 0xFF ∷ 0xFF ∷ 0xFF ∷ 0xFF ∷ []) ≡ 2 ^ 64 - 1) ×
    (number_of 8 (0 ∷ 0 ∷ 0 ∷ 0 ∷ 0 ∷ 0 ∷ 0 ∷ 0x80 ∷ []) ≡ 0x8000000000000000)
numbers = (refl, refl, refl, refl, refl, refl, refl, refl)

-- SDM volume 2, 2.2.1.5: the sign bit fills the bits above, at each width; 64 bits have none above them
signs :
    (sign_extended 8 0 ≡ 0) × (sign_extended 8 0x7F ≡ 0x7F) × (sign_extended 8 0x80 ≡ 0xFFFFFFFFFFFFFF80) ×
    (sign_extended 8 0xFF ≡ 0xFFFFFFFFFFFFFFFF) × (sign_extended 16 0x7FFF ≡ 0x7FFF) ×
    (sign_extended 16 0x8000 ≡ 0xFFFFFFFFFFFF8000) × (sign_extended 32 0x80 ≡ 0x80) ×
    (sign_extended 32 0x7FFFFFFF ≡ 0x7FFFFFFF) × (sign_extended 32 0x80000000 ≡ 0xFFFFFFFF80000000) ×
    (sign_extended 64 0x7FFFFFFFFFFFFFFF ≡ 0x7FFFFFFFFFFFFFFF) ×
    (sign_extended 64 0x8000000000000000 ≡ 0x8000000000000000) × (sign_extended 64 0xFFFFFFFFFFFFFFFF ≡ 0xFFFFFFFFFFFFFFFF)
signs = (refl, refl, refl, refl, refl, refl, refl, refl, refl, refl, refl, refl)

-- an immediate: of its width's bytes, with its sign; none where its last byte isn't there
immediates :
    (signed_number 8 (0xF0 ∷ 0x01 ∷ []) ≡ 0xFFFFFFFFFFFFFFF0) × (signed_number 16 (0x34 ∷ 0x12 ∷ []) ≡ 0x1234) ×
    (signed_number 32 (0xFE ∷ 0xFF ∷ 0xFF ∷ 0xFF ∷ []) ≡ 0xFFFFFFFFFFFFFFFE) × (immediate_of [] 8 ≡ None) ×
    (immediate_of (0x80 ∷ []) 8 ≡ Some 0xFFFFFFFFFFFFFF80) × (immediate_of (0x80 ∷ []) 16 ≡ None) ×
    (immediate_of (0x78 ∷ 0x56 ∷ 0x34 ∷ []) 32 ≡ None) ×
    (immediate_of (0x78 ∷ 0x56 ∷ 0x34 ∷ 0x12 ∷ 0x99 ∷ []) 32 ≡ Some 0x12345678) ×
    (immediate_of (1 ∷ 2 ∷ 3 ∷ 4 ∷ 5 ∷ 6 ∷ 7 ∷ []) 64 ≡ None) ×
    (immediate_of (1 ∷ 2 ∷ 3 ∷ 4 ∷ 5 ∷ 6 ∷ 7 ∷ 0x88 ∷ []) 64 ≡ Some 0x8807060504030201)
immediates = (refl, refl, refl, refl, refl, refl, refl, refl, refl, refl)

-- SDM volume 2, 2.2.1.2: sixteen registers with REX, R15 the last; eight without; AH, CH, DH and BH
last_registers : IsPlace (Reg 15) × IsPlace (High 3) × IsPlace Nothing × IsPlace Value × IsLow (Reg 7) × IsLow (High 3) × IsHigh (High 0)
last_registers = (omega arith, omega arith, tt, tt, omega arith, tt, tt)

-- R12 with R15 scaled, and an address without registers
addresses :
    IsPlace (Mem (record { base = Some 12; index = Some 15; scale = 8; disp = 0; rip = false })) ×
    IsPlace (Mem (record { base = None; index = None; scale = 1; disp = 2 ^ 64 - 1; rip = true })) ×
    IsLow (Mem (record { base = Some 12; index = Some 15; scale = 8; disp = 0; rip = false }))
addresses = (record { base = omega arith; index = omega arith }, record { base = tt; index = tt }, tt)
