-- Texts at worked values, and texts that no instruction has.
use Rattle.std.proofs.Common.{◌≡◌, ℕ, true, false, List, codes, refl}
use Rattle.std.specs.Prelude.{None, Some}
use Rattle.std.specs.Fmt.{digits}
use Rattle.std.specs.Str.{bytes_eq}
use Rattle.decode_fields.specs.declared.parts.Rep.TheVariants.{No, WhileEqual, WhileNot}
use Rattle.decode_fields.specs.declared.place.Place.{Place}
use Rattle.decode_fields.specs.declared.place.Place.TheVariants.{Nothing, Reg, High, Mem, Value}
use Rattle.x86_decode.specs.declared.instruction.Instr.{Instr}
use Rattle.x86_decode.specs.declared.operation.Op.{Op}
use Rattle.x86_decode.specs.declared.operation.Op.TheVariants.{Add, Cmov, J, Lea, Mov, Movs, Movfc, Movzx8, Scas, Set}
use Rattle.asm_text.specs.InstructionTexts.{HasText, instr_text, place_text}
use Rattle.asm_text.specs.Operations.{op_name}
use Rattle.asm_text.specs.ParsedTexts.{address_said, bytes_past, bytes_to, parsed, parsed_behind, place_of_name, place_said}
use Rattle.asm_text.proofs.ReadTexts.{read_none}

abbrev instr_with : Op → ℕ → Place → Place → ℕ → Instr
instr_with op width to from value =
    record { op = op; width = width; to = to; from = from; value = value; rep = No; lock = false }

abbrev at_next : ℕ → Place
at_next disp = Mem (record { base = None; index = None; scale = 1; disp = disp; rip = true })

abbrev summed : Place
summed = Mem (record { base = Some 5; index = Some 12; scale = 8; disp = 0xFFFFFFFFFFFFFFF0; rip = false })

-- operations, widths, registers and numbers
plain :
    (instr_text (instr_with Mov 8 (Reg 0) Value 0x41) ≡ codes "mov.8 r0 value 41") ×
    (instr_text (instr_with Mov 32 (Reg 0) (Reg 1) 0) ≡ codes "mov.32 r0 r1 0") ×
    (instr_text (instr_with Mov 64 (Reg 0) Value 0xC0220F) ≡ codes "mov.64 r0 value c0220f") ×
    (instr_text (instr_with Mov 64 (Reg 3) Value 0xFFFFFFFF80001000) ≡ codes "mov.64 r3 value ffffffff80001000") ×
    (instr_text (instr_with Movfc 64 (Reg 15) Nothing 3) ≡ codes "movfc.64 r15 - 3") ×
    (instr_text (instr_with Movzx8 32 (Reg 9) (High 2) 0) ≡ codes "movzx8.32 r9 h2 0")
unfolding instr_text place_text op_name digits
plain = (refl, refl, refl, refl, refl, refl)

-- condition codes
conditional :
    (instr_text (instr_with (J 14) 64 Nothing Value 0x10) ≡ codes "je.64 - value 10") ×
    (instr_text (instr_with (Set 9) 8 (High 3) Nothing 0) ≡ codes "set9.8 h3 - 0") ×
    (instr_text (instr_with (Cmov 10) 16 (Reg 1) (Reg 2) 0) ≡ codes "cmova.16 r1 r2 0")
unfolding instr_text place_text op_name digits
conditional = (refl, refl, refl)

-- places in memory
addresses :
    (instr_text (instr_with Lea 64 (Reg 2) (at_next 0x1234) 0) ≡ codes "lea.64 r2 [rip,-,1,1234] 0") ×
    (instr_text (instr_with Mov 16 summed (Reg 10) 0) ≡ codes "mov.16 [r5,r12,8,fffffffffffffff0] r10 0") ×
    (instr_text (instr_with Mov 8 (Mem (record { base = None; index = None; scale = 1; disp = 0x7F; rip = false })) Value 0xFF)
    ≡ codes "mov.8 [-,-,1,7f] value ff")
unfolding instr_text place_text op_name digits
addresses = (refl, refl, refl)

-- prefixes
prefixed :
    (instr_text (record (instr_with Add 32 summed Value 1) { lock = true })
    ≡ codes "lock add.32 [r5,r12,8,fffffffffffffff0] value 1") ×
    (instr_text (record (instr_with Movs 8 Nothing Nothing 0) { rep = WhileEqual }) ≡ codes "repe movs.8 - - 0") ×
    (instr_text (record (instr_with Scas 64 Nothing Nothing 0) { rep = WhileNot; lock = true })
    ≡ codes "lock repne scas.64 - - 0")
unfolding instr_text place_text op_name digits
prefixed = (refl, refl, refl)

-- Texts that no instruction has.

abbrev NoText : List ℕ → Type 0
NoText text = (instr : Instr) → HasText instr → instr_text instr ≡ text → ⊥

-- what it says has another text
no_text : (text : List ℕ) → bytes_eq (instr_text (parsed text)) text ≡ false → NoText text
no_text text other = read_none text (parsed text) refl other

-- sizes, zeros in front, capital letters, and spaces
refused :
    NoText (codes "mov.8 r0 r1 ") ×
    NoText (codes "") ×
    NoText (codes "mov.8 r0 value 041") ×
    NoText (codes "mov.08 r0 value 41") ×
    NoText (codes "mov.8 r00 value 41") ×
    NoText (codes "mov.256 r0 value 41") ×
    NoText (codes "mov.8 r0 value C") ×
    NoText (codes "Mov.8 r0 value 41") ×
    NoText (codes "mov.8  r0 value 41") ×
    NoText (codes "mov.8 r0 value 41 ")
unfolding parsed parsed_behind place_said address_said bytes_to bytes_past place_of_name instr_text place_text op_name digits
refused = (
  no_text (codes "mov.8 r0 r1 ") refl,
  no_text (codes "") refl,
  no_text (codes "mov.8 r0 value 041") refl,
  no_text (codes "mov.08 r0 value 41") refl,
  no_text (codes "mov.8 r00 value 41") refl,
  no_text (codes "mov.256 r0 value 41") refl,
  no_text (codes "mov.8 r0 value C") refl,
  no_text (codes "Mov.8 r0 value 41") refl,
  no_text (codes "mov.8  r0 value 41") refl,
  no_text (codes "mov.8 r0 value 41 ") refl,
)
