-- What is spelled has a text: its numbers have their bits, and an address that starts from the next instruction has no base.
use Rattle.std.proofs.Common.{◌≡◌, ◌⊎◌, ℕ, zero, suc, ◌+◌, ◌-◌, ◌*◌, ◌/◌, ◌^◌, ◌<◌, true, List, [], ◌∷◌, ◌++◌, length, drop, inl, inr, refl, sym, subst, arith}
use Rattle.std.specs.Prelude.{◌==◌, nat_lt, None, Some, Option, IfSome, nat_le, slice_index, if◌then◌else◌, is_none, ◌&&◌, ◌||◌, ⊤}
use Rattle.std.proofs.Math.Nat.{pow-suc}
use Rattle.std.proofs.lemmas.Nat.{pow_below}
use Rattle.std.proofs.Math.Seq.{drop-append_seam}
use Rattle.std.proofs.lemmas.Bool.{cond_both}
use Rattle.std.proofs.lemmas.List.Elements.{All-drop, All-head, All-tail}
use Rattle.decode_fields.specs.declared.parts.ModRm.{ModRm}
use Rattle.decode_fields.specs.declared.parts.Prefixes.{Prefixes}
use Rattle.decode_fields.specs.declared.place.Address.{Address}
use Rattle.decode_fields.specs.declared.place.Place.{Place}
use Rattle.decode_fields.specs.declared.place.Place.TheVariants.{Nothing, Reg, High, Mem, Value}
use Rattle.decode_fields.specs.Bounds.{IsPlace}
use Rattle.decode_fields.specs.Immediates.{number_of, sign_extended, signed_number}
use Rattle.decode_fields.specs.ModRm.{displacement, displacement_from, displacement_size, front_size, has_sib, is_register, is_rip_relative, lacks_base, mod_field, modrm_byte, place_of, plain_address, reg_field, rex_b, rex_x, rm_field, sib_address, sib_byte}
use Rattle.decode_fields.specs.Widths.{IsWidth}
use Rattle.decode_fields.specs.Prefixes.{prefixes_of}
use Rattle.x86_decode.specs.declared.instruction.Instr.{Instr}
use Rattle.x86_decode.specs.declared.shape.Number.{Number}
use Rattle.x86_decode.specs.declared.shape.Number.TheVariants as number
use Rattle.x86_decode.specs.declared.shape.Operand.{Operand}
use Rattle.x86_decode.specs.declared.shape.Operand.TheVariants.{Absent, Eb, Ev, Gb, Gv, Zb, Zv, Accumulator, Counter, Port, Constant}
use Rattle.x86_decode.specs.declared.shape.RowLayout.{RowLayout}
use Rattle.x86_decode.specs.declared.shape.RowLayout.TheVariants.{Plain, AnyForm, Memory, Register, Ignored}
use Rattle.x86_decode.specs.Meaning.{byte_register, cut_number, fields_of, instr_of, layout_length, number_size, number_value, opcode_register, operand_place, place_of_byte, rex_number, width_of}
use Rattle.x86_decode.specs.Spelling.{AreBytes, Parts, Spells, bytes_of, opcode_bytes}
use Rattle.x86_decode.specs.SpellingLaws.{SpellingLaws}
use Rattle.x86_decode.specs.WellFormed.{IsWellFormed}
use Rattle.asm_text.specs.InstructionTexts.{HasPlaceText, HasText}

-- Numbers of bytes.

byte_small : (bytes : List ℕ) (i : ℕ) → AreBytes bytes → slice_index bytes i < 256
byte_small [] i are = omega arith
byte_small (byte ∷ later) zero are = All-head (λ b. b < 256) byte later are
byte_small (byte ∷ later) (suc i) are = byte_small later i (All-tail (λ b. b < 256) byte later are)

some_power : (n : ℕ) → 0 < 256 ^ n
some_power zero = omega arith
some_power (suc n) = omega (arith, some_power n, pow-suc 256 n)

number_small : (n : ℕ) (bytes : List ℕ) → AreBytes bytes → number_of n bytes < 256 ^ n
number_small zero bytes are = omega arith
number_small (suc n) [] are = omega (arith, some_power n, pow-suc 256 n)
number_small (suc n) (byte ∷ later) are =
    omega (
      arith,
      All-head (λ b. b < 256) byte later are,
      number_small n later (All-tail (λ b. b < 256) byte later are),
      pow-suc 256 n,
    )

extended_small : (width n : ℕ) → n < 2 ^ width → width < 64 → sign_extended width n < 2 ^ 64
extended_small width n small narrow =
    let top : 2 ^ width < 2 ^ 64 = pow_below width 64 narrow in
    cond_both (nat_lt n (2 ^ (width - 1))) n (n + (2 ^ 64 - 2 ^ width)) (λ r. r < 2 ^ 64)
    (λ e. omega (arith, small, top)) (λ e. omega (arith, small, top))

byte_extended : (bytes : List ℕ) → AreBytes bytes → signed_number 8 bytes < 2 ^ 64
byte_extended bytes are = extended_small 8 (number_of 1 bytes) (omega (arith, number_small 1 bytes are)) (omega arith)

four_extended : (bytes : List ℕ) → AreBytes bytes → signed_number 32 bytes < 2 ^ 64
four_extended bytes are = extended_small 32 (number_of 4 bytes) (omega (arith, number_small 4 bytes are)) (omega arith)

-- Places.

displacement_of_size : (front size : ℕ) (bytes : List ℕ) → AreBytes bytes → (size ≡ 0) ⊎ ((size ≡ 1) ⊎ (size ≡ 4))
    → displacement_from front size bytes < 2 ^ 64
displacement_of_size front size bytes are (inl none) =
    subst (λ n. displacement_from front n bytes < 2 ^ 64) (sym none) (omega arith)
displacement_of_size front size bytes are (inr (inl one)) =
    subst (λ n. displacement_from front n bytes < 2 ^ 64) (sym one)
    (byte_extended (drop front bytes) (All-drop (λ b. b < 256) front bytes are))
displacement_of_size front size bytes are (inr (inr four)) =
    subst (λ n. displacement_from front n bytes < 2 ^ 64) (sym four)
    (four_extended (drop front bytes) (All-drop (λ b. b < 256) front bytes are))

sizes : (modrm sib : ℕ) → (displacement_size modrm sib ≡ 0) ⊎ ((displacement_size modrm sib ≡ 1) ⊎ (displacement_size modrm sib ≡ 4))
sizes modrm sib =
    let P : ℕ → Type 0 = λ n. (n ≡ 0) ⊎ ((n ≡ 1) ⊎ (n ≡ 4)) in
    let far = mod_field modrm == 2 || is_rip_relative modrm || lacks_base modrm sib in
    cond_both (mod_field modrm == 1) 1 (if far then 4 else 0) P (λ e. inr (inl refl))
    (λ e. cond_both far 4 0 P (λ e. inr (inr refl)) (λ e. inl refl))

displacement_small : (bytes : List ℕ) → AreBytes bytes → displacement bytes < 2 ^ 64
displacement_small bytes are =
    displacement_of_size (front_size (modrm_byte bytes)) (displacement_size (modrm_byte bytes) (sib_byte bytes)) bytes are
    (sizes (modrm_byte bytes) (sib_byte bytes))

-- what more is asked of an address than its registers
record IsOffset (address : Address) : Type 0 where
  scale : address.scale < 2 ^ 8
  disp : address.disp < 2 ^ 64
  alone : address.rip ≡ true → address.base ≡ None

abbrev HasOffset : Place → Type 0
HasOffset Nothing = ⊤
HasOffset (Reg number) = ⊤
HasOffset (High number) = ⊤
HasOffset (Mem address) = IsOffset address
HasOffset Value = ⊤

sib_offset : (modrm sib rex disp : ℕ) → sib < 256 → disp < 2 ^ 64 → IsOffset (sib_address modrm sib rex disp)
sib_offset modrm sib rex disp byte small = record {
  scale = cond_both (reg_field sib + 8 * rex_x rex == 4) 1 (2 ^ mod_field sib) (λ s. s < 2 ^ 8) (λ e. omega arith)
      (λ e. pow_below (mod_field sib) 8 (omega (arith, byte)));
  disp = small;
  alone = λ e. cc;
}

plain_offset : (modrm rex disp : ℕ) → disp < 2 ^ 64 → IsOffset (plain_address modrm rex disp)
plain_offset modrm rex disp small = record {
  scale = omega arith;
  disp = small;
  alone = λ e i. if e i then None else Some (rm_field modrm + 8 * rex_b rex);
}

place_offset : (bytes : List ℕ) (rex : ℕ) → AreBytes bytes → HasOffset (place_of bytes rex)
unfolding place_of
place_offset bytes rex are =
    let modrm = modrm_byte bytes in
    let sib = sib_byte bytes in
    let disp = displacement bytes in
    let small = displacement_small bytes are in
    cond_both (is_register modrm) (Reg (rm_field modrm + 8 * rex_b rex))
    (Mem (if has_sib modrm then sib_address modrm sib rex disp else plain_address modrm rex disp)) HasOffset
    (λ e. tt)
    (λ e. cond_both (has_sib modrm) (sib_address modrm sib rex disp) (plain_address modrm rex disp) IsOffset
    (λ e. sib_offset modrm sib rex disp (byte_small bytes 1 are) small) (λ e. plain_offset modrm rex disp small))

byte_offset : (rex : Option ℕ) (n : ℕ) → HasOffset (byte_register rex n)
byte_offset rex n = cond_both (is_none rex && nat_le 4 n) (High (n - 4)) (Reg n) HasOffset (λ e. tt) (λ e. tt)

byte_place_offset : (rex : Option ℕ) (place : Place) → HasOffset place → HasOffset (place_of_byte rex place)
byte_place_offset rex Nothing has = tt
byte_place_offset rex (Reg n) has = byte_offset rex n
byte_place_offset rex (High n) has = tt
byte_place_offset rex (Mem address) has = has
byte_place_offset rex Value has = tt

fields_offset : (layout : RowLayout) (operands : List ℕ) (rex : ℕ) → AreBytes operands
    → HasOffset (fields_of layout operands rex).place
fields_offset Plain operands rex are = tt
fields_offset AnyForm operands rex are = place_offset operands rex are
fields_offset Memory operands rex are = place_offset operands rex are
fields_offset Register operands rex are = place_offset operands rex are
fields_offset Ignored operands rex are = tt

operand_offset : (operand : Operand) (prefixes : Prefixes) (opcode : ℕ) (fields : ModRm) → HasOffset fields.place
    → HasOffset (operand_place operand prefixes opcode fields)
operand_offset Absent prefixes opcode fields has = tt
operand_offset Eb prefixes opcode fields has = byte_place_offset prefixes.rex fields.place has
operand_offset Ev prefixes opcode fields has = has
operand_offset Gb prefixes opcode fields has = byte_offset prefixes.rex fields.reg
operand_offset Gv prefixes opcode fields has = tt
operand_offset Zb prefixes opcode fields has = byte_offset prefixes.rex (opcode_register prefixes opcode)
operand_offset Zv prefixes opcode fields has = tt
operand_offset Accumulator prefixes opcode fields has = tt
operand_offset Counter prefixes opcode fields has = tt
operand_offset Port prefixes opcode fields has = tt
operand_offset Constant prefixes opcode fields has = tt

wider : (register : Option ℕ) → IfSome register (λ n. n < 16) → IfSome register (λ n. n < 2 ^ 8)
wider None small = tt
wider (Some n) small = omega (arith, small)

place_has_text : (place : Place) → IsPlace place → HasOffset place → HasPlaceText place
place_has_text Nothing is has = tt
place_has_text (Reg n) is has = omega (arith, is)
place_has_text (High n) is has = omega (arith, is)
place_has_text (Mem address) is has = record {
  base = wider address.base is.base;
  index = wider address.index is.index;
  scale = has.scale;
  disp = has.disp;
  alone = has.alone;
}
place_has_text Value is has = tt

-- The number.

cut_small : (size width : ℕ) (bytes : List ℕ) → IsWidth width → cut_number size width bytes < 2 ^ 64
cut_small size width bytes (inl e) = rw e (omega arith)
cut_small size width bytes (inr (inl e)) = rw e (omega arith)
cut_small size width bytes (inr (inr (inl e))) = rw e (omega arith)
cut_small size width bytes (inr (inr (inr e))) = rw e (omega arith)

value_small : (kind : Number) (width reg : ℕ) (bytes : List ℕ) → IsWidth width → reg < 16 → AreBytes bytes
    → number_value kind width reg bytes < 2 ^ 64
value_small number.Zero width reg bytes is small are = omega arith
value_small number.One width reg bytes is small are = omega arith
value_small number.Ib width reg bytes is small are = cut_small 1 width bytes is
value_small number.Iz width reg bytes is small are = cut_small (number_size number.Iz width) width bytes is
value_small number.Iv width reg bytes is small are = cut_small (width / 8) width bytes is
value_small number.Jz width reg bytes is small are = cut_small 4 width bytes is
value_small number.Ub width reg bytes is small are = omega (arith, byte_small bytes 0 are)
value_small number.Uw width reg bytes is small are = omega (arith, byte_small bytes 0 are, byte_small bytes 1 are)
value_small number.Cn width reg bytes is small are = omega (arith, small)

reg_small : (layout : RowLayout) (operands : List ℕ) (rex : ℕ) → (fields_of layout operands rex).reg < 16
reg_small Plain operands rex = omega arith
reg_small AnyForm operands rex = omega arith
reg_small Memory operands rex = omega arith
reg_small Register operands rex = omega arith
reg_small Ignored operands rex = omega arith

-- The whole.

behind_are_bytes : (front behind : List ℕ) → AreBytes (front ++ behind) → AreBytes behind
behind_are_bytes front behind are =
    subst AreBytes (drop-append_seam front behind) (All-drop (λ b. b < 256) (length front) (front ++ behind) are)

operand_bytes : (parts : Parts) → AreBytes (bytes_of parts) → AreBytes parts.operands
operand_bytes parts are =
    behind_are_bytes (opcode_bytes parts.map parts.opcode) parts.operands
    (behind_are_bytes parts.front (opcode_bytes parts.map parts.opcode ++ parts.operands) are)

small_width : (width : ℕ) → IsWidth width → width < 2 ^ 8
small_width width (inl e) = omega (arith, e)
small_width width (inr (inl e)) = omega (arith, e)
small_width width (inr (inr (inl e))) = omega (arith, e)
small_width width (inr (inr (inr e))) = omega (arith, e)

parts_have_text : (parts : Parts) → AreBytes parts.operands
    → IsWellFormed (instr_of parts.row.op parts.row.shape (prefixes_of parts.front) parts.opcode parts.operands)
    → HasText (instr_of parts.row.op parts.row.shape (prefixes_of parts.front) parts.opcode parts.operands)
parts_have_text parts are formed =
    let shape = parts.row.shape in
    let prefixes = prefixes_of parts.front in
    let rex = rex_number prefixes in
    let fields = fields_of shape.layout parts.operands rex in
    let has = fields_offset shape.layout parts.operands rex are in
    record {
      condition = formed.condition;
      width = small_width (width_of shape.width prefixes) formed.width;
      to = place_has_text (operand_place shape.to prefixes parts.opcode fields) formed.to
          (operand_offset shape.to prefixes parts.opcode fields has);
      from = place_has_text (operand_place shape.from prefixes parts.opcode fields) formed.from
          (operand_offset shape.from prefixes parts.opcode fields has);
      value = value_small shape.number (width_of shape.width prefixes) fields.reg
          (drop (layout_length shape.layout parts.operands) parts.operands) formed.width
          (reg_small shape.layout parts.operands rex)
          (All-drop (λ b. b < 256) (layout_length shape.layout parts.operands) parts.operands are);
    }

pub spelled_has_text : (laws : SpellingLaws) (instr : Instr) (bytes : List ℕ) → Spells instr bytes → HasText instr
spelled_has_text laws instr bytes it =
    let parts = it.parts in
    let are = operand_bytes parts (subst AreBytes it.spelled it.are_bytes) in
    let formed = subst IsWellFormed it.meaning (laws.formed instr bytes it) in
    subst HasText (sym it.meaning) (parts_have_text parts are formed)
