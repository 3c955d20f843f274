-- An operand that a row spells passes the tests that are made before its bytes are put together.
use Rattle.std.proofs.Common.{◌≡◌, ℕ, ◌+◌, ◌-◌, ◌*◌, ◌/◌, ◌%◌, ◌<◌, ◌≤◌, Bool, true, false, ◌&&◌, ◌||◌, not, cond, nat_eq, nat_le, Option, Some, None, List, refl, ap, sym, ◌∙◌, arith}
use Rattle.std.specs.Prelude.{is_none, unwrap_or}
use Rattle.std.proofs.lemmas.Bool.{and_from, and_parts, cond_both, eq-eqb, eqb-true, leb-true, not-true, or_right}
use Rattle.decode_fields.specs.declared.parts.ModRm.{ModRm}
use Rattle.decode_fields.specs.declared.parts.Prefixes.{Prefixes}
use Rattle.decode_fields.specs.declared.place.Address.{Address}
use Rattle.decode_fields.specs.declared.place.Place.{Place}
use Rattle.decode_fields.specs.declared.place.Place.TheVariants.{Reg, High, Mem}
use Rattle.decode_fields.specs.ModRm.{displacement, has_sib, index_of, is_register, is_rip_relative, lacks_base, modrm_byte, place_by, place_of, plain_address, reg_by, reg_field, rex_b, rex_r, rex_x, rm_field, sib_address, sib_byte}
use Rattle.x86_decode.specs.declared.shape.Operand.{Operand}
use Rattle.x86_decode.specs.declared.shape.Operand.TheVariants as operand
use Rattle.x86_decode.specs.declared.shape.RowLayout.{RowLayout}
use Rattle.x86_decode.specs.declared.shape.RowLayout.TheVariants as layout
use Rattle.x86_decode.specs.Meaning.{byte_register, fields_of, opcode_register, operand_place, place_of_byte, rex_number}
use Rattle.asm_text.specs.Assembly.{operand_bytes}
use Rattle.asm_text.specs.Fitting.{address_fits, asks_sib, has_bit, has_high_bit, is_by_reg, is_by_rm, is_byte_register, is_general, is_ignored_layout, is_memory_place, is_option_of, is_plain_layout, letter_fits, low_of, low_or, place_disp, reg_fits, rex_fits, rm_fits, sib_low}
use Rattle.asm_text.proofs.OperandBytes.{operands_register}

-- REX as a number
abbrev pub number_of_rex : Option ℕ → ℕ
number_of_rex rex = unwrap_or rex 0

is_none_is : (rex : Option ℕ) → is_none rex ≡ true → rex ≡ None
is_none_is None h = refl
is_none_is (Some byte) h = absurd (cc)

-- a byte register is a general one, or without REX a high one
byte_register_cases : (P : Place → Type 0) (rex : Option ℕ) (number : ℕ) → P (Reg number) → (rex ≡ None → 4 ≤ number → P (High (number - 4))) → P (byte_register rex number)
byte_register_cases P rex number general high =
    cond_both (is_none rex && nat_le 4 number) (High (number - 4)) (Reg number) P
    (λ h.
    let parts : (is_none rex ≡ true) × (nat_le 4 number ≡ true) = and_parts (is_none rex) (nat_le 4 number) h in
    high (is_none_is rex parts.0) (leb-true 4 number parts.1))
    (λ h. general)

-- what an operand by mod and rm has to pass
pub record IsByRm (rex : Option ℕ) (l : RowLayout) (modrm sib disp : ℕ) (place : Place) : Type 0 where
  pub high : (has_high_bit rex (rex_b (number_of_rex rex)) place && address_fits (number_of_rex rex) place) ≡ true
  pub form : rm_fits l place modrm ≡ true
  pub low : asks_sib l modrm ≡ true → sib_low place ≡ sib % 64
  pub bytes : (other : ℕ) → operand_bytes l modrm other (place_disp place) ≡ operand_bytes l modrm other disp

true_false : (b : Bool) → b ≡ true → b ≡ false → ⊥
true_false b h g = cc

sib_of_memory : (modrm : ℕ) → has_sib modrm ≡ true → is_register modrm ≡ false
sib_of_memory modrm h = not-true (is_register modrm) ((and_parts (not (is_register modrm)) (nat_eq (rm_field modrm) 4) h).0)

-- a register has no SIB
no_sib : (l : RowLayout) (modrm : ℕ) → (is_ignored_layout l || is_register modrm) ≡ true → asks_sib l modrm ≡ true → ⊥
no_sib layout.Plain modrm register asks = cc
no_sib layout.AnyForm modrm register asks = true_false (is_register modrm) register (sib_of_memory modrm asks)
no_sib layout.Memory modrm register asks = true_false (is_register modrm) register (sib_of_memory modrm asks)
no_sib layout.Register modrm register asks = true_false (is_register modrm) register (sib_of_memory modrm asks)
no_sib layout.Ignored modrm register asks = cc

general_by_rm : (rex : Option ℕ) (l : RowLayout) (modrm sib disp number : ℕ) → (is_ignored_layout l || is_register modrm) ≡ true → number ≡ rm_field modrm + 8 * rex_b (number_of_rex rex) → IsByRm rex l modrm sib disp (Reg number)
general_by_rm rex l modrm sib disp number register is = record {
  high = and_from (nat_eq (number / 8) (rex_b (number_of_rex rex))) true (eq-eqb (number / 8) (rex_b (number_of_rex rex)) (omega arith)) refl;
  form = and_from (is_ignored_layout l || is_register modrm) (nat_eq (number % 8) (rm_field modrm)) register (eq-eqb (number % 8) (rm_field modrm) (omega arith));
  low = λ asks. absurd (no_sib l modrm register asks);
  bytes = λ other. operands_register l modrm other 0 disp register;
}

-- the number of a high byte register, where no REX adds to it
high_low : (field number : ℕ) → field < 8 → number ≡ field + 8 * 0 → 4 ≤ number → (number - 4) % 4 + 4 ≡ field
high_low field number small is high = omega arith

high_by_rm : (rex : Option ℕ) (l : RowLayout) (modrm sib disp number : ℕ) → (is_ignored_layout l || is_register modrm) ≡ true → number ≡ rm_field modrm + 8 * rex_b (number_of_rex rex) → rex ≡ None → 4 ≤ number → IsByRm rex l modrm sib disp (High (number - 4))
high_by_rm rex l modrm sib disp number register is none four =
    let zero_bit : number ≡ rm_field modrm + 8 * 0 = is ∙ ap (λ r. rm_field modrm + 8 * rex_b (number_of_rex r)) none in
    let small : rm_field modrm < 8 = omega arith in
    record {
      high = and_from (is_none rex) true (ap is_none none) refl;
      form = and_from (is_ignored_layout l || is_register modrm) (nat_eq ((number - 4) % 4 + 4) (rm_field modrm)) register
          (eq-eqb ((number - 4) % 4 + 4) (rm_field modrm) (high_low (rm_field modrm) number small zero_bit four));
      low = λ asks. absurd (no_sib l modrm register asks);
      bytes = λ other. operands_register l modrm other 0 disp register;
    }

-- a base and an index that SIB names
base_bit : (baseless : Bool) (sib rex : ℕ) → has_bit (rex_b rex) (cond baseless None (Some (rm_field sib + 8 * rex_b rex))) ≡ true
base_bit true sib rex = refl
base_bit false sib rex = eq-eqb ((rm_field sib + 8 * rex_b rex) / 8) (rex_b rex) (omega arith)

base_low : (baseless : Bool) (sib rex : ℕ) → (baseless ≡ true → rm_field sib ≡ 5) → low_or 5 (cond baseless None (Some (rm_field sib + 8 * rex_b rex))) ≡ rm_field sib
base_low true sib rex five = sym (five refl)
base_low false sib rex five = omega arith

index_bit : (sib rex : ℕ) → has_bit (rex_x rex) (index_of sib rex) ≡ true
index_bit sib rex =
    let number : ℕ = reg_field sib + 8 * rex_x rex in
    cond_both (nat_eq number 4) None (Some number) (λ o. has_bit (rex_x rex) o ≡ true) (λ h. refl) (λ h. eq-eqb (number / 8) (rex_x rex) (omega arith))

index_low : (sib rex : ℕ) → low_or 4 (index_of sib rex) ≡ reg_field sib
index_low sib rex =
    let number : ℕ = reg_field sib + 8 * rex_x rex in
    cond_both (nat_eq number 4) None (Some number) (λ o. low_or 4 o ≡ reg_field sib)
    (λ h. let four : number ≡ 4 = eqb-true number 4 h in omega arith)
    (λ h. omega arith)

memory_form : (l : RowLayout) (modrm : ℕ) (address : Address) → is_register modrm ≡ false → rm_fits l (Mem address) modrm ≡ true
memory_form l modrm address memory = ap not memory

sib_by_rm : (rex : Option ℕ) (l : RowLayout) (modrm sib disp : ℕ) → is_register modrm ≡ false → IsByRm rex l modrm sib disp (Mem (sib_address modrm sib (number_of_rex rex) disp))
sib_by_rm rex l modrm sib disp memory =
    let r : ℕ = number_of_rex rex in
    let a : Address = sib_address modrm sib r disp in
    let index : low_or 4 a.index ≡ reg_field sib = index_low sib r in
    let base : low_or 5 a.base ≡ rm_field sib =
    base_low (lacks_base modrm sib) sib r (λ h. eqb-true (rm_field sib) 5 ((and_parts (has_sib modrm && nat_eq (modrm / 64) 0) (nat_eq (rm_field sib) 5) h).1)) in
    record {
      high = and_from (has_bit (rex_b r) a.base) (has_bit (rex_x r) a.index) (base_bit (lacks_base modrm sib) sib r) (index_bit sib r);
      form = memory_form l modrm a memory;
      low = λ asks. omega (arith, index, base);
      bytes = λ other. refl;
    }

asks_none : (l : RowLayout) (modrm : ℕ) → has_sib modrm ≡ false → asks_sib l modrm ≡ true → ⊥
asks_none layout.Plain modrm none asks = cc
asks_none layout.AnyForm modrm none asks = true_false (has_sib modrm) asks none
asks_none layout.Memory modrm none asks = true_false (has_sib modrm) asks none
asks_none layout.Register modrm none asks = true_false (has_sib modrm) asks none
asks_none layout.Ignored modrm none asks = cc

plain_by_rm : (rex : Option ℕ) (l : RowLayout) (modrm sib disp : ℕ) → is_register modrm ≡ false → has_sib modrm ≡ false → IsByRm rex l modrm sib disp (Mem (plain_address modrm (number_of_rex rex) disp))
plain_by_rm rex l modrm sib disp memory none =
    let r : ℕ = number_of_rex rex in
    let a : Address = plain_address modrm r disp in
    record {
      high = and_from (has_bit (rex_b r) a.base) true (base_bit (is_rip_relative modrm) modrm r) refl;
      form = memory_form l modrm a memory;
      low = λ asks. absurd (asks_none l modrm none asks);
      bytes = λ other. refl;
    }

-- the place by mod and rm passes, as a general operand and as a byte operand
pub record IsRmPlace (rex : Option ℕ) (l : RowLayout) (modrm sib disp : ℕ) (place : Place) : Type 0 where
  pub general : IsByRm rex l modrm sib disp place
  pub byte : IsByRm rex l modrm sib disp (place_of_byte rex place)
  pub general_form : (is_general place || is_memory_place place) ≡ true
  pub byte_form : (is_byte_register (place_of_byte rex place) || is_memory_place (place_of_byte rex place)) ≡ true

register_place : (rex : Option ℕ) (l : RowLayout) (modrm sib disp : ℕ) → (is_ignored_layout l || is_register modrm) ≡ true → IsRmPlace rex l modrm sib disp (Reg (rm_field modrm + 8 * rex_b (number_of_rex rex)))
register_place rex l modrm sib disp register =
    let number : ℕ = rm_field modrm + 8 * rex_b (number_of_rex rex) in
    let general : IsByRm rex l modrm sib disp (Reg number) = general_by_rm rex l modrm sib disp number register refl in
    record {
      general = general;
      byte = byte_register_cases (IsByRm rex l modrm sib disp) rex number general (λ none high. high_by_rm rex l modrm sib disp number register refl none high);
      general_form = refl;
      byte_form = byte_register_cases (λ p. (is_byte_register p || is_memory_place p) ≡ true) rex number refl (λ none high. refl);
    }

memory_place : (rex : Option ℕ) (l : RowLayout) (modrm sib disp : ℕ) (address : Address) → IsByRm rex l modrm sib disp (Mem address) → IsRmPlace rex l modrm sib disp (Mem address)
memory_place rex l modrm sib disp address is = record { general = is; byte = is; general_form = refl; byte_form = refl }

place_by_ok : (rex : Option ℕ) (l : RowLayout) (modrm sib disp : ℕ) → IsRmPlace rex l modrm sib disp (place_by modrm sib (number_of_rex rex) disp)
place_by_ok rex l modrm sib disp =
    let r : ℕ = number_of_rex rex in
    let P : Place → Type 0 = IsRmPlace rex l modrm sib disp in
    cond_both (is_register modrm) (Reg (rm_field modrm + 8 * rex_b r)) (Mem (cond (has_sib modrm) (sib_address modrm sib r disp) (plain_address modrm r disp))) P
    (λ register. register_place rex l modrm sib disp (or_right (is_ignored_layout l) (is_register modrm) register))
    (λ memory. cond_both (has_sib modrm) (sib_address modrm sib r disp) (plain_address modrm r disp) (λ a. P (Mem a))
    (λ some. memory_place rex l modrm sib disp (sib_address modrm sib r disp) (sib_by_rm rex l modrm sib disp memory))
    (λ none. memory_place rex l modrm sib disp (plain_address modrm r disp) (plain_by_rm rex l modrm sib disp memory none)))

place_of_ok : (rex : Option ℕ) (l : RowLayout) (operands : List ℕ) → IsRmPlace rex l (modrm_byte operands) (sib_byte operands) (displacement operands) (place_of operands (number_of_rex rex))
unfolding place_of
place_of_ok rex l operands = place_by_ok rex l (modrm_byte operands) (sib_byte operands) (displacement operands)

-- what ModRM says, where a row has it
pub record IsFields (rex : Option ℕ) (l : RowLayout) (operands : List ℕ) (fields : ModRm) : Type 0 where
  pub reg : fields.reg ≡ reg_by (modrm_byte operands) (number_of_rex rex)
  pub place : IsRmPlace rex l (modrm_byte operands) (sib_byte operands) (displacement operands) fields.place

pub fields_are : (prefixes : Prefixes) (l : RowLayout) (operands : List ℕ) → is_plain_layout l ≡ false → IsFields prefixes.rex l operands (fields_of l operands (rex_number prefixes))
fields_are prefixes layout.Plain operands h = absurd (cc)
fields_are prefixes layout.AnyForm operands h = record { reg = refl; place = place_of_ok prefixes.rex layout.AnyForm operands }
fields_are prefixes layout.Memory operands h = record { reg = refl; place = place_of_ok prefixes.rex layout.Memory operands }
fields_are prefixes layout.Register operands h = record { reg = refl; place = place_of_ok prefixes.rex layout.Register operands }
fields_are prefixes layout.Ignored operands h = record {
  reg = refl;
  place = register_place prefixes.rex layout.Ignored (modrm_byte operands) (sib_byte operands) (displacement operands) refl;
}

-- a register by the opcode
opcode_low : (opcode rex : ℕ) → (opcode % 8 + 8 * (rex % 2)) % 8 ≡ opcode % 8
opcode_low opcode rex = omega arith

opcode_high_low : (prefixes : Prefixes) (opcode : ℕ) → prefixes.rex ≡ None → 4 ≤ opcode_register prefixes opcode → (opcode_register prefixes opcode - 4) % 4 + 4 ≡ opcode % 8
opcode_high_low prefixes opcode none high =
    let is : opcode_register prefixes opcode ≡ opcode % 8 + 8 * 0 = ap (λ r. opcode % 8 + 8 * rex_b (number_of_rex r)) none in
    let small : opcode % 8 < 8 = omega arith in
    high_low (opcode % 8) (opcode_register prefixes opcode) small is high

opcode_bit : (opcode rex : ℕ) → (opcode % 8 + 8 * (rex % 2)) / 8 ≡ rex % 2
opcode_bit opcode rex = omega arith

-- the operand of a letter passes the tests of its form
pub letter_passes : (letter : Operand) (prefixes : Prefixes) (opcode : ℕ) (l : RowLayout) (operands : List ℕ) (fields : ModRm) → (is_by_rm letter ≡ true → IsFields prefixes.rex l operands fields) → letter_fits letter opcode (operand_place letter prefixes opcode fields) ≡ true
letter_passes operand.Absent prefixes opcode l operands fields is = refl
letter_passes operand.Eb prefixes opcode l operands fields is = (is refl).place.byte_form
letter_passes operand.Ev prefixes opcode l operands fields is = (is refl).place.general_form
letter_passes operand.Gb prefixes opcode l operands fields is = byte_register_cases (λ p. is_byte_register p ≡ true) prefixes.rex fields.reg refl (λ none high. refl)
letter_passes operand.Gv prefixes opcode l operands fields is = refl
letter_passes operand.Zb prefixes opcode l operands fields is =
    let number : ℕ = opcode_register prefixes opcode in
    byte_register_cases (λ p. is_option_of (low_of p) (opcode % 8) ≡ true) prefixes.rex number
    (eq-eqb (number % 8) (opcode % 8) (opcode_low opcode (rex_number prefixes)))
    (λ none high. eq-eqb ((number - 4) % 4 + 4) (opcode % 8) (opcode_high_low prefixes opcode none high))
letter_passes operand.Zv prefixes opcode l operands fields is =
    eq-eqb (opcode_register prefixes opcode % 8) (opcode % 8) (opcode_low opcode (rex_number prefixes))
letter_passes operand.Accumulator prefixes opcode l operands fields is = refl
letter_passes operand.Counter prefixes opcode l operands fields is = refl
letter_passes operand.Port prefixes opcode l operands fields is = refl
letter_passes operand.Constant prefixes opcode l operands fields is = refl

reg_bit : (modrm rex reg : ℕ) → reg ≡ reg_by modrm rex → reg / 8 ≡ rex_r rex
reg_bit modrm rex reg is = omega arith

-- and of REX
pub letter_has_rex : (letter : Operand) (prefixes : Prefixes) (opcode : ℕ) (l : RowLayout) (operands : List ℕ) (fields : ModRm) → (is_by_rm letter ≡ true → IsFields prefixes.rex l operands fields) → (is_by_reg letter ≡ true → IsFields prefixes.rex l operands fields) → rex_fits prefixes.rex letter (operand_place letter prefixes opcode fields) ≡ true
letter_has_rex operand.Absent prefixes opcode l operands fields by_rm by_reg = refl
letter_has_rex operand.Eb prefixes opcode l operands fields by_rm by_reg = (by_rm refl).place.byte.high
letter_has_rex operand.Ev prefixes opcode l operands fields by_rm by_reg = (by_rm refl).place.general.high
letter_has_rex operand.Gb prefixes opcode l operands fields by_rm by_reg =
    byte_register_cases (λ p. has_high_bit prefixes.rex (rex_r (rex_number prefixes)) p ≡ true) prefixes.rex fields.reg
    (eq-eqb (fields.reg / 8) (rex_r (rex_number prefixes)) (reg_bit (modrm_byte operands) (rex_number prefixes) fields.reg (by_reg refl).reg))
    (λ none high. ap is_none none)
letter_has_rex operand.Gv prefixes opcode l operands fields by_rm by_reg =
    eq-eqb (fields.reg / 8) (rex_r (rex_number prefixes)) (reg_bit (modrm_byte operands) (rex_number prefixes) fields.reg (by_reg refl).reg)
letter_has_rex operand.Zb prefixes opcode l operands fields by_rm by_reg =
    let number : ℕ = opcode_register prefixes opcode in
    byte_register_cases (λ p. has_high_bit prefixes.rex (rex_b (rex_number prefixes)) p ≡ true) prefixes.rex number
    (eq-eqb (number / 8) (rex_b (rex_number prefixes)) (opcode_bit opcode (rex_number prefixes)))
    (λ none high. ap is_none none)
letter_has_rex operand.Zv prefixes opcode l operands fields by_rm by_reg =
    eq-eqb (opcode_register prefixes opcode / 8) (rex_b (rex_number prefixes)) (opcode_bit opcode (rex_number prefixes))
letter_has_rex operand.Accumulator prefixes opcode l operands fields by_rm by_reg = refl
letter_has_rex operand.Counter prefixes opcode l operands fields by_rm by_reg = refl
letter_has_rex operand.Port prefixes opcode l operands fields by_rm by_reg = refl
letter_has_rex operand.Constant prefixes opcode l operands fields by_rm by_reg = refl

reg_low : (modrm rex reg : ℕ) → reg ≡ reg_by modrm rex → reg % 8 ≡ reg_field modrm
reg_low modrm rex reg is = omega arith

reg_high_low : (prefixes : Prefixes) (modrm reg : ℕ) → reg ≡ reg_by modrm (rex_number prefixes) → prefixes.rex ≡ None → 4 ≤ reg → (reg - 4) % 4 + 4 ≡ reg_field modrm
reg_high_low prefixes modrm reg is none high =
    let plain : reg ≡ reg_field modrm + 8 * 0 = is ∙ ap (λ r. reg_field modrm + 8 * rex_r (number_of_rex r)) none in
    let small : reg_field modrm < 8 = omega arith in
    high_low (reg_field modrm) reg small plain high

-- the operand by reg gives reg
pub letter_reg : (letter : Operand) (prefixes : Prefixes) (opcode : ℕ) (l : RowLayout) (operands : List ℕ) (fields : ModRm) → IsFields prefixes.rex l operands fields → is_by_reg letter ≡ true → reg_fits (low_of (operand_place letter prefixes opcode fields)) (reg_field (modrm_byte operands)) ≡ true
letter_reg operand.Absent prefixes opcode l operands fields is h = absurd (cc)
letter_reg operand.Eb prefixes opcode l operands fields is h = absurd (cc)
letter_reg operand.Ev prefixes opcode l operands fields is h = absurd (cc)
letter_reg operand.Gb prefixes opcode l operands fields is h =
    let modrm : ℕ = modrm_byte operands in
    byte_register_cases (λ p. reg_fits (low_of p) (reg_field modrm) ≡ true) prefixes.rex fields.reg
    (eq-eqb (fields.reg % 8) (reg_field modrm) (reg_low modrm (rex_number prefixes) fields.reg is.reg))
    (λ none high. eq-eqb ((fields.reg - 4) % 4 + 4) (reg_field modrm) (reg_high_low prefixes modrm fields.reg is.reg none high))
letter_reg operand.Gv prefixes opcode l operands fields is h =
    eq-eqb (fields.reg % 8) (reg_field (modrm_byte operands)) (reg_low (modrm_byte operands) (rex_number prefixes) fields.reg is.reg)
letter_reg operand.Zb prefixes opcode l operands fields is h = absurd (cc)
letter_reg operand.Zv prefixes opcode l operands fields is h = absurd (cc)
letter_reg operand.Accumulator prefixes opcode l operands fields is h = absurd (cc)
letter_reg operand.Counter prefixes opcode l operands fields is h = absurd (cc)
letter_reg operand.Port prefixes opcode l operands fields is h = absurd (cc)
letter_reg operand.Constant prefixes opcode l operands fields is h = absurd (cc)

-- the operand by mod and rm
pub letter_rm : (letter : Operand) (prefixes : Prefixes) (opcode : ℕ) (l : RowLayout) (operands : List ℕ) (fields : ModRm) → IsFields prefixes.rex l operands fields → is_by_rm letter ≡ true → IsByRm prefixes.rex l (modrm_byte operands) (sib_byte operands) (displacement operands) (operand_place letter prefixes opcode fields)
letter_rm operand.Absent prefixes opcode l operands fields is h = absurd (cc)
letter_rm operand.Eb prefixes opcode l operands fields is h = is.place.byte
letter_rm operand.Ev prefixes opcode l operands fields is h = is.place.general
letter_rm operand.Gb prefixes opcode l operands fields is h = absurd (cc)
letter_rm operand.Gv prefixes opcode l operands fields is h = absurd (cc)
letter_rm operand.Zb prefixes opcode l operands fields is h = absurd (cc)
letter_rm operand.Zv prefixes opcode l operands fields is h = absurd (cc)
letter_rm operand.Accumulator prefixes opcode l operands fields is h = absurd (cc)
letter_rm operand.Counter prefixes opcode l operands fields is h = absurd (cc)
letter_rm operand.Port prefixes opcode l operands fields is h = absurd (cc)
letter_rm operand.Constant prefixes opcode l operands fields is h = absurd (cc)
