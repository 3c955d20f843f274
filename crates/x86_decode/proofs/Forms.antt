-- What is spelled is well formed.
use Rattle.std.proofs.Common.{◌≡◌, ℕ, ◌<◌, ◌+◌, ◌-◌, ◌*◌, ◌%◌, Bool, true, false, ◌&&◌, ◌||◌, not, cond, nat_eq, nat_le, nat_lt, Option, Some, None, List, [], ◌∷◌, refl, ap, sym, subst, arith, inl, inr}
use Rattle.std.specs.Prelude.{is_none, unwrap_or}
use Rattle.std.specs.List.{list_all}
use Rattle.std.proofs.lemmas.Bool.{and_parts, or_cases, cases_Bool, cond-true, cond-false, ltb-true, agree_below, agree_below_at}
use Rattle.decode_fields.specs.declared.parts.ModRm.{ModRm}
use Rattle.decode_fields.specs.declared.parts.Prefixes.{Prefixes}
use Rattle.decode_fields.specs.declared.place.Place.{Place}
use Rattle.decode_fields.specs.declared.place.Place.TheVariants.{Nothing, Reg, High, Mem, Value}
use Rattle.decode_fields.specs.Bounds.{IsHigh, IsLow, IsPlace}
use Rattle.decode_fields.specs.ModRm.{modrm_byte, place_of, reg_of}
use Rattle.decode_fields.specs.Widths.{IsWidth}
use Rattle.decode_fields.specs.Prefixes.{prefixes_of}
use Rattle.x86_decode.proofs.Bytes.{opcode_byte}
use Rattle.x86_decode.proofs.BoundLaws.{place_of-bound, place_of-high, place_of-low, reg_of-bound, reg_of-low}
use Rattle.x86_decode.specs.declared.instruction.Instr.{Instr}
use Rattle.x86_decode.specs.declared.operation.Op.{Op}
use Rattle.x86_decode.specs.declared.operation.Op.TheVariants as op
use Rattle.x86_decode.specs.declared.shape.RowLayout.{RowLayout}
use Rattle.x86_decode.specs.declared.shape.RowLayout.TheVariants as layout
use Rattle.x86_decode.specs.declared.shape.Operand.{Operand}
use Rattle.x86_decode.specs.declared.shape.Operand.TheVariants as operand
use Rattle.x86_decode.specs.declared.shape.Width.{Width}
use Rattle.x86_decode.specs.declared.shape.Width.TheVariants as width
use Rattle.x86_decode.specs.declared.reader.Map.{Map}
use Rattle.x86_decode.specs.declared.reader.Map.TheVariants.{OneByte, TwoByte}
use Rattle.x86_decode.specs.Grid.{entry_at, entry_rows, slots_from}
use Rattle.x86_decode.specs.Meaning.{place_of_byte, byte_register, fields_of, opcode_register, operand_place, operand_size, rex_number, width_of}
use Rattle.x86_decode.specs.Spelling.{Parts, Spells}
use Rattle.x86_decode.specs.OpcodeTable.{OpcodeRow}
use Rattle.x86_decode.specs.WellFormed.{HasCondition, IsWellFormed, extends_byte}
use Rattle.x86_decode.proofs.RowReading.{listed_in}
use Rattle.x86_decode.proofs.Rows.{IsIn, size_cases}

stack_width : (size : ℕ) → IsWidth (cond (nat_eq size 16) 16 64)
stack_width size = elim (nat_eq size 16) as (λ b. IsWidth (cond b 16 64)) [ true ↦ inr (inl refl) | false ↦ inr (inr (inr refl)) ]

width_known : (w : Width) (prefixes : Prefixes) → IsWidth (width_of w prefixes)
width_known width.Byte prefixes = inl refl
width_known width.Word prefixes = inr (inl refl)
width_known width.Quad prefixes = inr (inr (inr refl))
width_known width.Variable prefixes = inr (size_cases prefixes)
width_known width.Stack prefixes = stack_width (operand_size prefixes)

-- what holds of the fields of ModRM, whatever the layout
record FieldsOk (rex : Option ℕ) (fields : ModRm) : Type 0 where
  reg : fields.reg < 16
  reg_low : rex ≡ None → fields.reg < 8
  place : IsPlace fields.place
  place_low : rex ≡ None → IsLow fields.place
  place_high : IsHigh fields.place → ⊥

none_rex : (prefixes : Prefixes) → prefixes.rex ≡ None → rex_number prefixes ≡ 0
none_rex prefixes h = ap (λ r. unwrap_or r 0) h

low_reg : (operands : List ℕ) (rex : ℕ) → rex ≡ 0 → reg_of operands rex < 8
low_reg operands rex h = let P : ℕ → Type 0 = λ r. reg_of operands r < 8 in subst P (sym h) (reg_of-low operands)

low_place : (operands : List ℕ) (rex : ℕ) → rex ≡ 0 → IsLow (place_of operands rex)
low_place operands rex h = let P : ℕ → Type 0 = λ r. IsLow (place_of operands r) in subst P (sym h) (place_of-low operands)

small : (byte rex : ℕ) → byte % 8 + 8 * (rex % 2) < 16
small byte rex = omega arith

small_low : (byte rex : ℕ) → rex ≡ 0 → byte % 8 + 8 * (rex % 2) < 8
small_low byte rex h = let P : ℕ → Type 0 = λ r. byte % 8 + 8 * (r % 2) < 8 in subst P (sym h) (omega arith)

high_small : (number : ℕ) → number < 8 → number - 4 < 4
high_small number below = omega arith

modrm_ok : (operands : List ℕ) (prefixes : Prefixes) → FieldsOk prefixes.rex (fields_of layout.AnyForm operands (rex_number prefixes))
modrm_ok operands prefixes = record {
  reg = reg_of-bound operands (rex_number prefixes);
  reg_low = λ h. low_reg operands (rex_number prefixes) (none_rex prefixes h);
  place = place_of-bound operands (rex_number prefixes);
  place_low = λ h. low_place operands (rex_number prefixes) (none_rex prefixes h);
  place_high = place_of-high operands (rex_number prefixes);
}

fields_ok : (l : RowLayout) (operands : List ℕ) (prefixes : Prefixes) → FieldsOk prefixes.rex (fields_of l operands (rex_number prefixes))
fields_ok layout.Plain operands prefixes = record { reg = omega arith; reg_low = λ h. omega arith; place = tt; place_low = λ h. tt; place_high = λ high. high }
fields_ok layout.AnyForm operands prefixes = modrm_ok operands prefixes
fields_ok layout.Memory operands prefixes = modrm_ok operands prefixes
fields_ok layout.Register operands prefixes = modrm_ok operands prefixes
fields_ok layout.Ignored operands prefixes = record {
  reg = reg_of-bound operands (rex_number prefixes);
  reg_low = λ h. low_reg operands (rex_number prefixes) (none_rex prefixes h);
  place = small (modrm_byte operands) (rex_number prefixes);
  place_low = λ h. small_low (modrm_byte operands) (rex_number prefixes) (none_rex prefixes h);
  place_high = λ high. high;
}

is_none_true : (o : Option ℕ) → is_none o ≡ true → o ≡ None
is_none_true None h = refl
is_none_true (Some n) h = absurd (cc)

byte_register_ok : (rex : Option ℕ) (number : ℕ) → number < 16 → (rex ≡ None → number < 8) → IsPlace (byte_register rex number)
byte_register_ok rex number wide low = elim (cases_Bool (is_none rex && nat_le 4 number)) [
  | inl high ↦
      let below : number < 8 = low (is_none_true rex (and_parts _ _ high).0) in
      subst IsPlace (sym (cond-true (is_none rex && nat_le 4 number) (High (number - 4)) (Reg number) high)) (high_small number below)
  | inr plain ↦ subst IsPlace (sym (cond-false (is_none rex && nat_le 4 number) (High (number - 4)) (Reg number) plain)) wide
]

byte_place_ok : (rex : Option ℕ) (place : Place) → IsPlace place → (rex ≡ None → IsLow place) → IsPlace (place_of_byte rex place)
byte_place_ok rex Nothing ok low = ok
byte_place_ok rex (Reg number) ok low = byte_register_ok rex number ok low
byte_place_ok rex (High number) ok low = ok
byte_place_ok rex (Mem address) ok low = ok
byte_place_ok rex Value ok low = ok

opcode_small : (opcode rex : ℕ) → opcode % 8 + 8 * (rex % 2) < 16
opcode_small opcode rex = omega arith

opcode_low : (prefixes : Prefixes) (opcode : ℕ) → prefixes.rex ≡ None → opcode_register prefixes opcode < 8
opcode_low prefixes opcode h =
    let P : ℕ → Type 0 = λ r. opcode % 8 + 8 * (r % 2) < 8 in
    subst P (sym (none_rex prefixes h)) (omega arith)

place_ok : (letter : Operand) (prefixes : Prefixes) (opcode : ℕ) (fields : ModRm) → FieldsOk prefixes.rex fields → IsPlace (operand_place letter prefixes opcode fields)
place_ok operand.Absent prefixes opcode fields ok = tt
place_ok operand.Eb prefixes opcode fields ok = byte_place_ok prefixes.rex fields.place ok.place ok.place_low
place_ok operand.Ev prefixes opcode fields ok = ok.place
place_ok operand.Gb prefixes opcode fields ok = byte_register_ok prefixes.rex fields.reg ok.reg ok.reg_low
place_ok operand.Gv prefixes opcode fields ok = ok.reg
place_ok operand.Zb prefixes opcode fields ok = byte_register_ok prefixes.rex (opcode_register prefixes opcode) (opcode_small opcode (rex_number prefixes)) (opcode_low prefixes opcode)
place_ok operand.Zv prefixes opcode fields ok = opcode_small opcode (rex_number prefixes)
place_ok operand.Accumulator prefixes opcode fields ok = omega arith
place_ok operand.Counter prefixes opcode fields ok = omega arith
place_ok operand.Port prefixes opcode fields ok = omega arith
place_ok operand.Constant prefixes opcode fields ok = tt

abbrev is_byte : Operand → Bool
is_byte operand.Absent = false
is_byte operand.Eb = true
is_byte operand.Ev = false
is_byte operand.Gb = true
is_byte operand.Gv = false
is_byte operand.Zb = true
is_byte operand.Zv = false
is_byte operand.Accumulator = false
is_byte operand.Counter = false
is_byte operand.Port = false
is_byte operand.Constant = false

-- a high byte register comes by a letter of byte operands
high_byte : (letter : Operand) (prefixes : Prefixes) (opcode : ℕ) (fields : ModRm) → FieldsOk prefixes.rex fields → IsHigh (operand_place letter prefixes opcode fields) → is_byte letter ≡ true
high_byte operand.Absent prefixes opcode fields ok high = absurd high
high_byte operand.Eb prefixes opcode fields ok high = refl
high_byte operand.Ev prefixes opcode fields ok high = absurd (ok.place_high high)
high_byte operand.Gb prefixes opcode fields ok high = refl
high_byte operand.Gv prefixes opcode fields ok high = absurd high
high_byte operand.Zb prefixes opcode fields ok high = refl
high_byte operand.Zv prefixes opcode fields ok high = absurd high
high_byte operand.Accumulator prefixes opcode fields ok high = absurd high
high_byte operand.Counter prefixes opcode fields ok high = absurd high
high_byte operand.Port prefixes opcode fields ok high = absurd high
high_byte operand.Constant prefixes opcode fields ok high = absurd high

abbrev is_byte_width : Width → Bool
is_byte_width width.Byte = true
is_byte_width width.Word = false
is_byte_width width.Quad = false
is_byte_width width.Variable = false
is_byte_width width.Stack = false

byte_width : (w : Width) (prefixes : Prefixes) → is_byte_width w ≡ true → width_of w prefixes ≡ 8
byte_width width.Byte prefixes h = refl
byte_width width.Word prefixes h = absurd (cc)
byte_width width.Quad prefixes h = absurd (cc)
byte_width width.Variable prefixes h = absurd (cc)
byte_width width.Stack prefixes h = absurd (cc)

abbrev condition_small : Op → Bool
condition_small (op.J condition) = nat_lt condition 16
condition_small (op.Set condition) = nat_lt condition 16
condition_small (op.Cmov condition) = nat_lt condition 16
condition_small _ = true

abbrev is_formed : OpcodeRow → Bool
is_formed row =
    (not (is_byte row.shape.to) || is_byte_width row.shape.width)
    && ((not (is_byte row.shape.from) || (is_byte_width row.shape.width || extends_byte row.op))
    && condition_small row.op)

one_byte_formed : agree_below (λ opcode. list_all is_formed (entry_rows (entry_at OneByte opcode))) (λ _. true) 256 ≡ true
unfolding entry_at slots_from
one_byte_formed = refl

two_byte_formed : agree_below (λ opcode. list_all is_formed (entry_rows (entry_at TwoByte opcode))) (λ _. true) 256 ≡ true
unfolding entry_at slots_from
two_byte_formed = refl

rows_formed : (where_from : Map) (opcode : ℕ) → opcode < 256 → list_all is_formed (entry_rows (entry_at where_from opcode)) ≡ true
rows_formed OneByte opcode byte = agree_below_at (λ o. list_all is_formed (entry_rows (entry_at OneByte o))) (λ _. true) 256 opcode one_byte_formed byte
rows_formed TwoByte opcode byte = agree_below_at (λ o. list_all is_formed (entry_rows (entry_at TwoByte o))) (λ _. true) 256 opcode two_byte_formed byte

all_in : (rows : List OpcodeRow) (row : OpcodeRow) → list_all is_formed rows ≡ true → IsIn row rows → is_formed row ≡ true
all_in [] row all h = absurd h
all_in (first ∷ rows) row all (inl is) = let P : OpcodeRow → Type 0 = λ r. is_formed r ≡ true in subst P is (and_parts _ _ all).0
all_in (first ∷ rows) row all (inr h) = all_in rows row (and_parts _ _ all).1 h

implied : (a b : Bool) → (not a || b) ≡ true → a ≡ true → b ≡ true
implied true b h g = h
implied false b h g = absurd (cc)

condition_by : (o : Op) → condition_small o ≡ true → HasCondition o
condition_by (op.Cmov condition) h = ltb-true condition 16 h
condition_by (op.Set condition) h = ltb-true condition 16 h
condition_by (op.J condition) h = ltb-true condition 16 h
condition_by _ h = tt

pub well_formed : (instr : Instr) (bytes : List ℕ) → Spells instr bytes → IsWellFormed instr
well_formed instr bytes s =
    let parts : Parts = s.parts in
    let prefixes : Prefixes = prefixes_of parts.front in
    let fields : ModRm = fields_of parts.row.shape.layout parts.operands (rex_number prefixes) in
    let ok : FieldsOk prefixes.rex fields = fields_ok parts.row.shape.layout parts.operands prefixes in
    let formed : is_formed parts.row ≡ true =
    all_in (entry_rows (entry_at parts.map parts.opcode)) parts.row (rows_formed parts.map parts.opcode (opcode_byte instr bytes s))
    (listed_in parts.map parts.opcode parts.row (opcode_byte instr bytes s) s.fit.listed) in
    let outer : ((not (is_byte parts.row.shape.to) || is_byte_width parts.row.shape.width) ≡ true) × (((not (is_byte parts.row.shape.from) || (is_byte_width parts.row.shape.width || extends_byte parts.row.op)) && condition_small parts.row.op) ≡ true) = and_parts _ _ formed in
    let inner : ((not (is_byte parts.row.shape.from) || (is_byte_width parts.row.shape.width || extends_byte parts.row.op)) ≡ true) × (condition_small parts.row.op ≡ true) = and_parts _ _ outer.1 in
    subst IsWellFormed (sym s.meaning) (record {
      width = width_known parts.row.shape.width prefixes;
      to = place_ok parts.row.shape.to prefixes parts.opcode fields ok;
      from = place_ok parts.row.shape.from prefixes parts.opcode fields ok;
      high_to = λ high. byte_width parts.row.shape.width prefixes (implied _ _ outer.0 (high_byte parts.row.shape.to prefixes parts.opcode fields ok high));
      high_from = λ high. elim (or_cases _ _ (implied _ _ inner.0 (high_byte parts.row.shape.from prefixes parts.opcode fields ok high))) [
        | inl byte ↦ inl (byte_width parts.row.shape.width prefixes byte)
        | inr extends ↦ inr extends
      ];
      condition = condition_by parts.row.op inner.1;
    })
