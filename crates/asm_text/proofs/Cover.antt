-- Each spelling has one beside it that is tried, spells the same instruction, and isn't behind it: the same opcode, row
-- and bytes behind it, with the least prefix bytes that say the same.
use Rattle.std.proofs.Common.{◌≡◌, ℕ, ◌+◌, ◌-◌, ◌%◌, ◌<◌, ◌≤◌, Bool, true, false, ◌&&◌, ◌||◌, not, cond, nat_eq, nat_le, nat_lt, Option, Some, None, List, [], ◌∷◌, ◌++◌, length, drop, slice_get, get_or, refl, ap, sym, subst, ◌∙◌, arith, inl, inr}
use Rattle.std.specs.Prelude.{Contains}
use Rattle.std.proofs.Math.Seq.{drop-append_seam}
use Rattle.std.proofs.lemmas.Bool.{and_from, and_parts, cases_Bool, cases_lt, cond_both, eq-eqb, eqb-true, leb-true, ltb-true, not-true, or_from, or_left, or_parts, or_right}
use Rattle.std.proofs.lemmas.List.{append_assoc, get_or_past, length-append, length-drop}
use Rattle.std.proofs.lemmas.List.Elements.{All-append, All-cons, All-drop, All-nil}
use Rattle.decode_fields.specs.declared.parts.ModRm.{ModRm}
use Rattle.decode_fields.specs.declared.parts.Prefixes.{Prefixes}
use Rattle.decode_fields.specs.declared.parts.Rep.{Rep}
use Rattle.decode_fields.specs.declared.parts.Rep.TheVariants.{No}
use Rattle.decode_fields.specs.declared.place.Place.{Place}
use Rattle.decode_fields.specs.declared.place.Place.TheVariants.{Nothing}
use Rattle.decode_fields.specs.ModRm.{displacement, displacement_size, has_sib, modrm_byte, modrm_length, reg_by, reg_field, sib_byte}
use Rattle.decode_fields.specs.Prefixes.{is_rex, prefixes_of, rex_named}
use Rattle.x86_decode.specs.declared.instruction.Instr.{Instr}
use Rattle.x86_decode.specs.declared.operation.Op.{Op}
use Rattle.x86_decode.specs.declared.operation.Op.TheVariants.{Nop}
use Rattle.x86_decode.specs.declared.reader.Map.{Map}
use Rattle.x86_decode.specs.declared.reader.Map.TheVariants.{OneByte, TwoByte}
use Rattle.x86_decode.specs.declared.shape.Number.{Number}
use Rattle.x86_decode.specs.declared.shape.Number.TheVariants as number
use Rattle.x86_decode.specs.declared.shape.RowLayout.{RowLayout}
use Rattle.x86_decode.specs.declared.shape.RowLayout.TheVariants as layout
use Rattle.x86_decode.specs.declared.shape.Shape.{Shape}
use Rattle.x86_decode.specs.declared.shape.Width.{Width}
use Rattle.x86_decode.specs.declared.shape.Width.TheVariants as width
use Rattle.x86_decode.specs.RowForms.{alone}
use Rattle.x86_decode.specs.OpcodeTable.{OpcodeRow, When, Always, Digit, AtSize, AtRexB, one_byte_table, rows_at}
use Rattle.x86_decode.specs.Meaning.{fields_of, instr_of, layout_length, number_value, operand_length, operand_place, rep_by, rex_number, row_stands, when_stands, layout_stands, width_of}
use Rattle.x86_decode.specs.RowListLaws.{HasPlace, RowListLaws, as_table_row, digit_of}
use Rattle.x86_decode.specs.Spelling.{AreBytes, Fit, Parts, Spells, bytes_of, opcode_bytes}
use Rattle.asm_text.specs.Assembly.{front_of, operand_bytes}
use Rattle.asm_text.specs.Candidates.{by_stem, candidates, stem_of, tail_of}
use Rattle.asm_text.specs.Fitting.{wanted_form, is_by_number, is_by_reg, is_by_rm, is_plain_layout, letter_fits, low_of, modrm_fits, place_disp, reg_fits, reg_place, rex_fits, rm_fits, rm_place, row_fits, size_fits, size_prefixes, wanted_reg}
use Rattle.asm_text.specs.Operations.{is_operation}
use Rattle.asm_text.specs.LeastSpelling.{is_not_behind}
use Rattle.asm_text.specs.Skipping.{IsRexOption}
use Rattle.asm_text.proofs.FrontSays.{front_all, front_are, front_says, prefixes_by}
use Rattle.asm_text.proofs.Fronts.{front_bare, front_least}
use Rattle.asm_text.proofs.Letters.{IsByRm, IsFields, fields_are, letter_has_rex, letter_passes, letter_reg, letter_rm}
use Rattle.asm_text.proofs.OperandBytes.{operands_split}
use Rattle.asm_text.proofs.OperationLemmas.{operation_is, operation_same}
use Rattle.asm_text.proofs.Orders.{order_append, order_length, order_through, shorter}
use Rattle.asm_text.proofs.RowTests.{absent_is, form_regular, is_absent, is_bare, is_quad, is_zero, modrm_row, names_none, names_rm, plain_row, quad_is, row_is_regular, row_regular, zero_is}
use Rattle.asm_text.proofs.Swaps.{instr_swapped, length_swapped, stands_swapped, swapped}
use Rattle.asm_text.proofs.Tails.{fits_at, tail_back, width_fits, width_known}
use Rattle.asm_text.proofs.Tried.{IsAmong, plain_tried, stem_tried, tried_by_front}

-- parts of a spelling, what they say, and the instruction
abbrev said : Parts → Prefixes
said p = prefixes_of p.front

abbrev told : Parts → Instr
told p = instr_of p.row.op p.row.shape (said p) p.opcode p.operands

abbrev fields : Parts → ModRm
fields p = fields_of p.row.shape.layout p.operands (rex_number (said p))

-- the least prefix bytes that say the same
abbrev least : Parts → List ℕ
least p = front_of (said p).narrow (said p).lock (rep_by p.row.op (said p)) (said p).rex

-- the parts with these in front, and their bytes
abbrev made : Parts → Parts
made p = record { front = least p; map = p.map; opcode = p.opcode; row = p.row; operands = p.operands }

rex_option : (byte : Option ℕ) → IsRexOption (rex_named byte)
rex_option None = tt
rex_option (Some byte) =
    cond_both (is_rex byte) (Some byte) None IsRexOption
    (λ is. (leb-true 0x40 byte ((and_parts (nat_le 0x40 byte) (nat_lt byte 0x50) is).0), ltb-true byte 0x50 ((and_parts (nat_le 0x40 byte) (nat_lt byte 0x50) is).1)))
    (λ no_rex. tt)

rex_is : (p : Parts) → IsRexOption (said p).rex
rex_is p = rex_option (slice_get p.front (length p.front - 1))

-- the bytes behind prefix bytes are some, and so is an opcode
code_are : (front code : List ℕ) → AreBytes (front ++ code) → AreBytes code
code_are front code are =
    subst AreBytes (drop-append_seam front code) (All-drop (λ b. b < 256) (length front) (front ++ code) are)

opcode_is : (map : Map) (opcode : ℕ) (operands : List ℕ) → AreBytes (opcode_bytes map opcode ++ operands) → opcode < 256
opcode_is OneByte opcode operands are = are 0 0 (omega arith)
opcode_is TwoByte opcode operands are = are 1 0 (omega arith)

-- what is known of a spelling
pub record IsTold (p : Parts) : Type 0 where
  pub fit : Fit p
  pub byte : p.opcode < 256
  pub code : AreBytes (opcode_bytes p.map p.opcode ++ p.operands)
  pub operands : AreBytes p.operands

pub told_by : (instr : Instr) (bytes : List ℕ) (s : Spells instr bytes) → IsTold s.parts
told_by instr bytes s =
    let p : Parts = s.parts in
    let whole : AreBytes (p.front ++ (opcode_bytes p.map p.opcode ++ p.operands)) = subst AreBytes s.spelled s.are_bytes in
    let code : AreBytes (opcode_bytes p.map p.opcode ++ p.operands) = code_are p.front (opcode_bytes p.map p.opcode ++ p.operands) whole in
    record {
      fit = s.fit;
      byte = opcode_is p.map p.opcode p.operands code;
      code = code;
      operands = code_are (opcode_bytes p.map p.opcode) p.operands code;
    }

-- with the least prefix bytes it is a spelling of the same instruction
made_prefixes : (p : Parts) → prefixes_of (least p) ≡ swapped (said p) (length (least p)) (rep_by p.row.op (said p))
made_prefixes p = front_says (said p).narrow (said p).lock (rep_by p.row.op (said p)) (said p).rex (rex_is p)

made_fits : (p : Parts) → Fit p → Fit (made p)
made_fits p fit =
    let other : Prefixes = swapped (said p) (length (least p)) (rep_by p.row.op (said p)) in
    let P : Prefixes → Type 0 = λ q. row_stands p.row q p.operands ≡ true in
    let Q : Prefixes → Type 0 = λ q. length p.operands ≡ operand_length p.row.shape q p.operands in
    record {
      prefixes = front_all (said p).narrow (said p).lock (rep_by p.row.op (said p)) (said p).rex (rex_is p);
      listed = fit.listed;
      stands = subst P (sym (made_prefixes p)) (stands_swapped p.row (said p) (length (least p)) (rep_by p.row.op (said p)) p.operands ∙ fit.stands);
      whole = subst Q (sym (made_prefixes p)) (fit.whole ∙ sym (length_swapped p.row.shape (said p) (length (least p)) (rep_by p.row.op (said p)) p.operands));
    }

made_told : (p : Parts) → told (made p) ≡ told p
made_told p =
    ap (λ q. instr_of p.row.op p.row.shape q p.opcode p.operands) (made_prefixes p)
    ∙ instr_swapped p.row.op p.row.shape (said p) (length (least p)) p.opcode p.operands

made_spells : (p : Parts) → IsTold p → Spells (told p) (bytes_of (made p))
made_spells p is = record {
  parts = made p;
  fit = made_fits p is.fit;
  spelled = refl;
  are_bytes = All-append (λ b. b < 256) (least p) (opcode_bytes p.map p.opcode ++ p.operands)
      (front_are (said p).narrow (said p).lock (rep_by p.row.op (said p)) (said p).rex (rex_is p)) is.code;
  meaning = sym (made_told p);
}

pub made_ahead : (p : Parts) → is_not_behind (bytes_of (made p)) (bytes_of p) ≡ true
made_ahead p = order_append (least p) p.front (opcode_bytes p.map p.opcode ++ p.operands) (front_least p.row.op p.front)

-- the bytes behind the opcode, put together again
tail_is : (p : Parts) → IsTold p → tail_of (told p) (as_table_row p.row) ≡ drop (layout_length p.row.shape.layout p.operands) p.operands
tail_is p is =
    let rest : List ℕ = drop (layout_length p.row.shape.layout p.operands) p.operands in
    let w : ℕ = width_of p.row.shape.width (said p) in
    let fits : width_fits p.row.shape.number p.row.shape.width ≡ true =
    (and_parts (width_fits p.row.shape.number p.row.shape.width) (form_regular p.row) (row_is_regular p.map p.opcode p.row is.byte is.fit.listed)).0 in
    tail_back p.row.shape.number w (fields p).reg rest (width_known p.row.shape.width (said p))
    (All-drop (λ b. b < 256) (layout_length p.row.shape.layout p.operands) p.operands is.operands)
    (fits_at p.row.shape.number p.row.shape.width (said p) fits)
    (omega (arith, is.fit.whole, length-drop (layout_length p.row.shape.layout p.operands) p.operands))

operands_are : (p : Parts) → IsTold p → operand_bytes p.row.shape.layout (modrm_byte p.operands) (sib_byte p.operands) (displacement p.operands) ++ tail_of (told p) (as_table_row p.row) ≡ p.operands
operands_are p is =
    ap (λ t. operand_bytes p.row.shape.layout (modrm_byte p.operands) (sib_byte p.operands) (displacement p.operands) ++ t) (tail_is p is)
    ∙ sym (operands_split p.row.shape.layout p.operands is.operands (omega (arith, is.fit.whole)))

-- a byte that is read past the end is 0
byte_read : (bytes : List ℕ) (k : ℕ) → AreBytes bytes → get_or bytes k 0 < 256
byte_read bytes k are = elim (cases_lt k (length bytes)) [
  | inl within ↦ are k 0 within
  | inr past ↦ omega (arith, get_or_past bytes k 0 past)
]

-- the width is that of the prefixes
width_sized : (w : Width) (prefixes : Prefixes) → width_of w (size_prefixes prefixes.narrow prefixes.rex) ≡ width_of w prefixes
width_sized width.Byte prefixes = refl
width_sized width.Word prefixes = refl
width_sized width.Quad prefixes = refl
width_sized width.Variable prefixes = refl
width_sized width.Stack prefixes = refl

-- where an operand is by mod and rm, or by reg, ModRM is there
record IsUsed (p : Parts) : Type 0 where
  to_rm : is_by_rm p.row.shape.to ≡ true → IsFields (said p).rex p.row.shape.layout p.operands (fields p)
  from_rm : is_by_rm p.row.shape.from ≡ true → IsFields (said p).rex p.row.shape.layout p.operands (fields p)
  to_reg : is_by_reg p.row.shape.to ≡ true → IsFields (said p).rex p.row.shape.layout p.operands (fields p)
  from_reg : is_by_reg p.row.shape.from ≡ true → IsFields (said p).rex p.row.shape.layout p.operands (fields p)

true_false : (b : Bool) → b ≡ true → b ≡ false → ⊥
true_false b h g = cc

regular : (p : Parts) → IsTold p → row_regular p.row ≡ true
regular p is = row_is_regular p.map p.opcode p.row is.byte is.fit.listed

used : (p : Parts) → IsTold p → IsUsed p
used p is = elim (cases_Bool (is_plain_layout p.row.shape.layout)) [
  | inl plain ↦
      let shape : Shape = p.row.shape in
      let none : names_none shape ≡ true = plain_row p.row (regular p is) plain in
      let rest : Bool = not (is_by_reg shape.to) && (not (is_by_reg shape.from) && not (is_by_number shape.number)) in
      let one : (not (names_rm shape) ≡ true) × (rest ≡ true) = and_parts (not (names_rm shape)) rest none in
      let rm : (is_by_rm shape.to ≡ false) × (is_by_rm shape.from ≡ false) = or_parts (is_by_rm shape.to) (is_by_rm shape.from) (not-true (names_rm shape) one.0) in
      let two : (not (is_by_reg shape.to) ≡ true) × ((not (is_by_reg shape.from) && not (is_by_number shape.number)) ≡ true) = and_parts (not (is_by_reg shape.to)) (not (is_by_reg shape.from) && not (is_by_number shape.number)) one.1 in
      let three : (not (is_by_reg shape.from) ≡ true) × (not (is_by_number shape.number) ≡ true) = and_parts (not (is_by_reg shape.from)) (not (is_by_number shape.number)) two.1 in
      record {
        to_rm = λ h. absurd (true_false (is_by_rm shape.to) h rm.0);
        from_rm = λ h. absurd (true_false (is_by_rm shape.from) h rm.1);
        to_reg = λ h. absurd (true_false (is_by_reg shape.to) h (not-true (is_by_reg shape.to) two.0));
        from_reg = λ h. absurd (true_false (is_by_reg shape.from) h (not-true (is_by_reg shape.from) three.0));
      }
  | inr behind ↦
      let are : IsFields (said p).rex p.row.shape.layout p.operands (fields p) = fields_are (said p) p.row.shape.layout p.operands behind in
      record { to_rm = λ h. are; from_rm = λ h. are; to_reg = λ h. are; from_reg = λ h. are }
]

sizes : (p : Parts) → IsTold p → size_fits p.row.shape (told p) (said p).narrow (said p).rex ≡ true
sizes p is =
    let u : IsUsed p = used p is in
    let shape : Shape = p.row.shape in
    let instr : Instr = told p in
    and_from (nat_eq (width_of shape.width (size_prefixes (said p).narrow (said p).rex)) instr.width)
    (rex_fits (said p).rex shape.to instr.to && rex_fits (said p).rex shape.from instr.from)
    (eq-eqb (width_of shape.width (size_prefixes (said p).narrow (said p).rex)) instr.width (width_sized shape.width (said p)))
    (and_from (rex_fits (said p).rex shape.to instr.to) (rex_fits (said p).rex shape.from instr.from)
    (letter_has_rex shape.to (said p) p.opcode shape.layout p.operands (fields p) u.to_rm u.to_reg)
    (letter_has_rex shape.from (said p) p.opcode shape.layout p.operands (fields p) u.from_rm u.from_reg))

row_passes : (p : Parts) → IsTold p → (is_plain_layout p.row.shape.layout || names_rm p.row.shape) ≡ true → row_fits (told p) p.opcode (as_table_row p.row) ≡ true
row_passes p is formed =
    let u : IsUsed p = used p is in
    let shape : Shape = p.row.shape in
    let instr : Instr = told p in
    let fits_from : Bool = letter_fits shape.from p.opcode instr.from in
    let fits_to : Bool = letter_fits shape.to p.opcode instr.to in
    let form : Bool = is_plain_layout shape.layout || names_rm shape in
    and_from (is_operation p.row.op instr.op) (fits_to && (fits_from && form)) (operation_same p.row.op instr.op refl)
    (and_from fits_to (fits_from && form) (letter_passes shape.to (said p) p.opcode shape.layout p.operands (fields p) u.to_rm)
    (and_from fits_from form (letter_passes shape.from (said p) p.opcode shape.layout p.operands (fields p) u.from_rm) formed))

-- reg of ModRM is the one that is wanted
number_reg : (n : Number) (w reg : ℕ) (rest : List ℕ) → is_by_number n ≡ true → number_value n w reg rest ≡ reg
number_reg number.Zero w reg rest h = absurd (cc)
number_reg number.One w reg rest h = absurd (cc)
number_reg number.Ib w reg rest h = absurd (cc)
number_reg number.Iz w reg rest h = absurd (cc)
number_reg number.Iv w reg rest h = absurd (cc)
number_reg number.Jz w reg rest h = absurd (cc)
number_reg number.Ub w reg rest h = absurd (cc)
number_reg number.Uw w reg rest h = absurd (cc)
number_reg number.Cn w reg rest h = refl

reg_low : (modrm rex reg : ℕ) → reg ≡ reg_by modrm rex → reg % 8 ≡ reg_field modrm
reg_low modrm rex reg is = omega arith

free_reg : (p : Parts) → IsFields (said p).rex p.row.shape.layout p.operands (fields p) → reg_fits (wanted_reg None p.row.shape (told p)) (reg_field (modrm_byte p.operands)) ≡ true
free_reg p are =
    let shape : Shape = p.row.shape in
    let instr : Instr = told p in
    let reg : ℕ = reg_field (modrm_byte p.operands) in
    let rest : List ℕ = drop (layout_length shape.layout p.operands) p.operands in
    let P : Option ℕ → Type 0 = λ o. reg_fits o reg ≡ true in
    let Q : Place → Type 0 = λ q. reg_fits (low_of q) reg ≡ true in
    cond_both (is_by_number shape.number) (Some (instr.value % 8)) (low_of (reg_place shape instr)) P
    (λ by_number.
    let value : instr.value ≡ (fields p).reg = number_reg shape.number (width_of shape.width (said p)) (fields p).reg rest by_number in
    eq-eqb (instr.value % 8) reg (ap (λ (v : ℕ). v % 8) value ∙ reg_low (modrm_byte p.operands) (rex_number (said p)) (fields p).reg are.reg))
    (λ no_number. cond_both (is_by_reg shape.to) instr.to (cond (is_by_reg shape.from) instr.from Nothing) Q
    (λ h. letter_reg shape.to (said p) p.opcode shape.layout p.operands (fields p) are h)
    (λ no_to. cond_both (is_by_reg shape.from) instr.from Nothing Q
    (λ h. letter_reg shape.from (said p) p.opcode shape.layout p.operands (fields p) are h)
    (λ no_from. refl)))

digit_fits : (w : When) (prefixes : Prefixes) (operands : List ℕ) (shape : Shape) (instr : Instr) → when_stands w prefixes operands ≡ true → reg_fits (wanted_reg None shape instr) (reg_field (modrm_byte operands)) ≡ true → reg_fits (wanted_reg (digit_of w) shape instr) (reg_field (modrm_byte operands)) ≡ true
digit_fits Always prefixes operands shape instr stands free = free
digit_fits (Digit digit) prefixes operands shape instr stands free =
    eq-eqb digit (reg_field (modrm_byte operands)) (sym (eqb-true (reg_field (modrm_byte operands)) digit stands))
digit_fits (AtSize size) prefixes operands shape instr stands free = free
digit_fits (AtRexB bit) prefixes operands shape instr stands free = free

-- the operand by mod and rm
rm_is : (p : Parts) → IsFields (said p).rex p.row.shape.layout p.operands (fields p) → names_rm p.row.shape ≡ true → IsByRm (said p).rex p.row.shape.layout (modrm_byte p.operands) (sib_byte p.operands) (displacement p.operands) (rm_place p.row.shape (told p))
rm_is p are named =
    let shape : Shape = p.row.shape in
    let instr : Instr = told p in
    let Q : Place → Type 0 = IsByRm (said p).rex shape.layout (modrm_byte p.operands) (sib_byte p.operands) (displacement p.operands) in
    cond_both (is_by_rm shape.to) instr.to (cond (is_by_rm shape.from) instr.from Nothing) Q
    (λ h. letter_rm shape.to (said p) p.opcode shape.layout p.operands (fields p) are h)
    (λ no_to. cond_both (is_by_rm shape.from) instr.from Nothing Q
    (λ h. letter_rm shape.from (said p) p.opcode shape.layout p.operands (fields p) are h)
    (λ no_from. absurd (true_false (names_rm shape) named (or_from (is_by_rm shape.to) (is_by_rm shape.from) no_to no_from))))

form_passes : (p : Parts) → IsTold p → IsFields (said p).rex p.row.shape.layout p.operands (fields p) → names_rm p.row.shape ≡ true → modrm_fits (wanted_form (as_table_row p.row) (told p)) (modrm_byte p.operands) ≡ true
form_passes p is are named =
    let stands : when_stands p.row.when (said p) p.operands ≡ true = (and_parts (when_stands p.row.when (said p) p.operands) (layout_stands p.row.shape.layout p.operands) is.fit.stands).0 in
    and_from (reg_fits (wanted_reg (digit_of p.row.when) p.row.shape (told p)) (reg_field (modrm_byte p.operands)))
    (rm_fits p.row.shape.layout (rm_place p.row.shape (told p)) (modrm_byte p.operands))
    (digit_fits p.row.when (said p) p.operands p.row.shape (told p) stands (free_reg p are))
    (rm_is p are named).form

-- the bytes of these parts as they are put together
abbrev stem : Parts → List ℕ
stem p = stem_of (told p) p.map p.opcode (said p).narrow (said p).rex

assembled : (p : Parts) (middle : List ℕ) → middle ++ tail_of (told p) (as_table_row p.row) ≡ p.operands → stem p ++ (middle ++ tail_of (told p) (as_table_row p.row)) ≡ bytes_of (made p)
assembled p middle is =
    ap (λ t. stem p ++ t) is ∙ append_assoc (least p) (opcode_bytes p.map p.opcode) p.operands

plain_bytes : (l : RowLayout) (modrm sib disp : ℕ) → is_plain_layout l ≡ true → operand_bytes l modrm sib disp ≡ []
plain_bytes layout.Plain modrm sib disp h = refl
plain_bytes layout.AnyForm modrm sib disp h = absurd (cc)
plain_bytes layout.Memory modrm sib disp h = absurd (cc)
plain_bytes layout.Register modrm sib disp h = absurd (cc)
plain_bytes layout.Ignored modrm sib disp h = absurd (cc)

plain_among : (p : Parts) → IsTold p → is_plain_layout p.row.shape.layout ≡ true → IsAmong (bytes_of (made p)) (by_stem (stem p) (wanted_form (as_table_row p.row) (told p)) (tail_of (told p) (as_table_row p.row)))
plain_among p is plain =
    let l : RowLayout = p.row.shape.layout in
    let disp : ℕ = place_disp (rm_place p.row.shape (told p)) in
    let same : operand_bytes l 0 0 disp ≡ operand_bytes l (modrm_byte p.operands) (sib_byte p.operands) (displacement p.operands) =
    plain_bytes l 0 0 disp plain ∙ sym (plain_bytes l (modrm_byte p.operands) (sib_byte p.operands) (displacement p.operands) plain) in
    plain_tried (stem p) (wanted_form (as_table_row p.row) (told p)) (tail_of (told p) (as_table_row p.row)) (bytes_of (made p)) plain
    (assembled p (operand_bytes l 0 0 disp) (ap (λ o. o ++ tail_of (told p) (as_table_row p.row)) same ∙ operands_are p is))

modrm_among : (p : Parts) → IsTold p → is_plain_layout p.row.shape.layout ≡ false → names_rm p.row.shape ≡ true → IsAmong (bytes_of (made p)) (by_stem (stem p) (wanted_form (as_table_row p.row) (told p)) (tail_of (told p) (as_table_row p.row)))
modrm_among p is behind named =
    let l : RowLayout = p.row.shape.layout in
    let modrm : ℕ = modrm_byte p.operands in
    let sib : ℕ = sib_byte p.operands in
    let disp : ℕ = place_disp (rm_place p.row.shape (told p)) in
    let are : IsFields (said p).rex l p.operands (fields p) = fields_are (said p) l p.operands behind in
    let rm : IsByRm (said p).rex l modrm sib (displacement p.operands) (rm_place p.row.shape (told p)) = rm_is p are named in
    stem_tried (stem p) (wanted_form (as_table_row p.row) (told p)) (tail_of (told p) (as_table_row p.row)) modrm sib (bytes_of (made p)) behind
    (byte_read p.operands 0 is.operands) (byte_read p.operands 1 is.operands) (form_passes p is are named) rm.low
    (assembled p (operand_bytes l modrm sib disp) (ap (λ o. o ++ tail_of (told p) (as_table_row p.row)) (rm.bytes sib) ∙ operands_are p is))

-- a spelling that is tried, of the same instruction, and not behind
pub record Found (instr : Instr) (bytes : List ℕ) : Type 0 where
  pub found : List ℕ
  pub tried : IsAmong found (candidates instr)
  pub spells : Spells instr found
  pub ahead : is_not_behind found bytes ≡ true

row_found : (rows : RowListLaws) (p : Parts) → IsTold p → (is_plain_layout p.row.shape.layout || names_rm p.row.shape) ≡ true → IsAmong (bytes_of (made p)) (by_stem (stem p) (wanted_form (as_table_row p.row) (told p)) (tail_of (told p) (as_table_row p.row))) → Found (told p) (bytes_of p)
row_found rows p is formed h =
    let at : HasPlace p.map p.opcode p.row = rows.placed p.map p.opcode p.row is.byte is.fit.listed in
    record {
      found = bytes_of (made p);
      tried = tried_by_front (told p) p.map p.opcode at.place (as_table_row p.row) (said p).narrow (said p).rex (bytes_of (made p)) is.byte at.within at.is
          (row_passes p is formed) (rex_is p) (sizes p is) h;
      spells = made_spells p is;
      ahead = made_ahead p;
    }

-- NOP by itself, with LOCK where it stands
abbrev nop_row : OpcodeRow
nop_row = record { when = AtRexB 0; op = Nop; shape = alone }

abbrev nop_front : Bool → List ℕ
nop_front lock = front_of false lock No None

abbrev nop : Bool → Parts
nop lock = record { front = nop_front lock; map = OneByte; opcode = 0x90; row = nop_row; operands = [] }

nop_listed : Contains (rows_at OneByte 0x90) nop_row
unfolding one_byte_table
nop_listed = (0, omega arith, refl)

nop_says : (lock : Bool) → prefixes_of (nop_front lock) ≡ prefixes_by (length (nop_front lock)) false lock No None
nop_says lock = front_says false lock No None tt

nop_told : (lock : Bool) → IsTold (nop lock)
nop_told lock =
    let P : Prefixes → Type 0 = λ q. row_stands nop_row q [] ≡ true in
    record {
      fit = record {
        prefixes = front_all false lock No None tt;
        listed = nop_listed;
        stands = subst P (sym (nop_says lock)) refl;
        whole = refl;
      };
      byte = omega arith;
      code = All-cons (λ b. b < 256) 0x90 [] (omega arith) (All-nil (λ b. b < 256));
      operands = All-nil (λ b. b < 256);
    }

nop_found : (rows : RowListLaws) (lock : Bool) → Found (told (nop lock)) (bytes_of (nop lock))
nop_found rows lock = row_found rows (nop lock) (nop_told lock) refl (plain_among (nop lock) (nop_told lock) refl)

abbrev plain_nop : Bool → Instr
plain_nop lock = record { op = Nop; width = 64; to = Nothing; from = Nothing; value = 0; rep = No; lock = lock }

nop_is : (lock : Bool) → told (nop lock) ≡ plain_nop lock
nop_is lock = ap (λ (q : Prefixes). plain_nop q.lock) (nop_says lock)

-- a bare NOP is the same
abbrev instr_parts : Op → ℕ → Place → Place → ℕ → Rep → Bool → Instr
instr_parts op width to from value rep lock =
    record { op = op; width = width; to = to; from = from; value = value; rep = rep; lock = lock }

bare_is : (p : Parts) → is_bare p.row ≡ true → told p ≡ plain_nop (said p).lock
bare_is p bare =
    let shape : Shape = p.row.shape in
    let q : Prefixes = said p in
    let rest : List ℕ = drop (layout_length shape.layout p.operands) p.operands in
    let four : Bool = is_zero shape.number && is_quad shape.width in
    let three : Bool = is_absent shape.from && four in
    let a : (is_operation p.row.op Nop ≡ true) × ((is_absent shape.to && three) ≡ true) = and_parts (is_operation p.row.op Nop) (is_absent shape.to && three) bare in
    let b : (is_absent shape.to ≡ true) × (three ≡ true) = and_parts (is_absent shape.to) three a.1 in
    let c : (is_absent shape.from ≡ true) × (four ≡ true) = and_parts (is_absent shape.from) four b.1 in
    let d : (is_zero shape.number ≡ true) × (is_quad shape.width ≡ true) = and_parts (is_zero shape.number) (is_quad shape.width) c.1 in
    let w : Width → ℕ = λ k. width_of k q in
    ap (λ o. instr_parts o (width_of shape.width q) (operand_place shape.to q p.opcode (fields p)) (operand_place shape.from q p.opcode (fields p)) (number_value shape.number (width_of shape.width q) (fields p).reg rest) (rep_by o q) q.lock) (operation_is p.row.op Nop a.0)
    ∙ (ap (λ t. instr_parts Nop (width_of shape.width q) (operand_place t q p.opcode (fields p)) (operand_place shape.from q p.opcode (fields p)) (number_value shape.number (width_of shape.width q) (fields p).reg rest) No q.lock) (absent_is shape.to b.0)
    ∙ (ap (λ t. instr_parts Nop (width_of shape.width q) Nothing (operand_place t q p.opcode (fields p)) (number_value shape.number (width_of shape.width q) (fields p).reg rest) No q.lock) (absent_is shape.from c.0)
    ∙ (ap (λ n. instr_parts Nop (width_of shape.width q) Nothing Nothing (number_value n (width_of shape.width q) (fields p).reg rest) No q.lock) (zero_is shape.number d.0)
    ∙ ap (λ k. instr_parts Nop (width_of k q) Nothing Nothing 0 No q.lock) (quad_is shape.width d.1))))

-- a layout with ModRM has a byte at least
modrm_some : (operands : List ℕ) → 1 ≤ modrm_length operands
unfolding modrm_length
modrm_some operands =
    cond_both (has_sib (modrm_byte operands)) 2 1 (λ n. 1 ≤ n + displacement_size (modrm_byte operands) (sib_byte operands)) (λ h. omega arith) (λ h. omega arith)

layout_some : (l : RowLayout) (operands : List ℕ) → is_plain_layout l ≡ false → 1 ≤ layout_length l operands
layout_some layout.Plain operands h = absurd (cc)
layout_some layout.AnyForm operands h = modrm_some operands
layout_some layout.Memory operands h = modrm_some operands
layout_some layout.Register operands h = modrm_some operands
layout_some layout.Ignored operands h = omega arith

code_some : (map : Map) (opcode : ℕ) → 1 ≤ length (opcode_bytes map opcode)
code_some OneByte opcode = omega arith
code_some TwoByte opcode = omega arith

-- NOP by itself is shorter than one with ModRM
nop_ahead : (p : Parts) → IsTold p → is_plain_layout p.row.shape.layout ≡ false → is_not_behind (bytes_of (nop (said p).lock)) (bytes_of p) ≡ true
nop_ahead p is behind =
    let code : List ℕ = opcode_bytes p.map p.opcode in
    let one : List ℕ = 0x90 ∷ [] in
    shorter (bytes_of (nop (said p).lock)) (bytes_of p)
    (omega (
      arith,
      length-append (nop_front (said p).lock) one,
      length-append p.front (code ++ p.operands),
      length-append code p.operands,
      order_length (nop_front (said p).lock) p.front (front_bare p.front),
      code_some p.map p.opcode,
      layout_some p.row.shape.layout p.operands behind,
      is.fit.whole,
    ))

bare_found : (rows : RowListLaws) (p : Parts) → IsTold p → is_plain_layout p.row.shape.layout ≡ false → is_bare p.row ≡ true → Found (told p) (bytes_of p)
bare_found rows p is behind bare =
    let lock : Bool = (said p).lock in
    let f : Found (told (nop lock)) (bytes_of (nop lock)) = nop_found rows lock in
    let same : told (nop lock) ≡ told p = nop_is lock ∙ sym (bare_is p bare) in
    let P : Instr → Type 0 = λ i. IsAmong f.found (candidates i) in
    let Q : Instr → Type 0 = λ i. Spells i f.found in
    record {
      found = f.found;
      tried = subst P same f.tried;
      spells = subst Q same f.spells;
      ahead = order_through f.found (bytes_of (nop lock)) (bytes_of p) f.ahead (nop_ahead p is behind);
    }

parts_found : (rows : RowListLaws) (p : Parts) → IsTold p → Found (told p) (bytes_of p)
parts_found rows p is = elim (cases_Bool (is_plain_layout p.row.shape.layout)) [
  | inl plain ↦ row_found rows p is (or_left (is_plain_layout p.row.shape.layout) (names_rm p.row.shape) plain) (plain_among p is plain)
  | inr behind ↦ elim (modrm_row p.row (regular p is) behind) [
    | inl named ↦ row_found rows p is (or_right (is_plain_layout p.row.shape.layout) (names_rm p.row.shape) named) (modrm_among p is behind named)
    | inr bare ↦ bare_found rows p is behind bare
  ]
]

pub cover : (rows : RowListLaws) (instr : Instr) (bytes : List ℕ) → Spells instr bytes → Found instr bytes
cover rows instr bytes s =
    let f : Found (told s.parts) (bytes_of s.parts) = parts_found rows s.parts (told_by instr bytes s) in
    let P : Instr → Type 0 = λ i. Found i (bytes_of s.parts) in
    let Q : List ℕ → Type 0 = λ b. Found instr b in
    subst Q (sym s.spelled) (subst P (sym s.meaning) f)
