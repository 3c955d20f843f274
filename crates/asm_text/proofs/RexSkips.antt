-- A REX byte that gives width and registers has the bits that are known.
use Rattle.std.proofs.Common.{◌≡◌, ℕ, zero, suc, ◌+◌, ◌/◌, ◌<◌, Bool, true, false, ◌&&◌, cond, nat_eq, Option, Some, None, [], refl, ap, sym, ◌∙◌, arith, inl, inr}
use Rattle.std.proofs.lemmas.Bool.{agree_below_at, and_parts, cases_Bool, cond-false, eqb-true}
use Rattle.decode_fields.specs.declared.place.Place.{Place}
use Rattle.decode_fields.specs.declared.place.Place.TheVariants.{Nothing, Reg, High, Mem, Value}
use Rattle.decode_fields.specs.ModRm.{rex_b, rex_r, rex_w, rex_x}
use Rattle.x86_decode.specs.declared.instruction.Instr.{Instr}
use Rattle.x86_decode.specs.declared.reader.Map.{Map}
use Rattle.x86_decode.specs.declared.row_list.TableRow.{TableRow}
use Rattle.x86_decode.specs.declared.shape.Operand.{Operand}
use Rattle.x86_decode.specs.declared.shape.Operand.TheVariants as operand
use Rattle.x86_decode.specs.declared.shape.Shape.{Shape}
use Rattle.x86_decode.specs.declared.shape.Width.{Width}
use Rattle.x86_decode.specs.declared.shape.Width.TheVariants as width
use Rattle.x86_decode.specs.Meaning.{width_of}
use Rattle.asm_text.specs.Candidates.{by_front, by_rex, by_stem, stem_of, tail_of}
use Rattle.asm_text.specs.Fitting.{address_fits, has_bit, has_high_bit, rex_fits, size_fits, size_prefixes, wanted_form}
use Rattle.asm_text.specs.Skipping.{address_base, address_index, base_bit, bits_by, either_bit, has_width, high_bit, high_of, index_bit, reg_bit, rex_bits, rex_may_fit, wide_bit, wide_by}

false_true : false ≡ true → ⊥
false_true h = cc

-- a bit is what is known of it
abbrev Agrees : Option ℕ → ℕ → Type 0
Agrees None bit = Unit {0}
Agrees (Some known) bit = known ≡ bit

high_agrees : (rex bit : ℕ) (place : Place) → has_high_bit (Some rex) bit place ≡ true → Agrees (high_bit place) bit
high_agrees rex bit Nothing fits = tt
high_agrees rex bit (Reg number) fits = eqb-true (number / 8) bit fits
high_agrees rex bit (High number) fits = absurd (false_true fits)
high_agrees rex bit (Mem address) fits = tt
high_agrees rex bit Value fits = tt

of_agrees : (bit : ℕ) (number : Option ℕ) → has_bit bit number ≡ true → Agrees (high_of number) bit
of_agrees bit None fits = tt
of_agrees bit (Some number) fits = eqb-true (number / 8) bit fits

index_of_place : (rex : ℕ) (place : Place) → address_fits rex place ≡ true → Agrees (address_index place) (rex_x rex)
index_of_place rex Nothing fits = tt
index_of_place rex (Reg number) fits = tt
index_of_place rex (High number) fits = tt
index_of_place rex (Mem address) fits =
    of_agrees (rex_x rex) address.index ((and_parts (has_bit (rex_b rex) address.base) (has_bit (rex_x rex) address.index) fits).1)
index_of_place rex Value fits = tt

base_of_place : (rex : ℕ) (place : Place) → has_high_bit (Some rex) (rex_b rex) place ≡ true → address_fits rex place ≡ true → Agrees (address_base place) (rex_b rex)
base_of_place rex Nothing fits also = tt
base_of_place rex (Reg number) fits also = eqb-true (number / 8) (rex_b rex) fits
base_of_place rex (High number) fits also = absurd (false_true fits)
base_of_place rex (Mem address) fits also =
    of_agrees (rex_b rex) address.base ((and_parts (has_bit (rex_b rex) address.base) (has_bit (rex_x rex) address.index) also).0)
base_of_place rex Value fits also = tt

reg_agrees : (rex : ℕ) (letter : Operand) (place : Place) → rex_fits (Some rex) letter place ≡ true → Agrees (reg_bit letter place) (rex_r rex)
reg_agrees rex operand.Absent place fits = tt
reg_agrees rex operand.Eb place fits = tt
reg_agrees rex operand.Ev place fits = tt
reg_agrees rex operand.Gb place fits = high_agrees rex (rex_r rex) place fits
reg_agrees rex operand.Gv place fits = high_agrees rex (rex_r rex) place fits
reg_agrees rex operand.Zb place fits = tt
reg_agrees rex operand.Zv place fits = tt
reg_agrees rex operand.Accumulator place fits = tt
reg_agrees rex operand.Counter place fits = tt
reg_agrees rex operand.Port place fits = tt
reg_agrees rex operand.Constant place fits = tt

index_agrees : (rex : ℕ) (letter : Operand) (place : Place) → rex_fits (Some rex) letter place ≡ true → Agrees (index_bit letter place) (rex_x rex)
index_agrees rex operand.Absent place fits = tt
index_agrees rex operand.Eb place fits = index_of_place rex place ((and_parts (has_high_bit (Some rex) (rex_b rex) place) (address_fits rex place) fits).1)
index_agrees rex operand.Ev place fits = index_of_place rex place ((and_parts (has_high_bit (Some rex) (rex_b rex) place) (address_fits rex place) fits).1)
index_agrees rex operand.Gb place fits = tt
index_agrees rex operand.Gv place fits = tt
index_agrees rex operand.Zb place fits = tt
index_agrees rex operand.Zv place fits = tt
index_agrees rex operand.Accumulator place fits = tt
index_agrees rex operand.Counter place fits = tt
index_agrees rex operand.Port place fits = tt
index_agrees rex operand.Constant place fits = tt

base_agrees : (rex : ℕ) (letter : Operand) (place : Place) → rex_fits (Some rex) letter place ≡ true → Agrees (base_bit letter place) (rex_b rex)
base_agrees rex operand.Absent place fits = tt
base_agrees rex operand.Eb place fits = base_of_place rex place ((and_parts (has_high_bit (Some rex) (rex_b rex) place) (address_fits rex place) fits).0) ((and_parts (has_high_bit (Some rex) (rex_b rex) place) (address_fits rex place) fits).1)
base_agrees rex operand.Ev place fits = base_of_place rex place ((and_parts (has_high_bit (Some rex) (rex_b rex) place) (address_fits rex place) fits).0) ((and_parts (has_high_bit (Some rex) (rex_b rex) place) (address_fits rex place) fits).1)
base_agrees rex operand.Gb place fits = tt
base_agrees rex operand.Gv place fits = tt
base_agrees rex operand.Zb place fits = high_agrees rex (rex_b rex) place fits
base_agrees rex operand.Zv place fits = high_agrees rex (rex_b rex) place fits
base_agrees rex operand.Accumulator place fits = tt
base_agrees rex operand.Counter place fits = tt
base_agrees rex operand.Port place fits = tt
base_agrees rex operand.Constant place fits = tt

either_agrees : (one other : Option ℕ) (bit : ℕ) → Agrees one bit → Agrees other bit → Agrees (either_bit one other) bit
either_agrees None other bit h g = g
either_agrees (Some known) other bit h g = h

-- the width depends on W alone
abbrev size_by : ℕ → Bool → ℕ
size_by wide narrow = cond (nat_eq wide 1) 64 (cond narrow 16 32)

width_same : (w : Width) (narrow : Bool) (rex other : ℕ) → rex_w rex ≡ rex_w other → width_of w (size_prefixes narrow (Some rex)) ≡ width_of w (size_prefixes narrow (Some other))
width_same width.Byte narrow rex other same = refl
width_same width.Word narrow rex other same = refl
width_same width.Quad narrow rex other same = refl
width_same width.Variable narrow rex other same = ap (λ b. size_by b narrow) same
width_same width.Stack narrow rex other same = ap (λ b. cond (nat_eq (size_by b narrow) 16) 16 64) same

wide_agrees : (without with_it : Bool) (bit : ℕ) → bit < 2 → (bit ≡ 0 → without ≡ true) → (bit ≡ 1 → with_it ≡ true) → Agrees (wide_by without with_it) bit
wide_agrees true true bit small h g = tt
wide_agrees true false zero small h g = refl
wide_agrees true false (suc zero) small h g = absurd (false_true (g refl))
wide_agrees true false (suc (suc bit)) small h g = absurd (omega arith)
wide_agrees false true zero small h g = absurd (false_true (h refl))
wide_agrees false true (suc zero) small h g = refl
wide_agrees false true (suc (suc bit)) small h g = absurd (omega arith)
wide_agrees false false zero small h g = absurd (false_true (h refl))
wide_agrees false false (suc zero) small h g = absurd (false_true (g refl))
wide_agrees false false (suc (suc bit)) small h g = absurd (omega arith)

width_agrees : (shape : Shape) (instr : Instr) (narrow : Bool) (rex : ℕ) → has_width shape instr narrow rex ≡ true → Agrees (wide_bit shape instr narrow) (rex_w rex)
width_agrees shape instr narrow rex fits =
    let at : (other : ℕ) → rex_w rex ≡ rex_w other → has_width shape instr narrow other ≡ true =
    λ other same. sym (ap (λ w. nat_eq w instr.width) (width_same shape.width narrow rex other same)) ∙ fits in
    wide_agrees (has_width shape instr narrow 0x40) (has_width shape instr narrow 0x48) (rex_w rex) (omega arith) (at 0x40) (at 0x48)

-- known bits, or any
abbrev known_if : Bool → ℕ → Option ℕ
known_if true bit = Some bit
known_if false bit = None

abbrev stands : Option ℕ → Bool
stands None = false
stands (Some known) = true

known_is : (known : Option ℕ) (bit : ℕ) → Agrees known bit → known ≡ known_if (stands known) bit
known_is None bit agrees = refl
known_is (Some known) bit agrees = ap (λ (b : ℕ). Some b) agrees

abbrev known_test : Bool → Bool → Bool → Bool → ℕ → Bool
known_test w r x b low =
    rex_may_fit (bits_by (known_if w (rex_w (0x40 + low))) (known_if r (rex_r (0x40 + low))) (known_if x (rex_x (0x40 + low))) (known_if b (rex_b (0x40 + low)))) low

abbrev yes_at : ℕ → Bool
yes_at low = true

known_at : (w r x b : Bool) (low : ℕ) → low < 16 → known_test w r x b low ≡ true
unfolding rex_may_fit
known_at true true true true low small = agree_below_at (known_test true true true true) yes_at 16 low refl small
known_at true true true false low small = agree_below_at (known_test true true true false) yes_at 16 low refl small
known_at true true false true low small = agree_below_at (known_test true true false true) yes_at 16 low refl small
known_at true true false false low small = agree_below_at (known_test true true false false) yes_at 16 low refl small
known_at true false true true low small = agree_below_at (known_test true false true true) yes_at 16 low refl small
known_at true false true false low small = agree_below_at (known_test true false true false) yes_at 16 low refl small
known_at true false false true low small = agree_below_at (known_test true false false true) yes_at 16 low refl small
known_at true false false false low small = agree_below_at (known_test true false false false) yes_at 16 low refl small
known_at false true true true low small = agree_below_at (known_test false true true true) yes_at 16 low refl small
known_at false true true false low small = agree_below_at (known_test false true true false) yes_at 16 low refl small
known_at false true false true low small = agree_below_at (known_test false true false true) yes_at 16 low refl small
known_at false true false false low small = agree_below_at (known_test false true false false) yes_at 16 low refl small
known_at false false true true low small = agree_below_at (known_test false false true true) yes_at 16 low refl small
known_at false false true false low small = agree_below_at (known_test false false true false) yes_at 16 low refl small
known_at false false false true low small = agree_below_at (known_test false false false true) yes_at 16 low refl small
known_at false false false false low small = agree_below_at (known_test false false false false) yes_at 16 low refl small

bits_agree : (w r x b : Option ℕ) (low : ℕ) → low < 16 → Agrees w (rex_w (0x40 + low)) → Agrees r (rex_r (0x40 + low)) → Agrees x (rex_x (0x40 + low)) → Agrees b (rex_b (0x40 + low)) → rex_may_fit (bits_by w r x b) low ≡ true
bits_agree w r x b low small is_w is_r is_x is_b =
    let wide : Option ℕ = known_if (stands w) (rex_w (0x40 + low)) in
    let reg : Option ℕ = known_if (stands r) (rex_r (0x40 + low)) in
    let index : Option ℕ = known_if (stands x) (rex_x (0x40 + low)) in
    ap (λ o. rex_may_fit (bits_by o r x b) low) (known_is w (rex_w (0x40 + low)) is_w)
    ∙ (ap (λ o. rex_may_fit (bits_by wide o x b) low) (known_is r (rex_r (0x40 + low)) is_r)
    ∙ (ap (λ o. rex_may_fit (bits_by wide reg o b) low) (known_is x (rex_x (0x40 + low)) is_x)
    ∙ (ap (λ o. rex_may_fit (bits_by wide reg index o) low) (known_is b (rex_b (0x40 + low)) is_b)
    ∙ known_at (stands w) (stands r) (stands x) (stands b) low small)))

sizes_agree : (shape : Shape) (instr : Instr) (narrow : Bool) (low : ℕ) → low < 16 → size_fits shape instr narrow (Some (0x40 + low)) ≡ true → rex_may_fit (rex_bits shape instr narrow) low ≡ true
unfolding rex_bits
sizes_agree shape instr narrow low small fits =
    let rex : ℕ = 0x40 + low in
    let to : Bool = rex_fits (Some rex) shape.to instr.to in
    let from : Bool = rex_fits (Some rex) shape.from instr.from in
    let one : (has_width shape instr narrow rex ≡ true) × ((to && from) ≡ true) = and_parts (has_width shape instr narrow rex) (to && from) fits in
    let two : (to ≡ true) × (from ≡ true) = and_parts to from (one.1) in
    bits_agree (wide_bit shape instr narrow)
    (either_bit (reg_bit shape.to instr.to) (reg_bit shape.from instr.from))
    (either_bit (index_bit shape.to instr.to) (index_bit shape.from instr.from))
    (either_bit (base_bit shape.to instr.to) (base_bit shape.from instr.from))
    low small
    (width_agrees shape instr narrow rex (one.0))
    (either_agrees (reg_bit shape.to instr.to) (reg_bit shape.from instr.from) (rex_r rex) (reg_agrees rex shape.to instr.to (two.0)) (reg_agrees rex shape.from instr.from (two.1)))
    (either_agrees (index_bit shape.to instr.to) (index_bit shape.from instr.from) (rex_x rex) (index_agrees rex shape.to instr.to (two.0)) (index_agrees rex shape.from instr.from (two.1)))
    (either_agrees (base_bit shape.to instr.to) (base_bit shape.from instr.from) (rex_b rex) (base_agrees rex shape.to instr.to (two.0)) (base_agrees rex shape.from instr.from (two.1)))

-- with other bits nothing is tried
pub rex_none : (instr : Instr) (map : Map) (opcode : ℕ) (row : TableRow) (narrow : Bool) (low : ℕ) → low < 16 → rex_may_fit (rex_bits row.shape instr narrow) low ≡ false → by_rex instr map opcode row narrow low ≡ []
unfolding by_rex by_front
rex_none instr map opcode row narrow low small other =
    let rex : Option ℕ = Some (0x40 + low) in
    elim (cases_Bool (size_fits row.shape instr narrow rex)) [
      | inl fits ↦ absurd (false_true (sym other ∙ sizes_agree row.shape instr narrow low small fits))
      | inr unfit ↦
          cond-false (size_fits row.shape instr narrow rex)
          (by_stem (stem_of instr map opcode narrow rex) (wanted_form row instr) (tail_of instr row)) [] unfit
    ]
