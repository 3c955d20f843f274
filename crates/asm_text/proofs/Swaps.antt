-- Prefix bytes that say the same, but for their number and a repeat prefix that doesn't count, make the same of a row.
use Rattle.std.proofs.Common.{◌≡◌, ℕ, ◌+◌, Bool, true, false, ◌&&◌, cond, List, drop, refl, ap, ◌∙◌}
use Rattle.decode_fields.specs.declared.parts.ModRm.{ModRm}
use Rattle.decode_fields.specs.declared.parts.Prefixes.{Prefixes}
use Rattle.decode_fields.specs.declared.parts.Rep.{Rep}
use Rattle.decode_fields.specs.declared.parts.Rep.TheVariants.{No}
use Rattle.decode_fields.specs.declared.place.Place.{Place}
use Rattle.x86_decode.specs.declared.instruction.Instr.{Instr}
use Rattle.x86_decode.specs.declared.operation.Op.{Op}
use Rattle.x86_decode.specs.declared.shape.Operand.{Operand}
use Rattle.x86_decode.specs.declared.shape.Operand.TheVariants as operand
use Rattle.x86_decode.specs.declared.shape.Shape.{Shape}
use Rattle.x86_decode.specs.declared.shape.Width.{Width}
use Rattle.x86_decode.specs.declared.shape.Width.TheVariants as width
use Rattle.x86_decode.specs.OpcodeTable.{OpcodeRow, When, Always, Digit, AtSize, AtRexB}
use Rattle.x86_decode.specs.Meaning.{fields_of, instr_by, instr_of, is_string, layout_length, layout_stands, number_size, number_value, operand_length, operand_place, rep_by, rex_number, row_stands, when_stands, width_of}
use Rattle.asm_text.proofs.FrontSays.{prefixes_by}

-- the same prefixes with another count and another repeat prefix
abbrev pub swapped : Prefixes → ℕ → Rep → Prefixes
swapped prefixes count rep = prefixes_by count prefixes.narrow prefixes.lock rep prefixes.rex

pub width_swapped : (w : Width) (prefixes : Prefixes) (count : ℕ) (rep : Rep) → width_of w (swapped prefixes count rep) ≡ width_of w prefixes
width_swapped width.Byte prefixes count rep = refl
width_swapped width.Word prefixes count rep = refl
width_swapped width.Quad prefixes count rep = refl
width_swapped width.Variable prefixes count rep = refl
width_swapped width.Stack prefixes count rep = refl

when_swapped : (w : When) (prefixes : Prefixes) (count : ℕ) (rep : Rep) (operands : List ℕ) → when_stands w (swapped prefixes count rep) operands ≡ when_stands w prefixes operands
when_swapped Always prefixes count rep operands = refl
when_swapped (Digit n) prefixes count rep operands = refl
when_swapped (AtSize n) prefixes count rep operands = refl
when_swapped (AtRexB n) prefixes count rep operands = refl

pub stands_swapped : (row : OpcodeRow) (prefixes : Prefixes) (count : ℕ) (rep : Rep) (operands : List ℕ) → row_stands row (swapped prefixes count rep) operands ≡ row_stands row prefixes operands
stands_swapped row prefixes count rep operands =
    ap (λ b. b && layout_stands row.shape.layout operands) (when_swapped row.when prefixes count rep operands)

pub length_swapped : (shape : Shape) (prefixes : Prefixes) (count : ℕ) (rep : Rep) (operands : List ℕ) → operand_length shape (swapped prefixes count rep) operands ≡ operand_length shape prefixes operands
length_swapped shape prefixes count rep operands =
    ap (λ w. layout_length shape.layout operands + number_size shape.number w) (width_swapped shape.width prefixes count rep)

place_swapped : (letter : Operand) (prefixes : Prefixes) (count : ℕ) (rep : Rep) (opcode : ℕ) (fields : ModRm) → operand_place letter (swapped prefixes count rep) opcode fields ≡ operand_place letter prefixes opcode fields
place_swapped operand.Absent prefixes count rep opcode fields = refl
place_swapped operand.Eb prefixes count rep opcode fields = refl
place_swapped operand.Ev prefixes count rep opcode fields = refl
place_swapped operand.Gb prefixes count rep opcode fields = refl
place_swapped operand.Gv prefixes count rep opcode fields = refl
place_swapped operand.Zb prefixes count rep opcode fields = refl
place_swapped operand.Zv prefixes count rep opcode fields = refl
place_swapped operand.Accumulator prefixes count rep opcode fields = refl
place_swapped operand.Counter prefixes count rep opcode fields = refl
place_swapped operand.Port prefixes count rep opcode fields = refl
place_swapped operand.Constant prefixes count rep opcode fields = refl

rep_twice : (string : Bool) (rep : Rep) → cond string (cond string rep No) No ≡ cond string rep No
rep_twice true rep = refl
rep_twice false rep = refl

-- the repeat prefix that counts is enough
pub rep_swapped : (op : Op) (prefixes : Prefixes) (count : ℕ) → rep_by op (swapped prefixes count (rep_by op prefixes)) ≡ rep_by op prefixes
rep_swapped op prefixes count = rep_twice (is_string op) prefixes.rep

abbrev instr_parts : Op → ℕ → Place → Place → ℕ → Rep → Bool → Instr
instr_parts op width to from value rep lock =
    record { op = op; width = width; to = to; from = from; value = value; rep = rep; lock = lock }

by_swapped : (op : Op) (shape : Shape) (prefixes : Prefixes) (count opcode : ℕ) (fields : ModRm) (bytes : List ℕ) → instr_by op shape (swapped prefixes count (rep_by op prefixes)) opcode fields bytes ≡ instr_by op shape prefixes opcode fields bytes
by_swapped op shape prefixes count opcode fields bytes =
    let rep : Rep = rep_by op prefixes in
    let other : Prefixes = swapped prefixes count rep in
    let wide : ℕ = width_of shape.width other in
    let w : ℕ = width_of shape.width prefixes in
    let to : Place = operand_place shape.to prefixes opcode fields in
    let from : Place = operand_place shape.from prefixes opcode fields in
    ap (λ p. instr_parts op wide p (operand_place shape.from other opcode fields) (number_value shape.number wide fields.reg bytes) (rep_by op other) prefixes.lock) (place_swapped shape.to prefixes count rep opcode fields)
    ∙ (ap (λ p. instr_parts op wide to p (number_value shape.number wide fields.reg bytes) (rep_by op other) prefixes.lock) (place_swapped shape.from prefixes count rep opcode fields)
    ∙ (ap (λ n. instr_parts op n to from (number_value shape.number n fields.reg bytes) (rep_by op other) prefixes.lock) (width_swapped shape.width prefixes count rep)
    ∙ ap (λ r. instr_parts op w to from (number_value shape.number w fields.reg bytes) r prefixes.lock) (rep_swapped op prefixes count)))

pub instr_swapped : (op : Op) (shape : Shape) (prefixes : Prefixes) (count opcode : ℕ) (operands : List ℕ) → instr_of op shape (swapped prefixes count (rep_by op prefixes)) opcode operands ≡ instr_of op shape prefixes opcode operands
instr_swapped op shape prefixes count opcode operands =
    by_swapped op shape prefixes count opcode (fields_of shape.layout operands (rex_number prefixes)) (drop (layout_length shape.layout operands) operands)
