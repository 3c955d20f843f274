-- The bytes behind an opcode: more bytes change nothing once there are enough, and zeros fill what is cut.
use Rattle.std.proofs.Common.{◌≡◌, ℕ, ◌<◌, ◌≤◌, ◌+◌, ◌*◌, ◌/◌, ◌%◌, ◌^◌, List, ◌++◌, length, drop, replicate, slice_index, refl, ap, ◌∙◌, arith, inl, inr}
use Rattle.std.proofs.Math.ListN.{get_or-append}
use Rattle.std.proofs.lemmas.Bool.{cases_lt}
use Rattle.std.proofs.lemmas.List.{drop-append-le, length-drop}
use Rattle.decode_fields.specs.declared.parts.ModRm.{ModRm}
use Rattle.decode_fields.specs.declared.parts.Prefixes.{Prefixes}
use Rattle.decode_fields.specs.declared.place.Place.{Place}
use Rattle.decode_fields.specs.declared.place.Place.TheVariants.{Reg}
use Rattle.decode_fields.specs.ModRm.{rm_field, rex_b}
use Rattle.x86_decode.proofs.FieldLaws.{FieldLaws, modrm_fields-append, modrm_length-append, modrm_length-zeros, signed_number-append}
use Rattle.x86_decode.specs.declared.instruction.Instr.{Instr}
use Rattle.x86_decode.specs.declared.operation.Op.{Op}
use Rattle.x86_decode.specs.declared.shape.Shape.{Shape}
use Rattle.x86_decode.specs.declared.shape.RowLayout.{RowLayout}
use Rattle.x86_decode.specs.declared.shape.RowLayout.TheVariants.{Plain, AnyForm, Memory, Register, Ignored}
use Rattle.x86_decode.specs.declared.shape.Number.{Number}
use Rattle.x86_decode.specs.declared.shape.Number.TheVariants.{Zero, One, Ib, Iz, Iv, Jz, Ub, Uw, Cn}
use Rattle.x86_decode.specs.Meaning.{cut_number, fields_of, instr_by, instr_of, layout_length, number_size, number_value, operand_length, rex_number, width_of}

pub layout_length-append : (laws : FieldLaws) (layout : RowLayout) (bytes more : List ℕ) → layout_length layout bytes ≤ length bytes → layout_length layout (bytes ++ more) ≡ layout_length layout bytes
layout_length-append laws Plain bytes more there = refl
layout_length-append laws AnyForm bytes more there = modrm_length-append laws bytes more there
layout_length-append laws Memory bytes more there = modrm_length-append laws bytes more there
layout_length-append laws Register bytes more there = modrm_length-append laws bytes more there
layout_length-append laws Ignored bytes more there = refl

layout_length-within : (laws : FieldLaws) (layout : RowLayout) (bytes more : List ℕ) → layout_length layout (bytes ++ more) ≤ length bytes → layout_length layout bytes ≡ layout_length layout (bytes ++ more)
layout_length-within laws Plain bytes more there = refl
layout_length-within laws AnyForm bytes more there = laws.longer.needed bytes more there
layout_length-within laws Memory bytes more there = laws.longer.needed bytes more there
layout_length-within laws Register bytes more there = laws.longer.needed bytes more there
layout_length-within laws Ignored bytes more there = refl

layout_length-zeros : (layout : RowLayout) (bytes : List ℕ) (n : ℕ) → layout_length layout (bytes ++ replicate n 0) ≡ layout_length layout bytes
layout_length-zeros Plain bytes n = refl
layout_length-zeros AnyForm bytes n = modrm_length-zeros bytes n
layout_length-zeros Memory bytes n = modrm_length-zeros bytes n
layout_length-zeros Register bytes n = modrm_length-zeros bytes n
layout_length-zeros Ignored bytes n = refl

pub operand_length-append : (laws : FieldLaws) (shape : Shape) (prefixes : Prefixes) (bytes more : List ℕ) → operand_length shape prefixes bytes ≤ length bytes → operand_length shape prefixes (bytes ++ more) ≡ operand_length shape prefixes bytes
operand_length-append laws shape prefixes bytes more there =
    ap (λ n. n + number_size shape.number (width_of shape.width prefixes)) (layout_length-append laws shape.layout bytes more (omega arith))

pub operand_length-within : (laws : FieldLaws) (shape : Shape) (prefixes : Prefixes) (bytes more : List ℕ) → operand_length shape prefixes (bytes ++ more) ≤ length bytes → operand_length shape prefixes bytes ≡ operand_length shape prefixes (bytes ++ more)
operand_length-within laws shape prefixes bytes more there =
    ap (λ n. n + number_size shape.number (width_of shape.width prefixes)) (layout_length-within laws shape.layout bytes more (omega arith))

pub operand_length-zeros : (shape : Shape) (prefixes : Prefixes) (bytes : List ℕ) (n : ℕ) → operand_length shape prefixes (bytes ++ replicate n 0) ≡ operand_length shape prefixes bytes
operand_length-zeros shape prefixes bytes n =
    ap (λ m. m + number_size shape.number (width_of shape.width prefixes)) (layout_length-zeros shape.layout bytes n)

-- bytes that end within what a row needs end within it whatever follows
pub operand_length-cut : (laws : FieldLaws) (shape : Shape) (prefixes : Prefixes) (bytes more : List ℕ) → length bytes < operand_length shape prefixes (bytes ++ more) → length bytes < operand_length shape prefixes bytes
operand_length-cut laws shape prefixes bytes more cut = elim (cases_lt (length bytes) (operand_length shape prefixes bytes)) [
  | inl short ↦ short
  | inr whole ↦ absurd (omega (arith, operand_length-append laws shape prefixes bytes more whole))
]

cut_number-append : (laws : FieldLaws) (size width : ℕ) (bytes more : List ℕ) → size ≤ length bytes → cut_number size width (bytes ++ more) ≡ cut_number size width bytes
cut_number-append laws size width bytes more there =
    let bits : 8 * size / 8 ≤ length bytes = omega arith in
    ap (λ n. n % 2 ^ width) (signed_number-append laws bytes more (8 * size) bits)

number_value-append : (laws : FieldLaws) (number : Number) (width reg : ℕ) (bytes more : List ℕ) → number_size number width ≤ length bytes → number_value number width reg (bytes ++ more) ≡ number_value number width reg bytes
number_value-append laws Zero width reg bytes more there = refl
number_value-append laws One width reg bytes more there = refl
number_value-append laws Ib width reg bytes more there = cut_number-append laws 1 width bytes more there
number_value-append laws Iz width reg bytes more there = cut_number-append laws (number_size Iz width) width bytes more there
number_value-append laws Iv width reg bytes more there = cut_number-append laws (width / 8) width bytes more there
number_value-append laws Jz width reg bytes more there = cut_number-append laws 4 width bytes more there
number_value-append laws Ub width reg bytes more there = get_or-append bytes more 0 0 (omega arith)
number_value-append laws Uw width reg bytes more there =
    ap (λ n. n + 256 * slice_index (bytes ++ more) 1) (get_or-append bytes more 0 0 (omega arith))
    ∙ ap (λ n. slice_index bytes 0 + 256 * n) (get_or-append bytes more 0 1 (omega arith))
number_value-append laws Cn width reg bytes more there = refl

abbrev fields : ℕ → Place → ℕ → ModRm
fields reg place length = record { reg = reg; place = place; length = length }

fields_of-append : (laws : FieldLaws) (layout : RowLayout) (bytes more : List ℕ) (rex : ℕ) → layout_length layout bytes ≤ length bytes → fields_of layout (bytes ++ more) rex ≡ fields_of layout bytes rex
fields_of-append laws Plain bytes more rex there = refl
fields_of-append laws AnyForm bytes more rex there = modrm_fields-append laws bytes more rex there
fields_of-append laws Memory bytes more rex there = modrm_fields-append laws bytes more rex there
fields_of-append laws Register bytes more rex there = modrm_fields-append laws bytes more rex there
fields_of-append laws Ignored bytes more rex there =
    ap (λ m. fields (m / 8 % 8 + 8 * (rex / 4 % 2)) (Reg (rm_field m + 8 * rex_b rex)) 1) (get_or-append bytes more 0 0 (omega arith))

by_value : (laws : FieldLaws) (op : Op) (shape : Shape) (prefixes : Prefixes) (opcode : ℕ) (fields : ModRm) (bytes more : List ℕ) → number_size shape.number (width_of shape.width prefixes) ≤ length bytes → instr_by op shape prefixes opcode fields (bytes ++ more) ≡ instr_by op shape prefixes opcode fields bytes
by_value laws op shape prefixes opcode fields bytes more enough =
    let i : Instr = instr_by op shape prefixes opcode fields bytes in
    ap (λ (v : ℕ). record i { value = v }) (number_value-append laws shape.number (width_of shape.width prefixes) fields.reg bytes more enough)

-- the instruction is that of the bytes that the row needs
pub instr_of-append : (laws : FieldLaws) (op : Op) (shape : Shape) (prefixes : Prefixes) (opcode : ℕ) (bytes more : List ℕ) → operand_length shape prefixes bytes ≤ length bytes → instr_of op shape prefixes opcode (bytes ++ more) ≡ instr_of op shape prefixes opcode bytes
instr_of-append laws op shape prefixes opcode bytes more there =
    let size : ℕ = number_size shape.number (width_of shape.width prefixes) in
    let rex : ℕ = rex_number prefixes in
    let within : layout_length shape.layout bytes ≤ length bytes = omega arith in
    let rest : List ℕ = drop (layout_length shape.layout bytes) bytes in
    let same_rest : drop (layout_length shape.layout (bytes ++ more)) (bytes ++ more) ≡ rest ++ more =
    ap (λ n. drop n (bytes ++ more)) (layout_length-append laws shape.layout bytes more within) ∙ drop-append-le (layout_length shape.layout bytes) bytes more within in
    let enough : size ≤ length rest = simp length-drop (omega arith) in
    ap (λ f. instr_by op shape prefixes opcode f (drop (layout_length shape.layout (bytes ++ more)) (bytes ++ more))) (fields_of-append laws shape.layout bytes more rex within)
    ∙ (ap (λ r. instr_by op shape prefixes opcode (fields_of shape.layout bytes rex) r) same_rest
    ∙ by_value laws op shape prefixes opcode (fields_of shape.layout bytes rex) rest more enough)
