-- What the table says of each of its rows, map by map: the number fits the width, and a row with ModRM has an operand by
-- mod and rm, or none and is a NOP.
use Rattle.std.proofs.Common.{◌≡◌, ℕ, zero, suc, ◌<◌, ◌⊎◌, Bool, true, false, ◌&&◌, ◌||◌, not, cond, List, [], ◌∷◌, refl, sym, subst, ◌∙◌, arith}
use Rattle.std.specs.Prelude.{Contains}
use Rattle.std.specs.List.{list_all}
use Rattle.std.proofs.lemmas.Bool.{agree_below, agree_below_at, and_parts, cond-true, cond-false, or_cases}
use Rattle.x86_decode.specs.declared.operation.Op.TheVariants.{Nop}
use Rattle.x86_decode.specs.declared.reader.Map.{Map}
use Rattle.x86_decode.specs.declared.reader.Map.TheVariants.{OneByte, TwoByte}
use Rattle.x86_decode.specs.declared.shape.Number.{Number}
use Rattle.x86_decode.specs.declared.shape.Number.TheVariants as number
use Rattle.x86_decode.specs.declared.shape.Operand.{Operand}
use Rattle.x86_decode.specs.declared.shape.Operand.TheVariants as operand
use Rattle.x86_decode.specs.declared.shape.Shape.{Shape}
use Rattle.x86_decode.specs.declared.shape.Width.{Width}
use Rattle.x86_decode.specs.declared.shape.Width.TheVariants as width
use Rattle.x86_decode.specs.OpcodeTable.{OpcodeRow, one_byte_table, rows_at, two_byte_table}
use Rattle.asm_text.specs.Operations.{is_operation}
use Rattle.asm_text.specs.Fitting.{is_by_number, is_by_reg, is_by_rm, is_plain_layout}
use Rattle.asm_text.proofs.Tails.{width_fits}

abbrev pub is_absent : Operand → Bool
is_absent operand.Absent = true
is_absent _ = false

abbrev pub is_zero : Number → Bool
is_zero number.Zero = true
is_zero _ = false

abbrev pub is_quad : Width → Bool
is_quad width.Quad = true
is_quad _ = false

pub absent_is : (letter : Operand) → is_absent letter ≡ true → letter ≡ operand.Absent
absent_is operand.Absent h = refl
absent_is operand.Eb h = absurd (cc)
absent_is operand.Ev h = absurd (cc)
absent_is operand.Gb h = absurd (cc)
absent_is operand.Gv h = absurd (cc)
absent_is operand.Zb h = absurd (cc)
absent_is operand.Zv h = absurd (cc)
absent_is operand.Accumulator h = absurd (cc)
absent_is operand.Counter h = absurd (cc)
absent_is operand.Port h = absurd (cc)
absent_is operand.Constant h = absurd (cc)

pub zero_is : (n : Number) → is_zero n ≡ true → n ≡ number.Zero
zero_is number.Zero h = refl
zero_is number.One h = absurd (cc)
zero_is number.Ib h = absurd (cc)
zero_is number.Iz h = absurd (cc)
zero_is number.Iv h = absurd (cc)
zero_is number.Jz h = absurd (cc)
zero_is number.Ub h = absurd (cc)
zero_is number.Uw h = absurd (cc)
zero_is number.Cn h = absurd (cc)

pub quad_is : (w : Width) → is_quad w ≡ true → w ≡ width.Quad
quad_is width.Byte h = absurd (cc)
quad_is width.Word h = absurd (cc)
quad_is width.Quad h = refl
quad_is width.Variable h = absurd (cc)
quad_is width.Stack h = absurd (cc)

-- a NOP whose ModRM names no operand
abbrev pub is_bare : OpcodeRow → Bool
is_bare row =
    is_operation row.op Nop
    && (is_absent row.shape.to && (is_absent row.shape.from && (is_zero row.shape.number && is_quad row.shape.width)))

abbrev pub names_rm : Shape → Bool
names_rm shape = is_by_rm shape.to || is_by_rm shape.from

abbrev pub names_none : Shape → Bool
names_none shape =
    not (names_rm shape) && (not (is_by_reg shape.to) && (not (is_by_reg shape.from) && not (is_by_number shape.number)))

-- without ModRM no operand and no number is by it, and with ModRM one operand is by mod and rm, but for a bare NOP
abbrev pub form_regular : OpcodeRow → Bool
form_regular row = cond (is_plain_layout row.shape.layout) (names_none row.shape) (names_rm row.shape || is_bare row)

abbrev pub row_regular : OpcodeRow → Bool
row_regular row = width_fits row.shape.number row.shape.width && form_regular row

one_byte_regular : agree_below (λ opcode. list_all row_regular (rows_at OneByte opcode)) (λ opcode. true) 256 ≡ true
unfolding one_byte_table
one_byte_regular = refl

two_byte_regular : agree_below (λ opcode. list_all row_regular (rows_at TwoByte opcode)) (λ opcode. true) 256 ≡ true
unfolding two_byte_table
two_byte_regular = refl

all_regular : (map : Map) (opcode : ℕ) → opcode < 256 → list_all row_regular (rows_at map opcode) ≡ true
all_regular OneByte opcode byte = agree_below_at (λ o. list_all row_regular (rows_at OneByte o)) (λ o. true) 256 opcode one_byte_regular byte
all_regular TwoByte opcode byte = agree_below_at (λ o. list_all row_regular (rows_at TwoByte o)) (λ o. true) 256 opcode two_byte_regular byte

one_of : (rows : List OpcodeRow) (row : OpcodeRow) → list_all row_regular rows ≡ true → Contains rows row → row_regular row ≡ true
one_of [] row all (k, below, is) = absurd (omega arith)
one_of (first ∷ rows) row all (zero, below, is) = let P : OpcodeRow → Type 0 = λ r. row_regular r ≡ true in subst P is (and_parts (row_regular first) (list_all row_regular rows) all).0
one_of (first ∷ rows) row all (suc k, below, is) = one_of rows row (and_parts (row_regular first) (list_all row_regular rows) all).1 (k, omega arith, is)

pub row_is_regular : (map : Map) (opcode : ℕ) (row : OpcodeRow) → opcode < 256 → Contains (rows_at map opcode) row → row_regular row ≡ true
row_is_regular map opcode row byte listed = one_of (rows_at map opcode) row (all_regular map opcode byte) listed

-- a row without ModRM
pub plain_row : (row : OpcodeRow) → row_regular row ≡ true → is_plain_layout row.shape.layout ≡ true → names_none row.shape ≡ true
plain_row row regular plain =
    sym (cond-true (is_plain_layout row.shape.layout) (names_none row.shape) (names_rm row.shape || is_bare row) plain)
    ∙ (and_parts (width_fits row.shape.number row.shape.width) (form_regular row) regular).1

-- a row with ModRM
pub modrm_row : (row : OpcodeRow) → row_regular row ≡ true → is_plain_layout row.shape.layout ≡ false → (names_rm row.shape ≡ true) ⊎ (is_bare row ≡ true)
modrm_row row regular not_plain =
    or_cases (names_rm row.shape) (is_bare row)
    (sym (cond-false (is_plain_layout row.shape.layout) (names_none row.shape) (names_rm row.shape || is_bare row) not_plain)
    ∙ (and_parts (width_fits row.shape.number row.shape.width) (form_regular row) regular).1)
