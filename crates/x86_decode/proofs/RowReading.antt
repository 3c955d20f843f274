-- A row and the bytes behind its opcode: what the reader makes of them, both ways.
use Rattle.std.proofs.Common.{◌≡◌, ◌≢◌, ℕ, ◌<◌, ◌≤◌, ◌+◌, Bool, true, false, ◌&&◌, not, nat_lt, Option, Some, None, List, [], ◌∷◌, ◌++◌, length, slice_get, refl, ap, sym, subst, ◌∙◌, arith, inl, inr}
use Rattle.std.specs.Prelude.{Contains}
use Rattle.std.proofs.lemmas.Bool.{and_parts, cases_Bool, cond-true, cond-false, lt-ltb, le-ltb}
use Rattle.std.proofs.lemmas.List.{length-append, get_or_past}
use Rattle.decode_fields.specs.declared.parts.Prefixes.{Prefixes}
use Rattle.decode_fields.specs.ModRm.{modrm_byte}
use Rattle.x86_decode.proofs.FieldLaws.{FieldLaws, modrm_length-above}
use Rattle.x86_decode.specs.declared.instruction.Decoded.TheVariants.{Whole, Short}
use Rattle.x86_decode.specs.declared.operation.Op.{Op}
use Rattle.x86_decode.specs.declared.shape.Shape.{Shape}
use Rattle.x86_decode.specs.declared.shape.RowLayout.{RowLayout}
use Rattle.x86_decode.specs.declared.shape.RowLayout.TheVariants as layout
use Rattle.x86_decode.specs.declared.one_byte.TheConstants.{ONE_BYTE}
use Rattle.x86_decode.specs.declared.two_byte.TheConstants.{TWO_BYTE}
use Rattle.x86_decode.specs.declared.entry.OpcodeEntry.{OpcodeEntry}
use Rattle.x86_decode.specs.declared.entry.OpcodeEntry.TheVariants as entry
use Rattle.x86_decode.specs.declared.entry.Selector.{Selector}
use Rattle.x86_decode.specs.declared.entry.Selector.TheVariants as selector
use Rattle.x86_decode.specs.declared.choice.Choice.TheVariants as choice
use Rattle.x86_decode.specs.declared.reader.Map.{Map}
use Rattle.x86_decode.specs.declared.reader.Map.TheVariants.{OneByte, TwoByte}
use Rattle.x86_decode.specs.OpcodeTable.{OpcodeRow, When, rows_at, Always}
use Rattle.x86_decode.specs.Meaning.{instr_of, layout_length, layout_stands, operand_length, row_stands, when_stands}
use Rattle.x86_decode.specs.Grid.{entry_at, entry_rows, slots_from, when_at}
use Rattle.x86_decode.specs.Reader.{chosen, finished, read_choice, read_row, tested}
use Rattle.x86_decode.proofs.Examples.{entry_regular, row_sane, sane}
use Rattle.x86_decode.proofs.Maps.{rows_same}
use Rattle.x86_decode.proofs.Operands.{instr_of-append, operand_length-append, operand_length-cut}
use Rattle.x86_decode.proofs.Rows.{At, IsIn, in_group, chosen_by, contains, form_by_byte, is_in, is_plain, reads_modrm, tested_none, tested_plain, tested_some}

-- a row of the table is one of the entry's
pub listed_in : (where_from : Map) (opcode : ℕ) (row : OpcodeRow) → opcode < 256 → Contains (rows_at where_from opcode) row → IsIn row (entry_rows (entry_at where_from opcode))
listed_in where_from opcode row byte listed =
    let P : List OpcodeRow → Type 0 = λ rows. IsIn row rows in
    subst P (rows_same where_from opcode byte) (is_in (rows_at where_from opcode) row listed)

pub listed_at : (where_from : Map) (opcode : ℕ) (row : OpcodeRow) → opcode < 256 → IsIn row (entry_rows (entry_at where_from opcode)) → Contains (rows_at where_from opcode) row
listed_at where_from opcode row byte h =
    let P : List OpcodeRow → Type 0 = λ rows. IsIn row rows in
    contains (rows_at where_from opcode) row (subst P (sym (rows_same where_from opcode byte)) h)

-- no opcode is past the maps
pub entry_past : (where_from : Map) (opcode : ℕ) → 256 ≤ opcode → entry_at where_from opcode ≡ entry.Absent
unfolding entry_at
entry_past OneByte opcode past = get_or_past ONE_BYTE opcode entry.Absent past
entry_past TwoByte opcode past = get_or_past TWO_BYTE opcode entry.Absent past

-- a layout with ModRM has a byte at least
pub layout_some : (l : RowLayout) (operands : List ℕ) → is_plain l ≡ false → 1 ≤ layout_length l operands
layout_some layout.Plain operands h = absurd (cc)
layout_some layout.AnyForm operands h = modrm_length-above operands
layout_some layout.Memory operands h = modrm_length-above operands
layout_some layout.Register operands h = modrm_length-above operands
layout_some layout.Ignored operands h = omega arith

pub plain_none : (l : RowLayout) (operands : List ℕ) → layout_length l operands ≡ 0 → is_plain l ≡ true
plain_none layout.Plain operands h = refl
plain_none layout.AnyForm operands h = absurd (omega (arith, modrm_length-above operands))
plain_none layout.Memory operands h = absurd (omega (arith, modrm_length-above operands))
plain_none layout.Register operands h = absurd (omega (arith, modrm_length-above operands))
plain_none layout.Ignored operands h = absurd (omega arith)

head_append : (operands more : List ℕ) → 1 ≤ length operands → slice_get (operands ++ more) 0 ≡ Some (modrm_byte operands)
head_append [] more some = absurd (omega arith)
head_append (byte ∷ operands) more some = refl

not_and : (a b : Bool) → not (a && b) ≡ true → b ≡ true → a ≡ false
not_and true true h g = sym h
not_and true false h g = sym g
not_and false b h g = refl

false_true : (b : Bool) → b ≡ false → b ≡ true → ⊥
false_true b h g = cc

-- a row without ModRM doesn't look at it
pub plain_reads : (row : OpcodeRow) → sane row ≡ true → is_plain row.shape.layout ≡ true → reads_modrm row.when ≡ false
plain_reads row regular plain = not_and (reads_modrm row.when) (is_plain row.shape.layout) regular plain

-- the row that stands is chosen, where its ModRM byte, if it has one, is there
chosen_row : (it : OpcodeEntry) (prefixes : Prefixes) (row : OpcodeRow) (operands : List ℕ) (modrm : Option ℕ) → IsIn row (entry_rows it) → sane row ≡ true → row_stands row prefixes operands ≡ true → (is_plain row.shape.layout ≡ false → modrm ≡ Some (modrm_byte operands)) → chosen it prefixes modrm ≡ choice.Row row.op row.shape
chosen_row it prefixes row operands modrm h regular stands known =
    let parts : (when_stands row.when prefixes operands ≡ true) × (layout_stands row.shape.layout operands ≡ true) = and_parts _ _ stands in
    elim (cases_Bool (is_plain row.shape.layout)) [
      | inl plain ↦
          chosen_by it prefixes row operands modrm h parts.0 (λ reads. absurd (false_true (reads_modrm row.when) (plain_reads row regular plain) reads))
          ∙ tested_plain row.op row.shape modrm plain
      | inr not_plain ↦
          chosen_by it prefixes row operands modrm h parts.0 (λ reads. known not_plain)
          ∙ (ap (tested row.op row.shape) (known not_plain) ∙ tested_some row.op row.shape (modrm_byte operands) (sym (form_by_byte row.shape.layout operands) ∙ parts.1))
    ]

pub finished_cut : (op : Op) (shape : Shape) (prefixes : Prefixes) (opcode : ℕ) (operands : List ℕ) (front : ℕ) → length operands < operand_length shape prefixes operands → finished op shape prefixes opcode operands front ≡ Short
finished_cut op shape prefixes opcode operands front cut = cond-true (nat_lt (length operands) (operand_length shape prefixes operands)) Short (Whole (instr_of op shape prefixes opcode operands) (front + operand_length shape prefixes operands)) (lt-ltb _ _ cut)

pub finished_whole : (op : Op) (shape : Shape) (prefixes : Prefixes) (opcode : ℕ) (operands : List ℕ) (front : ℕ) → operand_length shape prefixes operands ≤ length operands → finished op shape prefixes opcode operands front ≡ Whole (instr_of op shape prefixes opcode operands) (front + operand_length shape prefixes operands)
finished_whole op shape prefixes opcode operands front whole = cond-false (nat_lt (length operands) (operand_length shape prefixes operands)) Short (Whole (instr_of op shape prefixes opcode operands) (front + operand_length shape prefixes operands)) (le-ltb _ _ whole)

-- all bytes of a row that stands, and more behind them
pub read_row_whole : (laws : FieldLaws) (where_from : Map) (prefixes : Prefixes) (opcode : ℕ) (row : OpcodeRow) (operands more : List ℕ) (front : ℕ) → opcode < 256 → Contains (rows_at where_from opcode) row → row_stands row prefixes operands ≡ true → length operands ≡ operand_length row.shape prefixes operands → read_row where_from prefixes opcode (operands ++ more) front ≡ Whole (instr_of row.op row.shape prefixes opcode operands) (front + length operands)
read_row_whole laws where_from prefixes opcode row operands more front byte listed stands whole =
    let it : OpcodeEntry = entry_at where_from opcode in
    let h : IsIn row (entry_rows it) = listed_in where_from opcode row byte listed in
    let regular : sane row ≡ true = row_sane it row (entry_regular where_from opcode byte) h in
    let known : is_plain row.shape.layout ≡ false → slice_get (operands ++ more) 0 ≡ Some (modrm_byte operands) =
    λ not_plain. head_append operands more (omega (arith, layout_some row.shape.layout operands not_plain)) in
    let same : operand_length row.shape prefixes (operands ++ more) ≡ operand_length row.shape prefixes operands =
    operand_length-append laws row.shape prefixes operands more (omega arith) in
    let enough : operand_length row.shape prefixes (operands ++ more) ≤ length (operands ++ more) = omega (arith, same, length-append operands more) in
    let size : operand_length row.shape prefixes (operands ++ more) ≡ length operands = same ∙ sym whole in
    ap (λ c. read_choice c prefixes opcode (operands ++ more) front) (chosen_row it prefixes row operands (slice_get (operands ++ more) 0) h regular stands known)
    ∙ (finished_whole row.op row.shape prefixes opcode (operands ++ more) front enough
    ∙ (ap (λ i. Whole i (front + operand_length row.shape prefixes (operands ++ more))) (instr_of-append laws row.op row.shape prefixes opcode operands more (omega arith))
    ∙ ap (λ n. Whole (instr_of row.op row.shape prefixes opcode operands) (front + n)) size))

always_reads : (row : OpcodeRow) (op : Op) (shape : Shape) → record { when = Always; op = op; shape = shape } ≡ row → reads_modrm row.when ≡ true → ⊥
always_reads row op shape is reads =
    let P : OpcodeRow → Type 0 = λ r. reads_modrm r.when ≡ false in
    false_true (reads_modrm row.when) (subst P is refl) reads

-- a group by reg needs ModRM
group_reads : (by : Selector) (first : ℕ) (prefixes : Prefixes) (k : ℕ) → reads_modrm (when_at by k) ≡ true → chosen (entry.Many by first) prefixes None ≡ choice.Missing
group_reads selector.Digit first prefixes k reads = refl
group_reads selector.Size first prefixes k reads = absurd (cc)
group_reads selector.RexB first prefixes k reads = absurd (cc)

reads_missing : (it : OpcodeEntry) (prefixes : Prefixes) (row : OpcodeRow) → IsIn row (entry_rows it) → reads_modrm row.when ≡ true → chosen it prefixes None ≡ choice.Missing
reads_missing entry.Absent prefixes row h reads = absurd h
reads_missing (entry.One op shape) prefixes row (inl is) reads = absurd (always_reads row op shape is reads)
reads_missing (entry.One op shape) prefixes row (inr h) reads = absurd h
reads_missing (entry.Many by first) prefixes row h reads =
    let at : At row by 0 (slots_from first) = in_group by 0 (slots_from first) row h in
    let P : When → Type 0 = λ w. reads_modrm w ≡ true in
    group_reads by first prefixes (0 + at.further) (subst P at.when reads)

-- without any byte behind the opcode a row that needs one reads as cut
read_row_empty : (it : OpcodeEntry) (prefixes : Prefixes) (opcode : ℕ) (row : OpcodeRow) (more : List ℕ) (front : ℕ) → IsIn row (entry_rows it) → row_stands row prefixes more ≡ true → 0 < operand_length row.shape prefixes [] → read_choice (chosen it prefixes None) prefixes opcode [] front ≡ Short
read_row_empty it prefixes opcode row more front h stands some =
    let parts : (when_stands row.when prefixes more ≡ true) × (layout_stands row.shape.layout more ≡ true) = and_parts _ _ stands in
    elim (cases_Bool (reads_modrm row.when)) [
      | inl reads ↦ ap (λ c. read_choice c prefixes opcode [] front) (reads_missing it prefixes row h reads)
      | inr free ↦
          let chosen_one : chosen it prefixes None ≡ tested row.op row.shape None =
          chosen_by it prefixes row more None h parts.0 (λ reads. absurd (false_true (reads_modrm row.when) free reads)) in
          elim (tested_none row.op row.shape) [
            | inl misses ↦ ap (λ c. read_choice c prefixes opcode [] front) (chosen_one ∙ misses)
            | inr is_row ↦ ap (λ c. read_choice c prefixes opcode [] front) (chosen_one ∙ is_row) ∙ finished_cut row.op row.shape prefixes opcode [] front some
          ]
    ]

some_length : (more : List ℕ) → more ≢ [] → 1 ≤ length more
some_length [] some = absurd (some refl)
some_length (byte ∷ more) some = omega arith

-- the bytes of a row that stands, cut
pub read_row_cut : (laws : FieldLaws) (where_from : Map) (prefixes : Prefixes) (opcode : ℕ) (row : OpcodeRow) (operands more : List ℕ) (front : ℕ) → opcode < 256 → Contains (rows_at where_from opcode) row → row_stands row prefixes (operands ++ more) ≡ true → length (operands ++ more) ≡ operand_length row.shape prefixes (operands ++ more) → more ≢ [] → read_row where_from prefixes opcode operands front ≡ Short
read_row_cut laws where_from prefixes opcode row [] more front byte listed stands whole some =
    let it : OpcodeEntry = entry_at where_from opcode in
    let h : IsIn row (entry_rows it) = listed_in where_from opcode row byte listed in
    let cut : length {A = ℕ} [] < operand_length row.shape prefixes ([] ++ more) = omega (arith, some_length more some) in
    read_row_empty it prefixes opcode row more front h stands (operand_length-cut laws row.shape prefixes [] more cut)
read_row_cut laws where_from prefixes opcode row (first ∷ operands) more front byte listed stands whole some =
    let it : OpcodeEntry = entry_at where_from opcode in
    let h : IsIn row (entry_rows it) = listed_in where_from opcode row byte listed in
    let regular : sane row ≡ true = row_sane it row (entry_regular where_from opcode byte) h in
    let cut : length (first ∷ operands) < operand_length row.shape prefixes ((first ∷ operands) ++ more) =
    omega (arith, some_length more some, whole, length-append (first ∷ operands) more) in
    ap (λ c. read_choice c prefixes opcode (first ∷ operands) front)
    (chosen_row it prefixes row ((first ∷ operands) ++ more) (Some first) h regular stands (λ not_plain. refl))
    ∙ finished_cut row.op row.shape prefixes opcode (first ∷ operands) front (operand_length-cut laws row.shape prefixes (first ∷ operands) more cut)
