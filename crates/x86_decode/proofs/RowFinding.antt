-- What the reader makes of a row comes from one that stands: a whole row, or one that goes on.
use Rattle.std.proofs.Common.{◌≡◌, ℕ, zero, suc, ◌<◌, ◌≤◌, ◌+◌, ◌-◌, true, false, None, List, [], ◌∷◌, ◌++◌, length, take, drop, replicate, slice_get, refl, ap, sym, subst, ◌∙◌, arith, inl, inr}
use Rattle.std.specs.Prelude.{Contains}
use Rattle.std.proofs.lemmas.Bool.{and_parts, and_from, cases_lt}
use Rattle.std.proofs.lemmas.List.Elements.{All-cons, All-replicate}
use Rattle.std.proofs.lemmas.List.{length-append, length-replicate, length-take-le, take-append-drop}
use Rattle.decode_fields.specs.declared.parts.Prefixes.{Prefixes}
use Rattle.x86_decode.specs.declared.instruction.Instr.{Instr}
use Rattle.x86_decode.specs.declared.instruction.Decoded.TheVariants.{Whole, Short, Unknown}
use Rattle.x86_decode.specs.declared.operation.Op.{Op}
use Rattle.x86_decode.specs.declared.shape.Shape.{Shape}
use Rattle.x86_decode.specs.declared.shape.RowLayout.{RowLayout}
use Rattle.x86_decode.specs.declared.shape.RowLayout.TheVariants as layout
use Rattle.x86_decode.specs.declared.choice.Choice.{Choice}
use Rattle.x86_decode.specs.declared.choice.Choice.TheVariants as choice
use Rattle.x86_decode.specs.declared.reader.Map.{Map}
use Rattle.x86_decode.specs.OpcodeTable.{OpcodeRow, When, rows_at, Always, Digit, AtSize, AtRexB}
use Rattle.x86_decode.specs.Meaning.{instr_of, layout_length, layout_stands, operand_length, row_stands, when_stands}
use Rattle.x86_decode.specs.Grid.{entry_at, entry_rows}
use Rattle.x86_decode.specs.Spelling.{AreBytes}
use Rattle.x86_decode.specs.Reader.{chosen, finished, read_choice, read_row}
use Rattle.x86_decode.proofs.Examples.{Example, Missed, entry_regular, missing, row_sane, sane}
use Rattle.x86_decode.proofs.FieldLaws.{FieldLaws}
use Rattle.x86_decode.proofs.Operands.{instr_of-append, operand_length-within, operand_length-zeros}
use Rattle.x86_decode.proofs.RowReading.{entry_past, finished_cut, finished_whole, layout_some, listed_at, plain_none, plain_reads}
use Rattle.x86_decode.proofs.Rows.{Found, IsFirst, IsIn, form_by_byte, found, is_plain, reads_modrm}

pub short_whole : (i : Instr) (n : ℕ) → Short ≡ Whole i n → ⊥
short_whole i n e = cc

unknown_whole : (i : Instr) (n : ℕ) → Unknown ≡ Whole i n → ⊥
unknown_whole i n e = cc

unknown_short : Unknown ≡ Short → ⊥
unknown_short e = cc

whole_instr : (i k : Instr) (n m : ℕ) → Whole i n ≡ Whole k m → i ≡ k
whole_instr i k n m e = cc

whole_length : (i k : Instr) (n m : ℕ) → Whole i n ≡ Whole k m → n ≡ m
whole_length i k n m e = cc

-- a row without ModRM stands before any bytes
when_free : (w : When) (prefixes : Prefixes) (operands others : List ℕ) → reads_modrm w ≡ false → when_stands w prefixes operands ≡ true → when_stands w prefixes others ≡ true
when_free Always prefixes operands others free h = refl
when_free (Digit n) prefixes operands others free h = absurd (cc)
when_free (AtSize n) prefixes operands others free h = h
when_free (AtRexB n) prefixes operands others free h = h

layout_free : (l : RowLayout) (operands : List ℕ) → is_plain l ≡ true → layout_stands l operands ≡ true
layout_free layout.Plain operands h = refl
layout_free layout.AnyForm operands h = absurd (cc)
layout_free layout.Memory operands h = absurd (cc)
layout_free layout.Register operands h = absurd (cc)
layout_free layout.Ignored operands h = absurd (cc)

stands_free : (row : OpcodeRow) (prefixes : Prefixes) (operands others : List ℕ) → sane row ≡ true → is_plain row.shape.layout ≡ true → row_stands row prefixes operands ≡ true → row_stands row prefixes others ≡ true
stands_free row prefixes operands others regular plain stands =
    and_from _ _ (when_free row.when prefixes operands others (plain_reads row regular plain) (and_parts _ _ stands).0) (layout_free row.shape.layout others plain)

when_head : (w : When) (prefixes : Prefixes) (byte : ℕ) (operands others : List ℕ) → when_stands w prefixes (byte ∷ operands) ≡ when_stands w prefixes (byte ∷ others)
when_head Always prefixes byte operands others = refl
when_head (Digit n) prefixes byte operands others = refl
when_head (AtSize n) prefixes byte operands others = refl
when_head (AtRexB n) prefixes byte operands others = refl

-- of the bytes behind the opcode only the first is looked at
stands_head : (row : OpcodeRow) (prefixes : Prefixes) (byte : ℕ) (operands others : List ℕ) → row_stands row prefixes (byte ∷ operands) ≡ true → row_stands row prefixes (byte ∷ others) ≡ true
stands_head row prefixes byte operands others stands =
    and_from _ _ (when_head row.when prefixes byte others operands ∙ (and_parts _ _ stands).0)
    (form_by_byte row.shape.layout (byte ∷ others) ∙ (sym (form_by_byte row.shape.layout (byte ∷ operands)) ∙ (and_parts _ _ stands).1))

-- the row that is read stands before the bytes that it needs
stands_taken : (row : OpcodeRow) (prefixes : Prefixes) (operands : List ℕ) (count : ℕ) → sane row ≡ true → layout_length row.shape.layout operands ≤ count → row_stands row prefixes operands ≡ true → row_stands row prefixes (take count operands) ≡ true
stands_taken row prefixes [] zero regular fits stands = stands
stands_taken row prefixes [] (suc count) regular fits stands = stands
stands_taken row prefixes (byte ∷ operands) zero regular fits stands =
    stands_free row prefixes (byte ∷ operands) [] regular (plain_none row.shape.layout (byte ∷ operands) (omega arith)) stands
stands_taken row prefixes (byte ∷ operands) (suc count) regular fits stands = stands_head row prefixes byte operands (take count operands) stands

first_is : (operands : List ℕ) → IsFirst (slice_get operands 0) operands
first_is [] = inl refl
first_is (byte ∷ operands) = inr refl

first_more : (operands more : List ℕ) → IsFirst (slice_get operands 0) (operands ++ more)
first_more [] more = inl refl
first_more (byte ∷ operands) more = inr refl

-- a row of the table, and how many of the bytes are its own
pub record RowRead (where_from : Map) (prefixes : Prefixes) (opcode : ℕ) (operands : List ℕ) (front : ℕ) (instr : Instr) (size : ℕ) : Type 0 where
  pub row : OpcodeRow
  pub count : ℕ
  pub byte : opcode < 256
  pub listed : Contains (rows_at where_from opcode) row
  pub within : count ≤ length operands
  pub stands : row_stands row prefixes (take count operands) ≡ true
  pub whole : length (take count operands) ≡ operand_length row.shape prefixes (take count operands)
  pub meaning : instr ≡ instr_of row.op row.shape prefixes opcode (take count operands)
  pub size_is : size ≡ front + count

row_read : (laws : FieldLaws) (where_from : Map) (prefixes : Prefixes) (opcode : ℕ) (operands : List ℕ) (front : ℕ) (instr : Instr) (size : ℕ) (row : OpcodeRow) → opcode < 256 → IsIn row (entry_rows (entry_at where_from opcode)) → row_stands row prefixes operands ≡ true → finished row.op row.shape prefixes opcode operands front ≡ Whole instr size → RowRead where_from prefixes opcode operands front instr size
row_read laws where_from prefixes opcode operands front instr size row byte h stands reads =
    let count : ℕ = operand_length row.shape prefixes operands in
    elim (cases_lt (length operands) count) [
      | inl cut ↦ absurd (short_whole instr size (sym (finished_cut row.op row.shape prefixes opcode operands front cut) ∙ reads))
      | inr enough ↦
          let is : Whole (instr_of row.op row.shape prefixes opcode operands) (front + count) ≡ Whole instr size =
          sym (finished_whole row.op row.shape prefixes opcode operands front enough) ∙ reads in
          let mine : List ℕ = take count operands in
          let split : mine ++ drop count operands ≡ operands = take-append-drop count operands in
          let mine_length : length mine ≡ count = length-take-le count operands enough in
          let same : operand_length row.shape prefixes (mine ++ drop count operands) ≡ count = ap (operand_length row.shape prefixes) split in
          let needs : operand_length row.shape prefixes mine ≡ count =
          operand_length-within laws row.shape prefixes mine (drop count operands) (omega arith) ∙ same in
          let meant : instr_of row.op row.shape prefixes opcode operands ≡ instr_of row.op row.shape prefixes opcode mine =
          ap (instr_of row.op row.shape prefixes opcode) (sym split) ∙ instr_of-append laws row.op row.shape prefixes opcode mine (drop count operands) (omega arith) in
          record {
            row = row;
            count = count;
            byte = byte;
            listed = listed_at where_from opcode row byte h;
            within = enough;
            stands = stands_taken row prefixes operands count (row_sane (entry_at where_from opcode) row (entry_regular where_from opcode byte) h) (omega arith) stands;
            whole = mine_length ∙ sym needs;
            meaning = sym (whole_instr _ instr _ size is) ∙ meant;
            size_is = sym (whole_length _ instr _ size is);
          }
    ]

choice_read : (laws : FieldLaws) (where_from : Map) (prefixes : Prefixes) (opcode : ℕ) (operands : List ℕ) (front : ℕ) (instr : Instr) (size : ℕ) → opcode < 256 → (chose : Choice) → chosen (entry_at where_from opcode) prefixes (slice_get operands 0) ≡ chose → read_choice chose prefixes opcode operands front ≡ Whole instr size → RowRead where_from prefixes opcode operands front instr size
choice_read laws where_from prefixes opcode operands front instr size byte choice.Missing is reads = absurd (short_whole instr size reads)
choice_read laws where_from prefixes opcode operands front instr size byte choice.Absent is reads = absurd (unknown_whole instr size reads)
choice_read laws where_from prefixes opcode operands front instr size byte (choice.Row op shape) is reads =
    let f : Found (entry_at where_from opcode) prefixes (slice_get operands 0) op shape = found (entry_at where_from opcode) prefixes (slice_get operands 0) op shape is in
    let P : Op → Type 0 = λ o. finished o shape prefixes opcode operands front ≡ Whole instr size in
    let Q : Shape → Type 0 = λ s. finished f.row.op s prefixes opcode operands front ≡ Whole instr size in
    row_read laws where_from prefixes opcode operands front instr size f.row byte f.listed (f.stands operands (first_is operands))
    (subst Q (sym f.shape_same) (subst P (sym f.op_same) reads))

past_unknown : (where_from : Map) (prefixes : Prefixes) (opcode : ℕ) (operands : List ℕ) (front : ℕ) → 256 ≤ opcode → read_row where_from prefixes opcode operands front ≡ Unknown
past_unknown where_from prefixes opcode operands front past =
    ap (λ it. read_choice (chosen it prefixes (slice_get operands 0)) prefixes opcode operands front) (entry_past where_from opcode past)

pub read_row_sound : (laws : FieldLaws) (where_from : Map) (prefixes : Prefixes) (opcode : ℕ) (operands : List ℕ) (front : ℕ) (instr : Instr) (size : ℕ) → read_row where_from prefixes opcode operands front ≡ Whole instr size → RowRead where_from prefixes opcode operands front instr size
read_row_sound laws where_from prefixes opcode operands front instr size reads = elim (cases_lt opcode 256) [
  | inl byte ↦ choice_read laws where_from prefixes opcode operands front instr size byte (chosen (entry_at where_from opcode) prefixes (slice_get operands 0)) refl reads
  | inr past ↦ absurd (unknown_whole instr size (sym (past_unknown where_from prefixes opcode operands front past) ∙ reads))
]

-- a row of the table that goes on behind these bytes
pub record RowCut (where_from : Map) (prefixes : Prefixes) (opcode : ℕ) (operands : List ℕ) : Type 0 where
  pub row : OpcodeRow
  pub more : List ℕ
  pub byte : opcode < 256
  pub more_bytes : AreBytes more
  pub some : 1 ≤ length more
  pub listed : Contains (rows_at where_from opcode) row
  pub stands : row_stands row prefixes (operands ++ more) ≡ true
  pub whole : length (operands ++ more) ≡ operand_length row.shape prefixes (operands ++ more)

zeros_are : (n : ℕ) → AreBytes (replicate n 0)
zeros_are n = All-replicate (λ b. b < 256) n 0 (omega arith)

none_empty : (operands : List ℕ) → slice_get operands 0 ≡ None → operands ≡ []
none_empty [] h = refl
none_empty (byte ∷ operands) h = absurd (cc)

filled : (shape : Shape) (prefixes : Prefixes) (operands : List ℕ) (n : ℕ) → length operands + n ≡ operand_length shape prefixes operands → length (operands ++ replicate n 0) ≡ operand_length shape prefixes (operands ++ replicate n 0)
filled shape prefixes operands n whole =
    length-append operands (replicate n 0) ∙ (ap (λ m. length operands + m) (length-replicate n 0) ∙ (whole ∙ sym (operand_length-zeros shape prefixes operands n)))

row_cut : (where_from : Map) (prefixes : Prefixes) (opcode : ℕ) (operands : List ℕ) (front : ℕ) (row : OpcodeRow) → opcode < 256 → IsIn row (entry_rows (entry_at where_from opcode)) → ((more : List ℕ) → row_stands row prefixes (operands ++ more) ≡ true) → finished row.op row.shape prefixes opcode operands front ≡ Short → RowCut where_from prefixes opcode operands
row_cut where_from prefixes opcode operands front row byte h stands reads =
    let count : ℕ = operand_length row.shape prefixes operands in
    elim (cases_lt (length operands) count) [
      | inl cut ↦ record {
        row = row;
        more = replicate (count - length operands) 0;
        byte = byte;
        more_bytes = zeros_are (count - length operands);
        some = omega (arith, length-replicate {A = ℕ} (count - length operands) 0);
        listed = listed_at where_from opcode row byte h;
        stands = stands (replicate (count - length operands) 0);
        whole = filled row.shape prefixes operands (count - length operands) (omega arith);
      }
      | inr enough ↦ absurd (short_whole (instr_of row.op row.shape prefixes opcode operands) (front + count) (sym reads ∙ finished_whole row.op row.shape prefixes opcode operands front enough))
    ]

missed_cut : (where_from : Map) (prefixes : Prefixes) (opcode : ℕ) → opcode < 256 → Example (entry_at where_from opcode) prefixes → RowCut where_from prefixes opcode []
missed_cut where_from prefixes opcode byte e =
    let one : List ℕ = e.modrm ∷ [] in
    let count : ℕ = operand_length e.row.shape prefixes one in
    let some : 1 ≤ count = omega (arith, layout_some e.row.shape.layout one e.more) in
    let whole : length one + (count - 1) ≡ count = omega arith in
    record {
      row = e.row;
      more = one ++ replicate (count - 1) 0;
      byte = byte;
      more_bytes = All-cons (λ b. b < 256) e.modrm (replicate (count - 1) 0) e.byte (zeros_are (count - 1));
      some = omega arith;
      listed = listed_at where_from opcode e.row byte e.listed;
      stands = stands_head e.row prefixes e.modrm [] (replicate (count - 1) 0) e.stands;
      whole = filled e.row.shape prefixes one (count - 1) whole;
    }

choice_cut : (where_from : Map) (prefixes : Prefixes) (opcode : ℕ) (operands : List ℕ) (front : ℕ) → opcode < 256 → (chose : Choice) → chosen (entry_at where_from opcode) prefixes (slice_get operands 0) ≡ chose → read_choice chose prefixes opcode operands front ≡ Short → RowCut where_from prefixes opcode operands
choice_cut where_from prefixes opcode operands front byte choice.Absent is reads = absurd (unknown_short reads)
choice_cut where_from prefixes opcode operands front byte choice.Missing is reads =
    let m : Missed (entry_at where_from opcode) prefixes (slice_get operands 0) = missing (entry_at where_from opcode) prefixes (slice_get operands 0) (entry_regular where_from opcode byte) is in
    let P : List ℕ → Type 0 = λ o. RowCut where_from prefixes opcode o in
    subst P (sym (none_empty operands m.none)) (missed_cut where_from prefixes opcode byte m.example)
choice_cut where_from prefixes opcode operands front byte (choice.Row op shape) is reads =
    let f : Found (entry_at where_from opcode) prefixes (slice_get operands 0) op shape = found (entry_at where_from opcode) prefixes (slice_get operands 0) op shape is in
    let P : Op → Type 0 = λ o. finished o shape prefixes opcode operands front ≡ Short in
    let Q : Shape → Type 0 = λ s. finished f.row.op s prefixes opcode operands front ≡ Short in
    row_cut where_from prefixes opcode operands front f.row byte f.listed (λ more. f.stands (operands ++ more) (first_more operands more))
    (subst Q (sym f.shape_same) (subst P (sym f.op_same) reads))

pub read_row_short : (where_from : Map) (prefixes : Prefixes) (opcode : ℕ) (operands : List ℕ) (front : ℕ) → read_row where_from prefixes opcode operands front ≡ Short → RowCut where_from prefixes opcode operands
read_row_short where_from prefixes opcode operands front reads = elim (cases_lt opcode 256) [
  | inl byte ↦ choice_cut where_from prefixes opcode operands front byte (chosen (entry_at where_from opcode) prefixes (slice_get operands 0)) refl reads
  | inr past ↦ absurd (unknown_short (sym (past_unknown where_from prefixes opcode operands front past) ∙ reads))
]
