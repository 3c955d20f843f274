-- Whole lists: prefix bytes, opcode, row. What is spelled is read, what is cut is cut, and what is read is spelled.
use Rattle.std.proofs.Common.{◌≡◌, ◌≢◌, ℕ, ◌<◌, ◌+◌, Bool, true, false, ◌&&◌, ◌||◌, nat_eq, List, [], ◌∷◌, ◌++◌, length, drop, refl, ap, sym, subst, ◌∙◌, arith, inl, inr}
use Rattle.std.specs.Prelude.{Contains}
use Rattle.std.specs.List.{list_all}
use Rattle.std.proofs.lemmas.Bool.{and_cases, or_parts, cond-false, agree_below, agree_below_at}
use Rattle.std.proofs.lemmas.List.{append_assoc, length-append}
use Rattle.std.proofs.Math.Seq.{drop-append_seam}
use Rattle.decode_fields.specs.declared.parts.Prefixes.{Prefixes}
use Rattle.decode_fields.specs.Prefixes.{is_prefix, prefix_bytes, prefixes_of}
use Rattle.x86_decode.proofs.Bytes.{opcode_byte}
use Rattle.x86_decode.proofs.FieldLaws.{FieldLaws, Splits, prefix_bytes-append, splits-rest}
use Rattle.x86_decode.specs.declared.instruction.Instr.{Instr}
use Rattle.x86_decode.specs.declared.instruction.Decoded.TheVariants.{Whole, Short}
use Rattle.x86_decode.specs.declared.reader.Map.{Map}
use Rattle.x86_decode.specs.declared.reader.Map.TheVariants.{OneByte, TwoByte}
use Rattle.x86_decode.specs.OpcodeTable.{OpcodeRow, rows_at}
use Rattle.x86_decode.specs.Grid.{entry_at, entry_rows, slots_from}
use Rattle.x86_decode.specs.Meaning.{instr_of, operand_length, row_stands}
use Rattle.x86_decode.specs.Reader.{read_escaped, read_of, read_rest, read_row}
use Rattle.x86_decode.specs.Spelling.{Parts, Spells, bytes_of, opcode_bytes}
use Rattle.x86_decode.proofs.Rows.{IsIn}
use Rattle.x86_decode.proofs.RowReading.{listed_in, read_row_cut, read_row_whole}

-- neither a prefix byte nor the escape is an opcode of the one-byte map
abbrev is_taken : ℕ → Bool
is_taken byte = is_prefix byte || nat_eq byte 0x0F

abbrev has_rows : List OpcodeRow → Bool
has_rows [] = false
has_rows (row ∷ rows) = true

no_rows_taken : agree_below (λ byte. has_rows (entry_rows (entry_at OneByte byte)) && is_taken byte) (λ _. false) 256 ≡ true
unfolding entry_at slots_from
no_rows_taken = refl

rows_some : (rows : List OpcodeRow) (row : OpcodeRow) → IsIn row rows → has_rows rows ≡ true
rows_some [] row h = absurd h
rows_some (first ∷ rows) row h = refl

true_false : (b : Bool) → b ≡ true → b ≡ false → ⊥
true_false b h g = cc

opcode_free : (opcode : ℕ) (row : OpcodeRow) → opcode < 256 → IsIn row (entry_rows (entry_at OneByte opcode)) → is_taken opcode ≡ false
opcode_free opcode row byte h =
    elim (and_cases _ _ (agree_below_at (λ o. has_rows (entry_rows (entry_at OneByte o)) && is_taken o) (λ _. false) 256 opcode no_rows_taken byte)) [
      | inl none ↦ absurd (true_false _ (rows_some (entry_rows (entry_at OneByte opcode)) row h) none)
      | inr free ↦ free
    ]

-- the bytes of an opcode
abbrev pub code_length : Map → ℕ
code_length OneByte = 1
code_length TwoByte = 2

pub code_length-is : (where_from : Map) (opcode : ℕ) → length (opcode_bytes where_from opcode) ≡ code_length where_from
code_length-is OneByte opcode = refl
code_length-is TwoByte opcode = refl

-- what stands behind prefix bytes is read with them
read_behind : (laws : FieldLaws) (front : List ℕ) (byte : ℕ) (rest : List ℕ) → list_all is_prefix front ≡ true → is_prefix byte ≡ false → read_of (front ++ (byte ∷ rest)) ≡ read_rest (prefixes_of front) (byte ∷ rest) (length front)
read_behind laws front byte rest all ends =
    let whole : List ℕ = front ++ (byte ∷ rest) in
    let P : List ℕ → Type 0 = λ f. read_rest (prefixes_of f) (drop (length f) whole) (length f) ≡ read_rest (prefixes_of front) (byte ∷ rest) (length front) in
    subst P (sym (prefix_bytes-append laws front byte rest all ends)) (ap (λ t. read_rest (prefixes_of front) t (length front)) (drop-append_seam front (byte ∷ rest)))

pub read_one : (prefixes : Prefixes) (opcode : ℕ) (rest : List ℕ) (front : ℕ) → nat_eq opcode 0x0F ≡ false → read_rest prefixes (opcode ∷ rest) front ≡ read_row OneByte prefixes opcode rest (front + 1)
read_one prefixes opcode rest front free = cond-false (nat_eq opcode 0x0F) (read_escaped prefixes rest (front + 1)) (read_row OneByte prefixes opcode rest (front + 1)) free

two : (n : ℕ) → n + 1 + 1 ≡ n + 2
two n = omega arith

-- an opcode behind prefix bytes is read as a row
read_code : (laws : FieldLaws) (where_from : Map) (front : List ℕ) (opcode : ℕ) (rest : List ℕ) (row : OpcodeRow) → list_all is_prefix front ≡ true → opcode < 256 → IsIn row (entry_rows (entry_at where_from opcode)) → read_of (front ++ (opcode_bytes where_from opcode ++ rest)) ≡ read_row where_from (prefixes_of front) opcode rest (length front + code_length where_from)
read_code laws OneByte front opcode rest row all byte h =
    let free : (is_prefix opcode ≡ false) × (nat_eq opcode 0x0F ≡ false) = or_parts _ _ (opcode_free opcode row byte h) in
    read_behind laws front opcode rest all free.0 ∙ read_one (prefixes_of front) opcode rest (length front) free.1
read_code laws TwoByte front opcode rest row all byte h =
    read_behind laws front 0x0F (opcode ∷ rest) all refl ∙ ap (read_row TwoByte (prefixes_of front) opcode rest) (two (length front))

-- the parts of a spelling, with more bytes behind them
pub parts_more : (front code operands more : List ℕ) → (front ++ (code ++ operands)) ++ more ≡ front ++ (code ++ (operands ++ more))
parts_more front code operands more = append_assoc front (code ++ operands) more ∙ ap (λ t. front ++ t) (append_assoc code operands more)

parts_length : (parts : Parts) → length (bytes_of parts) ≡ length parts.front + code_length parts.map + length parts.operands
parts_length parts =
    let code : List ℕ = opcode_bytes parts.map parts.opcode in
    omega (arith, length-append parts.front (code ++ parts.operands), length-append code parts.operands, code_length-is parts.map parts.opcode)

-- what begins with a spelling is read as its instruction
pub spelled_read : (laws : FieldLaws) (instr : Instr) (bytes more : List ℕ) → Spells instr bytes → read_of (bytes ++ more) ≡ Whole instr (length bytes)
spelled_read laws instr bytes more s =
    let parts : Parts = s.parts in
    let prefixes : Prefixes = prefixes_of parts.front in
    let h : IsIn parts.row (entry_rows (entry_at parts.map parts.opcode)) = listed_in parts.map parts.opcode parts.row (opcode_byte instr bytes s) s.fit.listed in
    let meant : Instr = instr_of parts.row.op parts.row.shape prefixes parts.opcode parts.operands in
    let size : length parts.front + code_length parts.map + length parts.operands ≡ length bytes = sym (ap length s.spelled ∙ parts_length parts) in
    ap (λ b. read_of (b ++ more)) s.spelled
    ∙ (ap read_of (parts_more parts.front (opcode_bytes parts.map parts.opcode) parts.operands more)
    ∙ (read_code laws parts.map parts.front parts.opcode (parts.operands ++ more) parts.row s.fit.prefixes (opcode_byte instr bytes s) h
    ∙ (read_row_whole laws parts.map prefixes parts.opcode parts.row parts.operands more (length parts.front + code_length parts.map) (opcode_byte instr bytes s) s.fit.listed s.fit.stands s.fit.whole
    ∙ (ap (λ n. Whole meant n) size ∙ ap (λ i. Whole i (length bytes)) (sym s.meaning)))))

-- the prefix bytes of a spelling are those in front of its opcode
code_front : (laws : FieldLaws) (where_from : Map) (front : List ℕ) (opcode : ℕ) (rest : List ℕ) (row : OpcodeRow) → list_all is_prefix front ≡ true → opcode < 256 → IsIn row (entry_rows (entry_at where_from opcode)) → prefix_bytes (front ++ (opcode_bytes where_from opcode ++ rest)) ≡ front
code_front laws OneByte front opcode rest row all byte h = prefix_bytes-append laws front opcode rest all (or_parts _ _ (opcode_free opcode row byte h)).0
code_front laws TwoByte front opcode rest row all byte h = prefix_bytes-append laws front 0x0F (opcode ∷ rest) all refl

cancel : (front other rest tail : List ℕ) → front ≡ other → front ++ rest ≡ other ++ tail → rest ≡ tail
cancel front other rest tail same =
    let P : List ℕ → Type 0 = λ f. front ++ rest ≡ f ++ tail → rest ≡ tail in
    subst P same (λ e. sym (drop-append_seam front rest) ∙ (ap (drop (length front)) e ∙ drop-append_seam front tail))

cons_head : (x y : ℕ) (xs ys : List ℕ) → x ∷ xs ≡ y ∷ ys → x ≡ y
cons_head x y xs ys e = cc

cons_tail : (x y : ℕ) (xs ys : List ℕ) → x ∷ xs ≡ y ∷ ys → xs ≡ ys
cons_tail x y xs ys e = cc

-- what is left of a spelling behind its prefix bytes, cut
cut_row : (laws : FieldLaws) (where_from : Map) (opcode : ℕ) (row : OpcodeRow) (operands rest more : List ℕ) (prefixes : Prefixes) (front : ℕ) → rest ++ more ≡ operands → opcode < 256 → Contains (rows_at where_from opcode) row → row_stands row prefixes operands ≡ true → length operands ≡ operand_length row.shape prefixes operands → more ≢ [] → read_row where_from prefixes opcode rest front ≡ Short
cut_row laws where_from opcode row operands rest more prefixes front tail byte listed stands whole some =
    let P : List ℕ → Type 0 = λ o. row_stands row prefixes o ≡ true in
    let Q : List ℕ → Type 0 = λ o. length o ≡ operand_length row.shape prefixes o in
    read_row_cut laws where_from prefixes opcode row rest more front byte listed (subst P (sym tail) stands) (subst Q (sym tail) whole) some

cut_rest : (laws : FieldLaws) (where_from : Map) (opcode : ℕ) (row : OpcodeRow) (operands rest more : List ℕ) (prefixes : Prefixes) (front : ℕ) → rest ++ more ≡ opcode_bytes where_from opcode ++ operands → opcode < 256 → Contains (rows_at where_from opcode) row → row_stands row prefixes operands ≡ true → length operands ≡ operand_length row.shape prefixes operands → more ≢ [] → read_rest prefixes rest front ≡ Short
cut_rest laws where_from opcode row operands [] more prefixes front e byte listed stands whole some = refl
cut_rest laws OneByte opcode row operands (first ∷ rest) more prefixes front e byte listed stands whole some =
    let free : (is_prefix opcode ≡ false) × (nat_eq opcode 0x0F ≡ false) = or_parts _ _ (opcode_free opcode row byte (listed_in OneByte opcode row byte listed)) in
    let P : ℕ → Type 0 = λ b. read_rest prefixes (b ∷ rest) front ≡ Short in
    subst P (sym (cons_head first opcode (rest ++ more) operands e))
    (read_one prefixes opcode rest front free.1
    ∙ cut_row laws OneByte opcode row operands rest more prefixes (front + 1) (cons_tail first opcode (rest ++ more) operands e) byte listed stands whole some)
cut_rest laws TwoByte opcode row operands (first ∷ []) more prefixes front e byte listed stands whole some =
    let P : ℕ → Type 0 = λ b. read_rest prefixes (b ∷ []) front ≡ Short in
    subst P (sym (cons_head first 0x0F more (opcode ∷ operands) e)) refl
cut_rest laws TwoByte opcode row operands (first ∷ (second ∷ rest)) more prefixes front e byte listed stands whole some =
    let tail : second ∷ (rest ++ more) ≡ opcode ∷ operands = cons_tail first 0x0F (second ∷ (rest ++ more)) (opcode ∷ operands) e in
    let P : ℕ → Type 0 = λ b. read_rest prefixes (b ∷ (second ∷ rest)) front ≡ Short in
    let Q : ℕ → Type 0 = λ o. read_row TwoByte prefixes o rest (front + 1 + 1) ≡ Short in
    subst P (sym (cons_head first 0x0F (second ∷ (rest ++ more)) (opcode ∷ operands) e))
    (subst Q (sym (cons_head second opcode (rest ++ more) operands tail))
    (cut_row laws TwoByte opcode row operands rest more prefixes (front + 1 + 1) (cons_tail second opcode (rest ++ more) operands tail) byte listed stands whole some))

cut_split : (laws : FieldLaws) (instr : Instr) (bytes more front rest : List ℕ) → Spells instr (bytes ++ more) → Splits bytes front rest → more ≢ [] → read_rest (prefixes_of front) rest (length front) ≡ Short
cut_split laws instr bytes more front [] s split some = refl
cut_split laws instr bytes more front (first ∷ rest) s split some =
    let parts : Parts = s.parts in
    let h : IsIn parts.row (entry_rows (entry_at parts.map parts.opcode)) = listed_in parts.map parts.opcode parts.row (opcode_byte instr (bytes ++ more) s) s.fit.listed in
    let whole : bytes ++ more ≡ front ++ (first ∷ (rest ++ more)) = ap (λ b. b ++ more) split.parts ∙ append_assoc front (first ∷ rest) more in
    let same : front ≡ parts.front =
    sym (prefix_bytes-append laws front first (rest ++ more) split.front_all (split.ends first rest refl))
    ∙ (ap prefix_bytes (sym whole ∙ s.spelled) ∙ code_front laws parts.map parts.front parts.opcode parts.operands parts.row s.fit.prefixes (opcode_byte instr (bytes ++ more) s) h) in
    let left : first ∷ (rest ++ more) ≡ opcode_bytes parts.map parts.opcode ++ parts.operands =
    cancel front parts.front (first ∷ (rest ++ more)) (opcode_bytes parts.map parts.opcode ++ parts.operands) same (sym whole ∙ s.spelled) in
    let P : List ℕ → Type 0 = λ f. read_rest (prefixes_of f) (first ∷ rest) (length f) ≡ Short in
    subst P (sym same)
    (cut_rest laws parts.map parts.opcode parts.row parts.operands (first ∷ rest) more (prefixes_of parts.front) (length parts.front) left (opcode_byte instr (bytes ++ more) s) s.fit.listed s.fit.stands s.fit.whole some)

-- what a spelling begins with, short of all of it, is read as cut
pub cut_read : (laws : FieldLaws) (instr : Instr) (bytes more : List ℕ) → Spells instr (bytes ++ more) → more ≢ [] → read_of bytes ≡ Short
cut_read laws instr bytes more s some = cut_split laws instr bytes more (prefix_bytes bytes) (drop (length (prefix_bytes bytes)) bytes) s (splits-rest laws bytes) some
