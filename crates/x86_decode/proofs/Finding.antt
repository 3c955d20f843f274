-- What is read comes from a spelling: a whole one in front, or one that goes on behind the bytes.
use Rattle.std.proofs.Common.{◌≡◌, ◌≢◌, ℕ, ◌<◌, ◌≤◌, ◌+◌, true, nat_eq, List, [], ◌∷◌, ◌++◌, length, take, drop, refl, ap, sym, subst, ◌∙◌, arith, inl, inr}
use Rattle.std.specs.Prelude.{Contains}
use Rattle.std.specs.List.{list_all}
use Rattle.std.proofs.lemmas.Bool.{cases_Bool, eqb-true}
use Rattle.std.proofs.lemmas.List.{append_assoc, length-append}
use Rattle.std.proofs.Math.Seq.{take-append-add}
use Rattle.decode_fields.specs.declared.parts.Prefixes.{Prefixes}
use Rattle.decode_fields.specs.Prefixes.{is_prefix, prefix_bytes, prefixes_of}
use Rattle.x86_decode.proofs.FieldLaws.{FieldLaws, Splits, splits-rest}
use Rattle.x86_decode.specs.declared.instruction.Instr.{Instr}
use Rattle.x86_decode.specs.declared.instruction.Decoded.TheVariants.{Whole, Short}
use Rattle.x86_decode.specs.declared.operation.Op.TheVariants.{Hlt, Ud2}
use Rattle.x86_decode.specs.declared.reader.Map.{Map}
use Rattle.x86_decode.specs.declared.reader.Map.TheVariants.{OneByte, TwoByte}
use Rattle.x86_decode.specs.RowForms.{alone}
use Rattle.x86_decode.specs.OpcodeTable.{OpcodeRow, Always, one_byte_table, rows_at, two_byte_table}
use Rattle.x86_decode.specs.Meaning.{instr_of}
use Rattle.x86_decode.specs.Reader.{read_escaped, read_of, read_rest, read_row}
use Rattle.x86_decode.specs.Spelling.{AreBytes, IsCutOff, Parts, Spells, opcode_bytes}
use Rattle.std.proofs.lemmas.List.Elements.{All-take}
use Rattle.x86_decode.proofs.Bytes.{both_are, one_is}
use Rattle.x86_decode.proofs.Reading.{code_length, code_length-is, parts_more, read_one}
use Rattle.x86_decode.proofs.RowFinding.{RowCut, RowRead, read_row_short, read_row_sound, short_whole}

-- the first bytes, this many, spell the instruction
pub record Front (instr : Instr) (bytes : List ℕ) (size : ℕ) : Type 0 where
  pub within : size ≤ length bytes
  pub spells : Spells instr (take size bytes)

abbrev parts_by : List ℕ → Map → ℕ → OpcodeRow → List ℕ → Parts
parts_by front where_from opcode row operands = record { front = front; map = where_from; opcode = opcode; row = row; operands = operands }

taken : (front code operands : List ℕ) (count : ℕ) → take (length front + (length code + count)) (front ++ (code ++ operands)) ≡ front ++ (code ++ take count operands)
taken front code operands count = take-append-add front (code ++ operands) (length code + count) ∙ ap (λ t. front ++ t) (take-append-add code operands count)

found_front : (where_from : Map) (bytes front : List ℕ) (opcode : ℕ) (operands : List ℕ) (instr : Instr) (size : ℕ) → AreBytes bytes → list_all is_prefix front ≡ true → bytes ≡ front ++ (opcode_bytes where_from opcode ++ operands) → RowRead where_from (prefixes_of front) opcode operands (length front + code_length where_from) instr size → Front instr bytes size
found_front where_from bytes front opcode operands instr size are all split r =
    let code : List ℕ = opcode_bytes where_from opcode in
    let sum : size ≡ length front + (length code + r.count) = omega (arith, r.size_is, code_length-is where_from opcode) in
    let all_bytes : length bytes ≡ length front + (length code + length operands) = omega (arith, ap length split, length-append front (code ++ operands), length-append code operands) in
    record {
      within = omega (arith, r.within);
      spells = record {
        parts = parts_by front where_from opcode r.row (take r.count operands);
        fit = record { prefixes = all; listed = r.listed; stands = r.stands; whole = r.whole };
        spelled = ap (λ n. take n bytes) sum ∙ (ap (take (length front + (length code + r.count))) split ∙ taken front code operands r.count);
        are_bytes = All-take (λ b. b < 256) size bytes are;
        meaning = r.meaning;
      };
    }

escaped_is : (prefixes : Prefixes) (rest : List ℕ) (front : ℕ) → read_rest prefixes (0x0F ∷ rest) front ≡ read_escaped prefixes rest (front + 1)
escaped_is prefixes rest front = refl

two : (n : ℕ) → n + 1 + 1 ≡ n + 2
two n = omega arith

escaped_front : (laws : FieldLaws) (bytes front rest : List ℕ) (instr : Instr) (size : ℕ) → AreBytes bytes → list_all is_prefix front ≡ true → bytes ≡ front ++ (0x0F ∷ rest) → read_escaped (prefixes_of front) rest (length front + 1) ≡ Whole instr size → Front instr bytes size
escaped_front laws bytes front [] instr size are all split reads = absurd (short_whole instr size reads)
escaped_front laws bytes front (opcode ∷ operands) instr size are all split reads =
    let P : ℕ → Type 0 = λ n. read_row TwoByte (prefixes_of front) opcode operands n ≡ Whole instr size in
    found_front TwoByte bytes front opcode operands instr size are all split
    (read_row_sound laws TwoByte (prefixes_of front) opcode operands (length front + 2) instr size (subst P (two (length front)) reads))

sound_split : (laws : FieldLaws) (bytes front rest : List ℕ) (instr : Instr) (size : ℕ) → AreBytes bytes → Splits bytes front rest → read_rest (prefixes_of front) rest (length front) ≡ Whole instr size → Front instr bytes size
sound_split laws bytes front [] instr size are split reads = absurd (short_whole instr size reads)
sound_split laws bytes front (first ∷ rest) instr size are split reads = elim (cases_Bool (nat_eq first 0x0F)) [
  | inl escape ↦
      let is : first ≡ 0x0F = eqb-true first 0x0F escape in
      let P : ℕ → Type 0 = λ b. bytes ≡ front ++ (b ∷ rest) in
      let Q : ℕ → Type 0 = λ b. read_rest (prefixes_of front) (b ∷ rest) (length front) ≡ Whole instr size in
      escaped_front laws bytes front rest instr size are split.front_all (subst P is split.parts) (subst Q is reads)
  | inr free ↦
      found_front OneByte bytes front first rest instr size are split.front_all split.parts
      (read_row_sound laws OneByte (prefixes_of front) first rest (length front + 1) instr size (sym (read_one (prefixes_of front) first rest (length front) free) ∙ reads))
]

-- what is read whole is spelled in front
pub read_front : (laws : FieldLaws) (bytes : List ℕ) (instr : Instr) (size : ℕ) → AreBytes bytes → read_of bytes ≡ Whole instr size → Front instr bytes size
read_front laws bytes instr size are reads = sound_split laws bytes (prefix_bytes bytes) (drop (length (prefix_bytes bytes)) bytes) instr size are (splits-rest laws bytes) reads

some_more : (more : List ℕ) → 1 ≤ length more → more ≢ []
some_more more some e = absurd (omega (arith, ap length e))

found_cut : (where_from : Map) (bytes front : List ℕ) (opcode : ℕ) (operands : List ℕ) → AreBytes bytes → list_all is_prefix front ≡ true → bytes ≡ front ++ (opcode_bytes where_from opcode ++ operands) → RowCut where_from (prefixes_of front) opcode operands → IsCutOff bytes
found_cut where_from bytes front opcode operands are all split r = record {
  more = r.more;
  some = some_more r.more r.some;
  instr = instr_of r.row.op r.row.shape (prefixes_of front) opcode (operands ++ r.more);
  spells = record {
    parts = parts_by front where_from opcode r.row (operands ++ r.more);
    fit = record { prefixes = all; listed = r.listed; stands = r.stands; whole = r.whole };
    spelled = ap (λ b. b ++ r.more) split ∙ parts_more front (opcode_bytes where_from opcode) operands r.more;
    are_bytes = both_are bytes r.more are r.more_bytes;
    meaning = refl;
  };
}

halt_listed : Contains (rows_at OneByte 0xF4) (record { when = Always; op = Hlt; shape = alone })
unfolding one_byte_table
halt_listed = (0, omega arith, refl)

undefined_listed : Contains (rows_at TwoByte 0x0B) (record { when = Always; op = Ud2; shape = alone })
unfolding two_byte_table
undefined_listed = (0, omega arith, refl)

-- prefix bytes go on to HLT
front_cut : (bytes front : List ℕ) → AreBytes bytes → list_all is_prefix front ≡ true → bytes ≡ front ++ [] → IsCutOff bytes
front_cut bytes front are all split = record {
  more = 0xF4 ∷ [];
  some = some_more (0xF4 ∷ []) (omega arith);
  instr = instr_of Hlt alone (prefixes_of front) 0xF4 [];
  spells = record {
    parts = parts_by front OneByte 0xF4 (record { when = Always; op = Hlt; shape = alone }) [];
    fit = record { prefixes = all; listed = halt_listed; stands = refl; whole = refl };
    spelled = ap (λ b. b ++ (0xF4 ∷ [])) split ∙ append_assoc front [] (0xF4 ∷ []);
    are_bytes = both_are bytes (0xF4 ∷ []) are (one_is 0xF4 (omega arith));
    meaning = refl;
  };
}

-- 0F goes on to UD2
escape_cut : (bytes front : List ℕ) → AreBytes bytes → list_all is_prefix front ≡ true → bytes ≡ front ++ (0x0F ∷ []) → IsCutOff bytes
escape_cut bytes front are all split = record {
  more = 0x0B ∷ [];
  some = some_more (0x0B ∷ []) (omega arith);
  instr = instr_of Ud2 alone (prefixes_of front) 0x0B [];
  spells = record {
    parts = parts_by front TwoByte 0x0B (record { when = Always; op = Ud2; shape = alone }) [];
    fit = record { prefixes = all; listed = undefined_listed; stands = refl; whole = refl };
    spelled = ap (λ b. b ++ (0x0B ∷ [])) split ∙ append_assoc front (0x0F ∷ []) (0x0B ∷ []);
    are_bytes = both_are bytes (0x0B ∷ []) are (one_is 0x0B (omega arith));
    meaning = refl;
  };
}

escaped_cut : (bytes front rest : List ℕ) → AreBytes bytes → list_all is_prefix front ≡ true → bytes ≡ front ++ (0x0F ∷ rest) → read_escaped (prefixes_of front) rest (length front + 1) ≡ Short → IsCutOff bytes
escaped_cut bytes front [] are all split reads = escape_cut bytes front are all split
escaped_cut bytes front (opcode ∷ operands) are all split reads =
    found_cut TwoByte bytes front opcode operands are all split (read_row_short TwoByte (prefixes_of front) opcode operands (length front + 1 + 1) reads)

short_split : (bytes front rest : List ℕ) → AreBytes bytes → Splits bytes front rest → read_rest (prefixes_of front) rest (length front) ≡ Short → IsCutOff bytes
short_split bytes front [] are split reads = front_cut bytes front are split.front_all split.parts
short_split bytes front (first ∷ rest) are split reads = elim (cases_Bool (nat_eq first 0x0F)) [
  | inl escape ↦
      let is : first ≡ 0x0F = eqb-true first 0x0F escape in
      let P : ℕ → Type 0 = λ b. bytes ≡ front ++ (b ∷ rest) in
      let Q : ℕ → Type 0 = λ b. read_rest (prefixes_of front) (b ∷ rest) (length front) ≡ Short in
      escaped_cut bytes front rest are split.front_all (subst P is split.parts) (subst Q is reads)
  | inr free ↦
      found_cut OneByte bytes front first rest are split.front_all split.parts
      (read_row_short OneByte (prefixes_of front) first rest (length front + 1) (sym (read_one (prefixes_of front) first rest (length front) free) ∙ reads))
]

-- what is read as cut begins a spelling that goes on
pub short_cut : (laws : FieldLaws) (bytes : List ℕ) → AreBytes bytes → read_of bytes ≡ Short → IsCutOff bytes
short_cut laws bytes are reads = short_split bytes (prefix_bytes bytes) (drop (length (prefix_bytes bytes)) bytes) are (splits-rest laws bytes) reads
