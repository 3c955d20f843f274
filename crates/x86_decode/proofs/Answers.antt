-- The answer of the reader is right, and it is the only right one; at most one instruction is spelled, by no proper prefix.
use Rattle.std.proofs.Common.{◌≡◌, ℕ, ◌<◌, ◌≤◌, ◌+◌, nat_eq, nat_lt, slice_get, List, [], ◌∷◌, ◌++◌, length, take, drop, refl, ap, sym, subst, ◌∙◌, arith, inl, inr}
use Rattle.std.proofs.lemmas.Bool.{cases_Bool, cases_lt, cond-true, cond-false, lt-ltb, le-ltb}
use Rattle.std.proofs.lemmas.List.{append-nil, length-append, length-take-le, take-append-drop}
use Rattle.x86_decode.specs.declared.instruction.Instr.{Instr}
use Rattle.x86_decode.specs.declared.instruction.Decoded.{Decoded}
use Rattle.x86_decode.specs.declared.instruction.Decoded.TheVariants.{Whole, Short, TooLong, Unknown}
use Rattle.x86_decode.specs.Decoding.{Decodes, IfWhole, IsFront, IsUnknown}
use Rattle.decode_fields.specs.declared.parts.Prefixes.{Prefixes}
use Rattle.decode_fields.specs.Prefixes.{prefix_bytes, prefixes_of}
use Rattle.x86_decode.specs.declared.choice.Choice.{Choice}
use Rattle.x86_decode.specs.declared.choice.Choice.TheVariants as choice
use Rattle.x86_decode.specs.declared.reader.Map.TheVariants.{OneByte, TwoByte}
use Rattle.x86_decode.specs.Grid.{entry_at}
use Rattle.x86_decode.specs.Meaning.{operand_length}
use Rattle.x86_decode.specs.Reader.{answer_of, decoded_of, chosen, read_choice, read_escaped, read_of, read_rest, read_row}
use Rattle.x86_decode.proofs.RowReading.{finished_cut, finished_whole}
use Rattle.x86_decode.specs.Spelling.{AreBytes, IsCutOff, SameSpelling, Spells}
use Rattle.x86_decode.proofs.FieldLaws.{FieldLaws}
use Rattle.x86_decode.proofs.Finding.{Front, read_front, short_cut}
use Rattle.x86_decode.proofs.Reading.{cut_read, spelled_read}

whole_instr : (i k : Instr) (n m : ℕ) → Whole i n ≡ Whole k m → i ≡ k
whole_instr i k n m e = cc

whole_length : (i k : Instr) (n m : ℕ) → Whole i n ≡ Whole k m → n ≡ m
whole_length i k n m e = cc

short_whole : (i : Instr) (n : ℕ) → Short ≡ Whole i n → ⊥
short_whole i n e = cc

unknown_whole : (i : Instr) (n : ℕ) → Unknown ≡ Whole i n → ⊥
unknown_whole i n e = cc

unknown_short : Unknown ≡ Short → ⊥
unknown_short e = cc

no_more : (bytes more : List ℕ) → length bytes ≡ length (bytes ++ more) → more ≡ []
no_more bytes [] e = refl
no_more bytes (first ∷ more) e = absurd (omega (arith, length-append bytes (first ∷ more)))

-- no spelling is a proper prefix of another, and bytes spell at most one instruction
pub one_spelling : (laws : FieldLaws) (instr other : Instr) (bytes more : List ℕ) → Spells instr bytes → Spells other (bytes ++ more) → SameSpelling instr other more
one_spelling laws instr other bytes more s t =
    let e : Whole instr (length bytes) ≡ Whole other (length (bytes ++ more)) =
    sym (spelled_read laws instr bytes more s) ∙ (ap read_of (sym (append-nil (bytes ++ more))) ∙ spelled_read laws other (bytes ++ more) [] t) in
    record { none_more = no_more bytes more (whole_length _ _ _ _ e); same = whole_instr _ _ _ _ e }

front_read : (laws : FieldLaws) (instr : Instr) (bytes : List ℕ) (size : ℕ) → IsFront instr bytes size → read_of bytes ≡ Whole instr size
front_read laws instr bytes size f =
    ap read_of (sym (take-append-drop size bytes))
    ∙ (spelled_read laws instr (take size bytes) (drop size bytes) f.lawful.spells ∙ ap (Whole instr) (length-take-le size bytes f.within))

cut_of : (laws : FieldLaws) (bytes : List ℕ) → IsCutOff bytes → read_of bytes ≡ Short
cut_of laws bytes c = cut_read laws c.instr bytes c.more c.spells c.some

unknown_is : (laws : FieldLaws) (bytes : List ℕ) → read_of bytes ≡ Unknown → IsUnknown bytes
unknown_is laws bytes reads = record {
  no_front = λ instr size f. unknown_whole instr size (sym reads ∙ front_read laws instr bytes size f);
  no_cut = λ c. unknown_short (sym reads ∙ cut_of laws bytes c);
}

short_long : Short ≡ TooLong → ⊥
short_long e = cc

whole_long : (i : Instr) (n : ℕ) → Whole i n ≡ TooLong → ⊥
whole_long i n e = cc

unknown_long : Unknown ≡ TooLong → ⊥
unknown_long e = cc

-- the reader leaves it open how many bytes there are
choice_not_long : (chose : Choice) (prefixes : Prefixes) (opcode : ℕ) (operands : List ℕ) (front : ℕ) → read_choice chose prefixes opcode operands front ≡ TooLong → ⊥
choice_not_long choice.Missing prefixes opcode operands front e = short_long e
choice_not_long choice.Absent prefixes opcode operands front e = unknown_long e
choice_not_long (choice.Row op shape) prefixes opcode operands front e = elim (cases_lt (length operands) (operand_length shape prefixes operands)) [
  | inl cut ↦ short_long (sym (finished_cut op shape prefixes opcode operands front cut) ∙ e)
  | inr whole ↦ whole_long _ _ (sym (finished_whole op shape prefixes opcode operands front whole) ∙ e)
]

escaped_not_long : (prefixes : Prefixes) (rest : List ℕ) (front : ℕ) → read_escaped prefixes rest front ≡ TooLong → ⊥
escaped_not_long prefixes [] front e = short_long e
escaped_not_long prefixes (opcode ∷ operands) front e = choice_not_long (chosen (entry_at TwoByte opcode) prefixes (slice_get operands 0)) prefixes opcode operands (front + 1) e

rest_not_long : (prefixes : Prefixes) (rest : List ℕ) (front : ℕ) → read_rest prefixes rest front ≡ TooLong → ⊥
rest_not_long prefixes [] front e = short_long e
rest_not_long prefixes (first ∷ rest) front e = elim (cases_Bool (nat_eq first 0x0F)) [
  | inl escape ↦ escaped_not_long prefixes rest (front + 1)
      (sym (cond-true (nat_eq first 0x0F) (read_escaped prefixes rest (front + 1)) (read_row OneByte prefixes first rest (front + 1)) escape) ∙ e)
  | inr free ↦ choice_not_long (chosen (entry_at OneByte first) prefixes (slice_get rest 0)) prefixes first rest (front + 1)
      (sym (cond-false (nat_eq first 0x0F) (read_escaped prefixes rest (front + 1)) (read_row OneByte prefixes first rest (front + 1)) free) ∙ e)
]

not_long : (bytes : List ℕ) → read_of bytes ≡ TooLong → ⊥
not_long bytes e = rest_not_long (prefixes_of (prefix_bytes bytes)) (drop (length (prefix_bytes bytes)) bytes) (length (prefix_bytes bytes)) e

answer_short : (length : ℕ) → length < 15 → answer_of Short length ≡ Short
answer_short length few = cond-true (nat_lt length 15) Short TooLong (lt-ltb length 15 few)

answer_long : (length : ℕ) → 15 ≤ length → answer_of Short length ≡ TooLong
answer_long length many = cond-false (nat_lt length 15) Short TooLong (le-ltb length 15 many)

lawful_front : (laws : FieldLaws) (bytes : List ℕ) (instr : Instr) (size : ℕ) → AreBytes bytes → length bytes ≤ 15 → read_of bytes ≡ Whole instr size → IsFront instr bytes size
lawful_front laws bytes instr size are few reads =
    let f : Front instr bytes size = read_front laws bytes instr size are reads in
    record { within = f.within; lawful = record { spells = f.spells; few = omega (arith, f.within, length-take-le size bytes f.within) } }

right_by : (laws : FieldLaws) (bytes : List ℕ) (read : Decoded) → AreBytes bytes → length bytes ≤ 15 → read_of bytes ≡ read → Decodes bytes (answer_of read (length bytes))
right_by laws bytes (Whole instr size) are few is = lawful_front laws bytes instr size are few is
right_by laws bytes Short are fits is =
    let P : Decoded → Type 0 = λ d. Decodes bytes d in
    elim (cases_lt (length bytes) 15) [
      | inl few ↦ subst P (sym (answer_short (length bytes) few)) (short_cut laws bytes are is, few)
      | inr many ↦ subst P (sym (answer_long (length bytes) many)) (short_cut laws bytes are is, many)
    ]
right_by laws bytes TooLong are few is = absurd (not_long bytes is)
right_by laws bytes Unknown are few is = unknown_is laws bytes is

-- the answer is right
pub answer_right : (laws : FieldLaws) (bytes : List ℕ) → AreBytes bytes → length bytes ≤ 15 → Decodes bytes (decoded_of bytes)
answer_right laws bytes are few = right_by laws bytes (read_of bytes) are few refl

unknown_of : (laws : FieldLaws) (bytes : List ℕ) → AreBytes bytes → length bytes ≤ 15 → IsUnknown bytes → (read : Decoded) → read_of bytes ≡ read → Unknown ≡ answer_of read (length bytes)
unknown_of laws bytes are few u (Whole instr size) is = absurd (u.no_front instr size (lawful_front laws bytes instr size are few is))
unknown_of laws bytes are few u Short is = absurd (u.no_cut (short_cut laws bytes are is))
unknown_of laws bytes are few u TooLong is = absurd (not_long bytes is)
unknown_of laws bytes are few u Unknown is = refl

-- and no other is
pub answer_only : (laws : FieldLaws) (bytes : List ℕ) (other : Decoded) → AreBytes bytes → length bytes ≤ 15 → Decodes bytes other → other ≡ decoded_of bytes
answer_only laws bytes (Whole instr size) are few d = sym (ap (λ r. answer_of r (length bytes)) (front_read laws instr bytes size d))
answer_only laws bytes Short are few d = sym (ap (λ r. answer_of r (length bytes)) (cut_of laws bytes d.0) ∙ answer_short (length bytes) d.1)
answer_only laws bytes TooLong are few d = sym (ap (λ r. answer_of r (length bytes)) (cut_of laws bytes d.0) ∙ answer_long (length bytes) d.1)
answer_only laws bytes Unknown are few d = unknown_of laws bytes are few d (read_of bytes) refl

-- what holds of each lawful spelling in front holds of a right answer's
pub of_front : (P : Instr → ℕ → Type 0) (bytes : List ℕ) (answer : Decoded) → Decodes bytes answer → ((instr : Instr) (size : ℕ) → IsFront instr bytes size → P instr size) → IfWhole answer P
of_front P bytes (Whole instr size) d holds = holds instr size d
of_front P bytes Short d holds = tt
of_front P bytes TooLong d holds = tt
of_front P bytes Unknown d holds = tt
