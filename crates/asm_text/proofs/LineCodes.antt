-- The code of a line is the least spelling of the instruction whose text the line is.
use Rattle.std.proofs.Common.{◌≡◌, ℕ, ◌≤◌, true, false, nat_eq, Option, None, Some, List, length, take, find, MatchOption, refl, ap, sym, subst, ◌∙◌, arith, inl, inr}
use Rattle.std.specs.Prelude.{IfNone}
use Rattle.std.specs.Str.{bytes_eq}
use Rattle.std.proofs.lemmas.Bool.{and_from, and_parts, cases_lt, eq-eqb, eqb-true}
use Rattle.std.proofs.lemmas.List.{take_all}
use Rattle.std.proofs.lemmas.Slice.Eq.{bytes_eq-Decides}
use Rattle.x86_decode.specs.declared.instruction.Instr.{Instr}
use Rattle.x86_decode.specs.declared.instruction.Decoded.{Decoded}
use Rattle.x86_decode.specs.declared.instruction.Decoded.TheVariants.{Whole, Short, TooLong, Unknown}
use Rattle.x86_decode.specs.Decoding.{Decodes, IsFront}
use Rattle.x86_decode.specs.Reader.{decoded_of}
use Rattle.x86_decode.specs.Spelling.{IsLawful, Spells}
use Rattle.x86_decode.specs.SpellingLaws.{DecodingLaws}
use Rattle.asm_text.specs.AssembledText.{finds_text, is_spelled_line, line_code, short_strings}
use Rattle.asm_text.specs.AssemblyLaws.{HasNoCode, IsLineCode}
use Rattle.asm_text.specs.InstructionTexts.{HasText, IsRead, instr_text}
use Rattle.asm_text.specs.LeastSpelling.{IsLeastSpelling}
use Rattle.asm_text.specs.TextLaws.{TextLaws}
use Rattle.asm_text.proofs.FirstStrings.{Finds, IsFirst, IsShort, NonePasses, first_is, first_none, found_short}
use Rattle.asm_text.proofs.Orders.{shorter}

-- lawful bytes of an instruction whose text the line is
record IsSpelledLine (line bytes : List ℕ) : Type 0 where
  pub instr : Instr
  pub read : IsRead line instr
  pub lawful : IsLawful instr bytes

false_true : false ≡ true → ⊥
false_true h = cc

-- what the test says of an answer that is right
answer_says : (texts : TextLaws) (line bytes : List ℕ) (answer : Decoded) → length bytes ≤ 15
    → finds_text line (length bytes) answer ≡ true → Decodes bytes answer → IsSpelledLine line bytes
answer_says texts line bytes (Whole instr size) few passes right =
    let parts : (nat_eq size (length bytes) ≡ true) × (bytes_eq (instr_text instr) line ≡ true) =
    and_parts (nat_eq size (length bytes)) (bytes_eq (instr_text instr) line) passes in
    let all : take size bytes ≡ bytes = take_all size bytes (omega (arith, eqb-true size (length bytes) parts.0)) in
    let P : List ℕ → Type 0 = λ b. Spells instr b in
    let spells : Spells instr bytes = subst P all right.lawful.spells in
    record {
      instr = instr;
      read = record {
        writable = texts.spelled instr bytes spells;
        is_text = (bytes_eq-Decides (instr_text instr) line).0 parts.1;
      };
      lawful = record { spells = spells; few = few };
    }
answer_says texts line bytes Short few passes right = absurd (false_true passes)
answer_says texts line bytes TooLong few passes right = absurd (false_true passes)
answer_says texts line bytes Unknown few passes right = absurd (false_true passes)

line_spelled : (laws : DecodingLaws) (texts : TextLaws) (line bytes : List ℕ) → IsShort bytes
    → is_spelled_line line bytes ≡ true → IsSpelledLine line bytes
line_spelled laws texts line bytes short passes =
    answer_says texts line bytes (decoded_of bytes) short.1 passes (laws.right bytes short.0 short.1)

-- and the test finds such bytes
spelled_passes : (laws : DecodingLaws) (line bytes : List ℕ) (instr : Instr) → instr_text instr ≡ line
    → IsLawful instr bytes → is_spelled_line line bytes ≡ true
spelled_passes laws line bytes instr is lawful =
    let size : ℕ = length bytes in
    let all : take size bytes ≡ bytes = take_all size bytes (omega arith) in
    let P : List ℕ → Type 0 = λ b. IsLawful instr b in
    let front : IsFront instr bytes size = record { within = omega arith; lawful = subst P (sym all) lawful } in
    let same : Whole instr size ≡ decoded_of bytes =
    laws.only bytes (Whole instr size) lawful.spells.are_bytes lawful.few front in
    ap (finds_text line size) (sym same)
    ∙ and_from (nat_eq size size) (bytes_eq (instr_text instr) line) (eq-eqb size size refl)
    ((bytes_eq-Decides (instr_text instr) line).1 is)

lawful_short : (instr : Instr) (bytes : List ℕ) → IsLawful instr bytes → IsShort bytes
lawful_short instr bytes lawful = (lawful.spells.are_bytes, lawful.few)

-- the first of the short strings that pass is the least spelling
first_least : (laws : DecodingLaws) (texts : TextLaws) (line bytes : List ℕ)
    → IsFirst IsShort (is_spelled_line line) bytes → IsLineCode line bytes
first_least laws texts line bytes first =
    let spelled : IsSpelledLine line bytes = line_spelled laws texts line bytes first.member first.passes in
    record {
      instr = spelled.instr;
      read = spelled.read;
      least = record {
        lawful = spelled.lawful;
        least = λ other spells. elim (cases_lt 15 (length other)) [
          | inl longer ↦ shorter bytes other (omega (arith, first.member.1))
          | inr few ↦ first.first other (spells.are_bytes, few)
              (spelled_passes laws line other spelled.instr spelled.read.is_text (record { spells = spells; few = few }))
        ];
      };
    }

none_lawful : (laws : DecodingLaws) (line : List ℕ) → NonePasses IsShort (is_spelled_line line) → HasNoCode line
none_lawful laws line none =
    λ instr bytes read lawful.
    none bytes (lawful_short instr bytes lawful) (spelled_passes laws line bytes instr read.is_text lawful)

found_code : (laws : DecodingLaws) (texts : TextLaws) (line : List ℕ) (found : Option (List ℕ))
    → Finds IsShort (is_spelled_line line) found → MatchOption found (HasNoCode line) (IsLineCode line)
found_code laws texts line None none = none_lawful laws line none
found_code laws texts line (Some bytes) first = first_least laws texts line bytes first

pub line_law : (laws : DecodingLaws) (texts : TextLaws) (line : List ℕ)
    → MatchOption (line_code line) (HasNoCode line) (IsLineCode line)
unfolding line_code
line_law laws texts line =
    found_code laws texts line (find (is_spelled_line line) short_strings) (found_short (is_spelled_line line))

-- the other way: the least spelling is the first of them
least_first : (laws : DecodingLaws) (texts : TextLaws) (line bytes : List ℕ) → IsLineCode line bytes
    → IsFirst IsShort (is_spelled_line line) bytes
least_first laws texts line bytes code = record {
  member = lawful_short code.instr bytes code.least.lawful;
  passes = spelled_passes laws line bytes code.instr code.read.is_text code.least.lawful;
  first = λ other short passes.
      let spelled : IsSpelledLine line other = line_spelled laws texts line other short passes in
      let same : spelled.instr ≡ code.instr =
      texts.one spelled.instr code.instr spelled.read.writable code.read.writable
      (spelled.read.is_text ∙ sym code.read.is_text) in
      code.least.least other (subst (λ (i : Instr). Spells i other) same spelled.lawful.spells);
}

pub code_is : (laws : DecodingLaws) (texts : TextLaws) (line bytes : List ℕ) (instr : Instr) → IsRead line instr
    → IsLeastSpelling instr bytes → line_code line ≡ Some bytes
unfolding line_code
code_is laws texts line bytes instr read least =
    first_is (is_spelled_line line) bytes
    (least_first laws texts line bytes (record { instr = instr; read = read; least = least }))

none_passes : (laws : DecodingLaws) (texts : TextLaws) (line : List ℕ) → HasNoCode line
    → NonePasses IsShort (is_spelled_line line)
none_passes laws texts line none =
    λ bytes short passes.
    let spelled : IsSpelledLine line bytes = line_spelled laws texts line bytes short passes in
    none spelled.instr bytes spelled.read spelled.lawful

no_code : (laws : DecodingLaws) (texts : TextLaws) (line : List ℕ) → HasNoCode line → line_code line ≡ None
unfolding line_code
no_code laws texts line none = first_none (is_spelled_line line) (none_passes laws texts line none)

-- a line that no instruction has as its text, and one of an instruction that no bytes spell
pub unread_none : (laws : DecodingLaws) (texts : TextLaws) (line : List ℕ)
    → ((instr : Instr) → HasText instr → instr_text instr ≡ line → ⊥) → line_code line ≡ None
unread_none laws texts line unread =
    no_code laws texts line (λ instr bytes read lawful. unread instr read.writable read.is_text)

pub unspelled_none : (laws : DecodingLaws) (texts : TextLaws) (line : List ℕ) (instr : Instr) → IsRead line instr
    → ((bytes : List ℕ) → IsLawful instr bytes → ⊥) → line_code line ≡ None
unspelled_none laws texts line instr read unspelled =
    no_code laws texts line (λ other bytes other_read lawful.
    let same : other ≡ instr =
    texts.one other instr other_read.writable read.writable (other_read.is_text ∙ sym read.is_text) in
    unspelled bytes (subst (λ (i : Instr). IsLawful i bytes) same lawful))

-- what follows from what a clause says of a missing value
pub if_none_then : {X : Type 0} (r : Option X) {P Q : Type 0} → IfNone r P → (P → Q) → IfNone r Q
if_none_then None holds then = then holds
if_none_then (Some x) holds then = tt
