-- Instructions are read back from their texts.
use Rattle.std.proofs.Common.{◌≡◌, ℕ, Bool, true, false, List, ◌∷◌, ◌++◌, refl, sym, ap, ◌∙◌, drop}
use Rattle.std.specs.Prelude.{None, Some, Option, IfNone, IfSome, if◌then◌else◌, decimal}
use Rattle.std.specs.Str.{bytes_eq}
use Rattle.std.proofs.lemmas.Bool.{false≢true}
use Rattle.std.proofs.lemmas.Slice.Eq.{bytes_eq-Decides}
use Rattle.decode_fields.specs.declared.parts.Rep.{Rep}
use Rattle.decode_fields.specs.declared.parts.Rep.TheVariants.{No, WhileEqual, WhileNot}
use Rattle.x86_decode.specs.declared.instruction.Instr.{Instr}
use Rattle.asm_text.specs.InstructionTexts.{HasText, IsRead, hex_digits, instr_text, lock_text, place_text, rep_text}
use Rattle.asm_text.specs.Operations.{op_name}
use Rattle.asm_text.specs.ParsedTexts.{behind_lock, behind_rep, byte_said, bytes_past, bytes_to, has_lock, number_said, op_named, parsed, parsed_behind, place_said, rep_said}
use Rattle.asm_text.specs.TextLaws.{TextLaws}
use Rattle.asm_text.proofs.NameTests.{name_back, name_behind_rep, name_no_dot, name_no_lock, name_no_rep}
use Rattle.asm_text.proofs.ReadNumbers.{byte_back, byte_lacks, hex_back}
use Rattle.asm_text.proofs.ReadPlaces.{place_back, place_no_space}
use Rattle.asm_text.proofs.WordMarks.{cut_past, cut_to, lacks}

-- the prefixes
unlocked : (lock : Bool) (rest : List ℕ) → has_lock rest ≡ false
    → (has_lock (lock_text lock ++ rest) ≡ lock) × (behind_lock (lock_text lock ++ rest) ≡ rest)
unlocked true rest none = (refl, refl)
unlocked false rest none = (none, λ i. if none i then drop 5 rest else rest)

repeated : (rep : Rep) (rest : List ℕ) → rep_said rest ≡ No → behind_rep rest ≡ rest
    → (rep_said (rep_text rep ++ rest) ≡ rep) × (behind_rep (rep_text rep ++ rest) ≡ rest)
repeated No rest none same = (none, same)
repeated WhileEqual rest none same = (refl, refl)
repeated WhileNot rest none same = (refl, refl)

no_lock : (rep : Rep) (rest : List ℕ) → has_lock rest ≡ false → has_lock (rep_text rep ++ rest) ≡ false
no_lock No rest none = none
no_lock WhileEqual rest none = refl
no_lock WhileNot rest none = refl

prefixes_back : (lock : Bool) (rep : Rep) (rest : List ℕ) → has_lock rest ≡ false → rep_said rest ≡ No → behind_rep rest ≡ rest
    → parsed (lock_text lock ++ (rep_text rep ++ rest)) ≡ parsed_behind lock rep rest
unfolding parsed
prefixes_back lock rep rest none_locked none_repeated same =
    let first = unlocked lock (rep_text rep ++ rest) (no_lock rep rest none_locked) in
    let second = repeated rep rest none_repeated same in
    λ i. parsed_behind (first.0 i) ((ap rep_said first.1 ∙ second.0) i) ((ap behind_rep first.1 ∙ second.1) i)

-- an instruction by its words
abbrev instr_of_words : Bool → Rep → List ℕ → List ℕ → List ℕ → List ℕ → List ℕ → Instr
instr_of_words lock rep op width to from value = record {
  op = op_named op;
  width = byte_said width;
  to = place_said to;
  from = place_said from;
  value = number_said value;
  rep = rep;
  lock = lock;
}

-- five words with marks behind them
instr_words : (lock : Bool) (rep : Rep) (op width to from value : List ℕ) → lacks 46 op ≡ true → lacks 32 width ≡ true
    → lacks 32 to ≡ true → lacks 32 from ≡ true
    → parsed_behind lock rep (op ++ (46 ∷ (width ++ (32 ∷ (to ++ (32 ∷ (from ++ (32 ∷ value))))))))
    ≡ instr_of_words lock rep op width to from value
unfolding parsed_behind
instr_words lock rep op width to from value one two three four =
    let behind_to = from ++ (32 ∷ value) in
    let behind_width = to ++ (32 ∷ behind_to) in
    let behind_op = width ++ (32 ∷ behind_width) in
    let text = op ++ (46 ∷ behind_op) in
    let to_width : bytes_past 46 text ≡ behind_op = cut_past 46 op behind_op one in
    let to_to : bytes_past 32 (bytes_past 46 text) ≡ behind_width =
    ap (bytes_past 32) to_width ∙ cut_past 32 width behind_width two in
    let to_from : bytes_past 32 (bytes_past 32 (bytes_past 46 text)) ≡ behind_to =
    ap (bytes_past 32) to_to ∙ cut_past 32 to behind_to three in
    let op_is : bytes_to 46 text ≡ op = cut_to 46 op behind_op one in
    let width_is : bytes_to 32 (bytes_past 46 text) ≡ width =
    ap (bytes_to 32) to_width ∙ cut_to 32 width behind_width two in
    let to_is : bytes_to 32 (bytes_past 32 (bytes_past 46 text)) ≡ to =
    ap (bytes_to 32) to_to ∙ cut_to 32 to behind_to three in
    let from_is : bytes_to 32 (bytes_past 32 (bytes_past 32 (bytes_past 46 text))) ≡ from =
    ap (bytes_to 32) to_from ∙ cut_to 32 from value four in
    let value_is : bytes_past 32 (bytes_past 32 (bytes_past 32 (bytes_past 46 text))) ≡ value =
    ap (bytes_past 32) to_from ∙ cut_past 32 from value four in
    λ i. instr_of_words lock rep (op_is i) (width_is i) (to_is i) (from_is i) (value_is i)

-- the text of an instruction says that instruction
pub text_back : (instr : Instr) → HasText instr → parsed (instr_text instr) ≡ instr
unfolding instr_text
text_back instr has =
    let rest = decimal instr.width ++ (32 ∷ (place_text instr.to ++ (32 ∷ (place_text instr.from
    ++ (32 ∷ hex_digits instr.value))))) in
    prefixes_back instr.lock instr.rep (op_name instr.op ++ (46 ∷ rest)) (name_no_lock instr.op rest)
    (name_no_rep instr.op rest) (name_behind_rep instr.op rest)
    ∙ (instr_words instr.lock instr.rep (op_name instr.op) (decimal instr.width) (place_text instr.to)
    (place_text instr.from) (hex_digits instr.value) (name_no_dot instr.op has.condition)
    (byte_lacks 32 instr.width has.width refl) (place_no_space instr.to has.to) (place_no_space instr.from has.from)
    ∙ (λ i. record {
      op = name_back instr.op has.condition i;
      width = byte_back instr.width has.width i;
      to = place_back instr.to has.to i;
      from = place_back instr.from has.from i;
      value = hex_back instr.value has.value i;
      rep = instr.rep;
      lock = instr.lock;
    }))

-- two instructions never have one text
pub text_one : (instr other : Instr) → HasText instr → HasText other → instr_text instr ≡ instr_text other → instr ≡ other
text_one instr other has has_other same = sym (text_back instr has) ∙ (ap parsed same ∙ text_back other has_other)

-- where what a text is parsed to has another text, no instruction has it
pub read_none : (text : List ℕ) (said : Instr) → said ≡ parsed text → bytes_eq (instr_text said) text ≡ false
    → (instr : Instr) → HasText instr → instr_text instr ≡ text → ⊥
read_none text said says other instr has is =
    let one : said ≡ instr = says ∙ (ap parsed (sym is) ∙ text_back instr has) in
    let passes : bytes_eq (instr_text said) text ≡ true =
    (bytes_eq-Decides (instr_text said) text).1 (ap instr_text one ∙ is) in
    false≢true (sym other ∙ passes)

-- what is read of an instruction's text
pub read_back_is : (laws : TextLaws) (instr : Instr) (text : List ℕ) (found : Option Instr) → HasText instr
    → text ≡ instr_text instr → IfSome found (λ i. IsRead text i)
    → IfNone found ((i : Instr) → HasText i → instr_text i ≡ text → ⊥) → found ≡ Some instr
read_back_is laws instr text None has is some none = absurd (none instr has (sym is))
read_back_is laws instr text (Some other) has is some none =
    ap (λ i. Some i) (laws.one other instr some.writable has (some.is_text ∙ is))
