-- Lines and words of a text that is put together of words.
use Rattle.std.proofs.Common.{◌≡◌, ℕ, ◌≤◌, ◌==◌, Bool, true, false, List, [], ◌∷◌, ◌++◌, refl, sym, ap, ◌∙◌, append_assoc, arith}
use Rattle.std.specs.Prelude.{nat_lt}
use Rattle.std.proofs.lemmas.Bool.{and_parts, cond-false, ltb-true, ne_eqb}
use Rattle.std.proofs.lemmas.List.Elements.{All-append, All-cons, All-head, All-nil, All-tail}
use Rattle.std.proofs.lemmas.List.Splits.{slice_split_at, slice_split_none}
use Rattle.std.specs.List.{All, list_all, onto_first}
use Rattle.text_lines.specs.TextLines.{lines, words}

-- no byte of the text has this value
abbrev pub Lacks : ℕ → List ℕ → Type 0
Lacks mark text = All (λ c. (c == mark) ≡ false) text

-- no byte of the word is a space or an LF
pub record IsWord (word : List ℕ) : Type 0 where
  pub one_line : Lacks 10 word
  pub no_space : Lacks 32 word

abbrev pub AreWords : List (List ℕ) → Type 0
AreWords [] = Unit {0}
AreWords (word ∷ later) = IsWord word × AreWords later

-- a text whose bytes are above a space
abbrev is_clean : List ℕ → Bool
is_clean text = list_all (λ c. nat_lt 32 c) text

above_space : (mark : ℕ) → mark ≤ 32 → (text : List ℕ) → is_clean text ≡ true → Lacks mark text
above_space mark low [] clean = All-nil (λ c. (c == mark) ≡ false)
above_space mark low (c ∷ text) clean =
    let parts = and_parts (nat_lt 32 c) (is_clean text) clean in
    All-cons (λ c. (c == mark) ≡ false) c text (ne_eqb c mark (λ same. omega (arith, low, same, ltb-true 32 c parts.0)))
    (above_space mark low text parts.1)

pub text_word : (text : List ℕ) → is_clean text ≡ true → IsWord text
text_word text clean = record {
  one_line = above_space 10 (omega arith) text clean;
  no_space = above_space 32
      (omega arith) text clean;
}

-- words with spaces between them
abbrev pub spelled : List ℕ → List (List ℕ) → List ℕ
spelled word [] = word
spelled word (next ∷ later) = word ++ (32 ∷ spelled next later)

-- and an LF behind them
abbrev pub told : List ℕ → List (List ℕ) → List ℕ
told word [] = word ++ (10 ∷ [])
told word (next ∷ later) = word ++ (32 ∷ told next later)

told_is : (word : List ℕ) (later : List (List ℕ)) (rest : List ℕ)
    → told word later ++ rest ≡ spelled word later ++ (10 ∷ rest)
told_is word [] rest = append_assoc word (10 ∷ []) rest
told_is word (next ∷ later) rest =
    append_assoc word (32 ∷ told next later) rest
    ∙ ap (λ l. word ++ (32 ∷ l)) (told_is next later rest)
    ∙ sym (append_assoc word (32 ∷ spelled next later) (10 ∷ rest))

one_line : (word : List ℕ) (later : List (List ℕ)) → IsWord word → AreWords later → Lacks 10 (spelled word later)
one_line word [] is are = is.one_line
one_line word (next ∷ later) is are =
    All-append (λ c. (c == 10) ≡ false) word (32 ∷ spelled next later) is.one_line
    (All-cons (λ c. (c == 10) ≡ false) 32 (spelled next later) refl (one_line next later are.0 are.1))

-- the line's words are these
pub words_spelled : (word : List ℕ) (later : List (List ℕ)) → IsWord word → AreWords later
    → words (spelled word later) ≡ word ∷ later
words_spelled word [] is are = slice_split_none (λ c. c == 32) word is.no_space
words_spelled word (next ∷ later) is are =
    slice_split_at (λ c. c == 32) word 32 (spelled next later) is.no_space refl
    ∙ ap (λ l. word ∷ l) (words_spelled next later are.0 are.1)

-- a line ends at its LF
lines_at : (line rest : List ℕ) → Lacks 10 line → lines (line ++ (10 ∷ rest)) ≡ line ∷ lines rest
lines_at [] rest lacks = refl
lines_at (c ∷ line) rest lacks =
    cond-false (c == 10) _ _ (All-head (λ x. (x == 10) ≡ false) c line lacks)
    ∙ ap (onto_first c) (lines_at line rest (All-tail (λ x. (x == 10) ≡ false) c line lacks))

pub lines_told : (word : List ℕ) (later : List (List ℕ)) (rest : List ℕ) → IsWord word → AreWords later
    → lines (told word later ++ rest) ≡ spelled word later ∷ lines rest
lines_told word later rest is are = ap lines (told_is word later rest)
    ∙ lines_at (spelled word later) rest (one_line word later is are)
