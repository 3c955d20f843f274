-- The first line of a text, by its first LF.
use Rattle.std.proofs.Common.{◌≡◌, ℕ, ◌<◌, ◌==◌, false, List, [], ◌∷◌, ◌++◌, length, take, drop, refl, ap, ◌∙◌, arith}
use Rattle.std.proofs.lemmas.Bool.{cond-false}
use Rattle.std.proofs.lemmas.List.{drop_all, take_all}
use Rattle.std.proofs.lemmas.List.Elements.{All-head, All-tail}
use Rattle.std.specs.List.{onto_first}
use Rattle.text_lines.specs.Cuts.{IsCut, Lacks}
use Rattle.text_lines.specs.TextLines.{lines}

is_other : ℕ → ℕ → Type 0
is_other mark c = (c == mark) ≡ false

-- a byte other than LF goes onto the first line
lines-onto : (c : ℕ) (rest : List ℕ) → (c == 10) ≡ false → lines (c ∷ rest) ≡ onto_first c (lines rest)
lines-onto c rest other = cond-false (c == 10) _ _ other

lines-at : (before behind : List ℕ) → Lacks 10 before → lines (before ++ (10 ∷ behind)) ≡ before ∷ lines behind
lines-at [] behind lacks = refl
lines-at (c ∷ before) behind lacks =
    lines-onto c (before ++ (10 ∷ behind)) (All-head (λ x. (x == 10) ≡ false) c before lacks)
    ∙ ap (onto_first c) (lines-at before behind (All-tail (λ x. (x == 10) ≡ false) c before lacks))

-- the first line ends at the first LF
pub lines_cut : (text before behind : List ℕ) → IsCut 10 text before behind → lines text ≡ before ∷ lines behind
lines_cut text before behind cut = ap lines cut.whole ∙ lines-at before behind cut.first

-- without an LF, the text is one line
lines_none : (text : List ℕ) → 0 < length text → Lacks 10 text → lines text ≡ text ∷ []
lines_none [] some lacks = absurd (omega arith)
lines_none (c ∷ []) some lacks = lines-onto c [] (All-head (λ x. (x == 10) ≡ false) c [] lacks)
lines_none (c ∷ d ∷ rest) some lacks =
    lines-onto c (d ∷ rest) (All-head (λ x. (x == 10) ≡ false) c (d ∷ rest) lacks)
    ∙ ap (onto_first c) (lines_none (d ∷ rest) (omega arith) (All-tail (λ x. (x == 10) ≡ false) c (d ∷ rest) lacks))

-- and nothing is behind it
pub last_line : (text line behind : List ℕ) → 0 < length text → Lacks 10 text
    → line ≡ take (length text) text → behind ≡ drop (length text) text → lines text ≡ line ∷ lines behind
last_line text line behind some lacks is_line is_behind =
    rw (is_line, is_behind, take_all (length text) text (omega arith), drop_all (length text) text (omega arith))
    (lines_none text some lacks)
