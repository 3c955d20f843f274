-- A text assembled line by line: the code so far, before what the rest of the text gives.
use Rattle.std.proofs.Common.{◌≡◌, ℕ, ◌+◌, List, [], ◌∷◌, ◌++◌, None, Some, Result, Ok, Err, length, refl, ap, sym, ◌∙◌, append-nil, append_assoc}
use Rattle.std.proofs.lemmas.List.{nil_from_length}
use Rattle.text_lines.specs.TextLines.{lines}
use Rattle.asm_text.specs.AssembledText.{assembled_of, code_before, code_from, code_then, line_code}

none_left : (number : ℕ) → code_from number [] ≡ Ok []
unfolding code_from
none_left number = refl

-- what a line and those behind it give
one_more : (number : ℕ) (line : List ℕ) (later : List (List ℕ))
    → code_from number (line ∷ later) ≡ code_then number (line_code line) (code_from (number + 1) later)
unfolding code_from
one_more number line later = refl

nothing_done : (later : Result (List ℕ) ℕ) → later ≡ code_before [] later
nothing_done (Ok bytes) = refl
nothing_done (Err number) = refl

pub begins : (text done : List ℕ) → done ≡ [] → assembled_of text ≡ code_before done (code_from 1 (lines text))
begins text done empty =
    nothing_done (code_from 1 (lines text))
    ∙ ap (λ bytes. code_before bytes (code_from 1 (lines text))) (sym empty)

abbrev as_ok : List ℕ → Result (List ℕ) ℕ
as_ok bytes = Ok bytes

done_more : (done bytes : List ℕ) (later : Result (List ℕ) ℕ)
    → code_before done (code_before bytes later) ≡ code_before (done ++ bytes) later
done_more done bytes (Ok later) = ap as_ok (sym (append_assoc done bytes later))
done_more done bytes (Err number) = refl

-- the rest of a text, whose first line is at hand
module _ (whole : Result (List ℕ) ℕ) (done : List ℕ) (number : ℕ) (rest line later : List ℕ) where
  pub bad_line : whole ≡ code_before done (code_from number (lines rest)) → lines rest ≡ line ∷ lines later
      → line_code line ≡ None → whole ≡ Err number
  bad_line so_far first none =
      so_far ∙ ap (λ ls. code_before done (code_from number ls)) first
      ∙ ap (code_before done) (one_more number line (lines later))
      ∙ ap (λ o. code_before done (code_then number o (code_from (number + 1) (lines later)))) none

  pub good_line : (bytes more : List ℕ)
      → whole ≡ code_before done (code_from number (lines rest)) → lines rest ≡ line ∷ lines later
      → line_code line ≡ Some bytes → more ≡ done ++ bytes
      → whole ≡ code_before more (code_from (number + 1) (lines later))
  good_line bytes more so_far first some put =
      so_far ∙ ap (λ ls. code_before done (code_from number ls)) first
      ∙ ap (code_before done) (one_more number line (lines later))
      ∙ ap (λ o. code_before done (code_then number o (code_from (number + 1) (lines later)))) some
      ∙ done_more done bytes (code_from (number + 1) (lines later))
      ∙ ap (λ all. code_before all (code_from (number + 1) (lines later))) (sym put)

-- and behind the last line
pub no_line : (whole : Result (List ℕ) ℕ) (done : List ℕ) (number : ℕ) (rest : List ℕ)
    → whole ≡ code_before done (code_from number (lines rest)) → length rest ≡ 0 → whole ≡ Ok done
no_line whole done number rest so_far empty =
    so_far
    ∙ ap (λ bytes. code_before done (code_from number (lines bytes))) (nil_from_length rest empty)
    ∙ ap (code_before done) (none_left number)
    ∙ ap as_ok (append-nil done)
