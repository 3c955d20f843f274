-- A text around the first byte of a value.
use Rattle.std.proofs.Common.{◌≡◌, ℕ, suc, ◌+◌, ◌<◌, ◌==◌, List, ◌∷◌, ◌++◌, length, take, drop, Some, None, subst, ◌∙◌, arith, add-one, inl, inr, length-take}
use Rattle.std.proofs.lemmas.Bool.{cases_lt, cond_below, eqb-true}
use Rattle.std.proofs.lemmas.List.{get_or-take}
use Rattle.std.proofs.lemmas.List.Quantifiers.{position-Some}
use Rattle.std.proofs.lemmas.List.Sums.{fails_before_first}
use Rattle.std.proofs.Math.Seq.{split_at}
use Rattle.std.specs.List.{position, position_or_len}
use Rattle.text_lines.specs.Cuts.{IsCut, Lacks}

-- at the first place of the value
pub cut_at_first : (mark place : ℕ) (text before behind : List ℕ) → position (λ c. c == mark) text ≡ Some place
    → before ≡ take place text → behind ≡ drop (place + 1) text → IsCut mark text before behind
cut_at_first mark place text before behind first is_front is_back =
    let found = position-Some (λ c. c == mark) text place 0 first in
    record {
      whole = rw (is_front, is_back, add-one place) (
          subst (λ c. text ≡ take place text ++ (c ∷ drop (suc place) text)) (eqb-true _ mark found.1)
          (split_at text place 0 found.0));
      first = rw is_front (λ k d inside.
          let before : k < place = omega (arith, length-take place text) in
          rw (get_or-take place text k d before) ((position-Some (λ c. c == mark) text place d first).2 k before));
    }

-- and where it has none
pub nowhere : (mark : ℕ) (text : List ℕ) → position (λ c. c == mark) text ≡ None → Lacks mark text
nowhere mark text none k d inside =
    elim (cases_lt (position_or_len (λ c. c == mark) text) (length text)) [
      | inl here ↦
          absurd (let some = cond_below _ _ (Some (position_or_len (λ c. c == mark) text)) None here in cc (some ∙ none))
      | inr past ↦ fails_before_first (λ c. c == mark) text k d (omega arith)
    ]
