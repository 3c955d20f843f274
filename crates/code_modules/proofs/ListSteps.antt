-- A list read line by line: the lines that were read, before what the rest of the file gives.
use Rattle.std.proofs.Common.{◌≡◌, ℕ, ◌+◌, ◌<◌, ◌≤◌, ◌==◌, List, [], ◌∷◌, ◌++◌, None, Some, Option, inl, inr, Result, Ok, Err, length, arith, refl, ap, ◌∙◌, append-nil, append_assoc, sym}
use Rattle.std.proofs.lemmas.Bool.{cases_Bool, cond-false, cond-true, le-ltb, lt-ltb, ne_eqb}
use Rattle.std.proofs.lemmas.List.{nil_from_length}
use Rattle.std.specs.List.{onto_first}
use Rattle.code_modules.specs.ListReading.{after_listed}
use Rattle.code_modules.specs.ModuleList.{Listed, list_from, list_of, listed_before, listed_of, listed_then}
use Rattle.text_lines.specs.TextLines.{lines, words}

-- what a line and those behind it give
late_line : (number : ℕ) (line : List ℕ) (later : List (List ℕ)) → 32 < number → list_from number (line ∷ later) ≡ Err number
unfolding list_from
late_line number line later past = cond-true _ _ _ (lt-ltb 32 number past)

early_line : (number : ℕ) (line : List ℕ) (later : List (List ℕ)) → number ≤ 32
    → list_from number (line ∷ later) ≡ listed_then number (listed_of (words line)) (list_from (number + 1) later)
unfolding list_from
early_line number line later few = cond-false _ _ _ (le-ltb 32 number few)

none_left : (number : ℕ) → list_from number [] ≡ Ok []
unfolding list_from
none_left number = refl

nothing_done : (list : Result (List Listed) ℕ) → list ≡ after_listed [] list
nothing_done (Ok listed) = refl
nothing_done (Err number) = refl

pub begins : (bytes : List ℕ) (done : List Listed) → 0 < length bytes → done ≡ []
    → list_of bytes ≡ after_listed done (list_from 1 (lines bytes))
unfolding list_of
begins [] done some empty = absurd (omega arith)
begins (c ∷ rest) done some empty =
    cond-false (length (c ∷ rest) == 0) (Err 1) (list_from 1 (lines (c ∷ rest))) (ne_eqb (length (c ∷ rest)) 0 (λ e. omega arith))
    ∙ nothing_done (list_from 1 (lines (c ∷ rest)))
    ∙ ap (λ listed. after_listed listed (list_from 1 (lines (c ∷ rest)))) (sym empty)

pub nothing_listed : (bytes : List ℕ) → length bytes ≡ 0 → list_of bytes ≡ Err 1
unfolding list_of
nothing_listed [] none = refl
nothing_listed (c ∷ rest) none = absurd (omega arith)

abbrev as_ok : List Listed → Result (List Listed) ℕ
as_ok listed = Ok listed

-- one line more
done_more : (done : List Listed) (listed : Listed) (list : Result (List Listed) ℕ)
    → after_listed done (listed_before listed list) ≡ after_listed (done ++ listed ∷ []) list
done_more done listed (Ok later) = ap as_ok (sym (append_assoc done (listed ∷ []) later))
done_more done listed (Err number) = refl

-- the rest of a file, whose first line is at hand
module _ (list : Result (List Listed) ℕ) (done : List Listed) (number : ℕ) (rest line later : List ℕ) where
  pub too_late : list ≡ after_listed done (list_from number (lines rest)) → lines rest ≡ line ∷ lines later
      → 32 < number → list ≡ Err number
  too_late so_far first past =
      so_far ∙ ap (λ ls. after_listed done (list_from number ls)) first
      ∙ ap (after_listed done) (late_line number line (lines later) past)

  pub bad_line : list ≡ after_listed done (list_from number (lines rest)) → lines rest ≡ line ∷ lines later
      → number ≤ 32 → listed_of (words line) ≡ None → list ≡ Err number
  bad_line so_far first few none =
      so_far ∙ ap (λ ls. after_listed done (list_from number ls)) first
      ∙ ap (after_listed done) (early_line number line (lines later) few)
      ∙ ap (λ o. after_listed done (listed_then number o (list_from (number + 1) (lines later)))) none

  pub good_line : (listed : Listed) (more : List Listed)
      → list ≡ after_listed done (list_from number (lines rest)) → lines rest ≡ line ∷ lines later
      → number ≤ 32 → listed_of (words line) ≡ Some listed → more ≡ done ++ listed ∷ []
      → list ≡ after_listed more (list_from (number + 1) (lines later))
  good_line listed more so_far first few some pushed =
      so_far ∙ ap (λ ls. after_listed done (list_from number ls)) first
      ∙ ap (after_listed done) (early_line number line (lines later) few)
      ∙ ap (λ o. after_listed done (listed_then number o (list_from (number + 1) (lines later)))) some
      ∙ done_more done listed (list_from (number + 1) (lines later))
      ∙ ap (λ all. after_listed all (list_from (number + 1) (lines later))) (sym pushed)

-- and behind the last line
pub no_line : (list : Result (List Listed) ℕ) (done : List Listed) (number : ℕ) (rest : List ℕ)
    → list ≡ after_listed done (list_from number (lines rest)) → length rest ≡ 0 → list ≡ Ok done
no_line list done number rest so_far empty =
    so_far
    ∙ ap (λ bytes. after_listed done (list_from number (lines bytes))) (nil_from_length rest empty)
    ∙ ap (after_listed done) (none_left number)
    ∙ ap as_ok (append-nil done)

-- a list in form has a module
before_some : (listed : Listed) (later : Result (List Listed) ℕ) (modules : List Listed) → listed_before listed later ≡ Ok modules
    → 0 < length modules
before_some listed (Ok later) [] e = cc
before_some listed (Ok later) (it ∷ more) e = omega arith
before_some listed (Err number) modules e = cc

then_some : (number : ℕ) (first : Option Listed) (later : Result (List Listed) ℕ) (modules : List Listed)
    → listed_then number first later ≡ Ok modules → 0 < length modules
then_some number None later modules e = cc
then_some number (Some listed) later modules e = before_some listed later modules e

lines_some : (ls : List (List ℕ)) (modules : List Listed) → 0 < length ls → list_from 1 ls ≡ Ok modules → 0 < length modules
lines_some [] modules some e = absurd (omega (arith, some))
lines_some (line ∷ later) modules some e =
    then_some 1 (listed_of (words line)) (list_from 2 later) modules (sym (early_line 1 line later (omega arith)) ∙ e)

first_line : (c : ℕ) (ls : List (List ℕ)) → 0 < length (onto_first c ls)
first_line c [] = omega arith
first_line c (line ∷ later) = omega arith

text_lines_some : (c : ℕ) (rest : List ℕ) → 0 < length (lines (c ∷ rest))
text_lines_some c rest = elim (cases_Bool (c == 10)) [
  | inl ends ↦ rw ends (omega arith)
  | inr goes ↦ rw goes (first_line c (lines rest))
]

pub some_listed : (bytes : List ℕ) (modules : List Listed) → list_of bytes ≡ Ok modules → 0 < length modules
some_listed [] modules e = let none = sym (nothing_listed [] refl) ∙ e in cc
some_listed (c ∷ rest) modules e =
    let whole = begins (c ∷ rest) [] (omega arith) refl in
    let read : list_from 1 (lines (c ∷ rest)) ≡ Ok modules = nothing_done (list_from 1 (lines (c ∷ rest))) ∙ sym whole ∙ e in
    lines_some (lines (c ∷ rest)) modules (text_lines_some c rest) read
