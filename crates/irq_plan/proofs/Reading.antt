-- A plan read line by line: the events that were read, before what the rest of the file gives.
use Rattle.std.proofs.Common.{◌≡◌, ℕ, ◌+◌, ◌==◌, true, List, [], ◌∷◌, ◌++◌, None, Some, Result, Ok, Err, length, refl, ap, ◌∙◌, append-nil, append_assoc, sym}
use Rattle.std.proofs.lemmas.Bool.{eqb-true}
use Rattle.std.proofs.lemmas.List.{nil_from_length}
use Rattle.irq_plan.specs.declared.event.Event.{Event}
use Rattle.irq_plan.specs.PlanFile.{event_before, event_of, followed, plan_of, read_from}
use Rattle.irq_plan.specs.PlanReading.{behind}
use Rattle.text_lines.specs.TextLines.{lines, words}

-- what a line and those behind it give
read_line : (number least : ℕ) (line : List ℕ) (later : List (List ℕ))
    → read_from number least (line ∷ later)
    ≡ followed number (event_of least (words line)) (λ due. read_from (number + 1) due later)
unfolding read_from
read_line number least line later = refl

read_nothing : (number least : ℕ) → read_from number least [] ≡ Ok []
unfolding read_from
read_nothing number least = refl

nothing_done : (plan : Result (List Event) ℕ) → plan ≡ behind [] plan
nothing_done (Ok events) = refl
nothing_done (Err number) = refl

pub begins : (bytes : List ℕ) (done : List Event) → done ≡ []
    → plan_of bytes ≡ behind done (read_from 1 0 (lines bytes))
unfolding plan_of
begins bytes done empty = rw empty (nothing_done (read_from 1 0 (lines bytes)))

abbrev as_ok : List Event → Result (List Event) ℕ
as_ok events = Ok events

-- one event more
done_more : (done : List Event) (event : Event) (plan : Result (List Event) ℕ)
    → behind done (event_before event plan) ≡ behind (done ++ event ∷ []) plan
done_more done event (Ok later) = ap as_ok (sym (append_assoc done (event ∷ []) later))
done_more done event (Err number) = refl

-- the rest of a file, whose first line is at hand
module _ (plan : Result (List Event) ℕ) (done : List Event) (number least : ℕ) (rest line later : List ℕ) where
  pub bad_line : plan ≡ behind done (read_from number least (lines rest)) → lines rest ≡ line ∷ lines later
      → None ≡ event_of least (words line) → plan ≡ Err number
  bad_line so_far first none =
      so_far ∙ ap (λ ls. behind done (read_from number least ls)) first
      ∙ ap (behind done) (read_line number least line (lines later))
      ∙ ap (λ o. behind done (followed number o (λ due. read_from (number + 1) due (lines later)))) (sym none)

  pub good_line : (event : Event) (more : List Event)
      → plan ≡ behind done (read_from number least (lines rest)) → lines rest ≡ line ∷ lines later
      → Some event ≡ event_of least (words line) → more ≡ done ++ event ∷ []
      → plan ≡ behind more (read_from (number + 1) event.due (lines later))
  good_line event more so_far first some pushed =
      so_far ∙ ap (λ ls. behind done (read_from number least ls)) first
      ∙ ap (behind done) (read_line number least line (lines later))
      ∙ ap (λ o. behind done (followed number o (λ due. read_from (number + 1) due (lines later)))) (sym some)
      ∙ done_more done event (read_from (number + 1) event.due (lines later))
      ∙ ap (λ events. behind events (read_from (number + 1) event.due (lines later))) (sym pushed)

-- and behind the last line
pub no_line : (plan : Result (List Event) ℕ) (done : List Event) (number least : ℕ) (rest : List ℕ)
    → plan ≡ behind done (read_from number least (lines rest)) → true ≡ (length rest == 0) → plan ≡ Ok done
no_line plan done number least rest so_far empty =
    so_far
    ∙ ap (λ bytes. behind done (read_from number least (lines bytes))) (nil_from_length rest (eqb-true _ 0 (sym empty)))
    ∙ ap (behind done) (read_nothing number least)
    ∙ ap as_ok (append-nil done)
