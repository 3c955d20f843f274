-- What holds of the events of a file in form.
use Rattle.std.proofs.Common.{◌≡◌, ℕ, ◌+◌, ◌≤◌, List, [], ◌∷◌, Option, None, Some, Result, Ok, Err, refl, sym, subst, arith}
use Rattle.std.proofs.lemmas.List.Elements.{All-cons, All-nil, All-weaker}
use Rattle.std.proofs.lemmas.List.Sorted.{IsNonDecreasingBy-insert}
use Rattle.std.specs.List.{All}
use Rattle.std.specs.List.Sorted.{IsNonDecreasingBy}
use Rattle.irq_plan.specs.declared.event.Event.{Event}
use Rattle.irq_plan.specs.PlanFile.{event_before, event_of, followed, plan_of, read_from}
use Rattle.irq_plan.specs.PlannedEvents.{IsEvent, IsPlan}
use Rattle.irq_plan.proofs.LineForms.{line_form}
use Rattle.text_lines.specs.TextLines.{lines, words}

-- a plan whose first event is due after `least` turns or later
record IsPlanFrom (least : ℕ) (events : List Event) : Type 0 where
  plan : IsPlan events
  later : All (λ event. least ≤ event.due) events

plan_nothing : (least : ℕ) → IsPlanFrom least []
plan_nothing least = record {
  plan = record { each = All-nil IsEvent; order = λ i j d le inside. absurd (omega arith) };
  later = All-nil (λ event. least ≤ event.due);
}

-- an event in front, due no later than the others
in_order : (event : Event) (events : List Event) → All (λ later. event.due ≤ later.due) events
    → IsNonDecreasingBy (λ e. e.due) events → IsNonDecreasingBy (λ e. e.due) (event ∷ events)
in_order event events later order =
    IsNonDecreasingBy-insert (λ e. e.due) events 0 event order (omega arith) (λ k d below. absurd (omega arith))
    (λ k d above inside. later k d inside)

plan_more : (least : ℕ) (event : Event) (events : List Event) → IsEvent event → least ≤ event.due
    → IsPlanFrom event.due events → IsPlanFrom least (event ∷ events)
plan_more least event events is_event above from = record {
  plan = record {
    each = All-cons IsEvent event events is_event from.plan.each;
    order = in_order event events from.later from.plan.order;
  };
  later = All-cons (λ e. least ≤ e.due) event events above
      (All-weaker (λ e. event.due ≤ e.due) (λ e. least ≤ e.due) (λ e le. omega arith) events from.later);
}

-- lines that are read from a line on
before_ok : (event : Event) (plan : Result (List Event) ℕ) (events : List Event) → event_before event plan ≡ Ok events
    → (later : List Event) × (plan ≡ Ok later) × (events ≡ event ∷ later)
before_ok event (Ok later) events h = (later, refl, cc)
before_ok event (Err number) events h = absurd (cc)

followed_form : (number least : ℕ) (event : Option Event) (read : ℕ → Result (List Event) ℕ) (events : List Event)
    → ((e : Event) → event ≡ Some e → IsEvent e × (least ≤ e.due))
    → ((due : ℕ) (later : List Event) → read due ≡ Ok later → IsPlanFrom due later)
    → followed number event read ≡ Ok events → IsPlanFrom least events
followed_form number least None read events line rest h = absurd (cc)
followed_form number least (Some event) read events line rest h =
    let parts = before_ok event (read event.due) events h in
    let form = line event refl in
    subst (IsPlanFrom least) (sym parts.2)
    (plan_more least event parts.0 form.0 form.1 (rest event.due parts.0 parts.1))

read_form : (number least : ℕ) (ls : List (List ℕ)) (events : List Event)
    → read_from number least ls ≡ Ok events → IsPlanFrom least events
unfolding read_from
read_form number least [] events h = let same : [] ≡ events = cc in subst (IsPlanFrom least) same (plan_nothing least)
read_form number least (line ∷ later) events h =
    followed_form number least (event_of least (words line)) (λ due. read_from (number + 1) due later) events
    (λ e is. line_form least (words line) e is) (λ due more is. read_form (number + 1) due later more is) h

pub plan_form : (bytes : List ℕ) (events : List Event) → plan_of bytes ≡ Ok events → IsPlan events
unfolding plan_of
plan_form bytes events h = (read_form 1 0 (lines bytes) events h).plan
