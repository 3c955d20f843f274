-- Every state of every run is guarded, what the nested kernel guards is what the accepted calls make, and steps count.
use Rattle.std.proofs.Common.{◌≡◌, ℕ, zero, suc, ◌<◌, Bool, true, false, List, [], ◌∷◌, length, refl, sym, ap, subst, ◌∙◌, inl, inr}
use Rattle.std.specs.Prelude.{Option, None, Some, ◌||◌, if◌then◌else◌, nat_le, slice_get}
use Rattle.std.proofs.lemmas.Bool.{cases_lt}
use Rattle.std.proofs.lemmas.Option.{slice_get_past}
use Rattle.std.specs.List.{All}
use Rattle.std.proofs.lemmas.List.Elements.{All-head, All-tail}
use Rattle.irq_plan.specs.declared.event.What.TheVariants.{Irq, Drop, Fill, Keep, Forget}
use Rattle.nk_bits.specs.declared.rule.Rule.{Rule}
use Rattle.irq_plan.specs.declared.event.Event.{Event}
use Rattle.irq_plan.specs.declared.event.What.{What}
use Rattle.irq_plan.specs.PlannedEvents.{IsEvent, IsPlan, IsPlannable}
use Rattle.cpu_step.specs.Turns.{enters_body}
use Rattle.nk_body.specs.NestedRecord.{Nested}
use Rattle.nk_body.specs.CallRules.{made_unless}
use Rattle.gate_state.specs.declared.moves.Move.{Move}
use Rattle.gate_state.specs.declared.moves.Move.TheVariants as move
use Rattle.gate_state.specs.GuardedStates.{IsGuarded}
use Rattle.gate_state.specs.MachineStates.{MachineState, Opening, nested_of}
use Rattle.gate_state.specs.MachineSteps.{Made, after_event, after_turn, called_by, calls, made_by_all, made_in, move_by, move_of, nested_after, next, next_by, served, state, verdict_in, waits, with_call}
use Rattle.gate_state.specs.SafeStates.{TakesTurn}
use Rattle.gate_state.specs.StepsTaken.{CountsSteps}

-- what is known of the move from a state
pub data IsMove (plan : List Event) (s : MachineState) : Move → Type 0 where
  serving : enters_body s.processor ≡ true → IsMove plan s move.Serve
  taking : (event : Event) → enters_body s.processor ≡ false → slice_get plan s.taken ≡ Some event → IsMove plan s (move.Take event.what)
  turning : TakesTurn s.processor → IsMove plan s move.Turn
  resting : enters_body s.processor ≡ false → waits s.processor ≡ true → IsMove plan s move.Rest

module _ (plan : List Event) (s : MachineState) where
  by_event : (event : Option Event) → enters_body s.processor ≡ false → slice_get plan s.taken ≡ event → IsMove plan s (move_by event s.turns s.processor)
  by_event (Some event) outside is = choice (waits s.processor) refl (nat_le event.due s.turns)
    where
      choice : (w : Bool) → waits s.processor ≡ w → (due : Bool) → IsMove plan s (if due || w then move.Take event.what else move.Turn)
      choice w rests true = taking event outside is
      choice true rests false = taking event outside is
      choice false rests false = turning (record { no_body = outside; runs = rests })
  by_event None outside is = choice (waits s.processor) refl
    where
      choice : (w : Bool) → waits s.processor ≡ w → IsMove plan s (if w then move.Rest else move.Turn)
      choice true waits_so = resting outside waits_so
      choice false runs_on = turning (record { no_body = outside; runs = runs_on })

  pub move_is : IsMove plan s (move_of plan s)
  move_is = choice (enters_body s.processor) refl
    where
      choice : (b : Bool) → enters_body s.processor ≡ b → IsMove plan s (if b then move.Serve else move_by (slice_get plan s.taken) s.turns s.processor)
      choice true at = serving at
      choice false outside = by_event (slice_get plan s.taken) outside refl

-- an event of a list that has one there
has_some : (plan : List Event) (n : ℕ) (event : Event) → slice_get plan n ≡ Some event → n < length plan
has_some plan n event is = elim (cases_lt n (length plan)) [
  | inl within ↦ within
  | inr past ↦ let e : None ≡ Some event = sym (slice_get_past plan n past) ∙ is in absurd (cc)
]

-- what a step counts
pub count_by : (plan : List Event) (s : MachineState) (m : Move) → IsMove plan s m → CountsSteps plan m s (next_by m s)
unfolding served after_turn
count_by plan s move.Serve (serving at) = record { turns = refl; taken = refl }
count_by plan s (move.Take what) (taking event outside is) = record { turns = refl; taken = refl; left = has_some plan s.taken event is }
count_by plan s move.Turn (turning takes) = record { turns = refl; taken = refl }
count_by plan s move.Rest (resting outside waits_so) = refl

pub step_counts : (plan : List Event) (s : MachineState) → CountsSteps plan (move_of plan s) s (next plan s)
unfolding next
step_counts plan s = count_by plan s (move_of plan s) (move_is plan s)

-- an event of a plan is one that a plan can have
event_at : (xs : List Event) (n : ℕ) (x : Event) → All IsEvent xs → slice_get xs n ≡ Some x → IsEvent x
event_at [] n x all is = let e : None ≡ Some x = is in absurd (cc)
event_at (y ∷ xs) zero x all is = let e : y ≡ x = cc in subst IsEvent e (All-head IsEvent y xs all)
event_at (y ∷ xs) (suc n) x all is = event_at xs n x (All-tail IsEvent y xs all) is

event_of_plan : (plan : List Event) (n : ℕ) (event : Event) → IsPlan plan → slice_get plan n ≡ Some event → IsPlannable event.what
event_of_plan plan n event is at = (event_at plan n event is.each at).what

-- each kind of step keeps the invariant
pub record StepsKept (o : Opening) : Type 0 where
  pub event : (s : MachineState) (what : What) → IsPlannable what → IsGuarded o s → IsGuarded o (after_event what s)
  pub turn : (s : MachineState) → TakesTurn s.processor → IsGuarded o s → IsGuarded o (after_turn s)
  pub body : (s : MachineState) → enters_body s.processor ≡ true → IsGuarded o s → IsGuarded o (served s)
  pub stays : (s : MachineState) → TakesTurn s.processor → IsGuarded o s → nested_of (after_turn s) ≡ nested_of s
  pub serves : (s : MachineState) → IsGuarded o s → nested_of (served s) ≡ nested_after s

module _ (o : Opening) (steps : StepsKept o) (plan : List Event) (in_form : IsPlan plan) where
  step_guarded : (s : MachineState) (m : Move) → IsMove plan s m → IsGuarded o s → IsGuarded o (next_by m s)
  step_guarded s move.Serve (serving at) guarded = steps.body s at guarded
  step_guarded s (move.Take what) (taking event outside is) guarded = steps.event s event.what (event_of_plan plan s.taken event in_form is) guarded
  step_guarded s move.Turn (turning takes) guarded = steps.turn s takes guarded
  step_guarded s move.Rest (resting outside waits_so) guarded = guarded

  pub next_guarded : (s : MachineState) → IsGuarded o s → IsGuarded o (next plan s)
  unfolding next
  next_guarded s guarded = step_guarded s (move_of plan s) (move_is plan s) guarded

  pub state_guarded : (s : MachineState) (k : ℕ) → IsGuarded o s → IsGuarded o (state plan s k)
  unfolding state
  state_guarded s zero guarded = guarded
  state_guarded s (suc k) guarded = state_guarded (next plan s) k (next_guarded s guarded)

  -- the record after a step is what the calls of that step make
  call_made : (nk : Nested) (it : Made) (v : Option Rule) (later : List Made)
      → made_by_all nk (with_call v it later) ≡ made_by_all (made_unless v nk it.call it.source it.stand) later
  call_made nk it None later = refl
  call_made nk it (Some rule) later = refl

  step_made : (s : MachineState) (m : Move) (later : List Made) → IsMove plan s m → IsGuarded o s
      → made_by_all (nested_of s) (called_by m s later) ≡ made_by_all (nested_of (next_by m s)) later
  step_made s move.Serve later (serving at) guarded =
      call_made (nested_of s) (made_in s) (verdict_in s) later
      ∙ ap (λ (nk : Nested). made_by_all nk later) (sym (steps.serves s guarded))
  step_made s (move.Take what) later (taking event outside is) guarded = ap (λ (nk : Nested). made_by_all nk later) (event_leaves event.what s)
    where
      event_leaves : (what : What) (s : MachineState) → nested_of s ≡ nested_of (after_event what s)
      event_leaves (Irq vector) s = refl
      event_leaves (Drop page) s = refl
      event_leaves (Fill page) s = refl
      event_leaves (Keep level page) s = refl
      event_leaves (Forget level page) s = refl
  step_made s move.Turn later (turning takes) guarded = ap (λ (nk : Nested). made_by_all nk later) (sym (steps.stays s takes guarded))
  step_made s move.Rest later (resting outside waits_so) guarded = refl

  pub state_made : (s : MachineState) (k : ℕ) → IsGuarded o s → nested_of (state plan s k) ≡ made_by_all (nested_of s) (calls plan s k)
  unfolding state calls next
  state_made s zero guarded = refl
  state_made s (suc k) guarded =
      state_made (next plan s) k (next_guarded s guarded)
      ∙ sym (step_made s (move_of plan s) (calls plan (next plan s) k) (move_is plan s) guarded)
