-- What a step is by the plan's next event, where the processor runs; and that no step takes a turn back.
use Rattle.std.proofs.Common.{◌≡◌, ℕ, ◌≤◌, Bool, true, false, List, refl, sym, ap, subst, arith}
use Rattle.std.specs.Prelude.{Option, None, Some, ◌||◌, nat_le, if◌then◌else◌, slice_get}
use Rattle.std.proofs.lemmas.List.Elements.{All-get_or}
use Rattle.std.proofs.lemmas.Option.{get_or_from_slice_get, slice_get_within}
use Rattle.irq_plan.specs.declared.event.Event.{Event}
use Rattle.irq_plan.specs.declared.event.What.{What}
use Rattle.irq_plan.specs.PlannedEvents.{IsEvent, IsPlan, IsPlannable}
use Rattle.cpu_step.specs.Turns.{enters_body}
use Rattle.gate_state.specs.declared.moves.Move.{Move}
use Rattle.gate_state.specs.declared.moves.Move.TheVariants as move
use Rattle.gate_state.specs.MachineStates.{MachineState}
use Rattle.gate_state.specs.MachineSteps.{after_event, after_turn, move_by, move_of, next, next_by, served, waits}
use Rattle.gate_state.specs.WholeMachine.{is_rest}

-- an event of a plan
event_planned : (plan : List Event) (i : ℕ) (event : Event) → IsPlan plan → slice_get plan i ≡ Some event
    → IsEvent event
event_planned plan i event planned found =
    subst IsEvent (get_or_from_slice_get plan i event event found)
    (All-get_or IsEvent plan i event (slice_get_within plan i event found) planned.each)

module _ (plan : List Event) (t : MachineState) where
  -- what holds after the next event, and after a turn, holds after the next step
  pub by_event_or_turn : (P : MachineState → Type 0) → IsPlan plan → enters_body t.processor ≡ false
      → waits t.processor ≡ false → ((what : What) → IsPlannable what → P (after_event what t)) → P (after_turn t)
      → P (next plan t)
  unfolding next
  by_event_or_turn P planned outside runs event turn =
      subst (λ (b : Bool).
      P (next_by (if b then move.Serve else move_by (slice_get plan t.taken) t.turns t.processor) t))
      (sym outside) (by_next (slice_get plan t.taken) refl)
    where
      by_due : (b : Bool) (it : Event) → IsEvent it → P (next_by (if b then move.Take it.what else move.Turn) t)
      by_due true it is = event it.what is.what
      by_due false it is = turn

      by_next : (it : Option Event) → slice_get plan t.taken ≡ it → P (next_by (move_by it t.turns t.processor) t)
      by_next (Some it) found =
          by_due (nat_le it.due t.turns || waits t.processor) it (event_planned plan t.taken it planned found)
      by_next None found = subst (λ (b : Bool). P (next_by (if b then move.Rest else move.Turn) t)) (sym runs) turn

  -- at the body's place the step serves the call
  pub by_serving : enters_body t.processor ≡ true → next plan t ≡ served t
  unfolding next
  by_serving here =
      ap (λ (b : Bool). next_by (if b then move.Serve else move_by (slice_get plan t.taken) t.turns t.processor) t) here

  pub no_rest : waits t.processor ≡ false → is_rest (move_of plan t) ≡ false
  no_rest runs = by_place (enters_body t.processor)
    where
      by_due : (b : Bool) (it : Event) → is_rest (if b then move.Take it.what else move.Turn) ≡ false
      by_due true it = refl
      by_due false it = refl

      by_next : (it : Option Event) → is_rest (move_by it t.turns t.processor) ≡ false
      by_next (Some it) = by_due (nat_le it.due t.turns || waits t.processor) it
      by_next None = ap (λ (b : Bool). is_rest (if b then move.Rest else move.Turn)) runs

      by_place : (b : Bool)
          → is_rest (if b then move.Serve else move_by (slice_get plan t.taken) t.turns t.processor) ≡ false
      by_place true = refl
      by_place false = by_next (slice_get plan t.taken)

  pub turns_grow : t.turns ≤ (next plan t).turns
  unfolding next served after_turn
  turns_grow = by_move (move_of plan t)
    where
      by_move : (it : Move) → t.turns ≤ (next_by it t).turns
      by_move move.Serve = omega arith
      by_move (move.Take what) = omega arith
      by_move move.Turn = omega arith
      by_move move.Rest = omega arith
