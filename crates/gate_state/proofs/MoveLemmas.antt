-- The move past the last event, and that a move by an event is never the body's.
use Rattle.std.proofs.Common.{◌≡◌, ℕ, ◌≤◌, Bool, true, false, List, length, None, Some, Option, sym, subst, ◌||◌}
use Rattle.std.specs.Prelude.{if◌then◌else◌, nat_le, slice_get}
use Rattle.std.proofs.lemmas.Option.{slice_get_past}
use Rattle.irq_plan.specs.declared.event.Event.{Event}
use Rattle.irq_plan.specs.declared.event.What.{What}
use Rattle.cpu_step.specs.Processor.{Processor}
use Rattle.gate_state.specs.declared.moves.Move.{Move}
use Rattle.gate_state.specs.declared.moves.Move.TheVariants as move
use Rattle.gate_state.specs.EventMoves.{IfTaken, IsBodyBy}
use Rattle.gate_state.specs.MachineSteps.{move_by, waits}

-- no event is taken where none is left
none_chosen : (b : Bool) (P : What → Type 0) → IfTaken (if b then move.Rest else move.Turn) P
none_chosen true P = tt
none_chosen false P = tt

pub taken_without : (turns : ℕ) (p : Processor) (m : Move) (P : What → Type 0) → m ≡ move_by None turns p → IfTaken m P
taken_without turns p m P e =
    let Q : Move → Type 0 = λ m. IfTaken m P in
    subst Q (sym e) (none_chosen (waits p) P)

pub move_past : (plan : List Event) (p : Processor) (turns taken : ℕ) (m : Move) → length plan ≤ taken → m ≡ move_by None turns p
    → m ≡ move_by (slice_get plan taken) turns p
move_past plan p turns taken m past e = rw (slice_get_past plan taken past) e

-- a move that an event decides, or none that is left, is never the body's
event_or_turn : (b : Bool) (what : What) (enters : Bool) → enters ≡ false → IsBodyBy enters (if b then move.Take what else move.Turn)
event_or_turn true what enters away = away
event_or_turn false what enters away = away

rest_or_turn : (b enters : Bool) → enters ≡ false → IsBodyBy enters (if b then move.Rest else move.Turn)
rest_or_turn true enters away = away
rest_or_turn false enters away = away

never_body : (event : Option Event) (turns : ℕ) (p : Processor) (enters : Bool) → enters ≡ false → IsBodyBy enters (move_by event turns p)
never_body (Some event) turns p enters away = event_or_turn (nat_le event.due turns || waits p) event.what enters away
never_body None turns p enters away = rest_or_turn (waits p) enters away

pub not_body : (event : Option Event) (turns : ℕ) (p : Processor) (m : Move) (enters : Bool) → m ≡ move_by event turns p → enters ≡ false
    → IsBodyBy enters m
not_body event turns p m enters is away = subst (IsBodyBy enters) (sym is) (never_body event turns p enters away)
