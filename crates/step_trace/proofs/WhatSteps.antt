-- What a step was, told by what it showed and by the event of the plan that was the next one.
use Rattle.std.proofs.Common.{◌≡◌, ℕ, Bool, true, false, List, Option, Some, None, refl, ap, ◌∙◌}
use Rattle.std.specs.Prelude.{if◌then◌else◌, ◌||◌, nat_le, slice_get}
use Rattle.irq_plan.specs.declared.event.Event.{Event}
use Rattle.irq_plan.specs.declared.event.What.{What}
use Rattle.cpu_step.specs.declared.stepped.Stepped.{Stepped}
use Rattle.cpu_step.specs.declared.stepped.Stepped.TheVariants as stepped
use Rattle.cpu_step.specs.Processor.{deliverable}
use Rattle.cpu_step.specs.Turns.{enters_body}
use Rattle.gate_state.specs.declared.moves.Move.{Move}
use Rattle.gate_state.specs.declared.moves.Move.TheVariants as move
use Rattle.gate_state.specs.declared.seen.Step.{Step}
use Rattle.gate_state.specs.declared.seen.Step.TheVariants as step
use Rattle.gate_state.specs.MachineStates.{MachineState}
use Rattle.gate_state.specs.MachineSteps.{move_by, move_of, shown_by_turn, step_by, turn_of, waits}
use Rattle.gate_state.specs.WholeMachine.{HeldState}
use Rattle.step_trace.specs.declared.telling.Here.{Here}
use Rattle.step_trace.specs.StepLines.{Code, Was, code_here, turn_by, was_by}
use Rattle.step_trace.specs.ToldSteps.{IsHere, was_before, was_told, what_next, what_in}

-- what a turn shows is no event
turn_told : (it : Stepped) (event : Option What) (vector : Option ℕ) (code : Was)
    → was_told (step.Seen (shown_by_turn it)) event vector code ≡ turn_by vector code
turn_told stepped.Ran event vector code = refl
turn_told (stepped.Console byte) event vector code = refl
turn_told (stepped.Delivered it) event vector code = refl
turn_told stepped.Shutdown event vector code = refl

-- what the step by a move was, where this event is the next one
abbrev MoveTold : Option Event → MachineState → List ℕ → Move → Type 0
MoveTold next s m move =
    was_told (step_by move s) (what_in next) (deliverable s.processor) (code_here s.processor m) ≡ was_by move s m

-- by whether the event is taken
taken_told : (event : Event) (s : MachineState) (m : List ℕ) (takes : Bool)
    → MoveTold (Some event) s m (if takes then move.Take event.what else move.Turn)
taken_told event s m true = refl
taken_told event s m false =
    turn_told (turn_of s).stepped (Some event.what) (deliverable s.processor) (code_here s.processor m)

-- and by whether the machine rests
rest_told : (s : MachineState) (m : List ℕ) (rests : Bool)
    → MoveTold None s m (if rests then move.Rest else move.Turn)
rest_told s m true = refl
rest_told s m false = turn_told (turn_of s).stepped None (deliverable s.processor) (code_here s.processor m)

-- where no body is to run
move_told : (next : Option Event) (s : MachineState) (m : List ℕ)
    → MoveTold next s m (move_by next s.turns s.processor)
move_told None s m = rest_told s m (waits s.processor)
move_told (Some event) s m = taken_told event s m (nat_le event.due s.turns || waits s.processor)

-- by whether the body is to run
body_told : (next : Option Event) (s : MachineState) (m : List ℕ) (enters : Bool)
    → MoveTold next s m (if enters then move.Serve else move_by next s.turns s.processor)
body_told next s m true = refl
body_told next s m false = move_told next s m

-- of the step from a state
pub step_told : (plan : List Event) (s : MachineState) (m : List ℕ)
    → MoveTold (slice_get plan s.taken) s m (move_of plan s)
step_told plan s m = body_told (slice_get plan s.taken) s m (enters_body s.processor)

-- and by what is kept of the state
pub was_here : (here : Here) (plan : List Event) (h : HeldState) (it : Step) → IsHere here plan h
    → it ≡ step_by (move_of plan h.state) h.state
    → was_before here.before it here.event ≡ was_by (move_of plan h.state) h.state h.real
was_here here plan h it is same =
    let taken = step_by (move_of plan h.state) h.state in
    let code = Code here.before.code.bytes.items here.before.code.found in
    ap (λ step. was_before here.before step here.event) same
    ∙ ap (λ event. was_before here.before taken event) is.event
    ∙ ap (λ vector. was_told taken (what_next plan h.state.taken) vector code) is.before.vector
    ∙ ap (λ was. was_told taken (what_next plan h.state.taken) (deliverable h.state.processor) was) is.before.code
    ∙ step_told plan h.state h.real
