-- What a step was and is told of it says whether its line is shown.
use Rattle.std.proofs.Common.{◌≡◌, ℕ, Bool, true, false, List, Option, Some, None, refl, sym, ap, ◌∙◌}
use Rattle.std.specs.Prelude.{◌&&◌, ◌||◌, not, if◌then◌else◌}
use Rattle.nk_bits.specs.Accesses.{wp_of}
use Rattle.x86_decode.specs.declared.instruction.Decoded.{Decoded}
use Rattle.x86_decode.specs.declared.instruction.Decoded.TheVariants as decoded
use Rattle.x86_decode.specs.Reader.{decoded_of}
use Rattle.irq_plan.specs.declared.event.Event.{Event}
use Rattle.cpu_step.specs.declared.stepped.Stepped.{Stepped}
use Rattle.cpu_step.specs.declared.stepped.Stepped.TheVariants as stepped
use Rattle.cpu_step.specs.Processor.{deliverable}
use Rattle.cpu_step.specs.Turns.{enters_body}
use Rattle.gate_state.specs.declared.moves.Move.{Move}
use Rattle.gate_state.specs.declared.moves.Move.TheVariants as move
use Rattle.gate_state.specs.declared.seen.Step.{Step}
use Rattle.gate_state.specs.declared.seen.Step.TheVariants as step
use Rattle.gate_state.specs.MachineStates.{MachineState}
use Rattle.gate_state.specs.MachineSteps.{move_of, shown_by_turn, step_by, turn_of}
use Rattle.gate_state.specs.WholeMachine.{HeldState}
use Rattle.step_trace.specs.declared.asked.Kind.{Kind}
use Rattle.step_trace.specs.declared.asked.Kind.TheVariants as kind
use Rattle.step_trace.specs.declared.asked.Shown.{Shown}
use Rattle.step_trace.specs.declared.line.Told.{Told}
use Rattle.step_trace.specs.StepLines.{AtBody, InGates, InOuter, StepLine, code_by, code_bytes, has, is_call, is_console, is_delivered, is_event, is_of_kind, is_of_kinds, is_outer, is_wanted, line_of, size_by, turn_by, was_by}
use Rattle.step_trace.specs.ToldSteps.{IsToldOf, are_kinds_told, is_called, is_console_byte, is_delivery_step, is_kind_told, is_taken_event, is_wanted_told}
use Rattle.step_trace.proofs.ToldChanges.{console_in_step, delivered_in_step}

-- the supervisor stands in the outer kernel where WP is set
outer_by : (wp body : Bool) → is_outer (if wp then InOuter else if body then AtBody else InGates) ≡ wp
outer_by true body = refl
outer_by false true = refl
outer_by false false = refl

-- an instruction or a delivery is no call, and no event
turn_no_call : (vector : Option ℕ) (bytes : List ℕ) (it : Decoded)
    → is_call (turn_by vector (code_by bytes it)) ≡ false
turn_no_call (Some vector) bytes it = refl
turn_no_call None bytes (decoded.Whole instr size) = refl
turn_no_call None bytes _ = refl

turn_no_event : (vector : Option ℕ) (bytes : List ℕ) (it : Decoded)
    → is_event (turn_by vector (code_by bytes it)) ≡ false
turn_no_event (Some vector) bytes it = refl
turn_no_event None bytes (decoded.Whole instr size) = refl
turn_no_event None bytes _ = refl

-- and what a turn shows is no event
turn_shows : (it : Stepped) → is_taken_event (step.Seen (shown_by_turn it)) ≡ false
turn_shows stepped.Ran = refl
turn_shows (stepped.Console byte) = refl
turn_shows (stepped.Delivered it) = refl
turn_shows stepped.Shutdown = refl

-- the step is a call where its move is, and an event likewise
call_by : (it : Move) (s : MachineState) (m : List ℕ) → is_called (step_by it s) ≡ is_call (was_by it s m)
call_by move.Serve s m = refl
call_by (move.Take what) s m = refl
call_by move.Turn s m =
    sym (turn_no_call (deliverable s.processor) (code_bytes s.processor m) (decoded_of (code_bytes s.processor m)))
call_by move.Rest s m =
    sym (turn_no_call (deliverable s.processor) (code_bytes s.processor m) (decoded_of (code_bytes s.processor m)))

event_by : (it : Move) (s : MachineState) (m : List ℕ) → is_taken_event (step_by it s) ≡ is_event (was_by it s m)
event_by move.Serve s m = refl
event_by (move.Take what) s m = refl
event_by move.Turn s m =
    turn_shows (turn_of s).stepped
    ∙ sym (turn_no_event (deliverable s.processor) (code_bytes s.processor m) (decoded_of (code_bytes s.processor m)))
event_by move.Rest s m =
    sym (turn_no_event (deliverable s.processor) (code_bytes s.processor m) (decoded_of (code_bytes s.processor m)))

-- what is told of a line's kinds
record IsKindsTold (in_outer : Bool) (it : Step) (told : Told) (line : StepLine) : Type 0 where
  outer : in_outer ≡ is_outer line.stand
  call : is_called it ≡ is_call line.was
  event : is_taken_event it ≡ is_event line.was
  delivery : is_delivery_step it ≡ has is_delivered line.changes
  console : is_console_byte it ≡ has is_console line.changes
  changes : IsToldOf told line.changes

kind_by : (in_outer : Bool) (it : Step) (told : Told) (line : StepLine) (one : Kind)
    → IsKindsTold in_outer it told line → is_kind_told one in_outer it told.is_stored ≡ is_of_kind one line
kind_by in_outer it told line kind.Gate so = ap not so.outer
kind_by in_outer it told line kind.Call so = so.call
kind_by in_outer it told line kind.Delivery so = so.delivery
kind_by in_outer it told line kind.Event so = so.event
kind_by in_outer it told line kind.Memory so = so.changes.stored
kind_by in_outer it told line kind.Console so = so.console

kinds_by : (in_outer : Bool) (it : Step) (told : Told) (line : StepLine) (only : Option Kind)
    → IsKindsTold in_outer it told line → are_kinds_told only in_outer it told.is_stored ≡ is_of_kinds only line
kinds_by in_outer it told line None so = refl
kinds_by in_outer it told line (Some one) so = kind_by in_outer it told line one so

wanted_by : (shown : Shown) (in_outer : Bool) (it : Step) (told : Told) (line : StepLine)
    → IsKindsTold in_outer it told line → is_wanted_told shown in_outer it told ≡ is_wanted shown line
wanted_by shown in_outer it told line so =
    ap (λ b. b && (not shown.changes || (is_taken_event it || told.is_more)))
    (kinds_by in_outer it told line shown.only so)
    ∙ ap (λ b. is_of_kinds shown.only line && (not shown.changes || (b || told.is_more))) so.event
    ∙ ap (λ b. is_of_kinds shown.only line && (not shown.changes || (is_event line.was || b))) so.changes.more

-- so it is of the line of a step, and tells whether that is shown
line_told : (plan : List Event) (h next : HeldState) (in_outer : Bool) (it : Step) (told : Told)
    → in_outer ≡ wp_of h.state.processor.control.cr0 → it ≡ step_by (move_of plan h.state) h.state
    → IsToldOf told (line_of plan h next).changes → IsKindsTold in_outer it told (line_of plan h next)
unfolding line_of
line_told plan h next in_outer it told outer is changes = record {
  outer = outer ∙ sym (outer_by (wp_of h.state.processor.control.cr0) (enters_body h.state.processor));
  call = ap is_called is ∙ call_by (move_of plan h.state) h.state h.real;
  event = ap is_taken_event is ∙ event_by (move_of plan h.state) h.state h.real;
  delivery = ap is_delivery_step is ∙ sym (delivered_in_step (size_by (was_by (move_of plan h.state) h.state h.real))
      (step_by (move_of plan h.state) h.state) h.state.processor next.state.processor h.real next.real);
  console = ap is_console_byte is ∙ sym (console_in_step (size_by (was_by (move_of plan h.state) h.state h.real))
      (step_by (move_of plan h.state) h.state) h.state.processor next.state.processor h.real next.real);
  changes = changes;
}

pub line_wanted : (shown : Shown) (plan : List Event) (h next : HeldState) (in_outer : Bool) (it : Step) (told : Told)
    → in_outer ≡ wp_of h.state.processor.control.cr0 → it ≡ step_by (move_of plan h.state) h.state
    → IsToldOf told (line_of plan h next).changes
    → is_wanted_told shown in_outer it told ≡ is_wanted shown (line_of plan h next)
line_wanted shown plan h next in_outer it told outer is changes =
    wanted_by shown in_outer it told (line_of plan h next) (line_told plan h next in_outer it told outer is changes)
