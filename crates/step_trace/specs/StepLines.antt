-- The line of a step: the state before it, what it was, and what it changed. A trace shows some of the lines of a run.
use Rattle.std.specs.Prelude.{ℕ, zero, suc, ◌+◌, Bool, true, false, not, ◌&&◌, ◌||◌, if◌then◌else◌, List, [], ◌∷◌, length, take, Option, None, Some, Result, Ok, Err}
use Rattle.nk_bits.specs.declared.access.Access.TheVariants.{Fetch}
use Rattle.nk_bits.specs.declared.call.CallWords.{CallWords}
use Rattle.nk_bits.specs.declared.fault.AccessFault.{AccessFault}
use Rattle.nk_bits.specs.declared.leaf.Target.{Target}
use Rattle.nk_bits.specs.Accesses.{View, accessed, wp_of}
use Rattle.nk_bits.specs.Translations.{Translations}
use Rattle.phys_mem.specs.Memory.{byte_at}
use Rattle.page_walk.specs.MemoryAccess.{view_of}
use Rattle.x86_decode.specs.declared.instruction.Decoded.{Decoded}
use Rattle.x86_decode.specs.declared.instruction.Decoded.TheVariants.{Whole}
use Rattle.x86_decode.specs.declared.instruction.Instr.{Instr}
use Rattle.x86_decode.specs.Reader.{decoded_of}
use Rattle.x86_regs.specs.Operands.{wrapped}
use Rattle.irq_plan.specs.declared.event.Event.{Event}
use Rattle.irq_plan.specs.declared.event.What.{What}
use Rattle.cpu_step.specs.Processor.{Processor, deliverable}
use Rattle.cpu_step.specs.Turns.{enters_body}
use Rattle.gate_state.specs.declared.moves.Move.{Move}
use Rattle.gate_state.specs.declared.moves.Move.TheVariants as move
use Rattle.gate_state.specs.MachineStates.{MachineState}
use Rattle.gate_state.specs.MachineSteps.{call_in, move_of, step_by}
use Rattle.gate_state.specs.WholeMachine.{HeldState}
use Rattle.step_trace.specs.declared.asked.Kind.{Kind}
use Rattle.step_trace.specs.declared.asked.Kind.TheVariants as kind
use Rattle.step_trace.specs.declared.asked.Shown.{Shown}
use Rattle.step_trace.specs.StepChanges.{Change, Console, Delivered, Rip, Stored, step_changes}

-- where the supervisor stands: WP is set; it is clear; and it is clear at the body's place
pub data Stand : Type 0 where
  InOuter : Stand
  InGates : Stand
  AtBody : Stand

abbrev pub stand_in : Processor → Stand
stand_in p = if wp_of p.control.cr0 then InOuter else if enters_body p then AtBody else InGates

-- what a step was: an event of the plan; the body, with the words of its call; the delivery of a vector that was pending; or
-- an instruction with its bytes, or the bytes that can be fetched where none stands there
pub data Was : Type 0 where
  Planned : What → Was
  Called : CallWords → Was
  Vector : ℕ → Was
  Code : List ℕ → Option Instr → Was

-- a line
pub record StepLine : Type 0 where
  pub turns : ℕ
  pub stand : Stand
  pub cpl : ℕ
  pub rip : ℕ
  pub was : Was
  pub changes : List Change

-- the bytes from an address on that can be fetched, at most so many, each looked at over what is kept now
abbrev pub byte_then : List ℕ → Result Target AccessFault → List ℕ → List ℕ
byte_then m (Ok target) later = byte_at m target.first ∷ later
byte_then m (Err fault) later = []

abbrev pub bytes_fetched : List ℕ → View → Translations → ℕ → ℕ → List ℕ
bytes_fetched m view tlb at zero = []
bytes_fetched m view tlb at (suc n) =
    byte_then m (accessed view Fetch tlb at 1).answer (bytes_fetched m view tlb (wrapped (at + 1)) n)

-- those at RIP, at most fifteen, with memory as it is
abbrev pub code_bytes : Processor → List ℕ → List ℕ
code_bytes p m = bytes_fetched m (view_of m p.control p.regs.cpl) p.tlb p.regs.rip 15

-- the instruction that they begin with, and its bytes, or all of them
abbrev pub code_by : List ℕ → Decoded → Was
code_by bytes (Whole instr size) = Code (take size bytes) (Some instr)
code_by bytes _ = Code bytes None

abbrev pub code_here : Processor → List ℕ → Was
code_here p m = code_by (code_bytes p m) (decoded_of (code_bytes p m))

abbrev pub turn_by : Option ℕ → Was → Was
turn_by (Some vector) code = Vector vector
turn_by None code = code

abbrev pub was_by : Move → MachineState → List ℕ → Was
was_by move.Serve s m = Called (call_in s.processor.regs)
was_by (move.Take what) s m = Planned what
was_by _ s m = turn_by (deliverable s.processor) (code_here s.processor m)

-- by how many bytes RIP goes on where nothing else is told of it
abbrev pub size_by : Was → ℕ
size_by (Code bytes instr) = length bytes
size_by _ = 0

-- the line of the step from a state to the next one
unfoldable pub line_of : List Event → HeldState → HeldState → StepLine
line_of plan before after =
    let was = was_by (move_of plan before.state) before.state before.real in
    record {
      turns = before.state.turns;
      stand = stand_in before.state.processor;
      cpl = before.state.processor.regs.cpl;
      rip = before.state.processor.regs.rip;
      was = was;
      changes = step_changes (size_by was) (step_by (move_of plan before.state) before.state)
          before.state.processor after.state.processor before.real after.real;
    }

-- one of a list passes a test
abbrev pub has : (Change → Bool) → List Change → Bool
has test [] = false
has test (change ∷ changes) = test change || has test changes

-- a line tells more than where RIP goes on: it is that of an event, or another change is one of its list
abbrev pub is_rip : Change → Bool
is_rip (Rip n) = true
is_rip _ = false

abbrev pub is_event : Was → Bool
is_event (Planned what) = true
is_event _ = false

abbrev pub is_told : StepLine → Bool
is_told line = is_event line.was || has (λ change. not (is_rip change)) line.changes

-- which lines are of a kind
abbrev pub is_call : Was → Bool
is_call (Called call) = true
is_call _ = false

abbrev pub is_outer : Stand → Bool
is_outer InOuter = true
is_outer _ = false

abbrev pub is_stored : Change → Bool
is_stored (Stored place bytes) = true
is_stored _ = false

abbrev pub is_delivered : Change → Bool
is_delivered (Delivered it) = true
is_delivered _ = false

abbrev pub is_console : Change → Bool
is_console (Console byte) = true
is_console _ = false

abbrev pub is_of_kind : Kind → StepLine → Bool
is_of_kind kind.Gate line = not (is_outer line.stand)
is_of_kind kind.Call line = is_call line.was
is_of_kind kind.Delivery line = has is_delivered line.changes
is_of_kind kind.Event line = is_event line.was
is_of_kind kind.Memory line = has is_stored line.changes
is_of_kind kind.Console line = has is_console line.changes

abbrev pub is_of_kinds : Option Kind → StepLine → Bool
is_of_kinds None line = true
is_of_kinds (Some kind) line = is_of_kind kind line

-- a line is shown
abbrev pub is_wanted : Shown → StepLine → Bool
is_wanted shown line = is_of_kinds shown.only line && (not shown.changes || is_told line)
