-- The step from a state of the machine, the states by number, and the calls that were accepted.
use Rattle.std.specs.Prelude.{ℕ, zero, suc, ◌+◌, ◌&&◌, ◌||◌, nat_le, Bool, if◌then◌else◌, List, [], ◌∷◌, slice_get, slice_index, Option, None, Some, is_none}
use Rattle.nk_bits.specs.declared.call.Answer.{Answer}
use Rattle.nk_bits.specs.declared.call.CallWords.{CallWords}
use Rattle.nk_bits.specs.declared.rule.Rule.{Rule}
use Rattle.nk_bits.specs.Translations.{flushed}
use Rattle.nk_bits.specs.KernelLayout.{exit_address}
use Rattle.irq_plan.specs.declared.event.Event.{Event}
use Rattle.irq_plan.specs.declared.event.What.{What}
use Rattle.x86_regs.specs.declared.registers.Regs.{Regs}
use Rattle.x86_regs.specs.Operands.{rdi, rdx, rsi, rcx, with_register}
use Rattle.cpu_step.specs.declared.stepped.Stepped.{Stepped}
use Rattle.cpu_step.specs.declared.stepped.Stepped.TheVariants as stepped
use Rattle.cpu_step.specs.EventsTaken.{event_taken}
use Rattle.cpu_step.specs.Processor.{Processor, deliverable}
use Rattle.cpu_step.specs.Turns.{Turned, enters_body, turned}
use Rattle.nk_body.specs.NestedRecord.{Nested}
use Rattle.nk_body.specs.declared.call.Call.{Call}
use Rattle.nk_body.specs.Calls.{call_of}
use Rattle.nk_body.specs.CallRules.{Bytes, NotTaken, Sourced, Unreadable, after_call, answer_to, made, memory_after_call, stand_of, verdict, wants}
use Rattle.gate_state.specs.declared.moves.Move.{Move}
use Rattle.gate_state.specs.declared.moves.Move.TheVariants as move
use Rattle.gate_state.specs.declared.seen.Seen.{Seen}
use Rattle.gate_state.specs.declared.seen.Seen.TheVariants as seen
use Rattle.gate_state.specs.declared.seen.Called.{Called}
use Rattle.gate_state.specs.declared.seen.Step.{Step}
use Rattle.gate_state.specs.declared.seen.Step.TheVariants as step
use Rattle.gate_state.specs.declared.seen.Took.{Took}
use Rattle.gate_state.specs.declared.seen.Took.TheVariants as took
use Rattle.gate_state.specs.MachineStates.{MachineState, nested_of}
use Rattle.gate_state.specs.SourceBytes.{source_place, source_through, tlb_by}

-- the processor is halted, and no pending vector wakes it
abbrev pub waits : Processor → Bool
waits p = p.halted && is_none (deliverable p)

-- an event is taken once it is due, or where the processor waits for it; where it waits and no event is left, the
-- machine rests for good
abbrev pub move_by : Option Event → ℕ → Processor → Move
move_by (Some event) turns p = if nat_le event.due turns || waits p then move.Take event.what else move.Turn
move_by None turns p = if waits p then move.Rest else move.Turn

-- the first of these that applies: the nested kernel's body is to run; the next event of the plan is taken; the machine
-- rests; a turn of the processor
abbrev pub move_of : List Event → MachineState → Move
move_of plan s =
    if enters_body s.processor then move.Serve else move_by (slice_get plan s.taken) s.turns s.processor

-- the words that the registers hold at the body's place: the number in RDI, the arguments in RSI, RDX, RCX and R8
abbrev pub call_in : Regs → CallWords
call_in regs = record {
  number = slice_index regs.general rdi;
  a = slice_index regs.general rsi;
  b = slice_index regs.general rdx;
  c = slice_index regs.general rcx;
  d = slice_index regs.general 8;
}

-- RDX gets the place of a region, where one was placed
abbrev pub with_place : Option ℕ → List ℕ → List ℕ
with_place None general = general
with_place (Some place) general = with_register general rdx place

-- the processor behind the body, offset 29 of the gates' text: R9 has the answer, CR3 names the root, and the translations
-- go where the answer says so
abbrev pub answered_with : Answer → ℕ → Processor → Processor
answered_with answer root p = record p {
  regs = record p.regs { general = with_place answer.place (with_register p.regs.general 9 answer.value); rip = exit_address };
  control = record p.control { root = root };
  tlb = if answer.flush then flushed else p.tlb;
}

-- the call of a state
abbrev pub asked_in : MachineState → Call
asked_in s = call_of (call_in s.processor.regs)

-- how many bytes it takes, its source, and the translations once that was read
abbrev pub wanted : MachineState → Option ℕ
wanted s = wants s.ledger.book (asked_in s)

abbrev pub source_of : MachineState → Sourced
source_of s = source_through s.memory s.processor.control.root s.processor.tlb (source_place (asked_in s)) (wanted s)

abbrev pub after_reading : MachineState → MachineState
after_reading s = record s {
  processor = record s.processor {
    tlb = tlb_by s.memory s.processor.control.root s.processor.tlb (source_place (asked_in s)) (wanted s);
  };
}

-- a call that is accepted, with its source, and the bytes of the frames that it declares
pub record Made : Type 0 where
  pub call : Call
  pub source : Sourced
  pub stand : ℕ → ℕ → ℕ

-- with what is read for it
abbrev pub made_in : MachineState → Made
made_in s = record {
  call = asked_in s;
  source = source_of s;
  stand = stand_of (nested_of s) (asked_in s) s.memory;
}

abbrev pub verdict_in : MachineState → Option Rule
verdict_in s = verdict (nested_of s) (asked_in s) (source_of s)

abbrev pub answer_in : MachineState → Answer
answer_in s = answer_to (nested_of s) (asked_in s) (source_of s)

-- the record once the call of a state is made
abbrev pub nested_after : MachineState → Nested
nested_after s = after_call (nested_of s) (made_in s).call (made_in s).source (made_in s).stand

-- the state after the body: one turn
unfoldable pub served : MachineState → MachineState
served s = record s {
  processor = answered_with (answer_in s) (nested_after s).tables.root (after_reading s).processor;
  memory = memory_after_call (nested_of s) (asked_in s) (source_of s) s.memory;
  kinds = (nested_after s).tables.kinds;
  ledger = (nested_after s).ledger;
  turns = s.turns + 1;
}

-- the state after a turn of the processor, and after an event
abbrev pub turn_of : MachineState → Turned
turn_of s = turned s.processor s.memory

unfoldable pub after_turn : MachineState → MachineState
after_turn s = record s { processor = (turn_of s).processor; memory = (turn_of s).memory; turns = s.turns + 1 }

abbrev pub after_event : What → MachineState → MachineState
after_event what s = record s { processor = event_taken what s.memory s.processor; taken = s.taken + 1 }

abbrev pub next_by : Move → MachineState → MachineState
next_by move.Serve s = served s
next_by (move.Take what) s = after_event what s
next_by move.Turn s = after_turn s
next_by move.Rest s = s

-- the state after one step
unfoldable pub next : List Event → MachineState → MachineState
next plan s = next_by (move_of plan s) s

-- the state after k steps
unfoldable pub state : List Event → MachineState → ℕ → MachineState
state plan s zero = s
state plan s (suc k) = state plan (next plan s) k

-- whether a source was read
abbrev pub took_by : Sourced → Took
took_by NotTaken = took.NotTaken
took_by Unreadable = took.Unreadable
took_by (Bytes bytes) = took.Taken

-- what a step shows to the outside, but for the body, which shows a call
abbrev pub shown_by_turn : Stepped → Seen
shown_by_turn stepped.Ran = seen.Quiet
shown_by_turn (stepped.Console byte) = seen.Console byte
shown_by_turn (stepped.Delivered it) = seen.Delivered it
shown_by_turn stepped.Shutdown = seen.Quiet

abbrev pub seen_by : Move → MachineState → Seen
seen_by (move.Take what) s = seen.Event
seen_by move.Turn s = shown_by_turn (turn_of s).stepped
seen_by _ s = seen.Quiet

-- the call of a state at the body's place, and its answer; the bytes that it takes are shown apart
abbrev pub called_in : MachineState → Called
called_in s = record {
  call = call_in s.processor.regs;
  source = took_by (source_of s);
  answer = answer_in s;
}

-- what a step was, with what it shows
abbrev pub step_by : Move → MachineState → Step
step_by move.Serve s = step.Called (called_in s)
step_by (move.Take what) s = step.Seen (seen_by (move.Take what) s)
step_by move.Turn s = step.Seen (seen_by move.Turn s)
step_by move.Rest s = step.Rested

-- a call that breaks no rule, before the later ones
abbrev pub with_call : Option Rule → Made → List Made → List Made
with_call None it later = it ∷ later
with_call (Some rule) it later = later

abbrev pub called_by : Move → MachineState → List Made → List Made
called_by move.Serve s later = with_call (verdict_in s) (made_in s) later
called_by _ s later = later

-- the calls that were accepted among the first k steps
unfoldable pub calls : List Event → MachineState → ℕ → List Made
calls plan s zero = []
calls plan s (suc k) = called_by (move_of plan s) s (calls plan (next plan s) k)

-- what accepted calls make of a record, one after the other
abbrev pub made_by_all : Nested → List Made → Nested
made_by_all nk [] = nk
made_by_all nk (it ∷ later) = made_by_all (made nk it.call it.source it.stand) later
