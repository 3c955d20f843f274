-- A trace: the states of a run, from the first one that is shown on, and its text. Which bytes the body leaves in the books'
-- frames no definition says, so that the states are told with memory as it is, one behind the other.
use Rattle.std.specs.Prelude.{◌≡◌, ℕ, ◌<◌, ◌==◌, Bool, true, false, ◌||◌, nat_le, nat_lt, if◌then◌else◌, ⊤, List, [], ◌∷◌, ◌++◌, codes, Option, Some, None, drop, min, take}
use Rattle.nk_bits.specs.Translations.{Translations, flushed}
use Rattle.irq_plan.specs.declared.event.Event.{Event}
use Rattle.phys_mem.specs.MaskedMemory.{seen}
use Rattle.gate_state.specs.MachineStates.{MachineState}
use Rattle.gate_state.specs.MachineSteps.{move_of, state}
use Rattle.gate_state.specs.WholeMachine.{HeldState, is_rest, known_of, stepped_whole}
use Rattle.step_trace.specs.declared.asked.MemoryShown.{MemoryShown}
use Rattle.step_trace.specs.declared.asked.MemoryShown.TheVariants as memory
use Rattle.step_trace.specs.declared.asked.Shown.{Shown}
use Rattle.step_trace.specs.declared.ends.TraceEnd.{TraceEnd}
use Rattle.step_trace.specs.declared.ends.TraceEnd.TheVariants as end
use Rattle.step_trace.specs.StepChanges.{translation_changes}
use Rattle.step_trace.specs.StepLines.{StepLine, is_wanted, line_of}
use Rattle.report_text.specs.RunLines.{turns_line}
use Rattle.step_trace.specs.StepTexts.{bytes_text, changes_text, line_text, memory_text, named_text, state_text}

-- a state, with memory as it is, is the one behind another
pub record IsNextHeld (plan : List Event) (before after : HeldState) : Type 0 where
  pub known : known_of after ≡ stepped_whole plan (known_of before)
  pub real : seen after.real ≡ after.state.memory

-- each of these is the one behind that before it
abbrev pub AreSteps : List Event → HeldState → List HeldState → Type 0
AreSteps plan h [] = ⊤
AreSteps plan h (next ∷ later) = IsNextHeld plan h next × AreSteps plan next later

-- why a trace ends at a state, where it does: the step before it, if one is shown, left RIP at one of the addresses; as many
-- turns were taken as the run may have; more were than the last step that is shown has before it; no step is left
abbrev pub is_at : List ℕ → ℕ → Bool
is_at [] rip = false
is_at (address ∷ addresses) rip = address == rip || is_at addresses rip

abbrev pub is_past : Option ℕ → ℕ → Bool
is_past None turns = false
is_past (Some last) turns = nat_lt last turns

abbrev pub ending_before : Shown → ℕ → List Event → MachineState → Option TraceEnd
ending_before shown steps plan s =
    if nat_le steps s.turns then Some end.Steps
    else if is_past shown.to s.turns then Some end.To
    else if is_rest (move_of plan s) then Some end.Halted
    else None

abbrev pub ending_behind : Shown → ℕ → List Event → MachineState → Option TraceEnd
ending_behind shown steps plan s =
    if is_at shown.until.items s.processor.regs.rip then Some end.Until else ending_before shown steps plan s

-- the lines of these steps that are shown
abbrev pub text_where : Bool → StepLine → List ℕ
text_where true line = line_text line
text_where false line = []

abbrev pub lines_text : Shown → List Event → HeldState → List HeldState → List ℕ
lines_text shown plan h [] = []
lines_text shown plan h (next ∷ later) =
    text_where (is_wanted shown (line_of plan h next)) (line_of plan h next) ++ lines_text shown plan next later

-- the last of the states
abbrev pub last_of : HeldState → List HeldState → HeldState
last_of h [] = h
last_of h (next ∷ later) = last_of next later

-- the trace ends for this reason at the last state, or goes on there where there is none; it ends at no state before
abbrev pub EndsWith : Shown → ℕ → List Event → Option TraceEnd → List HeldState → Option TraceEnd → Type 0
EndsWith shown steps plan here [] why = here ≡ why
EndsWith shown steps plan here (next ∷ later) why =
    (here ≡ None) × EndsWith shown steps plan (ending_behind shown steps plan next.state) later why

-- the last lines, behind so many turns
abbrev pub end_text : TraceEnd → List ℕ
end_text end.Steps = codes "end steps\n"
end_text end.Halted = codes "end halted\n"
end_text end.Until = codes "end until\n"
end_text end.To = codes "end to\n"

abbrev pub ending_text : Option TraceEnd → ℕ → List ℕ
ending_text None turns = []
ending_text (Some why) turns = end_text why ++ turns_line turns

-- the opening: the state; of memory all, or the bytes from an address on, at most so many, where either is asked for; and
-- what the processor keeps of walks, as changes from nothing
abbrev pub memory_shown : MemoryShown → List ℕ → List ℕ
memory_shown memory.Nothing m = []
memory_shown memory.Whole m = memory_text m
memory_shown (memory.Bytes first count) m =
    named_text (codes "mem") first ++ (codes " " ++ (bytes_text (take count (drop first m)) ++ codes "\n"))

abbrev pub kept_shown : Bool → Translations → List ℕ
kept_shown false kept = []
kept_shown true kept = codes "kept" ++ (changes_text (translation_changes false flushed kept) ++ codes "\n")

unfoldable pub opening_text : Shown → HeldState → List ℕ
opening_text shown h =
    state_text h.state.turns h.state.processor
    ++ (memory_shown shown.memory h.real ++ kept_shown shown.translations h.state.processor.tlb)

-- the whole text, of the first state that is shown, those behind it, and why it ends
unfoldable pub trace_text : Shown → List Event → HeldState → List HeldState → Option TraceEnd → List ℕ
trace_text shown plan h later why =
    opening_text shown h ++ (lines_text shown plan h later ++ ending_text why (last_of h later).state.turns)

-- the first state of a run, by number, in which as many turns were taken, or no step is left
abbrev pub is_there : ℕ → List Event → MachineState → Bool
is_there turns plan s = nat_le turns s.turns || is_rest (move_of plan s)

pub record IsFirstReached (turns : ℕ) (plan : List Event) (first s : MachineState) : Type 0 where
  pub steps : ℕ
  pub state_is : s ≡ state plan first steps
  pub there : is_there turns plan s ≡ true
  pub not_before : (k : ℕ) → k < steps → is_there turns plan (state plan first k) ≡ false

-- a text is the trace of a run of at most so many turns from a state on: whole, where it says why it ends, and else as far as
-- some of its steps
pub record IsTrace (shown : Shown) (steps : ℕ) (plan : List Event) (first : MachineState) (why : Option TraceEnd) (text : List ℕ)
    : Type 0 where
  pub begins : HeldState
  pub later : List HeldState
  pub reached : IsFirstReached (min steps shown.from) plan first begins.state
  pub real : seen begins.real ≡ begins.state.memory
  pub follow : AreSteps plan begins later
  pub ends : EndsWith shown steps plan (ending_before shown steps plan begins.state) later why
  pub text_is : text ≡ trace_text shown plan begins later why
