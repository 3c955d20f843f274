-- A run: why it ends, how many steps it takes, and its text. Its states are those of the machine.
use Rattle.std.specs.Prelude.{◌≡◌, ℕ, zero, suc, ◌+◌, ◌-◌, ◌<◌, ◌==◌, Bool, true, false, if◌then◌else◌, List, [], ◌++◌, length, Option, None, Some, IsSome}
use Rattle.irq_plan.specs.declared.event.Event.{Event}
use Rattle.gate_state.specs.declared.moves.Move.{Move}
use Rattle.gate_state.specs.declared.moves.Move.TheVariants as move
use Rattle.gate_state.specs.declared.seen.Seen.{Seen}
use Rattle.gate_state.specs.declared.seen.Seen.TheVariants as seen
use Rattle.gate_state.specs.MachineStates.{MachineState, Opening, nested_of}
use Rattle.gate_state.specs.MachineSteps.{answer_in, call_in, move_of, next, seen_by, source_of, state}
use Rattle.gate_state.specs.WholeMachine.{is_rest}
use Rattle.nk_run.specs.declared.ending.Ending.{Ending}
use Rattle.nk_run.specs.declared.ending.Ending.TheVariants as ending
use Rattle.report_text.specs.ClosingSection.{section}
use Rattle.report_text.specs.RunLines.{call_line, console_line, delivery_line, ending_line, turns_line}

-- why the run ends at a state, where it does: as many turns were taken as it may have, or the machine rests for good
unfoldable pub ending_at : ℕ → List Event → MachineState → Option Ending
ending_at steps plan s =
    if s.turns == steps then Some ending.Steps
    else if is_rest (move_of plan s) then Some ending.Halted
    else None

abbrev pub one_unless : Option Ending → ℕ → ℕ
one_unless (Some reason) later = 0
one_unless None later = suc later

-- how many steps are taken from a state on, at most so many
unfoldable pub steps_within : ℕ → ℕ → List Event → MachineState → ℕ
steps_within zero steps plan s = 0
steps_within (suc most) steps plan s =
    one_unless (ending_at steps plan s) (steps_within most steps plan (next plan s))

-- each step takes a turn or an event
unfoldable pub run_length : ℕ → List Event → MachineState → ℕ
run_length steps plan s = steps_within ((steps - s.turns) + (length plan - s.taken)) steps plan s

-- a run from a state ends after n steps, and not after fewer
pub record EndsAfter (n steps : ℕ) (plan : List Event) (s : MachineState) : Type 0 where
  pub there : IsSome (ending_at steps plan (state plan s n))
  pub not_before : (k : ℕ) → k < n → ending_at steps plan (state plan s k) ≡ None

-- what a step shows: a byte of the console, a delivery, or a call
abbrev pub shown : Seen → List ℕ
shown (seen.Console byte) = console_line byte
shown (seen.Delivered it) = delivery_line it
shown _ = []

abbrev pub shown_by : Move → MachineState → List ℕ
shown_by move.Serve s = call_line (call_in s.processor.regs) (source_of s) (answer_in s)
shown_by (move.Take what) s = shown (seen_by (move.Take what) s)
shown_by move.Turn s = shown (seen_by move.Turn s)
shown_by move.Rest s = []

-- the lines of the first n steps from a state on
unfoldable pub lines_from : ℕ → List Event → MachineState → List ℕ
lines_from zero plan s = []
lines_from (suc n) plan s = shown_by (move_of plan s) s ++ lines_from n plan (next plan s)

abbrev pub is_halted : Ending → Bool
is_halted ending.Halted = true
is_halted ending.Steps = false

abbrev pub ended : Option Ending → List ℕ
ended (Some reason) = ending_line (is_halted reason)
ended None = []

-- what is written at the state at which the run ends
unfoldable pub closing : Opening → ℕ → List Event → MachineState → List ℕ
closing o steps plan s = ended (ending_at steps plan s) ++ (turns_line s.turns ++ section o.image o.frames (nested_of s))

-- the text of a run from a state on, by the opening that it began from
unfoldable pub run_text : Opening → ℕ → List Event → MachineState → List ℕ
run_text o steps plan s =
    let n = run_length steps plan s in lines_from n plan s ++ closing o steps plan (state plan s n)
