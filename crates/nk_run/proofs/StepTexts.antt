-- What a step shows, by the move that it was: its lines, its counts, and what a call took.
use Rattle.std.proofs.Common.{◌≡◌, ℕ, Bool, true, false, List, [], refl, sym, ap}
use Rattle.std.proofs.lemmas.Bool.{false≢true}
use Rattle.nk_body.specs.CallRules.{bytes_read}
use Rattle.gate_state.specs.declared.moves.Move.{Move}
use Rattle.gate_state.specs.declared.moves.Move.TheVariants as move
use Rattle.gate_state.specs.declared.seen.Called.{Called}
use Rattle.gate_state.specs.declared.seen.Step.{Step}
use Rattle.gate_state.specs.declared.seen.Step.TheVariants as step
use Rattle.gate_state.specs.declared.seen.Took.{Took}
use Rattle.gate_state.specs.declared.seen.Took.TheVariants as took
use Rattle.gate_state.specs.MachineStates.{MachineState}
use Rattle.gate_state.specs.MachineSteps.{source_of, step_by, took_by}
use Rattle.gate_state.specs.WholeMachine.{WholeState, source_after}
use Rattle.report_text.specs.RunLines.{call_line}
use Rattle.nk_run.specs.declared.count.Tally.{Tally}
use Rattle.nk_run.specs.RunStates.{shown, shown_by}
use Rattle.nk_run.specs.WorkSummary.{with_answer, with_shown, with_step}

-- the lines of a step, with what the call of a state took
abbrev pub lines_of : Step → MachineState → List ℕ
lines_of step.Rested s = []
lines_of (step.Seen it) s = shown it
lines_of (step.Called it) s = call_line it.call (source_of s) it.answer

pub shows_step : (m : Move) (s : MachineState) → lines_of (step_by m s) s ≡ shown_by m s
shows_step move.Serve s = refl
shows_step (move.Take what) s = refl
shows_step move.Turn s = refl
shows_step move.Rest s = refl

-- what it counts
abbrev pub counts_of : Step → Tally → Tally
counts_of step.Rested t = t
counts_of (step.Seen it) t = with_shown it t
counts_of (step.Called it) t = with_answer it.answer t

pub counts_step : (m : Move) (s : MachineState) (t : Tally) → counts_of (step_by m s) t ≡ with_step m s t
counts_step move.Serve s t = refl
counts_step (move.Take what) s t = refl
counts_step move.Turn s t = refl
counts_step move.Rest s t = refl

-- a step that was a call took the source of its state, and read its bytes
abbrev is_call : Step → Bool
is_call step.Rested = false
is_call (step.Seen it) = false
is_call (step.Called it) = true

abbrev took_in : Step → Took
took_in step.Rested = took.NotTaken
took_in (step.Seen it) = took.NotTaken
took_in (step.Called it) = it.source

pub called_source : (m : Move) (w : WholeState) (it : Called) → step.Called it ≡ step_by m w.state
    → (it.source ≡ took_by (source_of w.state)) × (source_after m w ≡ bytes_read (source_of w.state))
called_source move.Serve w it is = (ap took_in is, refl)
called_source (move.Take what) w it is = absurd (false≢true (sym (ap is_call is)))
called_source move.Turn w it is = absurd (false≢true (sym (ap is_call is)))
called_source move.Rest w it is = absurd (false≢true (sym (ap is_call is)))
