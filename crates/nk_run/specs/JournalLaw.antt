-- The journal law: a replay of a run's text finds every line right, and ends with the run's own closing section, but
-- for bytes of declared regions that no call wrote; so `replay` of that text has status 0, and shows that section.
use Rattle.std.specs.Prelude.{◌≡◌, ℕ, ◌≤◌, List, length, None, Some}
use Rattle.irq_plan.specs.declared.event.Event.{Event}
use Rattle.gate_state.specs.MachineOpening.{opening_state}
use Rattle.gate_state.specs.MachineStates.{MachineState, Opening, nested_of}
use Rattle.gate_state.specs.MachineSteps.{calls, state}
use Rattle.report_text.specs.ClosingSection.{section}
use Rattle.replay_core.specs.ReplayedCalls.{WholeReplay, replay_of}
use Rattle.command_words.specs.declared.command_line.Role.TheVariants.{Image, Journal}
use Rattle.command_words.specs.declared.command_line.Command.TheVariants.{Replay}
use Rattle.command_words.specs.CommandLine.{command_of, name_in}
use Rattle.file_scan.specs.GoodImages.{longest_file}
use Rattle.file_scan.specs.ShelfChanges.{Files}
use Rattle.nk_run.specs.Outcome.{opened, outcome}
use Rattle.nk_run.specs.ReplayedRuns.{replayed_section}
use Rattle.nk_run.specs.RunStates.{run_length, run_text}

-- a run's text, and the replay of it from the run's own opening
abbrev pub text_of_run : Opening → List ℕ → List Event → ℕ → List ℕ
text_of_run o input plan steps = run_text o steps plan (opening_state o input)

abbrev pub replay_of_run : Opening → List ℕ → List Event → ℕ → WholeReplay
replay_of_run o input plan steps = replay_of (text_of_run o input plan steps) (opened o)

-- the state at which a run ends
abbrev pub last_state : Opening → List ℕ → List Event → ℕ → MachineState
last_state o input plan steps = state plan (opening_state o input) (run_length steps plan (opening_state o input))

-- the run's closing section as a replay shows it
abbrev pub section_replayed : Opening → List ℕ → List Event → ℕ → List ℕ
section_replayed o input plan steps =
    replayed_section o (calls plan (opening_state o input) (run_length steps plan (opening_state o input)))
    (nested_of (last_state o input plan steps))

-- each line of the text is right, and the fold of its calls shows that section
pub record IsReplayedRun (o : Opening) (input : List ℕ) (plan : List Event) (steps : ℕ) : Type 0 where
  pub good : (replay_of_run o input plan steps).bad ≡ None
  pub section : section o.image o.frames (replay_of_run o input plan steps).made.nested
      ≡ section_replayed o input plan steps

-- the words ask for a replay of a text with the image of an opening, in a memory of as many frames, and the files hold
-- these two
pub record IsReplayAsked (o : Opening) (text : List ℕ) (words : List (List ℕ)) (files : Files) : Type 0 where
  pub command : command_of words ≡ Some (Replay o.frames)
  pub image : files (name_in words Image) ≡ Some o.image
  pub journal : files (name_in words Journal) ≡ Some text

-- the text of a run is a journal of it: where it isn't longer than a file may be, `replay` of it ends with status 0 and
-- shows that section
pub record IsJournal (o : Opening) (input : List ℕ) (plan : List Event) (steps : ℕ) : Type 0 where
  pub replayed : IsReplayedRun o input plan steps
  pub outcome : length (text_of_run o input plan steps) ≤ longest_file
      → (words : List (List ℕ)) (files : Files) → IsReplayAsked o (text_of_run o input plan steps) words files
      → outcome words files ≡ Some (record { status = 0; text = section_replayed o input plan steps })
