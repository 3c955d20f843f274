-- From the fold over a run's text to the outcome of `replay` on it.
use Rattle.std.proofs.Common.{◌≡◌, ℕ, ◌≤◌, List, [], length, Option, None, Some, ◌∙◌, ap}
use Rattle.std.specs.Prelude.{unwrap_or}
use Rattle.irq_plan.specs.declared.event.Event.{Event}
use Rattle.gate_state.specs.MachineStates.{Opening}
use Rattle.report_text.specs.ClosingSection.{section}
use Rattle.replay_core.specs.ReplayedCalls.{replay_of}
use Rattle.command_words.specs.declared.command_line.Command.TheVariants.{Replay}
use Rattle.command_words.specs.declared.command_line.Role.TheVariants.{Image}
use Rattle.file_scan.specs.GoodImages.{IsGoodImage, longest_file}
use Rattle.file_scan.specs.ShelfChanges.{Files}
use Rattle.nk_run.specs.Clauses.{HasRoom, IsDoable}
use Rattle.nk_run.specs.JournalLaw.{IsJournal, IsReplayAsked, IsReplayedRun, section_replayed, text_of_run}
use Rattle.nk_run.specs.Outcome.{Answer, file_in, opened, opening_in, replay_in, outcome}
use Rattle.nk_run.proofs.Promises.{outcome_good}

abbrev at_image : ℕ → Option (List ℕ) → Opening
at_image frames image = record { image = unwrap_or image []; frames = frames }

abbrev shown : List ℕ → Answer
shown section = record { status = 0; text = section }

module _ (o : Opening) (input : List ℕ) (plan : List Event) (steps : ℕ) (good : IsGoodImage o.image) (room : HasRoom o.frames o.image)
    (run : IsReplayedRun o input plan steps) where
  abbrev text : List ℕ
  text = text_of_run o input plan steps

  module _ (within : length text ≤ longest_file) (words : List (List ℕ)) (files : Files) (asked : IsReplayAsked o text words files) where
    same : opening_in files words o.frames ≡ o
    same = ap (at_image o.frames) asked.image

    right : (replay_of text (opened (opening_in files words o.frames))).bad ≡ None
    right = ap (λ (at : Opening). (replay_of text (opened at)).bad) same ∙ run.good

    doable : IsDoable (Replay o.frames) words files
    doable = (rw asked.image (good, room), rw asked.journal (record { within = within; right = right }))

    section_is : section (file_in files words Image) o.frames (replay_in files words o.frames).made.nested
        ≡ section_replayed o input plan steps
    section_is =
        ap (λ (journal : Option (List ℕ)). section (file_in files words Image) o.frames
        (replay_of (unwrap_or journal []) (opened (opening_in files words o.frames))).made.nested) asked.journal
        ∙ ap (λ (at : Opening). section at.image at.frames (replay_of text (opened at)).made.nested) same
        ∙ run.section

    outcome_is : outcome words files ≡ Some (record { status = 0; text = section_replayed o input plan steps })
    outcome_is =
        outcome_good words files (Replay o.frames) asked.command doable
        ∙ ap (λ section. Some (shown section)) section_is

  pub journal_of : IsJournal o input plan steps
  journal_of = record { replayed = run; outcome = outcome_is }
