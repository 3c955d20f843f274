-- What is no text of a run that has a journal, and no answer to a replay of it.
use Rattle.std.proofs.Common.{◌≡◌, ◌≢◌, ℕ, ◌≤◌, List, length, None, Some, ap, sym, subst, ◌∙◌}
use Rattle.irq_plan.specs.declared.event.Event.{Event}
use Rattle.gate_state.specs.MachineStates.{Opening}
use Rattle.report_text.specs.ClosingSection.{section}
use Rattle.replay_core.specs.ReplayedCalls.{replay_of}
use Rattle.command_words.specs.declared.command_line.Role.TheVariants.{Image, Journal}
use Rattle.command_words.specs.declared.command_line.Command.{Command}
use Rattle.command_words.specs.declared.command_line.Command.TheVariants.{Replay}
use Rattle.command_words.specs.CommandLine.{command_of, name_in}
use Rattle.file_scan.specs.GoodImages.{longest_file}
use Rattle.file_scan.specs.ShelfChanges.{Files}
use Rattle.nk_run.specs.JournalLaw.{IsJournal, IsReplayAsked, section_replayed, text_of_run}
use Rattle.nk_run.specs.Outcome.{Answer, opened, outcome}

module _ (o : Opening) (input : List ℕ) (plan : List Event) (steps : ℕ) (it : IsJournal o input plan steps) where
  abbrev text : List ℕ
  text = text_of_run o input plan steps

  abbrev shown : Answer
  shown = record { status = 0; text = section_replayed o input plan steps }

  -- a text with a line that isn't right
  wrong_line : (journal : List ℕ) (number : ℕ) → (replay_of journal (opened o)).bad ≡ Some number → text ≡ journal → ⊥
  wrong_line journal number wrong same =
      let right = subst (λ (t : List ℕ). (replay_of t (opened o)).bad ≡ None) same it.replayed.good in cc

  -- a text whose calls leave another section
  other_record : (journal : List ℕ)
      → section o.image o.frames (replay_of journal (opened o)).made.nested ≢ section_replayed o input plan steps
      → text ≡ journal → ⊥
  other_record journal other same =
      other (subst (λ (t : List ℕ). section o.image o.frames (replay_of t (opened o)).made.nested
      ≡ section_replayed o input plan steps) same it.replayed.section)

  module _ (within : length text ≤ longest_file) (words : List (List ℕ)) (files : Files)
      (asked : IsReplayAsked o text words files) (answer : Answer) (is : outcome words files ≡ Some answer) where
    answer_is : answer ≡ shown
    answer_is = let whole : Some answer ≡ Some shown = sym is ∙ it.outcome within words files asked in cc

    other_status : answer.status ≢ 0 → ⊥
    other_status other = other (ap (λ (a : Answer). a.status) answer_is)

    other_section : answer.text ≢ section_replayed o input plan steps → ⊥
    other_section other = other (ap (λ (a : Answer). a.text) answer_is)

-- words of another command, and files without the image or the journal, don't ask for that replay
module _ (o : Opening) (journal : List ℕ) (words : List (List ℕ)) (files : Files) (it : IsReplayAsked o journal words files) where
  other_command : (command : Command) → command ≢ Replay o.frames → command_of words ≡ Some command → ⊥
  other_command command other asked =
      let is = it.command in let same : command ≡ Replay o.frames = cc in other same

  other_image : (b : List ℕ) → b ≢ o.image → files (name_in words Image) ≡ Some b → ⊥
  other_image b other held = let is = it.image in let same : b ≡ o.image = cc in other same

  other_journal : (b : List ℕ) → b ≢ journal → files (name_in words Journal) ≡ Some b → ⊥
  other_journal b other held = let is = it.journal in let same : b ≡ journal = cc in other same
