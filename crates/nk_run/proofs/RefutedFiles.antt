-- Files that aren't good, a text that isn't replayed, and a joined file that isn't safe, each named by the sentence that it
-- guards.
use Rattle.std.proofs.Common.{◌≡◌, ◌≢◌, ℕ, List, Err, Some, Result, subst}
use Rattle.std.specs.Prelude.{IsOk}
use Rattle.std.proofs.lemmas.Bool.{false≢true}
use Rattle.irq_plan.specs.declared.event.Event.{Event}
use Rattle.elf_image.specs.declared.fault.ImageFault.{ImageFault}
use Rattle.elf_image.specs.Rows.{first_fault}
use Rattle.gate_state.specs.MachineStates.{Opening}
use Rattle.report_text.specs.ClosingSection.{section}
use Rattle.replay_core.specs.ReplayedCalls.{replay_of}
use Rattle.code_modules.specs.JoinedParts.{CodeModule}
use Rattle.code_modules.specs.ModuleList.{Listed, list_of}
use Rattle.nk_run.specs.Clauses.{HasCodeAt, IsGoodList, IsWholeJoin, RunsSafely}
use Rattle.nk_run.specs.JournalLaw.{IsReplayedRun, section_replayed, text_of_run}
use Rattle.nk_run.specs.Outcome.{opened}

-- an image with a fault has no code to be listed
faulty_listing : (address : ℕ) (b : List ℕ) (fault : ImageFault) → first_fault b ≡ Some fault → HasCodeAt address b → ⊥
faulty_listing address b fault is it = let none = it.formed in cc

-- nor is a list good that has a line out of form
line_without_module : (b : List ℕ) (number : ℕ) → list_of b ≡ Err number → IsGoodList b → ⊥
line_without_module b number is it = false≢true (subst (λ (r : Result (List Listed) ℕ). IsOk r) is it.formed)

-- a run's text with a line that isn't right, or whose calls leave another section
module _ (o : Opening) (input : List ℕ) (plan : List Event) (steps : ℕ) (it : IsReplayedRun o input plan steps) where
  wrong_line_of_a_run : (number : ℕ) → (replay_of (text_of_run o input plan steps) (opened o)).bad ≡ Some number → ⊥
  wrong_line_of_a_run number is = let right = it.good in cc

  other_section : section o.image o.frames (replay_of (text_of_run o input plan steps) (opened o)).made.nested
      ≢ section_replayed o input plan steps → ⊥
  other_section other = other it.section

-- a joined file of which some run isn't safe
unsafe_join : (b : List ℕ) (modules : List CodeModule) (file : List ℕ) → (RunsSafely file → ⊥) → IsWholeJoin b modules file → ⊥
unsafe_join b modules file none it = none it.safe
