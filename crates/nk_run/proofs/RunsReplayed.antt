-- The replay of a run, from the opening to the closing section.
use Rattle.std.proofs.Common.{◌≡◌, ℕ, ◌+◌, ◌-◌, ◌≤◌, List, [], length, ap, ◌∙◌, arith}
use Rattle.irq_plan.specs.declared.event.Event.{Event}
use Rattle.gate_state.specs.GuardedStates.{IsGuarded}
use Rattle.gate_state.specs.MachineOpening.{opening_state}
use Rattle.gate_state.specs.MachineStates.{MachineState, Opening, nested_of}
use Rattle.gate_state.specs.MachineSteps.{calls, made_by_all, state}
use Rattle.replay_core.specs.ReplayedCalls.{Replayed, replay_of}
use Rattle.report_text.specs.ClosingSection.{section}
use Rattle.nk_body.specs.BookLaws.{BesideLaws}
use Rattle.nk_run.specs.JournalLaw.{IsReplayedRun}
use Rattle.nk_run.specs.RunStates.{run_length, run_text}
use Rattle.nk_run.proofs.JournalOpening.{opening_beside}
use Rattle.nk_run.proofs.Journals.{Follows, StepLaws, replays}
use Rattle.nk_run.proofs.ToldSections.{told_section}

-- what is known of a run
pub record RunLaws (o : Opening) (input : List ℕ) (plan : List Event) : Type 0 where
  pub guarded : (k : ℕ) → IsGuarded o (state plan (opening_state o input) k)
  pub made : (k : ℕ) → nested_of (state plan (opening_state o input) k)
      ≡ made_by_all (nested_of (opening_state o input)) (calls plan (opening_state o input) k)
  pub steps : StepLaws o plan

module _ (beside_laws : BesideLaws) (o : Opening) (input : List ℕ) (plan : List Event) (laws : RunLaws o input plan)
    (steps : ℕ) (most : steps ≤ 4294967296) where
  abbrev first : MachineState
  first = opening_state o input

  follows : Follows o plan first
  follows = record { guarded = laws.guarded; made = laws.made }

  pub replayed_run : IsReplayedRun o input plan steps
  unfolding run_length run_text replay_of
  replayed_run =
      let it = replays beside_laws o plan laws.steps steps most
      ((steps - first.turns) + (length plan - first.taken)) first []
      (nested_of first).held first.memory 1 follows (omega arith) (omega arith)
      (opening_beside beside_laws o input) in
      record {
        good = it.good;
        section = ap (λ (r : Replayed). section o.image o.frames r.nested) it.made
            ∙ told_section o (calls plan first (run_length steps plan first))
            (nested_of (state plan first (run_length steps plan first)))
            it.held it.memory it.beside;
      }
