-- A run that is ready may begin.
use Rattle.std.specs.Prelude.{◌≡◌, ℕ, ◌≤◌, List, Option, None, Some}
use Rattle.std.proofs.Common.{subst, sym}
use Rattle.irq_plan.specs.declared.event.Event.{Event}
use Rattle.nk_host.specs.Told.{IfTold}
use Rattle.byte_scanner.specs.FirstFound.{first_found}
use Rattle.boot_map.specs.Division.{Division, IsLayout}
use Rattle.gate_state.specs.MachineOpening.{opening_state}
use Rattle.command_words.specs.declared.command_line.Command.TheVariants.{Run}
use Rattle.command_words.specs.CommandLine.{command_of}
use Rattle.file_scan.specs.ShelfChanges.{Files}
use Rattle.nk_run.specs.Outcome.{outcome}
use Rattle.nk_run.specs.RunStates.{run_text}
use Rattle.nk_run.specs.RunsBegun.{MayRun}

module _ (words : List (List ℕ)) (told : Option Files) (steps frames : ℕ) (image : List ℕ) (layout : Division)
    (input : List ℕ) (plan : List Event) where
  pub may_run : command_of words ≡ Some (Run steps frames) → steps ≤ 4294967296 → IsLayout image layout
      → layout.frames ≡ frames → first_found image ≡ None
      → IfTold told (λ files. outcome words files ≡ Some (record {
        status = 0;
        text = run_text (record { image = image; frames = frames }) steps plan
            (opening_state (record { image = image; frames = frames }) input);
      }))
      → MayRun words told steps image layout input plan
  may_run asked bounded layout_is frames_are clean outcome_is = record {
    asked = subst (λ (n : ℕ). command_of words ≡ Some (Run steps n)) (sym frames_are) asked;
    bounded = bounded;
    layout_is = layout_is;
    clean = clean;
    outcome_is = subst (λ (n : ℕ). IfTold told (λ files. outcome words files ≡ Some (record {
      status = 0;
      text = run_text (record { image = image; frames = n }) steps plan
          (opening_state (record { image = image; frames = n }) input);
    }))) (sym frames_are) outcome_is;
  }
