-- What a step that shows something may have touched, by its move.
use Rattle.std.proofs.Common.{◌≡◌, ℕ, ◌/◌, Bool, true, false, List, length, refl, sym, ap, inl}
use Rattle.std.specs.Prelude.{if◌then◌else◌}
use Rattle.cpu_step.specs.Turns.{enters_body}
use Rattle.gate_state.specs.declared.seen.Seen.TheVariants as seen
use Rattle.gate_state.specs.declared.seen.Step.{Step}
use Rattle.gate_state.specs.declared.seen.Step.TheVariants as step
use Rattle.gate_state.specs.declared.touched.StepTouched.{StepTouched}
use Rattle.gate_state.specs.declared.touched.StepTouched.TheVariants.{Nothing, Frames}
use Rattle.gate_state.specs.MachineStates.{MachineState}
use Rattle.gate_state.specs.MachineSteps.{asked_in}
use Rattle.gate_state.specs.StepsTouched.{ShowsWithin, touched_by_call, touched_if_shown}

pub nothing_within : (it : Step) (most : StepTouched) → ShowsWithin it Nothing most
nothing_within step.Rested most = tt
nothing_within (step.Seen seen.Event) most = inl refl
nothing_within (step.Seen seen.Quiet) most = tt
nothing_within (step.Seen (seen.Console byte)) most = inl refl
nothing_within (step.Seen (seen.Delivered it)) most = inl refl
nothing_within (step.Called called) most = inl refl

module _ (s : MachineState) (m : List ℕ) where
  -- a step that isn't the body's shows nothing, or touches no frame but the trap stack
  pub shown_alone : enters_body s.processor ≡ false → Frames 3 3 ≡ touched_if_shown s m
  shown_alone away =
      ap (λ (b : Bool). if b then touched_by_call (length m / 4096) s.ledger.book (asked_in s) else Frames 3 3)
      (sym away)

  -- the body's touches what its call says
  pub shown_at_body : enters_body s.processor ≡ true
      → touched_by_call (length m / 4096) s.ledger.book (asked_in s) ≡ touched_if_shown s m
  shown_at_body body =
      ap (λ (b : Bool). if b then touched_by_call (length m / 4096) s.ledger.book (asked_in s) else Frames 3 3)
      (sym body)
