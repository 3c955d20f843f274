-- Where a step leaves a run: at its end where the machine rests, and else on its way.
use Rattle.std.proofs.Common.{◌≡◌, ℕ, Bool, true, false, List, refl, sym, ap, ◌∙◌}
use Rattle.std.specs.Prelude.{if◌then◌else◌, Option, None, Some}
use Rattle.std.proofs.lemmas.Bool.{eq-eqb, ne_eqb}
use Rattle.irq_plan.specs.declared.event.Event.{Event}
use Rattle.gate_state.specs.declared.moves.Move.{Move}
use Rattle.gate_state.specs.declared.moves.Move.TheVariants as move
use Rattle.gate_state.specs.declared.seen.Step.{Step}
use Rattle.gate_state.specs.declared.seen.Step.TheVariants as step
use Rattle.gate_state.specs.MachineStates.{MachineState}
use Rattle.gate_state.specs.MachineSteps.{move_of, next, next_by, step_by}
use Rattle.gate_state.specs.WholeMachine.{WholeState, is_rest, source_after, stepped_whole}
use Rattle.nk_run.specs.declared.ending.Ending.{Ending}
use Rattle.nk_run.specs.declared.ending.Ending.TheVariants as ending
use Rattle.nk_run.specs.RunStates.{ending_at}

-- why a run ends, by its two tests
abbrev reason_by : Bool → Bool → Option Ending
reason_by all rests = if all then Some ending.Steps else if rests then Some ending.Halted else None

pub steps_ended : (steps : ℕ) (plan : List Event) (s : MachineState) → s.turns ≡ steps → ending_at steps plan s ≡ Some ending.Steps
unfolding ending_at
steps_ended steps plan s all = ap (λ b. reason_by b (is_rest (move_of plan s))) (eq-eqb s.turns steps all)

-- a step rests where its move does
abbrev pub is_rested : Step → Bool
is_rested step.Rested = true
is_rested (step.Seen it) = false
is_rested (step.Called it) = false

rests_by : (m : Move) (s : MachineState) → is_rest m ≡ is_rested (step_by m s)
rests_by move.Serve s = refl
rests_by (move.Take what) s = refl
rests_by move.Turn s = refl
rests_by move.Rest s = refl

rest_is : (m : Move) → is_rest m ≡ true → m ≡ move.Rest
rest_is move.Serve is = absurd (cc)
rest_is (move.Take what) is = absurd (cc)
rest_is move.Turn is = absurd (cc)
rest_is move.Rest is = refl

module _ (steps : ℕ) (plan : List Event) (w : WholeState) (it : Step) (is : it ≡ step_by (move_of plan w.state) w.state) where
  is_rest_of : is_rest (move_of plan w.state) ≡ is_rested it
  is_rest_of = rests_by (move_of plan w.state) w.state ∙ ap is_rested (sym is)

  -- at rest the machine stays, and the run is at its end
  pub stays_at_rest : it ≡ step.Rested → stepped_whole plan w ≡ w
  unfolding next
  stays_at_rest rested =
      let rest : move_of plan w.state ≡ move.Rest = rest_is (move_of plan w.state) (is_rest_of ∙ ap is_rested rested) in
      λ i. record w { state = next_by (rest i) w.state; source = source_after (rest i) w }

  pub halted_ended : (w.state.turns ≡ steps → ⊥) → it ≡ step.Rested → ending_at steps plan w.state ≡ Some ending.Halted
  unfolding ending_at
  halted_ended other rested =
      ap (λ b. reason_by b (is_rest (move_of plan w.state))) (ne_eqb w.state.turns steps other)
      ∙ ap (λ b. reason_by false b) (is_rest_of ∙ ap is_rested rested)

  -- else it goes on
  pub goes_on_by : (w.state.turns ≡ steps → ⊥) → is_rested it ≡ false → ending_at steps plan w.state ≡ None
  unfolding ending_at
  goes_on_by other goes =
      ap (λ b. reason_by b (is_rest (move_of plan w.state))) (ne_eqb w.state.turns steps other)
      ∙ ap (λ b. reason_by false b) (is_rest_of ∙ goes)
