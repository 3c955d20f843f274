-- How a run goes on from a state: it ends behind its quick turns, or takes a step behind them.
use Rattle.std.specs.Prelude.{◌≡◌, ℕ, List, None, Some}
use Rattle.irq_plan.specs.declared.event.Event.{Event}
use Rattle.gate_state.specs.declared.seen.Step.{Step}
use Rattle.gate_state.specs.MachineOf.{whole_of}
use Rattle.gate_state.specs.MachineSteps.{move_of, step_by}
use Rattle.gate_state.specs.QuietSteps.{IsHurried}
use Rattle.gate_state.specs.WholeMachine.{WholeState, stepped_whole}
use Rattle.nk_run.specs.declared.ending.Ending.{Ending}
use Rattle.nk_run.specs.declared.progress.Progress.{Progress}
use Rattle.nk_run.specs.declared.progress.Progress.TheVariants as progress
use Rattle.nk_run.specs.RunStates.{ending_at}

-- the machine hurried, and the run ends where it stands then
pub record HasEnded (steps : ℕ) (plan : List Event) (w after : WholeState) (reason : Ending) : Type 0 where
  pub hurried : IsHurried plan steps w after
  pub ended : ending_at steps plan after.state ≡ Some reason

-- the machine hurried, and took the step from there
pub record HasGoneOn (steps : ℕ) (plan : List Event) (w after : WholeState) (it : Step) : Type 0 where
  pub between : WholeState
  pub hurried : IsHurried plan steps w between
  pub going : ending_at steps plan between.state ≡ None
  pub next : after ≡ stepped_whole plan between
  pub step : it ≡ step_by (move_of plan between.state) between.state

abbrev pub GoesOn : ℕ → List Event → WholeState → Progress → Type 0
GoesOn steps plan w (progress.Ends machine reason) = HasEnded steps plan w (whole_of machine) reason
GoesOn steps plan w (progress.Goes machine it) = HasGoneOn steps plan w (whole_of machine) it
