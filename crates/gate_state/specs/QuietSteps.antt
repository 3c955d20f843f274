-- Steps in a row, each a turn that shows nothing, from a state that is safe.
use Rattle.std.specs.Prelude.{◌≡◌, ◌≤◌, ℕ, ◌+◌, zero, suc, List}
use Rattle.irq_plan.specs.declared.event.Event.{Event}
use Rattle.gate_state.specs.declared.moves.Move.TheVariants.{Turn}
use Rattle.gate_state.specs.declared.seen.Seen.TheVariants.{Quiet}
use Rattle.gate_state.specs.MachineSteps.{move_of, next, seen_by}
use Rattle.gate_state.specs.MachineStates.{MachineState, Opening}
use Rattle.gate_state.specs.SafeStates.{IsSafe}
use Rattle.gate_state.specs.WholeMachine.{WholeState}

-- the step is a turn, shows nothing, and begins at a safe state
pub record IsQuietStep (o : Opening) (plan : List Event) (s : MachineState) : Type 0 where
  pub turn : move_of plan s ≡ Turn
  pub quiet : seen_by Turn s ≡ Quiet
  pub safe : IsSafe o s

-- so many of them lead from one state to another
abbrev pub AreQuietSteps : ℕ → Opening → List Event → MachineState → MachineState → Type 0
AreQuietSteps zero o plan s after = after ≡ s
AreQuietSteps (suc k) o plan s after = IsQuietStep o plan s × AreQuietSteps k o plan (next plan s) after

-- the machine after some of them: nothing else of it changed, and it took no more turns than the limit says
pub record IsHurried (plan : List Event) (limit : ℕ) (before after : WholeState) : Type 0 where
  pub steps : ℕ
  pub quiet : AreQuietSteps steps before.opening plan before.state after.state
  pub turns : after.state.turns ≡ before.state.turns + steps
  pub taken : after.state.taken ≡ before.state.taken
  pub opening : after.opening ≡ before.opening
  pub source : after.source ≡ before.source
  pub within : before.state.turns ≤ limit → after.state.turns ≤ limit
