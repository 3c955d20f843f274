-- The moments of a run: its states by the number of steps behind which they stand, and where it is over.
use Rattle.std.specs.Prelude.{◌≡◌, ℕ, ◌+◌, ◌<◌, ◌≤◌, ◌⊎◌, Bool, true, false, List, length}
use Rattle.irq_plan.specs.declared.event.Event.{Event}
use Rattle.gate_state.specs.MachineOpening.{opening_state}
use Rattle.gate_state.specs.MachineStates.{MachineState, Opening}
use Rattle.gate_state.specs.MachineSteps.{state}
use Rattle.gate_state.specs.WholeMachine.{WholeState}
use Rattle.step_trace.specs.Traces.{is_there}

-- what a run is made of: image and frames, input, plan, and the most turns
pub record RunParts : Type 0 where
  pub opening : Opening
  pub input : List ℕ
  pub plan : List Event
  pub turns : ℕ

-- the state behind so many steps
unfoldable pub state_at : RunParts → ℕ → MachineState
state_at run steps = state run.plan (opening_state run.opening run.input) steps

-- the run is over there: as many turns were taken as it may have, or no step is left
unfoldable pub is_over : RunParts → ℕ → Bool
is_over run steps = is_there run.turns run.plan (state_at run steps)

-- the run comes there: it isn't over before
abbrev pub IsInRun : RunParts → ℕ → Type 0
IsInRun run steps = (k : ℕ) → k < steps → is_over run k ≡ false

-- a run, and how many steps of it were taken
pub record MomentOf : Type 0 where
  pub run : RunParts
  pub steps : ℕ

-- a machine stands there: it has that state, and each step took a turn or an event
pub record IsMoment (run : RunParts) (steps : ℕ) (w : WholeState) : Type 0 where
  pub state_is : w.state ≡ state_at run steps
  pub opening_is : w.opening ≡ run.opening
  pub reached : IsInRun run steps
  pub count : steps ≡ w.state.turns + w.state.taken
  pub within : w.state.turns ≤ run.turns
  pub events : w.state.taken ≤ length run.plan

-- the first moment at which so many turns were taken, or at which the run is over
pub record IsFirstBehind (run : RunParts) (turns to : ℕ) : Type 0 where
  pub reached : IsInRun run to
  pub there : (turns ≤ (state_at run to).turns) ⊎ (is_over run to ≡ true)
  pub first : (k : ℕ) → k < to → (state_at run k).turns < turns

-- the moment behind so many steps, or the run's end where it is over before
pub record IsComeBehind (run : RunParts) (steps to : ℕ) : Type 0 where
  pub reached : IsInRun run to
  pub within : to ≤ steps
  pub there : to < steps → is_over run to ≡ true
