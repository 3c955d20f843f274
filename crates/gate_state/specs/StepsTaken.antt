-- What a step counts: a turn, or an event of the plan.
use Rattle.std.specs.Prelude.{◌≡◌, ◌+◌, ◌<◌, List, length}
use Rattle.irq_plan.specs.declared.event.Event.{Event}
use Rattle.gate_state.specs.declared.moves.Move.{Move}
use Rattle.gate_state.specs.declared.moves.Move.TheVariants as move
use Rattle.gate_state.specs.MachineStates.{MachineState}

-- one turn more
pub record TakesOneTurn (s after : MachineState) : Type 0 where
  pub turns : after.turns ≡ s.turns + 1
  pub taken : after.taken ≡ s.taken

-- one event more, which the plan has
pub record TakesOneEvent (plan : List Event) (s after : MachineState) : Type 0 where
  pub turns : after.turns ≡ s.turns
  pub taken : after.taken ≡ s.taken + 1
  pub left : s.taken < length plan

-- by the kind of the step
abbrev pub CountsSteps : List Event → Move → MachineState → MachineState → Type 0
CountsSteps plan move.Serve s after = TakesOneTurn s after
CountsSteps plan (move.Take what) s after = TakesOneEvent plan s after
CountsSteps plan move.Turn s after = TakesOneTurn s after
CountsSteps plan move.Rest s after = after ≡ s
