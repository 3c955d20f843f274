-- How many steps are left: each takes a turn, or an event of the plan.
use Rattle.std.specs.Prelude.{ℕ, ◌+◌, ◌-◌, List, length}
use Rattle.irq_plan.specs.declared.event.Event.{Event}
use Rattle.gate_state.specs.WholeMachine.{WholeState}

-- the most steps from a state on, up to so many turns
abbrev pub steps_left : ℕ → List Event → WholeState → ℕ
steps_left limit plan w = (limit - w.state.turns) + (length plan - w.state.taken)
