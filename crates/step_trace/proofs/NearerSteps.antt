-- A step that was taken leaves fewer.
use Rattle.std.proofs.Common.{◌≡◌, ℕ, ◌+◌, ◌-◌, ◌<◌, ◌≤◌, Bool, true, false, List, length, refl, sym, ap, ◌∙◌, arith}
use Rattle.irq_plan.specs.declared.event.Event.{Event}
use Rattle.gate_state.specs.declared.moves.Move.{Move}
use Rattle.gate_state.specs.declared.moves.Move.TheVariants as move
use Rattle.gate_state.specs.declared.seen.Step.{Step}
use Rattle.gate_state.specs.declared.seen.Step.TheVariants as step
use Rattle.gate_state.specs.MachineStates.{MachineState}
use Rattle.gate_state.specs.MachineSteps.{move_of, next, step_by}
use Rattle.gate_state.specs.QuietSteps.{IsHurried}
use Rattle.gate_state.specs.StepsTaken.{CountsSteps}
use Rattle.gate_state.specs.WholeMachine.{WholeState, is_rest, stepped_whole}
use Rattle.step_trace.specs.StepsLeft.{steps_left}

-- a step rests where its move does
abbrev pub is_rested : Step → Bool
is_rested step.Rested = true
is_rested (step.Seen it) = false
is_rested (step.Called it) = false

rests_by : (m : Move) (s : MachineState) → is_rest m ≡ is_rested (step_by m s)
rests_by move.Serve s = refl
rests_by (move.Take what) s = refl
rests_by move.Turn s = refl
rests_by move.Rest s = refl

pub goes_by : (m : Move) (s : MachineState) (it : Step) → it ≡ step_by m s → is_rested it ≡ false → is_rest m ≡ false
goes_by m s it is goes = rests_by m s ∙ (ap is_rested (sym is) ∙ goes)

-- by the kind of the step
fewer : (limit : ℕ) (plan : List Event) (s after : MachineState) (m : Move) → s.turns < limit → is_rest m ≡ false
    → CountsSteps plan m s after
    → (limit - after.turns) + (length plan - after.taken) < (limit - s.turns) + (length plan - s.taken)
fewer limit plan s after move.Serve turns goes c = omega (arith, c.turns, c.taken, turns)
fewer limit plan s after (move.Take what) turns goes c = omega (arith, c.turns, c.taken, c.left)
fewer limit plan s after move.Turn turns goes c = omega (arith, c.turns, c.taken, turns)
fewer limit plan s after move.Rest turns goes c = absurd (cc)

pub nearer : (limit : ℕ) (plan : List Event) (w after : WholeState) → w.state.turns < limit
    → is_rest (move_of plan w.state) ≡ false → after ≡ stepped_whole plan w
    → CountsSteps plan (move_of plan w.state) w.state (next plan w.state) → steps_left limit plan after < steps_left limit plan w
nearer limit plan w after turns goes is counts =
    let same = ap (steps_left limit plan) is in
    let less = fewer limit plan w.state (next plan w.state) (move_of plan w.state) turns goes counts in
    omega (arith, same, less)

-- and quick turns leave no more
pub hurried_left : {limit : ℕ} {plan : List Event} {w after : WholeState} (most : ℕ) → IsHurried plan limit w after
    → steps_left most plan after ≤ steps_left most plan w
hurried_left most hurried = omega (arith, hurried.turns, hurried.taken)
