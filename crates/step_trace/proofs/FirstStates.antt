-- The way to the first state at which so many turns were taken, or no step is left.
use Rattle.std.proofs.Common.{◌≡◌, ℕ, zero, suc, ◌+◌, ◌<◌, ◌≤◌, true, false, List, refl, sym, ap, subst, ◌∙◌, arith, below_none, below_more}
use Rattle.std.proofs.lemmas.Bool.{leb-false, lt-leb, or_from, or_parts}
use Rattle.irq_plan.specs.declared.event.Event.{Event}
use Rattle.gate_state.specs.declared.moves.Move.{Move}
use Rattle.gate_state.specs.declared.moves.Move.TheVariants as move
use Rattle.gate_state.specs.MachineStates.{MachineState, Opening}
use Rattle.gate_state.specs.MachineSteps.{move_of, next, state}
use Rattle.gate_state.specs.QuietSteps.{AreQuietSteps, IsHurried}
use Rattle.gate_state.specs.StepsTaken.{CountsSteps, TakesOneTurn}
use Rattle.gate_state.specs.WholeMachine.{WholeState, is_rest, stepped_whole}
use Rattle.step_trace.specs.StepsLeft.{steps_left}
use Rattle.step_trace.specs.Traces.{IsFirstReached, is_there}
use Rattle.step_trace.proofs.NearerSteps.{hurried_left, nearer}

-- one of the states of a run, with none before it that is there
pub record IsOnWay (limit : ℕ) (plan : List Event) (first s : MachineState) : Type 0 where
  pub steps : ℕ
  pub state_is : s ≡ state plan first steps
  pub not_before : (k : ℕ) → k < steps → is_there limit plan (state plan first k) ≡ false

-- the state behind one more step
next_state : (plan : List Event) (s : MachineState) (k : ℕ) → state plan s (suc k) ≡ next plan (state plan s k)
unfolding state
next_state plan s zero = refl
next_state plan s (suc k) = next_state plan (next plan s) k

-- the first of all
first_state : (plan : List Event) (s : MachineState) → s ≡ state plan s 0
unfolding state
first_state plan s = refl

pub begins_way : (limit : ℕ) (plan : List Event) (first : MachineState) → IsOnWay limit plan first first
begins_way limit plan first = record {
  steps = 0;
  state_is = first_state plan first;
  not_before = below_none (λ (k : ℕ). is_there limit plan (state plan first k) ≡ false);
}

pub begins_first : (limit : ℕ) (plan : List Event) (first : MachineState) → (begins_way limit plan first).steps ≡ 0
unfolding begins_way
begins_first limit plan first = refl

-- one step more, from a state that isn't there
pub one_more : {limit : ℕ} {plan : List Event} {first s : MachineState} → IsOnWay limit plan first s
    → is_there limit plan s ≡ false → IsOnWay limit plan first (next plan s)
one_more {limit} {plan} {first} {s} way elsewhere =
    let here : is_there limit plan (state plan first way.steps) ≡ false =
    subst (λ (x : MachineState). is_there limit plan x ≡ false) way.state_is elsewhere in
    let before : (k : ℕ) → k < way.steps + 1 → is_there limit plan (state plan first k) ≡ false =
    below_more (λ (k : ℕ). is_there limit plan (state plan first k) ≡ false) way.steps way.not_before here in
    record {
      steps = suc way.steps;
      state_is = ap (next plan) way.state_is ∙ sym (next_state plan first way.steps);
      not_before = λ k below. before k (omega arith);
    }

pub one_behind : {limit : ℕ} {plan : List Event} {first s : MachineState} (way : IsOnWay limit plan first s)
    (elsewhere : is_there limit plan s ≡ false) → (one_more way elsewhere).steps ≡ suc way.steps
unfolding one_more
one_behind way elsewhere = refl

-- where turns are left and a step is, a state isn't there, and the other way round
elsewhere_by : (limit : ℕ) (plan : List Event) (s : MachineState) → s.turns < limit → is_rest (move_of plan s) ≡ false
    → is_there limit plan s ≡ false
elsewhere_by limit plan s turns goes = or_from _ _ (lt-leb limit s.turns turns) goes

pub turns_below : (limit : ℕ) (plan : List Event) (s : MachineState) → is_there limit plan s ≡ false → s.turns < limit
turns_below limit plan s elsewhere = leb-false limit s.turns (or_parts _ _ elsewhere).0

pub goes_there : (limit : ℕ) (plan : List Event) (s : MachineState) → is_there limit plan s ≡ false
    → is_rest (move_of plan s) ≡ false
goes_there limit plan s elsewhere = (or_parts _ _ elsewhere).1

-- a turn isn't rest, and counts one
turn_goes : (m : Move) → m ≡ move.Turn → is_rest m ≡ false
turn_goes m is = ap is_rest is

turn_counts : (plan : List Event) (m : Move) (s after : MachineState) → m ≡ move.Turn → CountsSteps plan m s after
    → TakesOneTurn s after
turn_counts plan m s after is counts = subst (λ (x : Move). CountsSteps plan x s after) is counts

-- quick turns, no more than are left
led_on : (limit : ℕ) (o : Opening) (plan : List Event) (first s after : MachineState) (n : ℕ)
    → ((x : MachineState) → CountsSteps plan (move_of plan x) x (next plan x))
    → AreQuietSteps n o plan s after → s.turns + n ≤ limit → IsOnWay limit plan first s → IsOnWay limit plan first after
led_on limit o plan first s after zero counts same within way =
    subst (λ (x : MachineState). IsOnWay limit plan first x) (sym same) way
led_on limit o plan first s after (suc n) counts (one, later) within way =
    let turn = turn_counts plan (move_of plan s) s (next plan s) one.turn (counts s) in
    let turns : s.turns < limit = omega arith in
    let left : (next plan s).turns + n ≤ limit = omega (arith, turn.turns) in
    led_on limit o plan first (next plan s) after n counts later left
    (one_more way (elsewhere_by limit plan s turns (turn_goes _ one.turn)))

-- as a machine takes them
pub hurried_way : {limit : ℕ} {plan : List Event} {first : MachineState} {w after : WholeState}
    → ((x : MachineState) → CountsSteps plan (move_of plan x) x (next plan x))
    → is_there limit plan w.state ≡ false → IsHurried plan limit w after → IsOnWay limit plan first w.state
    → IsOnWay limit plan first after.state
hurried_way {limit} {plan} {first} {w} {after} counts elsewhere hurried way =
    let turns = turns_below limit plan w.state elsewhere in
    let before : w.state.turns ≤ limit = omega (arith, turns) in
    led_on limit w.opening plan first w.state after.state hurried.steps counts hurried.quiet
    (omega (arith, hurried.turns, hurried.within before)) way

-- and the step behind them
pub step_way : {limit : ℕ} {plan : List Event} {first : MachineState} (w : WholeState) {after : WholeState}
    → is_there limit plan w.state ≡ false → after ≡ stepped_whole plan w → IsOnWay limit plan first w.state
    → IsOnWay limit plan first after.state
step_way {limit} {plan} {first} w elsewhere is way =
    subst (λ (x : WholeState). IsOnWay limit plan first x.state) (sym is) (one_more way elsewhere)

-- the end of the way
pub reached : {limit : ℕ} {plan : List Event} {first s : MachineState} → IsOnWay limit plan first s
    → is_there limit plan s ≡ true → IsFirstReached limit plan first s
reached way there = record {
  steps = way.steps;
  state_is = way.state_is;
  there = there;
  not_before = way.not_before;
}

-- quick turns and the step behind them leave fewer steps
pub fewer_left : {limit : ℕ} {plan : List Event} {w hurried after : WholeState}
    → ((x : MachineState) → CountsSteps plan (move_of plan x) x (next plan x))
    → IsHurried plan limit w hurried → is_there limit plan hurried.state ≡ false → after ≡ stepped_whole plan hurried
    → steps_left limit plan after < steps_left limit plan w
fewer_left {limit} {plan} {w} {hurried} {after} counts quick elsewhere is =
    let less = nearer limit plan hurried after (turns_below limit plan hurried.state elsewhere)
    (goes_there limit plan hurried.state elsewhere) is (counts hurried.state) in
    let most = hurried_left limit quick in
    omega (arith, less, most)

-- a step keeps the opening
pub opening_stepped : (plan : List Event) (w : WholeState) {after : WholeState} → after ≡ stepped_whole plan w → after.opening ≡ w.opening
opening_stepped plan w is = ap (λ (x : WholeState). x.opening) is
