-- How a machine comes from one moment of a run to a later one: by a step, and by quick turns.
use Rattle.std.proofs.Common.{◌≡◌, ℕ, zero, suc, ◌+◌, ◌-◌, ◌<◌, ◌≤◌, true, false, List, length, refl, sym, ap, subst, ◌∙◌, arith, below_none, below_more, ⊎_elim, Bool, nat_le, ◌||◌, true≢false}
use Rattle.std.proofs.lemmas.Bool.{cases_lt, leb-false, lt-leb, or_from, or_left, or_parts}
use Rattle.irq_plan.specs.declared.event.Event.{Event}
use Rattle.gate_state.specs.declared.moves.Move.{Move}
use Rattle.gate_state.specs.declared.moves.Move.TheVariants as move
use Rattle.gate_state.specs.declared.seen.Seen.TheVariants as seen
use Rattle.gate_state.specs.MachineOpening.{opening_state}
use Rattle.gate_state.specs.MachineStates.{MachineState, Opening}
use Rattle.gate_state.specs.MachineSteps.{move_of, next, seen_by, state}
use Rattle.gate_state.specs.QuietSteps.{AreQuietSteps, IsHurried}
use Rattle.gate_state.specs.StepsTaken.{CountsSteps, TakesOneTurn}
use Rattle.gate_state.specs.WholeMachine.{WholeState, is_rest, stepped_whole}
use Rattle.step_trace.specs.Traces.{is_there}
use Rattle.run_moments.specs.AdvancedMoments.{AreQuietBetween, IsQuietAt}
use Rattle.run_moments.specs.Moments.{IsMoment, IsInRun, RunParts, is_over, state_at}

-- the state behind one more step, and the first one
next_state : (plan : List Event) (s : MachineState) (k : ℕ) → state plan s (suc k) ≡ next plan (state plan s k)
unfolding state
next_state plan s zero = refl
next_state plan s (suc k) = next_state plan (next plan s) k

pub state_behind : (run : RunParts) (k : ℕ) → state_at run (suc k) ≡ next run.plan (state_at run k)
unfolding state_at
state_behind run k = next_state run.plan (opening_state run.opening run.input) k

pub state_first : (run : RunParts) → opening_state run.opening run.input ≡ state_at run 0
unfolding state_at state
state_first run = refl

-- what it is to be over, of a moment's state
pub over_there : (run : RunParts) (k : ℕ) → is_over run k ≡ is_there run.turns run.plan (state_at run k)
unfolding is_over
over_there run k = refl

-- one reached moment more
pub reached_behind : (run : RunParts) (k : ℕ) → IsInRun run k → is_over run k ≡ false → IsInRun run (suc k)
reached_behind run k reached going i below =
    below_more (λ (j : ℕ). is_over run j ≡ false) k reached going i (omega (arith, below))

-- where turns are left and a step is, a run isn't over, and the other way round
pub going_by : (run : RunParts) (k : ℕ) → (state_at run k).turns < run.turns
    → is_rest (move_of run.plan (state_at run k)) ≡ false → is_over run k ≡ false
going_by run k turns goes =
    over_there run k ∙ or_from _ _ (lt-leb run.turns (state_at run k).turns turns) goes

pub turns_left : (run : RunParts) (k : ℕ) → is_over run k ≡ false → (state_at run k).turns < run.turns
turns_left run k going =
    leb-false run.turns (state_at run k).turns (or_parts _ _ (sym (over_there run k) ∙ going)).0

pub goes_there : (run : RunParts) (k : ℕ) → is_over run k ≡ false → is_rest (move_of run.plan (state_at run k)) ≡ false
goes_there run k going = (or_parts _ _ (sym (over_there run k) ∙ going)).1

-- a step that isn't rest counts one
counts_one : (plan : List Event) (m : Move) (s after : MachineState) → is_rest m ≡ false → CountsSteps plan m s after
    → after.turns + after.taken ≡ suc (s.turns + s.taken)
counts_one plan move.Serve s after goes counts = omega (arith, counts.turns, counts.taken)
counts_one plan (move.Take what) s after goes counts = omega (arith, counts.turns, counts.taken)
counts_one plan move.Turn s after goes counts = omega (arith, counts.turns, counts.taken)
counts_one plan move.Rest s after goes counts = absurd (true≢false goes)

counts_within : (plan : List Event) (m : Move) (s after : MachineState) → CountsSteps plan m s after
    → after.turns ≤ suc s.turns
counts_within plan move.Serve s after counts = omega (arith, counts.turns)
counts_within plan (move.Take what) s after counts = omega (arith, counts.turns)
counts_within plan move.Turn s after counts = omega (arith, counts.turns)
counts_within plan move.Rest s after counts = omega (arith, ap (λ (x : MachineState). x.turns) counts)

counts_events : (plan : List Event) (m : Move) (s after : MachineState) → s.taken ≤ length plan → CountsSteps plan m s after
    → after.taken ≤ length plan
counts_events plan move.Serve s after most counts = omega (arith, most, counts.taken)
counts_events plan (move.Take what) s after most counts = omega (arith, most, counts.taken, counts.left)
counts_events plan move.Turn s after most counts = omega (arith, most, counts.taken)
counts_events plan move.Rest s after most counts = omega (arith, most, ap (λ (x : MachineState). x.taken) counts)

abbrev pub Counts : Type 0
Counts = (plan : List Event) (x : MachineState) → CountsSteps plan (move_of plan x) x (next plan x)

-- a machine at the beginning
pub moment_begun : (run : RunParts) (w : WholeState) → w.opening ≡ run.opening
    → w.state ≡ opening_state run.opening run.input → IsMoment run 0 w
moment_begun run w opening is = record {
  state_is = is ∙ state_first run;
  opening_is = opening;
  reached = below_none (λ (k : ℕ). is_over run k ≡ false);
  count = omega (arith, ap (λ (x : MachineState). x.turns) is, ap (λ (x : MachineState). x.taken) is);
  within = omega (arith, ap (λ (x : MachineState). x.turns) is);
  events = omega (arith, ap (λ (x : MachineState). x.taken) is);
}

-- and behind one step more
pub moment_stepped : Counts → (run : RunParts) (k : ℕ) (w after : WholeState) → IsMoment run k w
    → is_over run k ≡ false → after ≡ stepped_whole run.plan w → IsMoment run (suc k) after
moment_stepped counts run k w after here going is =
    let s : MachineState = w.state in
    let goes : is_rest (move_of run.plan s) ≡ false =
    subst (λ (x : MachineState). is_rest (move_of run.plan x) ≡ false) (sym here.state_is) (goes_there run k going) in
    let left : s.turns < run.turns =
    subst (λ (x : MachineState). x.turns < run.turns) (sym here.state_is) (turns_left run k going) in
    let one = counts_one run.plan (move_of run.plan s) s (next run.plan s) goes (counts run.plan s) in
    let taken = counts_events run.plan (move_of run.plan s) s (next run.plan s) here.events (counts run.plan s) in
    let few = counts_within run.plan (move_of run.plan s) s (next run.plan s) (counts run.plan s) in
    let stands : after.state ≡ next run.plan s = ap (λ (x : WholeState). x.state) is in
    record {
      state_is = stands ∙ ap (next run.plan) here.state_is ∙ sym (state_behind run k);
      opening_is = ap (λ (x : WholeState). x.opening) is ∙ here.opening_is;
      reached = reached_behind run k here.reached going;
      count = omega (arith, one, here.count, ap (λ (x : MachineState). x.turns) stands, ap (λ (x : MachineState). x.taken) stands);
      within = omega (arith, few, left, ap (λ (x : MachineState). x.turns) stands);
      events = omega (arith, taken, ap (λ (x : MachineState). x.taken) stands);
    }

-- a turn isn't rest, and counts one
turn_goes : (m : Move) → m ≡ move.Turn → is_rest m ≡ false
turn_goes m is = ap is_rest is

turn_counts : (plan : List Event) (m : Move) (s after : MachineState) → m ≡ move.Turn → CountsSteps plan m s after
    → TakesOneTurn s after
turn_counts plan m s after is counts = subst (λ (x : Move). CountsSteps plan x s after) is counts

-- where quick turns lead, no more than are left
pub record IsLed (run : RunParts) (from n : ℕ) (after : MachineState) : Type 0 where
  pub state_is : after ≡ state_at run (from + n)
  pub reached : IsInRun run (from + n)
  pub quiet : AreQuietBetween run from (from + n)

none_between : (run : RunParts) (k : ℕ) → AreQuietBetween run k (k + 0)
none_between run k i least below = absurd (omega (arith, least, below))

one_between : (run : RunParts) (from to : ℕ) → IsQuietAt run from → AreQuietBetween run (suc from) to
    → AreQuietBetween run from to
one_between run from to one later k least below =
    ⊎_elim (λ (more : from < k). later k (omega (arith, more)) below)
    (λ (most : k ≤ from). subst (IsQuietAt run) (omega (arith, least, most)) one) (cases_lt from k)

led_nowhere : (run : RunParts) (k : ℕ) (s after : MachineState) → s ≡ state_at run k → after ≡ s → IsInRun run k
    → IsLed run k 0 after
led_nowhere run k s after here same reached = record {
  state_is = same ∙ here ∙ ap (state_at run) (omega arith);
  reached = subst (IsInRun run) (omega arith) reached;
  quiet = none_between run k;
}

led_further : (run : RunParts) (k n : ℕ) (after : MachineState) → IsQuietAt run k → IsLed run (suc k) n after
    → IsLed run k (suc n) after
led_further run k n after one led = record {
  state_is = led.state_is ∙ ap (state_at run) (omega arith);
  reached = subst (IsInRun run) (omega arith) led.reached;
  quiet = one_between run k (k + suc n) one (λ i least below. led.quiet i least (omega (arith, below)));
}

pub led_on : Counts → (o : Opening) (run : RunParts) (n k : ℕ) (s after : MachineState) → s ≡ state_at run k
    → AreQuietSteps n o run.plan s after → s.turns + n ≤ run.turns → IsInRun run k → IsLed run k n after
led_on counts o run zero k s after here same within reached = led_nowhere run k s after here same reached
led_on counts o run (suc n) k s after here (one, later) within reached =
    let turn = turn_counts run.plan (move_of run.plan s) s (next run.plan s) one.turn (counts run.plan s) in
    let at : IsQuietAt run k = record {
      turn = subst (λ (x : MachineState). move_of run.plan x ≡ move.Turn) here one.turn;
      quiet = subst (λ (x : MachineState). seen_by move.Turn x ≡ seen.Quiet) here one.quiet;
    } in
    let turns : (state_at run k).turns < run.turns =
    subst (λ (x : MachineState). x.turns < run.turns) here (omega (arith, within)) in
    let going : is_over run k ≡ false = going_by run k turns (turn_goes _ at.turn) in
    led_further run k n after at
    (led_on counts o run n (suc k) (next run.plan s) after
    (ap (next run.plan) here ∙ sym (state_behind run k)) later (omega (arith, within, turn.turns))
    (reached_behind run k reached going))

-- quick turns lead from a moment to a later one
pub record IsHurriedTo (run : RunParts) (from to : ℕ) (after : WholeState) : Type 0 where
  pub moment : IsMoment run to after
  pub quiet : AreQuietBetween run from to

pub moment_hurried : Counts → (run : RunParts) (k limit to : ℕ) (w after : WholeState) → IsMoment run k w
    → limit ≤ run.turns → w.state.turns ≤ limit → IsHurried run.plan limit w after
    → to ≡ k + (after.state.turns - w.state.turns) → IsHurriedTo run k to after
moment_hurried counts run k limit to w after here most before hurried is =
    let within = hurried.within before in
    let led : IsLed run k hurried.steps after.state =
    led_on counts w.opening run hurried.steps k w.state after.state here.state_is hurried.quiet
    (omega (arith, hurried.turns, within, most)) here.reached in
    let same : k + hurried.steps ≡ to = omega (arith, is, hurried.turns) in
    record {
      moment = record {
        state_is = led.state_is ∙ ap (state_at run) same;
        opening_is = hurried.opening ∙ here.opening_is;
        reached = subst (IsInRun run) same led.reached;
        count = omega (arith, same, here.count, hurried.turns, hurried.taken);
        within = omega (arith, within, most);
        events = omega (arith, here.events, hurried.taken);
      };
      quiet = subst (AreQuietBetween run k) same led.quiet;
    }

-- a run is over by its turns, or by rest
pub over_by_turns : (run : RunParts) (k : ℕ) (w : WholeState) → IsMoment run k w → (turns most : ℕ) → turns ≡ w.state.turns
    → most ≡ run.turns → nat_le most turns ≡ true → true ≡ is_over run k
over_by_turns run k w here turns most is limit there =
    let same : nat_le run.turns (state_at run k).turns ≡ true =
    ap (λ n. nat_le n (state_at run k).turns) (sym limit)
    ∙ ap (nat_le most) (sym (is ∙ ap (λ (x : MachineState). x.turns) here.state_is)) ∙ there in
    sym (over_there run k ∙ or_left _ _ same)

pub over_by_rest : (run : RunParts) (k : ℕ) (w : WholeState) → IsMoment run k w → (turns most : ℕ) (done : Bool)
    → turns ≡ w.state.turns → most ≡ run.turns → nat_le most turns ≡ false → done ≡ is_rest (move_of run.plan w.state)
    → done ≡ is_over run k
over_by_rest run k w here turns most done is limit below rests =
    let same : nat_le run.turns (state_at run k).turns ≡ false =
    ap (λ n. nat_le n (state_at run k).turns) (sym limit)
    ∙ ap (nat_le most) (sym (is ∙ ap (λ (x : MachineState). x.turns) here.state_is)) ∙ below in
    rests ∙ ap (λ (x : MachineState). is_rest (move_of run.plan x)) here.state_is
    ∙ sym (over_there run k ∙ ap (λ b. b || is_rest (move_of run.plan (state_at run k))) same)
