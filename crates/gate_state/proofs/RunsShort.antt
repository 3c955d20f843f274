-- Over a run, while WP is clear, turns with those that are left never rise: so at most eleven begin in a row with it clear.
use Rattle.std.proofs.Common.{◌≡◌, ℕ, zero, suc, ◌+◌, ◌<◌, ◌≤◌, true, false, List, refl, sym, ap, subst, ◌∙◌, arith, inl, inr}
use Rattle.std.proofs.lemmas.Bool.{false≢true}
use Rattle.irq_plan.specs.declared.event.Event.{Event}
use Rattle.irq_plan.specs.PlannedEvents.{IsPlan}
use Rattle.nk_bits.specs.Accesses.{wp_of}
use Rattle.cpu_step.specs.Turns.{enters_body}
use Rattle.gate_state.specs.declared.moves.Move.{Move}
use Rattle.gate_state.specs.declared.moves.Move.TheVariants as move
use Rattle.gate_state.specs.GuardedStates.{IsGuarded}
use Rattle.gate_state.specs.MachineStates.{MachineState, Opening}
use Rattle.gate_state.specs.MachineSteps.{after_turn, move_of, next, next_by, served, state}
use Rattle.gate_state.specs.SafeStates.{TakesTurn}
use Rattle.gate_state.specs.StepsTaken.{CountsSteps, TakesOneEvent, TakesOneTurn}
use Rattle.gate_state.specs.WindowLeft.{ComesNearer, IsNearer, IsShortWindow, left}
use Rattle.gate_state.proofs.RunsSafe.{IsMove, StepsKept, count_by, move_is, next_guarded, resting, serving, state_guarded, taking, turning}
use Rattle.gate_state.proofs.TurnNearer.{event_left}
use Rattle.gate_state.proofs.WindowNearer.{left_within}

-- with WP clear each kind of step comes nearer to where it is set
pub record StepsNearer (o : Opening) : Type 0 where
  pub turn : (s : MachineState) → TakesTurn s.processor → IsGuarded o s → wp_of s.processor.control.cr0 ≡ false
      → IsNearer s.processor (after_turn s).processor
  pub body : (s : MachineState) → enters_body s.processor ≡ true → IsGuarded o s
      → left (served s).processor < left s.processor

-- turns, with those that are left
abbrev together : MachineState → ℕ
together s = s.turns + left s.processor

one_turn : (s after : MachineState) → TakesOneTurn s after → left after.processor < left s.processor
    → together after ≤ together s
one_turn s after counts fewer =
    let Turns : ℕ → Type 0 = λ n. n + left after.processor ≤ together s in
    subst Turns (sym counts.turns) (omega (arith, fewer))

one_event : (plan : List Event) (s after : MachineState) → TakesOneEvent plan s after
    → left after.processor ≡ left s.processor → together after ≤ together s
one_event plan s after counts same = omega (arith, counts.turns, same)

-- states by number, one behind another
pub state_sum : (plan : List Event) (i k : ℕ) (s : MachineState) → state plan s (i + k) ≡ state plan (state plan s i) k
unfolding state
state_sum plan zero k s =
    let same : 0 + k ≡ k = omega arith in
    ap (state plan s) same
state_sum plan (suc i) k s =
    let same : suc i + k ≡ suc (i + k) = omega arith in
    ap (state plan s) same ∙ state_sum plan i k (next plan s)

module _ (o : Opening) (nearer : StepsNearer o) (plan : List Event) where
  step_nearer : (s : MachineState) (m : Move) → IsMove plan s m → IsGuarded o s → wp_of s.processor.control.cr0 ≡ false
      → ComesNearer m s.processor (next_by m s).processor
  step_nearer s move.Serve (serving at) guarded clear = nearer.body s at guarded
  step_nearer s (move.Take what) (taking event outside is) guarded clear = event_left event.what s
  step_nearer s move.Turn (turning takes) guarded clear = nearer.turn s takes guarded clear
  step_nearer s move.Rest (resting outside waits_so) guarded clear = refl

  pub next_nearer : (s : MachineState) → IsGuarded o s → wp_of s.processor.control.cr0 ≡ false
      → ComesNearer (move_of plan s) s.processor (next plan s).processor
  unfolding next
  next_nearer s guarded clear = step_nearer s (move_of plan s) (move_is plan s) guarded clear

  -- a step after which WP is still clear
  step_falls : (s after : MachineState) (m : Move) → CountsSteps plan m s after
      → ComesNearer m s.processor after.processor → wp_of after.processor.control.cr0 ≡ false
      → together after ≤ together s
  step_falls s after move.Serve counts fewer clear = one_turn s after counts fewer
  step_falls s after (move.Take what) counts same clear = one_event plan s after counts same.1
  step_falls s after move.Turn counts (inl set) clear = absurd (false≢true (sym clear ∙ set))
  step_falls s after move.Turn counts (inr fewer) clear = one_turn s after counts fewer
  step_falls s after move.Rest counts same clear =
      subst (λ (x : MachineState). together x ≤ together s) (sym counts) (omega arith)

  module _ (steps : StepsKept o) (in_form : IsPlan plan) where
    falls : (n : ℕ) (s : MachineState) → IsGuarded o s
        → ((k : ℕ) → k ≤ n → wp_of (state plan s k).processor.control.cr0 ≡ false)
        → together (state plan s n) ≤ together s
    unfolding state next
    falls zero s guarded clear = omega arith
    falls (suc n) s guarded clear =
        let one : together (next plan s) ≤ together s =
        step_falls s (next plan s) (move_of plan s) (count_by plan s (move_of plan s) (move_is plan s))
        (next_nearer s guarded (clear 0 (omega arith))) (clear 1 (omega arith)) in
        let rest : together (state plan (next plan s) n) ≤ together (next plan s) =
        falls n (next plan s) (next_guarded o steps plan in_form s guarded) (λ k within. clear (suc k) (omega (arith, within))) in
        omega (arith, one, rest)

    pub short_window : (first : MachineState) → IsGuarded o first → IsShortWindow plan first
    short_window first guarded i n clear =
        let s : MachineState = state plan first i in
        let over : together (state plan s n) ≤ together s =
        falls n s (state_guarded o steps plan in_form first i guarded)
        (λ k within. subst (λ (x : MachineState). wp_of x.processor.control.cr0 ≡ false) (state_sum plan i k first)
        (clear k within)) in
        let last : 1 ≤ left (state plan s n).processor = (left_within _ _).0 in
        let most : left s.processor ≤ 11 = (left_within _ _).1 in
        let turns : (state plan s n).turns ≤ s.turns + 10 = omega (arith, over, last, most) in
        subst (λ (x : MachineState). x.turns ≤ s.turns + 10) (sym (state_sum plan i n first)) turns
