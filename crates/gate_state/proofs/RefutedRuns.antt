-- Runs that haven't the property that they are refused, each named by the sentence that it guards.
use Rattle.std.proofs.Common.{◌≡◌, ℕ, zero, suc, ◌+◌, ◌<◌, ◌≤◌, false, List, sym, ap, subst, ◌∙◌, arith}
use Rattle.irq_plan.specs.declared.event.Event.{Event}
use Rattle.nk_bits.specs.Accesses.{wp_of}
use Rattle.gate_state.specs.declared.moves.Move.{Move}
use Rattle.gate_state.specs.declared.moves.Move.TheVariants as move
use Rattle.gate_state.specs.MachineStates.{MachineState}
use Rattle.gate_state.specs.MachineSteps.{move_of, next, state}
use Rattle.gate_state.specs.StepsTaken.{CountsSteps, TakesOneTurn}
use Rattle.gate_state.specs.WindowLeft.{IsShortWindow}
use Rattle.gate_state.proofs.RunsSafe.{step_counts}
use Rattle.gate_state.proofs.RunsShort.{state_sum}

-- steps that are turns are counted
turn_counts : (plan : List Event) (s : MachineState) → move_of plan s ≡ move.Turn → (next plan s).turns ≡ s.turns + 1
turn_counts plan s turns =
    let counts : TakesOneTurn s (next plan s) = subst (λ (m : Move). CountsSteps plan m s (next plan s)) turns (step_counts plan s) in
    counts.turns

turns_count : (plan : List Event) (n : ℕ) (s : MachineState)
    → ((k : ℕ) → k < n → move_of plan (state plan s k) ≡ move.Turn) → (state plan s n).turns ≡ s.turns + n
unfolding state
turns_count plan zero s turns = omega arith
turns_count plan (suc n) s turns =
    let first : (next plan s).turns ≡ s.turns + 1 = turn_counts plan s (turns 0 (omega arith)) in
    let rest : (state plan (next plan s) n).turns ≡ (next plan s).turns + n =
    turns_count plan n (next plan s) (λ k before. turns (suc k) (omega (arith, before))) in
    omega (arith, first, rest)

-- a run has no short window in which twelve turns in a row begin with WP clear: the twelfth begins eleven steps behind the
-- first
twelve_turns : (plan : List Event) (first : MachineState) (i : ℕ)
    → ((k : ℕ) → k < 12 → wp_of (state plan first (i + k)).processor.control.cr0 ≡ false)
    → ((k : ℕ) → k < 12 → move_of plan (state plan first (i + k)) ≡ move.Turn)
    → IsShortWindow plan first → ⊥
twelve_turns plan first i clear turns short =
    let most : (state plan first (i + 11)).turns ≤ (state plan first i).turns + 10 =
    short i 11 (λ k within. clear k (omega (arith, within))) in
    let counted : (state plan (state plan first i) 11).turns ≡ (state plan first i).turns + 11 =
    turns_count plan 11 (state plan first i)
    (λ k before. ap (move_of plan) (sym (state_sum plan i k first)) ∙ turns k (omega (arith, before))) in
    let there : (state plan first (i + 11)).turns ≡ (state plan first i).turns + 11 =
    ap (λ (s : MachineState). s.turns) (state_sum plan i 11 first) ∙ counted in
    absurd (omega (arith, most, there))
