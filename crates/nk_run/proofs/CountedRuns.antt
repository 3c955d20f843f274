-- A run that is counted, step by step.
use Rattle.std.proofs.Common.{◌≡◌, ℕ, suc, ◌+◌, ◌<◌, ◌≤◌, Bool, true, false, List, ◌++◌, refl, sym, ap, subst, ◌∙◌, arith}
use Rattle.std.specs.Prelude.{Option, None, Some, if◌then◌else◌}
use Rattle.irq_plan.specs.declared.event.Event.{Event}
use Rattle.nk_bits.specs.declared.call.Answer.{Answer}
use Rattle.gate_state.specs.declared.moves.Move.{Move}
use Rattle.gate_state.specs.declared.moves.Move.TheVariants as move
use Rattle.gate_state.specs.declared.seen.Seen.{Seen}
use Rattle.gate_state.specs.declared.seen.Seen.TheVariants as seen
use Rattle.gate_state.specs.MachineStates.{MachineState, nested_of}
use Rattle.gate_state.specs.MachineSteps.{answer_in, move_of, next, seen_by, state}
use Rattle.gate_state.specs.StepsTaken.{CountsSteps}
use Rattle.gate_state.specs.WholeMachine.{is_rest}
use Rattle.report_text.specs.RunLines.{ending_line, turns_line}
use Rattle.report_text.specs.RunSummary.{summary_lines}
use Rattle.nk_run.specs.declared.count.Tally.{Tally}
use Rattle.nk_run.specs.declared.ending.Ending.{Ending}
use Rattle.nk_run.specs.RunStates.{ended, ending_at, is_halted, run_length}
use Rattle.nk_run.specs.WorkSummary.{is_accepted, nothing_yet, summary_from, summary_of, tally, with_answer, with_shown, with_step}
use Rattle.nk_run.proofs.Runs.{IsStep, counted, ends_within, left, length_going, not_resting, turn_left}

-- no count exceeds the turns that were taken
pub record IsWithin (turns : ℕ) (t : Tally) : Type 0 where
  pub calls : t.calls ≤ turns
  pub accepted : t.accepted ≤ turns
  pub deliveries : t.deliveries ≤ turns

one_more : (b : Bool) (n turns : ℕ) → n ≤ turns → (if b then n + 1 else n) ≤ turns + 1
one_more true n turns within = omega (arith, within)
one_more false n turns within = omega (arith, within)

answered_within : (answer : Answer) (turns : ℕ) (t : Tally) → IsWithin turns t → IsWithin (turns + 1) (with_answer answer t)
answered_within answer turns t within = record {
  calls = omega (arith, within.calls);
  accepted = one_more (is_accepted answer) t.accepted turns within.accepted;
  deliveries = omega (arith, within.deliveries);
}

shown_within : (it : Seen) (turns : ℕ) (t : Tally) → IsWithin turns t → IsWithin (turns + 1) (with_shown it t)
shown_within seen.Event turns t within = record { calls = omega (arith, within.calls); accepted = omega (arith, within.accepted); deliveries = omega (arith, within.deliveries) }
shown_within seen.Quiet turns t within = record { calls = omega (arith, within.calls); accepted = omega (arith, within.accepted); deliveries = omega (arith, within.deliveries) }
shown_within (seen.Console byte) turns t within = record { calls = omega (arith, within.calls); accepted = omega (arith, within.accepted); deliveries = omega (arith, within.deliveries) }
shown_within (seen.Delivered it) turns t within = record { calls = omega (arith, within.calls); accepted = omega (arith, within.accepted); deliveries = omega (arith, within.deliveries) }

within_at : (turns after : ℕ) (t : Tally) → after ≡ turns → IsWithin turns t → IsWithin after t
within_at turns after t same within = record { calls = omega (arith, same, within.calls); accepted = omega (arith, same, within.accepted); deliveries = omega (arith, same, within.deliveries) }

-- a step keeps them so
step_within : (plan : List Event) (s after : MachineState) (m : Move) (t : Tally) → is_rest m ≡ false → CountsSteps plan m s after
    → IsWithin s.turns t → IsWithin after.turns (with_step m s t)
step_within plan s after move.Serve t goes c within =
    within_at (s.turns + 1) after.turns (with_answer (answer_in s) t) (omega (arith, c.turns)) (answered_within (answer_in s) s.turns t within)
step_within plan s after (move.Take what) t goes c within = within_at s.turns after.turns t (omega (arith, c.turns)) within
step_within plan s after move.Turn t goes c within =
    within_at (s.turns + 1) after.turns (with_shown (seen_by move.Turn s) t) (omega (arith, c.turns)) (shown_within (seen_by move.Turn s) s.turns t within)
step_within plan s after move.Rest t goes c within = absurd (cc)

-- the summary of a run whose states are counted from one of them on, by how many steps are left
abbrev summary_after : ℕ → ℕ → List Event → MachineState → Tally → List ℕ
summary_after n steps plan s t =
    ended (ending_at steps plan (state plan s n)) ++ (turns_line (state plan s n).turns
    ++ summary_lines (summary_of (tally n plan s t) (nested_of (state plan s n))))

-- a step is counted, and then those from the state after it
pub summary_going : (steps : ℕ) (plan : List Event) (s : MachineState) (t : Tally) → ending_at steps plan s ≡ None
    → left steps plan s ≡ suc (left steps plan (next plan s))
    → summary_from steps plan s t ≡ summary_from steps plan (next plan s) (with_step (move_of plan s) s t)
unfolding summary_from tally state
summary_going steps plan s t e less = ap (λ n. summary_after n steps plan s t) (length_going steps plan s e less)

pub summary_ended : (steps : ℕ) (plan : List Event) (s : MachineState) (t : Tally) (reason : Ending) → ending_at steps plan s ≡ Some reason
    → summary_from steps plan s t ≡ ending_line (is_halted reason) ++ (turns_line s.turns ++ summary_lines (summary_of t (nested_of s)))
unfolding summary_from tally state run_length
summary_ended steps plan s t reason e =
    ap (λ n. summary_after n steps plan s t) (ends_within (left steps plan s) steps plan s reason e)
    ∙ ap (λ (why : Option Ending). ended why ++ (turns_line s.turns ++ summary_lines (summary_of t (nested_of s)))) e

-- what holds at each state of the loop: the summary is that from here on, with what was counted
pub record IsCounting (steps : ℕ) (plan : List Event) (first s : MachineState) (t : Tally) : Type 0 where
  pub whole : summary_from steps plan first nothing_yet ≡ summary_from steps plan s t
  pub turns_within : s.turns ≤ steps
  pub within : IsWithin s.turns t

pub begins_counting : (steps : ℕ) (plan : List Event) (s : MachineState) → s.turns ≤ steps → IsCounting steps plan s s nothing_yet
begins_counting steps plan s turns = record {
  whole = refl;
  turns_within = turns;
  within = record { calls = omega arith; accepted = omega arith; deliveries = omega arith };
}

module _ (steps : ℕ) (plan : List Event) (first s : MachineState) (t : Tally) (counting : IsCounting steps plan first s t)
    (goes : ending_at steps plan s ≡ None) (counts : CountsSteps plan (move_of plan s) s (next plan s)) where
  counted_step : IsStep steps plan s (next plan s)
  counted_step =
      counted steps plan s (next plan s) (move_of plan s) (turn_left steps plan s counting.turns_within goes)
      (not_resting steps plan s goes) counts

  pub counts_less : (after : MachineState) → after ≡ next plan s → left steps plan after < left steps plan s
  counts_less after is =
      let same = ap (left steps plan) is in
      omega (arith, counted_step.less, same)

  pub counts_on : (after : MachineState) (more : Tally) → after ≡ next plan s → more ≡ with_step (move_of plan s) s t
      → IsCounting steps plan first after more
  counts_on after more is more_is = record {
    whole = counting.whole ∙ summary_going steps plan s t goes counted_step.less
        ∙ (λ i. summary_from steps plan (sym is i) (sym more_is i));
    turns_within = let turns = ap (λ (s : MachineState). s.turns) is in omega (arith, turns, counted_step.turns);
    within =
        let kept = step_within plan s (next plan s) (move_of plan s) t (not_resting steps plan s goes) counts counting.within in
        let turns = ap (λ (s : MachineState). s.turns) is in
        within_at (next plan s).turns after.turns more turns (subst (IsWithin (next plan s).turns) (sym more_is) kept);
  }
