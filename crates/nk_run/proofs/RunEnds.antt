-- Where a run ends: each step takes a turn or an event, so the steps that its length counts lead to the first state at
-- which it ends.
use Rattle.std.proofs.Common.{◌≡◌, ℕ, suc, ◌<◌, ◌≤◌, zero, List, [], sym, ap, refl, subst, arith}
use Rattle.std.specs.Prelude.{Option, None, Some, IsSome}
use Rattle.irq_plan.specs.declared.event.Event.{Event}
use Rattle.irq_plan.specs.PlanFile.{plan_of}
use Rattle.gate_state.specs.MachineOpening.{opening_state}
use Rattle.gate_state.specs.MachineStates.{MachineState}
use Rattle.gate_state.specs.MachineSteps.{move_of, next, state}
use Rattle.gate_state.specs.StepsTaken.{CountsSteps}
use Rattle.image_maker.specs.MadeImage.{image_of_number}
use Rattle.command_words.specs.declared.command_line.Command.{Command}
use Rattle.command_words.specs.declared.command_line.Command.TheVariants.{Scan, Map, Run, Replay, Make, Work, Join, Audit, Assemble, Listing}
use Rattle.command_words.specs.declared.command_line.Role.TheVariants.{Input, Plan}
use Rattle.file_scan.specs.ShelfChanges.{Files}
use Rattle.nk_run.specs.declared.ending.Ending.{Ending}
use Rattle.nk_run.specs.Clauses.{HasEnd}
use Rattle.nk_run.specs.Outcome.{events_in, file_in, opening_in}
use Rattle.nk_run.specs.RunStates.{EndsAfter, ending_at, one_unless, run_length, steps_within}
use Rattle.nk_run.proofs.Runs.{IsStep, counted, ends_within, left, not_resting, turn_left}

-- it ends at this state
ends_here : (steps : ℕ) (plan : List Event) (s : MachineState) (reason : Ending) → ending_at steps plan s ≡ Some reason → EndsAfter 0 steps plan s
unfolding state
ends_here steps plan s reason e = record {
  there = subst IsSome (sym e) refl;
  not_before = λ k less. absurd (omega (arith, less));
}

-- it goes on, and ends after the next state
goes_before : (n steps : ℕ) (plan : List Event) (s : MachineState) → ending_at steps plan s ≡ None → EndsAfter n steps plan (next plan s)
    → (k : ℕ) → k < suc n → ending_at steps plan (state plan s k) ≡ None
unfolding state
goes_before n steps plan s e later zero less = e
goes_before n steps plan s e later (suc k) less = later.not_before k (omega (arith, less))

ends_later : (n steps : ℕ) (plan : List Event) (s : MachineState) → ending_at steps plan s ≡ None → EndsAfter n steps plan (next plan s)
    → EndsAfter (suc n) steps plan s
unfolding state
ends_later n steps plan s e later = record { there = later.there; not_before = goes_before n steps plan s e later }

module _ (steps : ℕ) (plan : List Event) (counts : (s : MachineState) → CountsSteps plan (move_of plan s) s (next plan s)) where
  -- how a step counts where it goes on
  goes : (s : MachineState) → s.turns ≤ steps → ending_at steps plan s ≡ None → IsStep steps plan s (next plan s)
  goes s within e =
      counted steps plan s (next plan s) (move_of plan s) (turn_left steps plan s within e) (not_resting steps plan s e) (counts s)

  -- as many steps as are left are enough
  ends_by : (most : ℕ) (s : MachineState) (why : Option Ending) → ending_at steps plan s ≡ why → s.turns ≤ steps → left steps plan s ≤ most
      → EndsAfter (steps_within most steps plan s) steps plan s
  unfolding steps_within
  ends_by most s (Some reason) e within fits =
      subst (λ n. EndsAfter n steps plan s) (sym (ends_within most steps plan s reason e)) (ends_here steps plan s reason e)
  ends_by zero s None e within fits = absurd (omega (arith, (goes s within e).less, fits))
  ends_by (suc most) s None e within fits =
      let step = goes s within e in
      let later = ends_by most (next plan s) _ refl step.turns (omega (arith, step.less, fits)) in
      subst (λ n. EndsAfter n steps plan s)
      (sym (ap (λ (o : Option Ending). one_unless o (steps_within most steps plan (next plan s))) e))
      (ends_later (steps_within most steps plan (next plan s)) steps plan s e later)

  pub ends_first : (s : MachineState) → s.turns ≤ steps → EndsAfter (run_length steps plan s) steps plan s
  unfolding run_length
  ends_first s within = ends_by (left steps plan s) s _ refl within (omega arith)

-- so every run goes on to such a state, since it begins before its first turn
pub ended_where_run : ((steps : ℕ) (plan : List Event) (s : MachineState) → s.turns ≤ steps → EndsAfter (run_length steps plan s) steps plan s)
    → (words : List (List ℕ)) (files : Files) (command : Command) → HasEnd command words files
ended_where_run law words files Scan = tt
ended_where_run law words files (Map frames va) = tt
ended_where_run law words files (Replay frames) = tt
ended_where_run law words files (Audit frames id) = tt
ended_where_run law words files Assemble = tt
ended_where_run law words files (Listing address count) = tt
ended_where_run law words files (Make number) = tt
ended_where_run law words files Join = tt
ended_where_run law words files (Run steps frames) =
    law steps (events_in (plan_of (file_in files words Plan))) (opening_state (opening_in files words frames) (file_in files words Input)) (omega arith)
ended_where_run law words files (Work number) =
    law 2000000 [] (opening_state (record { image = image_of_number number; frames = 4096 }) []) (omega arith)
