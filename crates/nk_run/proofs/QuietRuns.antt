-- A machine that hurried is at a later state of the same run: what the run tells from there on is the same.
use Rattle.std.proofs.Common.{◌≡◌, ℕ, zero, suc, ◌+◌, ◌<◌, ◌≤◌, Bool, true, false, List, [], ◌++◌, refl, sym, ap, ◌∙◌, arith}
use Rattle.std.specs.Prelude.{◌==◌, if◌then◌else◌, Option, None, Some}
use Rattle.std.proofs.lemmas.Bool.{ne_eqb}
use Rattle.irq_plan.specs.declared.event.Event.{Event}
use Rattle.gate_state.specs.declared.moves.Move.{Move}
use Rattle.gate_state.specs.declared.moves.Move.TheVariants as move
use Rattle.gate_state.specs.MachineStates.{MachineState, Opening}
use Rattle.gate_state.specs.MachineSteps.{after_turn, move_of, next, next_by}
use Rattle.gate_state.specs.QuietSteps.{AreQuietSteps, IsHurried, IsQuietStep}
use Rattle.gate_state.specs.StepsTaken.{TakesOneTurn}
use Rattle.gate_state.specs.WholeMachine.{WholeState, is_rest}
use Rattle.nk_run.specs.declared.count.Tally.{Tally}
use Rattle.nk_run.specs.declared.ending.Ending.TheVariants as ending
use Rattle.nk_run.specs.RunStates.{ending_at, run_text, shown, shown_by}
use Rattle.nk_run.specs.WorkSummary.{summary_from, with_shown, with_step}
use Rattle.nk_run.proofs.CountedRuns.{IsCounting, summary_going}
use Rattle.nk_run.proofs.Runs.{IsGoing, IsStep, counted, left, text_going}

-- A quiet step is one at which the run goes on.

takes_turn : (plan : List Event) (s : MachineState) → move_of plan s ≡ move.Turn → TakesOneTurn s (next plan s)
unfolding next after_turn
takes_turn plan s turn =
    let is : next plan s ≡ after_turn s = ap (λ (m : Move). next_by m s) turn in
    record { turns = ap (λ (s : MachineState). s.turns) is; taken = ap (λ (s : MachineState). s.taken) is }

no_reason : (all rests : Bool) → all ≡ false → rests ≡ false
    → (if all then Some ending.Steps else if rests then Some ending.Halted else None) ≡ None
no_reason true rests going moves = absurd (cc)
no_reason false true going moves = absurd (cc)
no_reason false false going moves = refl

goes : (steps : ℕ) (plan : List Event) (s : MachineState) → move_of plan s ≡ move.Turn → s.turns < steps → ending_at steps plan s ≡ None
unfolding ending_at
goes steps plan s turn less =
    no_reason (s.turns == steps) (is_rest (move_of plan s)) (ne_eqb s.turns steps (λ same. absurd (omega (arith, same, less)))) (ap is_rest turn)

steps_on : (steps : ℕ) (plan : List Event) (s : MachineState) → move_of plan s ≡ move.Turn → s.turns < steps → IsStep steps plan s (next plan s)
steps_on steps plan s turn less = counted steps plan s (next plan s) move.Turn less refl (takes_turn plan s turn)

-- It shows nothing, and nothing is counted.

module _ (p : Opening) (steps : ℕ) (plan : List Event) where
  quiet_text : (o : Opening) (s : MachineState) → IsQuietStep p plan s → s.turns < steps
      → run_text o steps plan s ≡ run_text o steps plan (next plan s)
  quiet_text o s quiet less =
      let nothing : shown_by (move_of plan s) s ≡ [] = ap (λ (m : Move). shown_by m s) quiet.turn ∙ ap shown quiet.quiet in
      text_going o steps plan s (goes steps plan s quiet.turn less) (steps_on steps plan s quiet.turn less).less
      ∙ ap (λ l. l ++ run_text o steps plan (next plan s)) nothing

  quiet_summary : (t : Tally) (s : MachineState) → IsQuietStep p plan s → s.turns < steps
      → summary_from steps plan s t ≡ summary_from steps plan (next plan s) t
  quiet_summary t s quiet less =
      let nothing : with_step (move_of plan s) s t ≡ t =
      ap (λ (m : Move). with_step m s t) quiet.turn ∙ ap (λ it. with_shown it t) quiet.quiet in
      summary_going steps plan s t (goes steps plan s quiet.turn less) (steps_on steps plan s quiet.turn less).less
      ∙ ap (summary_from steps plan (next plan s)) nothing

  -- what each of them leaves, all of them leave
  all_leave : (text : MachineState → List ℕ)
      → ((s : MachineState) → IsQuietStep p plan s → s.turns < steps → text s ≡ text (next plan s))
      → (k : ℕ) (s after : MachineState) → s.turns + k ≤ steps → AreQuietSteps k p plan s after → text s ≡ text after
  all_leave text leaves zero s after within is = ap text (sym is)
  all_leave text leaves (suc k) s after within quiet =
      let turns = (takes_turn plan s quiet.0.turn).turns in
      leaves s quiet.0 (omega (arith, within))
      ∙ all_leave text leaves k (next plan s) after (omega (arith, within, turns)) quiet.1

-- What the loops keep stands over a hurry, and no more steps are left.

within_limit : (plan : List Event) (limit : ℕ) (w after : WholeState) (hurried : IsHurried plan limit w after)
    → w.state.turns ≤ limit → w.state.turns + hurried.steps ≤ limit
within_limit plan limit w after hurried within = let bound = hurried.within within in omega (arith, hurried.turns, bound)

pub goes_quietly : {O : Type 0} {taken : O → Option (List ℕ)} {faults : O → ℕ} {first now : O} {whole : List ℕ} {o : Opening} {steps : ℕ}
    {plan : List Event} {w after : WholeState} → IsGoing taken faults first now whole o steps plan w → IsHurried plan steps w after
    → IsGoing taken faults first now whole o steps plan after
goes_quietly {o = o} {steps = steps} {plan = plan} {w = w} {after = after} going hurried =
    let same = all_leave w.opening steps plan (run_text o steps plan) (quiet_text w.opening steps plan o) hurried.steps w.state after.state
    (within_limit plan steps w after hurried going.turns_within) hurried.quiet in
    record {
      opening = hurried.opening ∙ going.opening;
      done = going.done;
      split = going.split ∙ ap (λ l. going.done ++ l) same;
      appended = going.appended;
      never_fell = going.never_fell;
      turns_within = hurried.within going.turns_within;
    }

pub counts_quietly : {steps : ℕ} {plan : List Event} {first : MachineState} {t : Tally} {w after : WholeState}
    → IsCounting steps plan first w.state t → IsHurried plan steps w after → IsCounting steps plan first after.state t
counts_quietly {steps = steps} {plan = plan} {t = t} {w = w} {after = after} counting hurried =
    let same = all_leave w.opening steps plan (λ s. summary_from steps plan s t) (quiet_summary w.opening steps plan t) hurried.steps
    w.state after.state (within_limit plan steps w after hurried counting.turns_within) hurried.quiet in
    record {
      whole = counting.whole ∙ same;
      turns_within = hurried.within counting.turns_within;
      within = record {
        calls = omega (arith, hurried.turns, counting.within.calls);
        accepted = omega (arith, hurried.turns, counting.within.accepted);
        deliveries = omega (arith, hurried.turns, counting.within.deliveries);
      };
    }

pub hurried_left : {limit : ℕ} {plan : List Event} {w after : WholeState} (steps : ℕ) → IsHurried plan limit w after
    → left steps plan after.state ≤ left steps plan w.state
hurried_left steps hurried = omega (arith, hurried.turns, hurried.taken)
