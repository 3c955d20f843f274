-- A run step by step: its text from a state on, and what of it went out.
use Rattle.std.proofs.Common.{◌≡◌, ℕ, suc, ◌+◌, ◌-◌, ◌<◌, ◌≤◌, zero, Bool, true, false, inl, inr, Result, List, [], ◌++◌, length, sym, ap, ◌∙◌, refl, subst, append_assoc, arith}
use Rattle.std.specs.Prelude.{◌==◌, if◌then◌else◌, Option, None, Some}
use Rattle.std.proofs.lemmas.Bool.{cases_lt, eqb-false}
use Rattle.std.specs.Io.KnownBytes.{Appends}
use Rattle.std.proofs.KnownBytes.{Appends-trans, Appends-nil}
use Rattle.nk_host.specs.FaultCounts.{RoseTo}
use Rattle.nk_host.specs.Taken.{AppendsPrefix}
use Rattle.nk_host.specs.TextPuts.{IsTextPut}
use Rattle.irq_plan.specs.declared.event.Event.{Event}
use Rattle.gate_state.specs.declared.moves.Move.{Move}
use Rattle.gate_state.specs.declared.moves.Move.TheVariants as move
use Rattle.gate_state.specs.MachineStates.{MachineState, Opening, nested_of}
use Rattle.gate_state.specs.MachineSteps.{move_of, next, state}
use Rattle.gate_state.specs.StepsTaken.{CountsSteps}
use Rattle.gate_state.specs.WholeMachine.{WholeState, is_rest}
use Rattle.nk_run.specs.declared.ending.Ending.{Ending}
use Rattle.nk_run.specs.declared.ending.Ending.TheVariants as ending
use Rattle.report_text.specs.ClosingSection.{section}
use Rattle.report_text.specs.RunLines.{ending_line, turns_line}
use Rattle.nk_run.specs.Clauses.{SinkRose, TookPrefix}
use Rattle.nk_run.specs.RunStates.{closing, ended, ending_at, is_halted, lines_from, one_unless, run_length, run_text, shown_by, steps_within}
use Rattle.nk_run.specs.Witness.{sink_change}
use Rattle.nk_run.proofs.Texts.{prefix_behind, prefix_of_both, rose_before, went_on}

-- Whether the run goes on.

-- where it goes on, the turns aren't all taken, and the machine doesn't rest
going_parts : (all rests : Bool) → (if all then Some ending.Steps else if rests then Some ending.Halted else None) ≡ None
    → (all ≡ false) × (rests ≡ false)
going_parts true rests e = absurd (cc)
going_parts false true e = absurd (cc)
going_parts false false e = (refl, refl)

pub not_resting : (steps : ℕ) (plan : List Event) (s : MachineState) → ending_at steps plan s ≡ None → is_rest (move_of plan s) ≡ false
unfolding ending_at
not_resting steps plan s e = (going_parts (s.turns == steps) (is_rest (move_of plan s)) e).1

pub turn_left : (steps : ℕ) (plan : List Event) (s : MachineState) → s.turns ≤ steps → ending_at steps plan s ≡ None → s.turns < steps
unfolding ending_at
turn_left steps plan s within e =
    let other = (going_parts (s.turns == steps) (is_rest (move_of plan s)) e).0 in
    elim (cases_lt s.turns steps) [
      | inl less ↦ less
      | inr most ↦ absurd (eqb-false s.turns steps other (omega (arith, within, most)))
    ]

-- The text from a state on.

-- a step is one of those that are left
abbrev pub left : ℕ → List Event → MachineState → ℕ
left steps plan s = (steps - s.turns) + (length plan - s.taken)

-- how a step counts
pub record IsStep (steps : ℕ) (plan : List Event) (s after : MachineState) : Type 0 where
  pub less : left steps plan s ≡ suc (left steps plan after)
  pub turns : after.turns ≤ steps

pub counted : (steps : ℕ) (plan : List Event) (s after : MachineState) (m : Move) → s.turns < steps
    → is_rest m ≡ false → CountsSteps plan m s after → IsStep steps plan s after
counted steps plan s after move.Serve turns goes c =
    record { less = omega (arith, c.turns, c.taken, turns); turns = omega (arith, c.turns, turns) }
counted steps plan s after (move.Take what) turns goes c =
    record { less = omega (arith, c.turns, c.taken, c.left); turns = omega (arith, c.turns, turns) }
counted steps plan s after move.Turn turns goes c =
    record { less = omega (arith, c.turns, c.taken, turns); turns = omega (arith, c.turns, turns) }
counted steps plan s after move.Rest turns goes c = absurd (cc)

pub length_going : (steps : ℕ) (plan : List Event) (s : MachineState) → ending_at steps plan s ≡ None
    → left steps plan s ≡ suc (left steps plan (next plan s)) → run_length steps plan s ≡ suc (run_length steps plan (next plan s))
unfolding run_length steps_within
length_going steps plan s e less =
    let most = left steps plan (next plan s) in
    ap (λ n. steps_within n steps plan s) less
    ∙ ap (λ (o : Option Ending). one_unless o (steps_within most steps plan (next plan s))) e

-- a step's text, and then the text from the state after it
pub text_going : (o : Opening) (steps : ℕ) (plan : List Event) (s : MachineState) → ending_at steps plan s ≡ None
    → left steps plan s ≡ suc (left steps plan (next plan s))
    → run_text o steps plan s ≡ shown_by (move_of plan s) s ++ run_text o steps plan (next plan s)
unfolding run_text lines_from state
text_going o steps plan s e less =
    let n = run_length steps plan (next plan s) in
    ap (λ n. lines_from n plan s ++ closing o steps plan (state plan s n)) (length_going steps plan s e less)
    ∙ append_assoc (shown_by (move_of plan s) s) (lines_from n plan (next plan s)) (closing o steps plan (state plan (next plan s) n))

pub ends_within : (most steps : ℕ) (plan : List Event) (s : MachineState) (reason : Ending) → ending_at steps plan s ≡ Some reason → steps_within most steps plan s ≡ 0
unfolding steps_within
ends_within zero steps plan s reason e = refl
ends_within (suc most) steps plan s reason e = ap (λ (o : Option Ending). one_unless o (steps_within most steps plan (next plan s))) e

text_ended : (o : Opening) (steps : ℕ) (plan : List Event) (s : MachineState) (reason : Ending) → ending_at steps plan s ≡ Some reason
    → run_text o steps plan s
    ≡ ending_line (is_halted reason) ++ (turns_line s.turns ++ section o.image o.frames (nested_of s))
unfolding run_text lines_from state run_length closing
text_ended o steps plan s reason e =
    ap (λ n. lines_from n plan s ++ closing o steps plan (state plan s n)) (ends_within (left steps plan s) steps plan s reason e)
    ∙ ap (λ (why : Option Ending). ended why ++ (turns_line s.turns ++ section o.image o.frames (nested_of s))) e

-- What the loop keeps.

-- some of the text went out, and the rest is the text from this state on, of the machine's opening
pub record IsGoing {O : Type 0} (taken : O → Option (List ℕ)) (faults : O → ℕ) (first now : O) (whole : List ℕ) (o : Opening) (steps : ℕ)
    (plan : List Event) (w : WholeState) : Type 0 where
  pub opening : w.opening ≡ o
  pub done : List ℕ
  pub split : whole ≡ done ++ run_text o steps plan w.state
  pub appended : Appends (taken first) (taken now) done
  pub never_fell : faults first ≤ faults now
  pub turns_within : w.state.turns ≤ steps

module _ {O : Type 0} (taken : O → Option (List ℕ)) (faults : O → ℕ) (first now : O) (o : Opening) (steps : ℕ) (plan : List Event) where
  -- at first nothing went out
  pub begins : (w : WholeState) → w.opening ≡ o → w.state.turns ≤ steps
      → IsGoing taken faults first first (run_text o steps plan w.state) o steps plan w
  begins w opening turns_within = record {
    opening = opening;
    done = [];
    split = refl;
    appended = Appends-nil (taken first);
    never_fell = omega arith;
    turns_within = turns_within;
  }

  module _ (whole : List ℕ) (w : WholeState) (going : IsGoing taken faults first now whole o steps plan w) where
    step_is : ending_at steps plan w.state ≡ None → CountsSteps plan (move_of plan w.state) w.state (next plan w.state)
        → IsStep steps plan w.state (next plan w.state)
    step_is e counts =
        counted steps plan w.state (next plan w.state) (move_of plan w.state) (turn_left steps plan w.state going.turns_within e)
        (not_resting steps plan w.state e) counts

    -- fewer steps are left then
    pub goes_less : ending_at steps plan w.state ≡ None → CountsSteps plan (move_of plan w.state) w.state (next plan w.state) → (after : MachineState)
        → after ≡ next plan w.state → left steps plan after < left steps plan w.state
    goes_less e counts after is =
        let it = step_is e counts in
        let same = ap (left steps plan) is in
        omega (arith, it.less, same)

    -- a step was taken, and what it shows went out
    pub goes_on : (later : O) (after : WholeState) → after.opening ≡ w.opening → after.state ≡ next plan w.state
        → ending_at steps plan w.state ≡ None → CountsSteps plan (move_of plan w.state) w.state (next plan w.state)
        → Appends (taken now) (taken later) (shown_by (move_of plan w.state) w.state) → faults now ≤ faults later
        → IsGoing taken faults first later whole o steps plan after
    goes_on later after opening is e counts put low =
        let it = step_is e counts in
        let bytes = shown_by (move_of plan w.state) w.state in
        let turns = ap (λ (s : MachineState). s.turns) is in
        record {
          opening = opening ∙ going.opening;
          done = going.done ++ bytes;
          split = going.split ∙ ap (λ l. going.done ++ l) (text_going o steps plan w.state e it.less)
              ∙ sym (append_assoc going.done bytes (run_text o steps plan (next plan w.state)))
              ∙ ap (λ (s : MachineState). (going.done ++ bytes) ++ run_text o steps plan s) (sym is);
          appended = Appends-trans (taken first) (taken now) (taken later) going.done bytes going.appended put;
          never_fell = omega (arith, going.never_fell, low);
          turns_within = omega (arith, turns, it.turns);
        }

    -- a step was taken, and a fault cut what it shows
    pub was_cut : (later : O) → ending_at steps plan w.state ≡ None → CountsSteps plan (move_of plan w.state) w.state (next plan w.state)
        → RoseTo (faults now) (faults later) → AppendsPrefix (taken now) (taken later) (shown_by (move_of plan w.state) w.state)
        → SinkRose (sink_change taken faults first later) × TookPrefix (sink_change taken faults first later) whole
    was_cut later e counts rose cut =
        let bytes = shown_by (move_of plan w.state) w.state in
        let rest = run_text o steps plan (next plan w.state) in
        let text = text_going o steps plan w.state e (step_is e counts).less in (
          rose_before (faults first) (faults now) (faults later) going.never_fell rose,
          subst (AppendsPrefix (taken first) (taken later)) (sym going.split)
              (prefix_behind (taken first) (taken now) (taken later) going.done _ going.appended
              (subst (AppendsPrefix (taken now) (taken later)) (sym text) (prefix_of_both (taken now) (taken later) bytes rest cut))),
        )

    -- the run ended, and the rest was written or cut
    pub closes : {A E : Type 0} (later : O) (reason : Ending) (put : Result A E) → ending_at steps plan w.state ≡ Some reason
        → IsTextPut taken faults now later (ending_line (is_halted reason)
        ++ (turns_line w.state.turns ++ section o.image o.frames (nested_of w.state))) put
        → IsTextPut taken faults first later whole put
    closes later reason put e written =
        let text = going.split ∙ ap (λ l. going.done ++ l) (text_ended o steps plan w.state reason e) in
        subst (λ l. IsTextPut taken faults first later l put) (sym text)
        (went_on taken faults first now later going.done going.done _ put refl going.never_fell going.appended written)
