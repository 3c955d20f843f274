-- The rest of a trace from a state on at which steps are passed over.
use Rattle.std.proofs.Common.{◌≡◌, ◌⊎◌, inl, inr, ℕ, true, false, Option, Some, None, Result, Ok, List, [], ◌++◌, length, sym, ap, subst, ◌∙◌, arith, append_assoc}
use Rattle.irq_plan.specs.declared.event.Event.{Event}
use Rattle.phys_mem.specs.MaskedMemory.{seen}
use Rattle.gate_state.specs.declared.seen.Seen.TheVariants as shows
use Rattle.gate_state.specs.declared.seen.Step.{Step}
use Rattle.gate_state.specs.declared.seen.Step.TheVariants as step
use Rattle.gate_state.specs.declared.touched.StepTouched.{StepTouched}
use Rattle.gate_state.specs.declared.touched.StepTouched.TheVariants.{Nothing}
use Rattle.gate_state.specs.MachineSteps.{move_of, step_by}
use Rattle.gate_state.specs.MachineSteps as machine
use Rattle.gate_state.specs.StepsTaken.{CountsSteps}
use Rattle.gate_state.specs.StepsTouched.{KeepsOutside, ShowsWithin, touched_if_shown}
use Rattle.gate_state.specs.WholeMachine.{HeldState, WholeState, known_of, stepped_whole}
use Rattle.report_text.specs.RunLines.{turns_line}
use Rattle.step_trace.specs.declared.asked.Kind.{Kind}
use Rattle.step_trace.specs.declared.asked.Shown.{Shown}
use Rattle.step_trace.specs.declared.ends.TraceEnd.{TraceEnd}
use Rattle.step_trace.specs.declared.ends.TraceFault.{TraceFault}
use Rattle.step_trace.specs.CopiesOfMemory.{AgreesIn, IsCopyFor}
use Rattle.step_trace.specs.PassedSteps.{ArePassed, AreTaken, IsRestBehind, IsSilent, IsStepFrom, held_with, passes}
use Rattle.step_trace.specs.RestsOfTraces.{IsRest, IsRestTaken, step_shown}
use Rattle.step_trace.specs.ToldSteps.{are_kinds_told}
use Rattle.step_trace.specs.TracesPut.{IsTaken}
use Rattle.step_trace.specs.Traces.{IsNextHeld, end_text, ending_before, ending_behind, is_at}
use Rattle.step_trace.proofs.NearerSteps.{nearer}
use Rattle.step_trace.proofs.PassedTurns.{goes_both, quiet_alone, rested_alone, silent}
use Rattle.step_trace.proofs.TakenTexts.{both_taken, done_as, done_whole, none_taken}
use Rattle.step_trace.proofs.TraceRests.{IsFollowing, ends_here, goes_below, goes_further, goes_on, rest_behind}

-- no test has both answers
false_true : {A : Type 0} → false ≡ true → A
false_true is = absurd (cc)

-- a step that is shown touched nothing, or what it touches if it shows something
pub shows_within : (one : Option Kind) (it : Step) (touched most : StepTouched) → passes one ≡ true
    → are_kinds_told one false it false ≡ true → ShowsWithin it touched most → (touched ≡ Nothing) ⊎ (touched ≡ most)
shows_within one step.Rested touched most passed wanted within = false_true (sym (rested_alone one passed) ∙ wanted)
shows_within one (step.Seen shows.Quiet) touched most passed wanted within = false_true (sym (quiet_alone one passed) ∙ wanted)
shows_within one (step.Seen (shows.Console byte)) touched most passed wanted within = within
shows_within one (step.Seen (shows.Delivered it)) touched most passed wanted within = within
shows_within one (step.Seen shows.Event) touched most passed wanted within = within
shows_within one (step.Called called) touched most passed wanted within = within

-- so a copy that does for the second does for it
pub agrees_within : (touched most : StepTouched) (copy m : List ℕ) → (touched ≡ Nothing) ⊎ (touched ≡ most) → AgreesIn most copy m
    → AgreesIn touched copy m
agrees_within touched most copy m (inl is) agrees = subst (λ (it : StepTouched). AgreesIn it copy m) (sym is) (λ p it. absurd it)
agrees_within touched most copy m (inr is) agrees = subst (λ (it : StepTouched). AgreesIn it copy m) (sym is) agrees

pub copy_for : (shown : Shown) (h next : HeldState) (it : Step) (touched : StepTouched) (copy : List ℕ) → passes shown.only ≡ true
    → are_kinds_told shown.only false it false ≡ true → length h.real ≡ length next.real → KeepsOutside touched h.real next.real
    → ShowsWithin it touched (touched_if_shown h.state h.real) → AgreesIn (touched_if_shown h.state h.real) copy h.real
    → IsCopyFor touched copy h.real next.real
copy_for shown h next it touched copy passed wanted size outside within agrees = record {
  size = size;
  outside = outside;
  agrees = agrees_within touched (touched_if_shown h.state h.real) copy h.real
      (shows_within shown.only it touched (touched_if_shown h.state h.real) passed wanted within) agrees;
}

-- the step from a state at which the trace doesn't end leaves fewer
pub step_from : (shown : Shown) (steps : ℕ) (plan : List Event) (h next : HeldState) (it : Step)
    → ending_before shown steps plan h.state ≡ None → known_of next ≡ stepped_whole plan (known_of h)
    → seen next.real ≡ next.state.memory → it ≡ step_by (move_of plan h.state) h.state
    → CountsSteps plan (move_of plan h.state) h.state (machine.next plan h.state) → IsStepFrom shown steps plan h it next
step_from shown steps plan h next it goes known real is counts = record {
  goes = goes;
  follows = record { known = known; real = real };
  is = is;
  nearer = nearer steps plan (known_of h) (known_of next) (goes_below shown steps plan h.state goes)
      (goes_further shown steps plan h.state goes) known counts;
}

module _ {shown : Shown} {steps : ℕ} {plan : List Event} {h next : HeldState} {it : Step} (from : IsStepFrom shown steps plan h it next) where
  -- it keeps the opening
  opening_behind : next.opening ≡ h.opening
  opening_behind = ap (λ (w : WholeState). w.opening) from.follows.known

  module _ {last : WholeState} (passed : passes shown.only ≡ true) (quiet : IsSilent shown it)
      (over : ArePassed shown steps plan (known_of next) last) where
    -- the rest of the trace behind the steps that were passed over is that behind the state before them
    leads_over : (why : Option TraceEnd) (text : List ℕ) → IsRestBehind shown steps plan last why text
        → IsRest shown steps plan (ending_before shown steps plan h.state) h why text
    leads_over why text r =
        let behind = over.leads why text r in
        let n : HeldState = held_with (known_of next) behind.real in
        let follows : IsNextHeld plan h n = record { known = from.follows.known; real = behind.seen_is } in
        subst (λ (l : List ℕ). IsRest shown steps plan (ending_before shown steps plan h.state) h why (l ++ text))
        (silent shown plan h n it passed from.is quiet)
        (rest_behind shown steps plan h n why text from.goes follows behind.rest)

    -- the trace ends behind them
    pub ends_over : {O A : Type 0} (taken : O → Option (List ℕ)) (faults : O → ℕ) {a b : O} {put : Result A TraceFault}
        (m : List ℕ) (why : TraceEnd) → seen m ≡ last.state.memory → ending_behind shown steps plan last.state ≡ Some why
        → IsTaken taken faults a b (end_text why ++ turns_line last.state.turns) put
        → IsRestTaken taken faults a b shown steps plan (ending_before shown steps plan h.state) h put
    ends_over {O} {A} taken faults {a} {b} {put} m why real is ended =
        let all : IsRestTaken taken faults a b shown steps plan (ending_behind shown steps plan last.state) (held_with last m) put =
        ends_here taken faults shown steps plan why is ended in
        record {
          why = all.why;
          text = all.text;
          rest = leads_over all.why all.text (record { real = m; seen_is = real; rest = all.rest });
          is_taken = all.is_taken;
          whole = all.whole;
        }

    -- and else it goes on
    pub goes_over : {O : Type 0} (taken : O → Option (List ℕ)) (faults : O → ℕ) (a : O) (m : List ℕ) → seen m ≡ last.state.memory
        → ending_behind shown steps plan last.state ≡ None → AreTaken taken faults a a shown steps plan h (held_with last m)
    goes_over taken faults a m real goes = record {
      text = [];
      leads = λ why rest r. leads_over why rest (record {
        real = m;
        seen_is = real;
        rest = subst (λ (here : Option TraceEnd). IsRest shown steps plan here (held_with last m) why rest)
            (sym (goes_on shown steps plan last.state (goes_both shown steps plan last.state goes).0)) r;
      });
      opening = over.opening ∙ opening_behind;
      nearer = omega (arith, over.left, from.nearer);
      is_taken = none_taken taken faults a;
    }

  -- a step was told, and the trace goes on behind it
  pub told_on : {O A : Type 0} (taken : O → Option (List ℕ)) (faults : O → ℕ) {a b : O} {done : A}
      → is_at shown.until.items next.state.processor.regs.rip ≡ false
      → IsTaken taken faults a b (step_shown shown plan h next) (done_as done) → AreTaken taken faults a b shown steps plan h next
  told_on taken faults elsewhere told = record {
    text = step_shown shown plan h next;
    leads = λ why rest r. rest_behind shown steps plan h next why rest from.goes from.follows
        (subst (λ (here : Option TraceEnd). IsRest shown steps plan here next why rest)
        (sym (goes_on shown steps plan next.state elsewhere)) r);
    opening = opening_behind;
    nearer = from.nearer;
    is_taken = done_whole taken faults told;
  }

-- what was taken up to a state, and the steps from there to another
pub follow_taken : {O : Type 0} (taken : O → Option (List ℕ)) (faults : O → ℕ) (shown : Shown) (steps : ℕ) (plan : List Event)
    {a b c : O} {start now next : HeldState} → IsFollowing taken faults a b shown steps plan start now
    → AreTaken taken faults b c shown steps plan now next → IsFollowing taken faults a c shown steps plan start next
follow_taken taken faults shown steps plan {a} {b} {c} {start} {now} {next} so more = record {
  text = so.text ++ more.text;
  is_taken = both_taken taken faults (Ok tt) a b c so.text more.text so.is_taken more.is_taken;
  leads = λ why rest r.
      subst (IsRest shown steps plan (ending_before shown steps plan start.state) start why) (sym (append_assoc so.text more.text rest))
      (so.leads why (more.text ++ rest) (more.leads why rest r));
}
