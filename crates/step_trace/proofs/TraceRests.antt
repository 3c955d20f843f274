-- The rest of a trace, step by step.
use Rattle.std.proofs.Common.{◌≡◌, ℕ, ◌*◌, ◌<◌, Bool, true, false, ◌||◌, length, Option, Some, None, Result, Ok, Err, List, [], ◌∷◌, ◌++◌, min, refl, sym, ap, subst, ◌∙◌, append_assoc}
use Rattle.std.specs.Prelude.{⊤, OnOk, IsSome, if◌then◌else◌, nat_eq, nat_le}
use Rattle.std.specs.List.{list_any}
use Rattle.std.proofs.lemmas.Bool.{leb-false}
use Rattle.irq_plan.specs.declared.event.Event.{Event}
use Rattle.phys_mem.specs.MaskedMemory.{seen}
use Rattle.phys_mem.specs.Memory.{byte_at}
use Rattle.gate_state.specs.declared.touched.StepTouched.{StepTouched}
use Rattle.gate_state.specs.MachineStates.{MachineState}
use Rattle.gate_state.specs.MachineSteps.{move_of}
use Rattle.gate_state.specs.MachineSteps as machine
use Rattle.gate_state.specs.StepsTaken.{CountsSteps}
use Rattle.gate_state.specs.StepsTouched.{KeepsOutside}
use Rattle.gate_state.specs.WholeMachine.{HeldState, WholeState, is_rest, known_of, stepped_whole}
use Rattle.x86_regs.specs.declared.registers.Regs.{Regs}
use Rattle.cpu_step.specs.Processor.{Processor}
use Rattle.step_trace.specs.declared.asked.Shown.{Shown}
use Rattle.step_trace.specs.declared.ends.TraceEnd.{TraceEnd}
use Rattle.step_trace.specs.declared.ends.TraceEnd.TheVariants as end
use Rattle.step_trace.specs.declared.ends.TraceFault.{TraceFault}
use Rattle.step_trace.specs.declared.ends.TraceFault.TheVariants as fault
use Rattle.step_trace.specs.CopiesOfMemory.{IsCopyFor}
use Rattle.step_trace.specs.RestsOfTraces.{IsRest, IsRestTaken, IsStepTaken, step_shown}
use Rattle.step_trace.specs.TracesPut.{IsTaken, IsTraceTaken}
use Rattle.step_trace.specs.Traces.{IsFirstReached, IsNextHeld, end_text, ending_before, ending_behind, ending_text, is_at, is_past, last_of, lines_text, opening_text, trace_text}
use Rattle.report_text.specs.RunLines.{turns_line}
use Rattle.step_trace.proofs.NearerSteps.{nearer}
use Rattle.step_trace.proofs.TakenTexts.{both_taken, done_as, done_whole, failed_as, first_cut, none_cut, none_taken}

-- where a trace doesn't end, none of the three reasons holds
none_by : (a b c : Bool) → (if a then Some end.Steps else if b then Some end.To else if c then Some end.Halted else None) ≡ None
    → (a ≡ false) × (c ≡ false)
none_by false false false is = (refl, refl)
none_by false false true is = absurd (cc)
none_by false true c is = absurd (cc)
none_by true b c is = absurd (cc)

pub goes_below : (shown : Shown) (steps : ℕ) (plan : List Event) (s : MachineState) → ending_before shown steps plan s ≡ None
    → s.turns < steps
goes_below shown steps plan s goes =
    leb-false steps s.turns (none_by (nat_le steps s.turns) (is_past shown.to s.turns) (is_rest (move_of plan s)) goes).0

pub goes_further : (shown : Shown) (steps : ℕ) (plan : List Event) (s : MachineState) → ending_before shown steps plan s ≡ None
    → is_rest (move_of plan s) ≡ false
goes_further shown steps plan s goes =
    (none_by (nat_le steps s.turns) (is_past shown.to s.turns) (is_rest (move_of plan s)) goes).1

-- behind a step that leaves RIP at one of the addresses, and behind another one
until_by : (b : Bool) (o : Option TraceEnd) → b ≡ true → (if b then Some end.Until else o) ≡ Some end.Until
until_by true o is = refl
until_by false o is = absurd (cc)

on_by : (b : Bool) (o : Option TraceEnd) → b ≡ false → (if b then Some end.Until else o) ≡ o
on_by true o is = absurd (cc)
on_by false o is = refl

pub ends_until : (shown : Shown) (steps : ℕ) (plan : List Event) (s : MachineState)
    → is_at shown.until.items s.processor.regs.rip ≡ true → ending_behind shown steps plan s ≡ Some end.Until
ends_until shown steps plan s = until_by (is_at shown.until.items s.processor.regs.rip) (ending_before shown steps plan s)

pub goes_on : (shown : Shown) (steps : ℕ) (plan : List Event) (s : MachineState)
    → is_at shown.until.items s.processor.regs.rip ≡ false → ending_behind shown steps plan s ≡ ending_before shown steps plan s
goes_on shown steps plan s = on_by (is_at shown.until.items s.processor.regs.rip) (ending_before shown steps plan s)

-- an address is one of these
at_any : (xs : List ℕ) (x : ℕ) → list_any (λ (y : ℕ). nat_eq y x) xs ≡ is_at xs x
at_any [] x = refl
at_any (a ∷ xs) x = ap (λ (b : Bool). nat_eq a x || b) (at_any xs x)

pub at_one : (xs ys : List ℕ) (r : Regs) (p q : Processor) → xs ≡ ys → r ≡ p.regs → p ≡ q
    → list_any (λ (y : ℕ). nat_eq y r.rip) xs ≡ is_at ys q.regs.rip
at_one xs ys r p q same is here =
    at_any xs r.rip ∙ (ap (λ (l : List ℕ). is_at l r.rip) same
    ∙ (ap (λ (x : Regs). is_at ys x.rip) is ∙ ap (λ (x : Processor). is_at ys x.regs.rip) here))

-- the state behind a step, with memory as it is, of which the state's is what is seen
pub next_held : (plan : List Event) (h next : HeldState) → known_of next ≡ stepped_whole plan (known_of h)
    → seen next.real ≡ next.state.memory → IsNextHeld plan h next
next_held plan h next known real = record { known = known; real = real }

-- memory keeps its size, and a copy that is memory as it was does for telling what the step changed
pub same_size : (plan : List Event) (w after : WholeState) (copy real later : List ℕ) → copy ≡ real
    → length real ≡ 4096 * w.opening.frames → after ≡ stepped_whole plan w → length later ≡ 4096 * after.opening.frames
    → length copy ≡ length later
same_size plan w after copy real later same size is later_size =
    ap length same ∙ (size ∙ (ap (λ (x : WholeState). 4096 * x.opening.frames) (sym is) ∙ sym later_size))

pub same_copy : (plan : List Event) (w after : WholeState) (it : StepTouched) (copy real later : List ℕ) → copy ≡ real
    → length real ≡ 4096 * w.opening.frames → after ≡ stepped_whole plan w → length later ≡ 4096 * after.opening.frames
    → KeepsOutside it real later → IsCopyFor it copy real later
same_copy plan w after it copy real later same size is later_size keeps = record {
  size = same_size plan w after real real later refl size is later_size;
  outside = keeps;
  agrees = λ p _. ap (λ l. byte_at l p) same;
}

module _ (shown : Shown) (steps : ℕ) (plan : List Event) where
  -- the trace as far as this state
  rest_here : (here : Option TraceEnd) (h : HeldState) → IsRest shown steps plan here h here (ending_text here h.state.turns)
  rest_here here h = record { later = []; follow = tt; ends = refl; text_is = refl }

  -- it ends there
  rest_so : (here : Option TraceEnd) (why : TraceEnd) (h : HeldState) → here ≡ Some why
      → IsRest shown steps plan here h (Some why) (end_text why ++ turns_line h.state.turns)
  rest_so here why h is = record { later = []; follow = tt; ends = is; text_is = refl }

  -- a step, and the rest behind it
  pub rest_behind : (h next : HeldState) (why : Option TraceEnd) (rest : List ℕ) → ending_before shown steps plan h.state ≡ None
      → IsNextHeld plan h next → IsRest shown steps plan (ending_behind shown steps plan next.state) next why rest
      → IsRest shown steps plan (ending_before shown steps plan h.state) h why (step_shown shown plan h next ++ rest)
  rest_behind h next why rest goes follows r = record {
    later = next ∷ r.later;
    follow = (follows, r.follow);
    ends = (goes, r.ends);
    text_is = ap (λ (text : List ℕ). step_shown shown plan h next ++ text) r.text_is
        ∙ sym (append_assoc (step_shown shown plan h next) (lines_text shown plan next r.later) (ending_text why (last_of next r.later).state.turns));
  }

-- an end has a reason
some_whole : {A : Type 0} (put : Result A TraceFault) (why : TraceEnd) → OnOk put (IsSome (Some why))
some_whole (Ok done) why = refl
some_whole (Err e) why = tt

-- what was taken of the text so far, and what follows it is the rest of that from the start on
pub record IsFollowing {O : Type 0} (taken : O → Option (List ℕ)) (faults : O → ℕ) (old new : O)
    (shown : Shown) (steps : ℕ) (plan : List Event) (start now : HeldState) : Type 0 where
  pub text : List ℕ
  pub is_taken : IsTaken {A = ⊤} taken faults old new text (Ok tt)
  pub leads : (why : Option TraceEnd) (rest : List ℕ) → IsRest shown steps plan (ending_before shown steps plan now.state) now why rest
      → IsRest shown steps plan (ending_before shown steps plan start.state) start why (text ++ rest)

module _ {O : Type 0} (taken : O → Option (List ℕ)) (faults : O → ℕ) (shown : Shown) (steps : ℕ) (plan : List Event) where
  -- the trace was taken to its end at this state
  pub ends_here : {A : Type 0} {a b : O} {here : Option TraceEnd} {h : HeldState} {put : Result A TraceFault} (why : TraceEnd)
      → here ≡ Some why → IsTaken taken faults a b (end_text why ++ turns_line h.state.turns) put
      → IsRestTaken taken faults a b shown steps plan here h put
  ends_here {A} {a} {b} {here} {h} {put} why is ended = record {
    why = Some why;
    text = end_text why ++ turns_line h.state.turns;
    rest = rest_so shown steps plan here why h is;
    is_taken = ended;
    whole = some_whole put why;
  }

  -- nothing more was taken, for want of memory
  short_here : (A : Type 0) (a : O) (here : Option TraceEnd) (h : HeldState)
      → IsRestTaken taken faults a a shown steps plan here h (failed_as A fault.NoMemory)
  short_here A a here h = record {
    why = here;
    text = ending_text here h.state.turns;
    rest = rest_here shown steps plan here h;
    is_taken = none_cut taken faults A a (ending_text here h.state.turns);
    whole = tt;
  }

  pub cut_here : {A : Type 0} (a : O) (here : Option TraceEnd) (h : HeldState) (e : TraceFault) → e ≡ fault.NoMemory
      → IsRestTaken taken faults a a shown steps plan here h (failed_as A e)
  cut_here {A} a here h e is =
      subst (λ (x : TraceFault). IsRestTaken taken faults a a shown steps plan here h (failed_as A x)) (sym is) (short_here A a here h)

  -- a step was taken, and its line was cut
  pub cut_behind : {A B : Type 0} {e : TraceFault} {a b : O} {h next : HeldState} (it : TraceFault) → it ≡ e
      → ending_before shown steps plan h.state ≡ None → IsNextHeld plan h next
      → IsTaken taken faults a b (step_shown shown plan h next) (failed_as A e)
      → IsRestTaken taken faults a b shown steps plan (ending_before shown steps plan h.state) h (failed_as B it)
  cut_behind {A} {B} {e} {a} {b} {h} {next} it is goes follows cut =
      let here = ending_behind shown steps plan next.state in
      let text = ending_text here next.state.turns in
      let part : IsTaken taken faults a b (step_shown shown plan h next ++ text) (failed_as B e) = first_cut taken faults text cut in
      record {
        why = here;
        text = step_shown shown plan h next ++ text;
        rest = rest_behind shown steps plan h next here text goes follows (rest_here shown steps plan here next);
        is_taken = subst (λ (x : TraceFault). IsTaken taken faults a b (step_shown shown plan h next ++ text) (failed_as B x)) (sym is) part;
        whole = tt;
      }

  -- a step was taken, and the trace ends behind it
  pub until_behind : {A B : Type 0} {it : A} {a b c : O} {h next : HeldState} {put : Result B TraceFault}
      → ending_before shown steps plan h.state ≡ None → IsNextHeld plan h next
      → IsTaken taken faults a b (step_shown shown plan h next) (done_as it)
      → is_at shown.until.items next.state.processor.regs.rip ≡ true
      → IsTaken taken faults b c (end_text end.Until ++ turns_line next.state.turns) put
      → IsRestTaken taken faults a c shown steps plan (ending_before shown steps plan h.state) h put
  until_behind {A} {B} {it} {a} {b} {c} {h} {next} {put} goes follows told at ended =
      let here = ending_behind shown steps plan next.state in
      let text = end_text end.Until ++ turns_line next.state.turns in
      record {
        why = Some end.Until;
        text = step_shown shown plan h next ++ text;
        rest = rest_behind shown steps plan h next (Some end.Until) text goes follows
            (rest_so shown steps plan here end.Until next (ends_until shown steps plan next.state at));
        is_taken = both_taken taken faults put a b c (step_shown shown plan h next) text told ended;
        whole = some_whole put end.Until;
      }

  -- a step was taken, and the trace goes on
  pub step_taken : {A : Type 0} {it : A} {a b : O} {h next : HeldState} → ending_before shown steps plan h.state ≡ None
      → IsNextHeld plan h next → CountsSteps plan (move_of plan h.state) h.state (machine.next plan h.state)
      → is_at shown.until.items next.state.processor.regs.rip ≡ false
      → IsTaken taken faults a b (step_shown shown plan h next) (done_as it)
      → IsStepTaken taken faults a b shown steps plan h next
  step_taken {A} {it} {a} {b} {h} {next} goes follows counts elsewhere told = record {
    goes = goes;
    follows = follows;
    on = goes_on shown steps plan next.state elsewhere;
    nearer = nearer steps plan (known_of h) (known_of next) (goes_below shown steps plan h.state goes)
        (goes_further shown steps plan h.state goes) follows.known counts;
    is_taken = done_whole taken faults told;
  }

  -- at the start
  pub follow_begins : (a : O) (start : HeldState) → IsFollowing taken faults a a shown steps plan start start
  follow_begins a start = record { text = []; is_taken = none_taken taken faults a; leads = λ why rest r. r }

  -- a step more
  pub follow_on : {a b c : O} {start now next : HeldState} → IsFollowing taken faults a b shown steps plan start now
      → IsStepTaken taken faults b c shown steps plan now next → IsFollowing taken faults a c shown steps plan start next
  follow_on {a} {b} {c} {start} {now} {next} so step = record {
    text = so.text ++ step_shown shown plan now next;
    is_taken = both_taken taken faults (Ok tt) a b c so.text (step_shown shown plan now next) so.is_taken step.is_taken;
    leads = λ why rest r.
        let on = subst (λ (here : Option TraceEnd). IsRest shown steps plan here next why rest) (sym step.on) r in
        let all = so.leads why (step_shown shown plan now next ++ rest) (rest_behind shown steps plan now next why rest step.goes step.follows on) in
        subst (IsRest shown steps plan (ending_before shown steps plan start.state) start why) (sym (append_assoc so.text _ _)) all;
  }

  -- the rest
  pub follow_ends : {A : Type 0} {a b c : O} {start now : HeldState} {put : Result A TraceFault}
      → IsFollowing taken faults a b shown steps plan start now
      → IsRestTaken taken faults b c shown steps plan (ending_before shown steps plan now.state) now put
      → IsRestTaken taken faults a c shown steps plan (ending_before shown steps plan start.state) start put
  follow_ends {A} {a} {b} {c} {start} {now} {put} so r = record {
    why = r.why;
    text = so.text ++ r.text;
    rest = so.leads r.why r.text r.rest;
    is_taken = both_taken taken faults put a b c so.text r.text so.is_taken r.is_taken;
    whole = r.whole;
  }

module _ {O : Type 0} (taken : O → Option (List ℕ)) (faults : O → ℕ) (shown : Shown) (steps : ℕ) (plan : List Event) (first : MachineState) where
  -- the whole of it
  pub trace_taken : {A B : Type 0} {it : B} {a b c : O} (h : HeldState) {put : Result A TraceFault}
      → IsFirstReached (min steps shown.from) plan first h.state → seen h.real ≡ h.state.memory
      → IsTaken taken faults a b (opening_text shown h) (done_as it)
      → IsRestTaken taken faults b c shown steps plan (ending_before shown steps plan h.state) h put
      → IsTraceTaken taken faults a c shown steps plan first put
  unfolding trace_text
  trace_taken {A} {B} {it} {a} {b} {c} h {put} reached real opened r = record {
    why = r.why;
    text = opening_text shown h ++ r.text;
    trace = record {
      begins = h;
      later = r.rest.later;
      reached = reached;
      real = real;
      follow = r.rest.follow;
      ends = r.rest.ends;
      text_is = ap (λ (text : List ℕ). opening_text shown h ++ text) r.rest.text_is;
    };
    is_taken = both_taken taken faults put a b c (opening_text shown h) r.text opened r.is_taken;
    whole = r.whole;
  }

  -- the opening was cut
  pub opening_cut : {A B : Type 0} {e : TraceFault} {a b : O} (h : HeldState) (it : TraceFault) → it ≡ e
      → IsFirstReached (min steps shown.from) plan first h.state → seen h.real ≡ h.state.memory
      → IsTaken taken faults a b (opening_text shown h) (failed_as B e)
      → IsTraceTaken taken faults a b shown steps plan first (failed_as A it)
  unfolding trace_text
  opening_cut {A} {B} {e} {a} {b} h it is reached real cut =
      let here = ending_before shown steps plan h.state in
      let text = ending_text here h.state.turns in
      let part : IsTaken taken faults a b (opening_text shown h ++ text) (failed_as A e) = first_cut taken faults text cut in
      record {
        why = here;
        text = opening_text shown h ++ text;
        trace = record {
          begins = h;
          later = [];
          reached = reached;
          real = real;
          follow = tt;
          ends = refl;
          text_is = refl;
        };
        is_taken = subst (λ (x : TraceFault). IsTaken taken faults a b (opening_text shown h ++ text) (failed_as A x)) (sym is) part;
        whole = tt;
      }
