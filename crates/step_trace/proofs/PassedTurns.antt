-- Steps of which a trace that is kept to what they show has no line, and the quick turns among them.
use Rattle.std.proofs.Common.{◌≡◌, ◌⊎◌, inl, inr, ℕ, zero, suc, ◌+◌, ◌/◌, ◌<◌, ◌≤◌, Bool, true, false, Option, Some, None, List, [], ◌++◌, length, refl, sym, ap, subst, ◌∙◌, arith}
use Rattle.std.specs.Prelude.{◌&&◌, ◌||◌, not, if◌then◌else◌, nat_le}
use Rattle.std.proofs.lemmas.Bool.{lt-leb}
use Rattle.irq_plan.specs.declared.event.Event.{Event}
use Rattle.nk_bits.specs.Accesses.{wp_of}
use Rattle.phys_mem.specs.MaskLaws.{MaskLaws}
use Rattle.phys_mem.specs.MaskedMemory.{is_book_frame, masked, seen}
use Rattle.gate_state.specs.declared.machine.Machine.{Machine}
use Rattle.gate_state.specs.declared.machine.Machine.TheVariants.{Outer, Gate, Nested}
use Rattle.gate_state.specs.declared.moves.Move.{Move}
use Rattle.gate_state.specs.declared.moves.Move.TheVariants as move
use Rattle.gate_state.specs.declared.seen.Seen.TheVariants as shows
use Rattle.gate_state.specs.declared.seen.Step.{Step}
use Rattle.gate_state.specs.declared.seen.Step.TheVariants as step
use Rattle.gate_state.specs.GuardedStates.{IsAdmitted, IsGuarded}
use Rattle.gate_state.specs.MachineOf.{IsOf, whole_of}
use Rattle.gate_state.specs.MachineStates.{MachineState, Opening}
use Rattle.gate_state.specs.MachineSteps.{move_of, seen_by, step_by}
use Rattle.gate_state.specs.MachineSteps as machine
use Rattle.gate_state.specs.QuietSteps.{AreQuietSteps, IsHurried, IsQuietStep}
use Rattle.gate_state.specs.StepsTaken.{CountsSteps, TakesOneTurn}
use Rattle.gate_state.specs.WholeMachine.{HeldState, WholeState, is_rest, source_after}
use Rattle.step_trace.specs.declared.asked.Kind.{Kind}
use Rattle.step_trace.specs.declared.asked.Kind.TheVariants as kind
use Rattle.step_trace.specs.declared.asked.Shown.{Shown}
use Rattle.step_trace.specs.declared.ends.TraceEnd.{TraceEnd}
use Rattle.step_trace.specs.declared.ends.TraceEnd.TheVariants as end
use Rattle.step_trace.specs.declared.line.Told.{Told}
use Rattle.step_trace.specs.PassedSteps.{ArePassed, IsLookedAt, IsRestBehind, IsSilent, held_with, passes}
use Rattle.step_trace.specs.RestsOfTraces.{IsRest, step_shown}
use Rattle.step_trace.specs.StepLines.{StepLine, has, is_rip, is_stored, is_wanted, line_of}
use Rattle.step_trace.specs.ToldSteps.{are_kinds_told, is_taken_event}
use Rattle.step_trace.specs.Traces.{IsNextHeld, ending_before, ending_behind, is_at, is_past, text_where}
use Rattle.step_trace.proofs.NearerSteps.{hurried_left}
use Rattle.step_trace.proofs.TraceRests.{goes_on, rest_behind}
use Rattle.step_trace.proofs.WantedLines.{line_wanted}

-- what a state sees of memory is all that is seen of it
pub seen_again : (m : List ℕ) (laws : MaskLaws) → seen (seen m) ≡ seen m
seen_again m laws =
    let hidden = is_book_frame (length m / 4096) in
    ap (λ (n : ℕ). masked (is_book_frame (n / 4096)) (masked hidden m)) (laws.length hidden m)
    ∙ laws.unhidden hidden (masked hidden m) (λ p. laws.byte_hidden hidden m p)

-- so it is of the memory of a state
pub seen_of : (laws : MaskLaws) (m s : List ℕ) → seen m ≡ s → seen s ≡ s
seen_of laws m s is = subst (λ (x : List ℕ). seen x ≡ x) is (seen_again m laws)

-- the invariant of a machine's state, whichever of the three it is in
pub record IsStandingWhole (w : WholeState) : Type 0 where
  pub admitted : IsAdmitted w.opening
  pub guarded : IsGuarded w.opening w.state

pub standing_whole : (machine : Machine) → IsOf machine → IsStandingWhole (whole_of machine)
standing_whole (Outer machine) is = record { admitted = is.admitted; guarded = is.guarded }
standing_whole (Gate machine) is = record { admitted = is.admitted; guarded = is.guarded }
standing_whole (Nested machine) is = record { admitted = is.admitted; guarded = is.guarded }

-- whether a step is of a kind that shows something doesn't rest on where it began, or on the bytes that it stored
kind_alone : (one : Option Kind) (in_outer is_stored : Bool) (it : Step) → passes one ≡ true
    → are_kinds_told one in_outer it is_stored ≡ are_kinds_told one false it false
kind_alone None in_outer is_stored it is = absurd (cc)
kind_alone (Some kind.Gate) in_outer is_stored it is = absurd (cc)
kind_alone (Some kind.Call) in_outer is_stored it is = refl
kind_alone (Some kind.Delivery) in_outer is_stored it is = refl
kind_alone (Some kind.Event) in_outer is_stored it is = refl
kind_alone (Some kind.Memory) in_outer is_stored it is = absurd (cc)
kind_alone (Some kind.Console) in_outer is_stored it is = refl

-- a turn that shows nothing is of none
pub quiet_alone : (one : Option Kind) → passes one ≡ true → are_kinds_told one false (step.Seen shows.Quiet) false ≡ false
quiet_alone None is = absurd (cc)
quiet_alone (Some kind.Gate) is = absurd (cc)
quiet_alone (Some kind.Call) is = refl
quiet_alone (Some kind.Delivery) is = refl
quiet_alone (Some kind.Event) is = refl
quiet_alone (Some kind.Memory) is = absurd (cc)
quiet_alone (Some kind.Console) is = refl

-- nor is rest
pub rested_alone : (one : Option Kind) → passes one ≡ true → are_kinds_told one false step.Rested false ≡ false
rested_alone None is = absurd (cc)
rested_alone (Some kind.Gate) is = absurd (cc)
rested_alone (Some kind.Call) is = refl
rested_alone (Some kind.Delivery) is = refl
rested_alone (Some kind.Event) is = refl
rested_alone (Some kind.Memory) is = absurd (cc)
rested_alone (Some kind.Console) is = refl

-- a line that isn't wanted has no text
no_text : (wanted : Bool) (line : StepLine) → wanted ≡ false → text_where wanted line ≡ []
no_text true line is = absurd (cc)
no_text false line is = refl

-- the step to a state is told by no line
pub silent : (shown : Shown) (plan : List Event) (h next : HeldState) (it : Step) → passes shown.only ≡ true
    → it ≡ step_by (move_of plan h.state) h.state → IsSilent shown it → step_shown shown plan h next ≡ []
silent shown plan h next it passed is still =
    let line = line_of plan h next in
    let told : Told = record { is_stored = has is_stored line.changes; is_more = has (λ change. not (is_rip change)) line.changes } in
    let wp = wp_of h.state.processor.control.cr0 in
    no_text (is_wanted shown line) line
    (sym (line_wanted shown plan h next wp it told refl is (record { stored = refl; more = refl }))
    ∙ ap (λ b. b && (not shown.changes || (is_taken_event it || told.is_more)))
    (kind_alone shown.only wp told.is_stored it passed ∙ still))

-- the step of a quick turn
quick_step : (o : Opening) (plan : List Event) (s : MachineState) → IsQuietStep o plan s
    → step.Seen shows.Quiet ≡ step_by (move_of plan s) s
quick_step o plan s one =
    ap (λ seen. step.Seen seen) (sym one.quiet) ∙ ap (λ m. step_by m s) (sym one.turn)

-- it keeps what was read for a call
quick_source : (o : Opening) (plan : List Event) (w : WholeState) → IsQuietStep o plan w.state
    → source_after (move_of plan w.state) w ≡ w.source
quick_source o plan w one = ap (λ m. source_after m w) one.turn

quick_counts : (o : Opening) (plan : List Event) (s after : MachineState) → IsQuietStep o plan s
    → CountsSteps plan (move_of plan s) s after → TakesOneTurn s after
quick_counts o plan s after one counts = subst (λ (m : Move). CountsSteps plan m s after) one.turn counts

-- a state with a turn to come, as many left, and none of the addresses, isn't the trace's last
goes_by : (a b c d : Bool) → a ≡ false → b ≡ false → c ≡ false → d ≡ false
    → (if a then Some end.Until else if b then Some end.Steps else if c then Some end.To else if d then Some end.Halted else None) ≡ None
goes_by true b c d is1 is2 is3 is4 = absurd (cc)
goes_by false true c d is1 is2 is3 is4 = absurd (cc)
goes_by false false true d is1 is2 is3 is4 = absurd (cc)
goes_by false false false true is1 is2 is3 is4 = absurd (cc)
goes_by false false false false is1 is2 is3 is4 = refl

-- and one that isn't its last isn't at an address
elsewhere_by : (a : Bool) (o : Option TraceEnd) → (if a then Some end.Until else o) ≡ None → (a ≡ false) × (o ≡ None)
elsewhere_by true o is = absurd (cc)
elsewhere_by false o is = (refl, is)

pub goes_both : (shown : Shown) (steps : ℕ) (plan : List Event) (s : MachineState) → ending_behind shown steps plan s ≡ None
    → (is_at shown.until.items s.processor.regs.rip ≡ false) × (ending_before shown steps plan s ≡ None)
goes_both shown steps plan s goes =
    elsewhere_by (is_at shown.until.items s.processor.regs.rip) (ending_before shown steps plan s) goes

-- nothing is passed over
pub none_passed : {shown : Shown} {steps : ℕ} {plan : List Event} (w : WholeState) → ArePassed shown steps plan w w
none_passed w = record { leads = λ why text r. r; opening = refl; left = omega arith }

-- one behind the other
pub both_passed : {shown : Shown} {steps : ℕ} {plan : List Event} {a b c : WholeState} → ArePassed shown steps plan a b
    → ArePassed shown steps plan b c → ArePassed shown steps plan a c
both_passed first second = record {
  leads = λ why text r. first.leads why text (second.leads why text r);
  opening = second.opening ∙ first.opening;
  left = omega (arith, first.left, second.left);
}

-- what follows of the laws of steps, behind a turn
pub record AreTurnLaws (o : Opening) (plan : List Event) : Type 0 where
  pub counts : (s : MachineState) → CountsSteps plan (move_of plan s) s (machine.next plan s)
  pub guarded : (s : MachineState) → IsGuarded o s → move_of plan s ≡ move.Turn → IsGuarded o (machine.next plan s)
  pub seen_is : (s : MachineState) → IsGuarded o s → move_of plan s ≡ move.Turn → seen s.memory ≡ s.memory
      → seen (machine.next plan s).memory ≡ (machine.next plan s).memory

module _ (shown : Shown) (steps : ℕ) (plan : List Event) (passed : passes shown.only ≡ true) (o : Opening) (source : List ℕ)
    (laws : AreTurnLaws o plan) where
  -- the states of a machine that turns go through
  abbrev at_state : MachineState → WholeState
  at_state s = record { opening = o; state = s; source = source }

  -- a quick turn behind such a state
  quick_leads : (s : MachineState) → IsQuietStep o plan s → ending_behind shown steps plan s ≡ None → seen s.memory ≡ s.memory
      → (why : Option TraceEnd) (text : List ℕ) → IsRestBehind shown steps plan (at_state (machine.next plan s)) why text
      → IsRestBehind shown steps plan (at_state s) why text
  quick_leads s one goes is_seen why text r =
      let h : HeldState = held_with (at_state s) s.memory in
      let n : HeldState = held_with (at_state (machine.next plan s)) r.real in
      let both = goes_both shown steps plan s goes in
      let follows : IsNextHeld plan h n = record {
        known = ap (λ (l : List ℕ). record { opening = o; state = machine.next plan s; source = l }) (sym (quick_source o plan (at_state s) one));
        real = r.seen_is;
      } in
      let no_line = silent shown plan h n (step.Seen shows.Quiet) passed (quick_step o plan s one) (quiet_alone shown.only passed) in
      let all = rest_behind shown steps plan h n why text both.1 follows r.rest in
      let same : IsRest shown steps plan (ending_before shown steps plan s) h why text =
      subst (λ (l : List ℕ). IsRest shown steps plan (ending_before shown steps plan s) h why (l ++ text)) no_line all in
      record {
        real = s.memory;
        seen_is = is_seen;
        rest = subst (λ (here : Option TraceEnd). IsRest shown steps plan here h why text) (sym (goes_on shown steps plan s both.0)) same;
      }

  -- a state between two quick turns isn't the trace's last, where it isn't looked at
  goes_between : (turns limit : ℕ) (s : MachineState) → IsLookedAt shown steps turns limit → shown.until.items ≡ [] → s.turns < limit
      → IsQuietStep o plan s → ending_behind shown steps plan s ≡ None
  goes_between turns limit s looked none below one =
      goes_by (is_at shown.until.items s.processor.regs.rip) (nat_le steps s.turns) (is_past shown.to s.turns) (is_rest (move_of plan s))
      (ap (λ (xs : List ℕ). is_at xs s.processor.regs.rip) none)
      (lt-leb steps s.turns (omega (arith, below, looked.most)))
      (looked.inside s.turns below)
      (ap is_rest one.turn)

  -- and so many of them
  quick_all : (turns limit n : ℕ) (s after : MachineState) → IsLookedAt shown steps turns limit
      → (shown.until.items ≡ []) ⊎ (n ≤ 1) → AreQuietSteps n o plan s after → s.turns + n ≤ limit → IsGuarded o s
      → seen s.memory ≡ s.memory → ending_behind shown steps plan s ≡ None
      → (why : Option TraceEnd) (text : List ℕ) → IsRestBehind shown steps plan (at_state after) why text
      → IsRestBehind shown steps plan (at_state s) why text
  quick_all turns limit zero s after looked near quick within guarded is_seen goes why text r =
      subst (λ (x : MachineState). IsRestBehind shown steps plan (at_state x) why text) quick r
  quick_all turns limit (suc zero) s after looked near (one, is) within guarded is_seen goes why text r =
      quick_leads s one goes is_seen why text
      (subst (λ (x : MachineState). IsRestBehind shown steps plan (at_state x) why text) is r)
  quick_all turns limit (suc (suc n)) s after looked (inl none) (one, later) within guarded is_seen goes why text r =
      let turn = quick_counts o plan s (machine.next plan s) one (laws.counts s) in
      let below : (machine.next plan s).turns < limit = omega (arith, turn.turns, within) in
      let left : (machine.next plan s).turns + suc n ≤ limit = omega (arith, turn.turns, within) in
      quick_leads s one goes is_seen why text
      (quick_all turns limit (suc n) (machine.next plan s) after looked (inl none) later left (laws.guarded s guarded one.turn)
      (laws.seen_is s guarded one.turn is_seen) (goes_between turns limit (machine.next plan s) looked none below later.0) why text r)
  quick_all turns limit (suc (suc n)) s after looked (inr near) quick within guarded is_seen goes why text r = absurd (omega (arith, near))

-- the quick turns that a machine takes
near_turns : (shown : Shown) (turns limit n : ℕ) → (shown.until.items ≡ []) ⊎ (limit ≤ turns + 1) → turns + n ≤ limit
    → (shown.until.items ≡ []) ⊎ (n ≤ 1)
near_turns shown turns limit n (inl none) within = inl none
near_turns shown turns limit n (inr near) within = inr (omega (arith, near, within))

pub turns_passed : (shown : Shown) (steps : ℕ) (plan : List Event) (limit : ℕ) (w after : WholeState) → passes shown.only ≡ true
    → IsLookedAt shown steps w.state.turns limit → AreTurnLaws w.opening plan → IsGuarded w.opening w.state
    → seen w.state.memory ≡ w.state.memory → ending_behind shown steps plan w.state ≡ None → IsHurried plan limit w after
    → ArePassed shown steps plan w after
turns_passed shown steps plan limit w after passed looked laws guarded is_seen goes hurried =
    let same : after ≡ record { opening = w.opening; state = after.state; source = w.source } =
    ap (λ (o : Opening). record { opening = o; state = after.state; source = after.source }) hurried.opening
    ∙ ap (λ (l : List ℕ). record { opening = w.opening; state = after.state; source = l }) hurried.source in
    let within : w.state.turns + hurried.steps ≤ limit = omega (arith, hurried.turns, hurried.within looked.left) in
    record {
      leads = λ why text r. quick_all shown steps plan passed w.opening w.source laws w.state.turns limit hurried.steps w.state after.state
          looked (near_turns shown w.state.turns limit hurried.steps looked.near within) hurried.quiet within guarded is_seen goes why text
          (subst (λ (x : WholeState). IsRestBehind shown steps plan x why text) same r);
      opening = hurried.opening;
      left = hurried_left steps hurried;
    }

-- where none was taken, the state is the same
none_taken : (n : ℕ) (o : Opening) (plan : List Event) (s after : MachineState) → AreQuietSteps n o plan s after
    → after.turns ≡ s.turns + n → after.turns ≡ s.turns → after ≡ s
none_taken zero o plan s after same turns still = same
none_taken (suc n) o plan s after quick turns still = absurd (omega (arith, turns, still))

pub stays_by : {plan : List Event} {limit : ℕ} {w after : WholeState} → IsHurried plan limit w after
    → after.state.turns ≡ w.state.turns → after.state ≡ w.state
stays_by {plan} {limit} {w} {after} hurried still =
    none_taken hurried.steps w.opening plan w.state after.state hurried.quiet hurried.turns still

-- where a trace doesn't end, the last turn that is shown isn't past
past_in : (a b c : Bool) → (if a then Some end.Steps else if b then Some end.To else if c then Some end.Halted else None) ≡ None
    → b ≡ false
past_in true b c is = absurd (cc)
past_in false true c is = absurd (cc)
past_in false false c is = refl

pub past_by : (shown : Shown) (steps : ℕ) (plan : List Event) (s : MachineState) → ending_before shown steps plan s ≡ None
    → is_past shown.to s.turns ≡ false
past_by shown steps plan s goes =
    past_in (nat_le steps s.turns) (is_past shown.to s.turns) (is_rest (move_of plan s)) goes
