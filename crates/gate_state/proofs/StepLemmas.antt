-- A step of the machine by its move: the state after it, the bytes that were read, what it shows and what it touches.
use Rattle.std.proofs.Common.{◌≡◌, ℕ, Bool, true, false, List, Option, None, Some, refl, sym, ap, subst, ◌||◌}
use Rattle.std.proofs.lemmas.Bool.{false≢true}
use Rattle.std.specs.Prelude.{if◌then◌else◌, nat_le, slice_get}
use Rattle.cpu_step.specs.Processor.{Processor}
use Rattle.gate_state.specs.declared.touched.StepTouched.TheVariants.{Nothing}
use Rattle.cpu_step.specs.Turns.{enters_body}
use Rattle.irq_plan.specs.declared.event.Event.{Event}
use Rattle.gate_state.specs.declared.moves.Move.{Move}
use Rattle.gate_state.specs.declared.moves.Move.TheVariants as move
use Rattle.gate_state.specs.declared.seen.Step.TheVariants as step
use Rattle.gate_state.specs.MachineStates.{MachineState}
use Rattle.gate_state.specs.MachineSteps.{move_by, move_of, next_by, seen_by, step_by, waits}
use Rattle.gate_state.specs.WholeMachine.{WholeState, is_rest, next_whole, source_after, stepped_whole}
use Rattle.gate_state.specs.StepsTouched.{touched_by_move}
use Rattle.gate_state.proofs.WholeLemmas.{next_is}

-- the machine after a step, by its move
pub stepped_is : (plan : List Event) (w : WholeState) (m : Move) → m ≡ move_of plan w.state
    → record w { state = next_by m w.state; source = source_after m w } ≡ stepped_whole plan w
stepped_is plan w m is = λ i. record w { state = next_is plan w.state m is i; source = source_after (is i) w }

-- only the body reads bytes
kept_if : (b : Bool) (m n : Move) (w : WholeState) → source_after m w ≡ w.source → source_after n w ≡ w.source
    → source_after (if b then m else n) w ≡ w.source
kept_if true m n w one other = one
kept_if false m n w one other = other

kept_by_event : (event : Option Event) (turns : ℕ) (p : Processor) (w : WholeState) → source_after (move_by event turns p) w ≡ w.source
kept_by_event (Some event) turns p w = kept_if (nat_le event.due turns || waits p) (move.Take event.what) move.Turn w refl refl
kept_by_event None turns p w = kept_if (waits p) move.Rest move.Turn w refl refl

pub next_alone : (plan : List Event) (w : WholeState) → enters_body w.state.processor ≡ false → stepped_whole plan w ≡ next_whole plan w
next_alone plan w away =
    let event : Move = move_by (slice_get plan w.state.taken) w.state.turns w.state.processor in
    let kept : source_after (move_of plan w.state) w ≡ w.source =
    subst (λ (b : Bool). source_after (if b then move.Serve else event) w ≡ w.source) (sym away)
    (kept_by_event (slice_get plan w.state.taken) w.state.turns w.state.processor w) in
    ap (λ (bytes : List ℕ). record (next_whole plan w) { source = bytes }) kept

-- where the machine rests it stays as it is, shows nothing and touches nothing
pub rests_as_it_is : (plan : List Event) (w : WholeState) → is_rest (move_of plan w.state) ≡ true → w ≡ stepped_whole plan w
rests_as_it_is plan w rests = go (move_of plan w.state) rests refl
  where
    go : (m : Move) → is_rest m ≡ true → m ≡ move_of plan w.state → w ≡ stepped_whole plan w
    go move.Rest rests is = stepped_is plan w move.Rest is
    go move.Serve rests is = absurd (false≢true rests)
    go (move.Take what) rests is = absurd (false≢true rests)
    go move.Turn rests is = absurd (false≢true rests)

pub rests_unseen : (m : Move) (s : MachineState) → is_rest m ≡ true → step.Rested ≡ step_by m s
rests_unseen move.Rest s rests = refl
rests_unseen move.Serve s rests = absurd (false≢true rests)
rests_unseen (move.Take what) s rests = absurd (false≢true rests)
rests_unseen move.Turn s rests = absurd (false≢true rests)

pub rests_untouched : (m : Move) (s : MachineState) (memory : List ℕ) → is_rest m ≡ true → Nothing ≡ touched_by_move m s memory
rests_untouched move.Rest s memory rests = refl
rests_untouched move.Serve s memory rests = absurd (false≢true rests)
rests_untouched (move.Take what) s memory rests = absurd (false≢true rests)
rests_untouched move.Turn s memory rests = absurd (false≢true rests)

-- at the body the step is the nested kernel's
pub serves : (plan : List Event) (s : MachineState) → enters_body s.processor ≡ true → move.Serve ≡ move_of plan s
serves plan s body =
    ap (λ (b : Bool). if b then move.Serve else move_by (slice_get plan s.taken) s.turns s.processor) (sym body)

-- elsewhere a step that is none of rest shows what is seen of it
seen_if : (b : Bool) (m n : Move) (s : MachineState)
    → (is_rest m ≡ false → step.Seen (seen_by m s) ≡ step_by m s) → (is_rest n ≡ false → step.Seen (seen_by n s) ≡ step_by n s)
    → is_rest (if b then m else n) ≡ false → step.Seen (seen_by (if b then m else n) s) ≡ step_by (if b then m else n) s
seen_if true m n s one other = one
seen_if false m n s one other = other

seen_by_event : (event : Option Event) (turns : ℕ) (p : Processor) (s : MachineState) → is_rest (move_by event turns p) ≡ false
    → step.Seen (seen_by (move_by event turns p) s) ≡ step_by (move_by event turns p) s
seen_by_event (Some event) turns p s = seen_if (nat_le event.due turns || waits p) (move.Take event.what) move.Turn s (λ left. refl) (λ left. refl)
seen_by_event None turns p s = seen_if (waits p) move.Rest move.Turn s (λ left. absurd (false≢true (sym left))) (λ left. refl)

pub seen_alone : (plan : List Event) (s : MachineState) → enters_body s.processor ≡ false → is_rest (move_of plan s) ≡ false
    → step.Seen (seen_by (move_of plan s) s) ≡ step_by (move_of plan s) s
seen_alone plan s away =
    let event : Move = move_by (slice_get plan s.taken) s.turns s.processor in
    subst (λ (b : Bool). is_rest (if b then move.Serve else event) ≡ false
    → step.Seen (seen_by (if b then move.Serve else event) s) ≡ step_by (if b then move.Serve else event) s) (sym away)
    (seen_by_event (slice_get plan s.taken) s.turns s.processor s)
