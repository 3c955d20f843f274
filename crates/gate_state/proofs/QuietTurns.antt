-- Quick turns in a row of the processor, as steps of the machine: each a turn that shows nothing, from a safe state.
use Rattle.std.proofs.Common.{◌≡◌, ℕ, zero, suc, ◌+◌, ◌/◌, ◌≤◌, ◌<◌, true, false, List, length, refl, sym, ap, subst, ◌∙◌, arith, inl, inr}
use Rattle.std.specs.Prelude.{Option, None, Some, IfSome, is_none, ◌&&◌, ◌||◌, if◌then◌else◌, slice_get}
use Rattle.std.proofs.lemmas.Bool.{false≢true, lt-leb}
use Rattle.nk_bits.specs.Accesses.{wp_of}
use Rattle.nk_bits.specs.declared.control.Control.{Control}
use Rattle.irq_plan.specs.declared.event.Event.{Event}
use Rattle.phys_mem.specs.MaskedMemory.{is_book_frame, masked, seen}
use Rattle.phys_mem.specs.Memory.{byte_at}
use Rattle.nk_body.specs.NestedRecord.{AreBooks, Books, HoldsBooks, OwnState, books_in}
use Rattle.cpu_step.specs.Processor.{Processor, deliverable}
use Rattle.cpu_step.specs.QuickTurns.{AreQuickTurns, IsQuickTurn}
use Rattle.cpu_step.specs.Turns.{turned}
use Rattle.gate_state.specs.declared.moves.Move.TheVariants as move
use Rattle.gate_state.specs.GuardedStates.{IsAdmitted, IsGuarded}
use Rattle.gate_state.specs.MachineStates.{MachineState, Opening, nested_of}
use Rattle.gate_state.specs.MachineSteps.{after_turn, move_by, move_of, next, shown_by_turn, turn_of, waits}
use Rattle.gate_state.specs.QuietSteps.{AreQuietSteps, IsHurried, IsQuietStep}
use Rattle.gate_state.specs.SafeStates.{IsSafe, TakesTurn}
use Rattle.gate_state.specs.WholeMachine.{IsWhole, WholeState}
use Rattle.gate_state.specs.WindowLeft.{HasFewerLeft, IsNearer, left}
use Rattle.gate_state.proofs.WholeLemmas.{KeepLength, Stay, masked_is, next_is, state_by, turn_is, turn_whole}

-- what the laws say of a turn
pub record TurnLaws (o : Opening) : Type 0 where
  pub turn : (s : MachineState) → IsAdmitted o → TakesTurn s.processor → IsGuarded o s → IsGuarded o (after_turn s)
  pub stays : (s : MachineState) → IsAdmitted o → TakesTurn s.processor → IsGuarded o s
      → nested_of (after_turn s) ≡ nested_of s
  pub books : (s : MachineState) (books : Books) → IsAdmitted o → TakesTurn s.processor → IsGuarded o s
      → books.frames.kinds ≡ s.kinds → AreBooks books s.memory → AreBooks books (after_turn s).memory
  pub safe : (s : MachineState) → IsAdmitted o → IsGuarded o s → IsSafe o s
  pub nearer : (s : MachineState) → IsAdmitted o → IsGuarded o s → TakesTurn s.processor
      → wp_of s.processor.control.cr0 ≡ false → IsNearer s.processor (after_turn s).processor
  pub masked_turn : (s : MachineState) (m : List ℕ) → IsAdmitted o → TakesTurn s.processor → IsGuarded o s
      → masked (is_book_frame o.frames) m ≡ s.memory
      → ((turned s.processor m).processor ≡ (turn_of s).processor)
      × ((turned s.processor m).stepped ≡ (turn_of s).stepped)
      × (masked (is_book_frame o.frames) (turned s.processor m).memory ≡ (turn_of s).memory)
  pub masked_stays : (s : MachineState) (m : List ℕ) (place : ℕ) → IsAdmitted o → TakesTurn s.processor
      → IsGuarded o s → masked (is_book_frame o.frames) m ≡ s.memory
      → is_book_frame o.frames (place / 4096) ≡ true → byte_at (turned s.processor m).memory place ≡ byte_at m place
  pub keep : KeepLength
  pub held : (own : OwnState) (m n : List ℕ) → HoldsBooks own m → AreBooks (books_in own m) (seen n)
      → length n ≡ length m → Stay own.frames m n → (books_in own n ≡ books_in own m) × HoldsBooks own n

-- before the next event is due, a processor that doesn't wait takes a turn
turns_by : (event : Option Event) (turns : ℕ) (p : Processor) → IfSome event (λ e. turns < e.due) → waits p ≡ false
    → move_by event turns p ≡ move.Turn
turns_by None turns p before runs = ap (λ b. if b then move.Rest else move.Turn) runs
turns_by (Some event) turns p before runs =
    (λ i. if lt-leb event.due turns before i || runs i then move.Take event.what else move.Turn)

turns_next : (plan : List Event) (s : MachineState) → TakesTurn s.processor
    → IfSome (slice_get plan s.taken) (λ e. s.turns < e.due) → move_of plan s ≡ move.Turn
turns_next plan s takes before =
    ap (λ b. if b then move.Serve else move_by (slice_get plan s.taken) s.turns s.processor) takes.no_body
    ∙ turns_by (slice_get plan s.taken) s.turns s.processor before takes.runs

-- what is less than a bound that the event has
sooner : (event : Option Event) (a b : ℕ) → a ≤ b → IfSome event (λ e. b ≤ e.due) → IfSome event (λ e. a ≤ e.due)
sooner None a b less before = tt
sooner (Some event) a b less before = omega (arith, less, before)

-- what quick turns lead to: quiet steps to a state that is whole
pub record IsReached (o : Opening) (own : OwnState) (plan : List Event) (k : ℕ) (s after : MachineState)
    (n : List ℕ) : Type 0 where
  pub quiet : AreQuietSteps k o plan s after
  pub whole : IsWhole o after own n
  pub control : after.processor.control ≡ s.processor.control
  pub nearer : wp_of s.processor.control.cr0 ≡ false → HasFewerLeft s after

-- a turn that left fewer, before turns that left as many fewer as there were
closer : (turns count all before later last : ℕ) → count ≡ turns + 1 → all + last ≤ count + later → later < before
    → all + last ≤ turns + before
closer turns count all before later last next rest fewer = omega (arith, next, rest, fewer)

module _ (o : Opening) (laws : TurnLaws o) (own : OwnState) (plan : List Event) (taken : ℕ) where
  -- one turn, over the memory with the books
  module _ (p : Processor) (m : List ℕ) (turns : ℕ) (whole : IsWhole o (state_by p m own turns taken) own m)
      (quick : IsQuickTurn p m) where
    abbrev Before : MachineState
    Before = state_by p m own turns taken

    abbrev After : MachineState
    After = state_by (turned p m).processor (turned p m).memory own (turns + 1) taken

    takes : TakesTurn p
    takes = record { no_body = quick.no_body; runs = ap (λ h. h && is_none (deliverable p)) quick.runs }

    hidden : masked (is_book_frame o.frames) m ≡ Before.memory
    hidden = masked_is laws.keep o Before own m whole

    same : ((turned p m).processor ≡ (turn_of Before).processor) × ((turned p m).stepped ≡ (turn_of Before).stepped)
        × (masked (is_book_frame o.frames) (turned p m).memory ≡ (turn_of Before).memory)
    same = laws.masked_turn Before m whole.admitted takes whole.guarded hidden

    after_is : After ≡ after_turn Before
    after_is =
        turn_is laws.keep o p m own turns taken whole (turned p m).processor (turned p m).memory (turned p m).stepped refl
        same
        (laws.turn Before whole.admitted takes whole.guarded)
        (λ place. laws.masked_stays Before m place whole.admitted takes whole.guarded hidden)
        (laws.books Before (books_in own m) whole.admitted takes whole.guarded refl whole.kept.books)
        laws.held

    whole_after : IsWhole o After own (turned p m).memory
    whole_after =
        turn_whole laws.keep o p m own turns taken whole (turned p m).processor (turned p m).memory (turned p m).stepped
        refl same
        (laws.turn Before whole.admitted takes whole.guarded)
        (λ place. laws.masked_stays Before m place whole.admitted takes whole.guarded hidden)
        (laws.books Before (books_in own m) whole.admitted takes whole.guarded refl whole.kept.books)
        laws.held
        (laws.stays Before whole.admitted takes whole.guarded)

    step_is : IfSome (slice_get plan taken) (λ e. turns < e.due) → IsQuietStep o plan Before
    step_is before = record {
      turn = turns_next plan Before takes before;
      quiet = ap shown_by_turn (sym same.1 ∙ quick.ran);
      safe = laws.safe Before whole.admitted whole.guarded;
    }

    next_after : IfSome (slice_get plan taken) (λ e. turns < e.due) → After ≡ next plan Before
    next_after before = after_is ∙ next_is plan Before move.Turn (sym (turns_next plan Before takes before))

    clear_after : wp_of p.control.cr0 ≡ false → wp_of (turned p m).processor.control.cr0 ≡ false
    clear_after clear = ap (λ (x : Control). wp_of x.cr0) quick.control ∙ clear

    fewer_after : wp_of p.control.cr0 ≡ false → left (turned p m).processor < left p
    fewer_after clear =
        elim (subst (λ (s : MachineState). IsNearer p s.processor) (sym after_is)
        (laws.nearer Before whole.admitted whole.guarded takes clear)) [
          | inl set ↦ absurd (false≢true (sym (clear_after clear) ∙ set))
          | inr fewer ↦ fewer
        ]

  -- and so many of them
  pub quick_turns : (k : ℕ) (p : Processor) (m : List ℕ) (turns : ℕ) (q : Processor) (n : List ℕ)
      → IsWhole o (state_by p m own turns taken) own m
      → IfSome (slice_get plan taken) (λ e. turns + k ≤ e.due)
      → AreQuickTurns k p m q n
      → IsReached o own plan k (state_by p m own turns taken) (state_by q n own (turns + k) taken) n
  unfolding AreQuickTurns
  quick_turns zero p m turns q n whole before are =
      let end : turns + 0 ≡ turns = omega arith in
      record {
        quiet = λ i. state_by (are.0 i) (are.1 i) own (end i) taken;
        whole = subst (λ (x : Processor × List ℕ × ℕ). IsWhole o (state_by x.0 x.1 own x.2 taken) own x.1)
            (λ i. (sym are.0 i, sym are.1 i, sym end i)) whole;
        control = ap (λ (x : Processor). x.control) are.0;
        nearer = λ clear. subst (λ (x : Processor). turns + 0 + left x ≤ turns + left p) (sym are.0) (omega arith);
      }
  quick_turns (suc k) p m turns q n whole before are =
      let count : (turns + 1) + k ≡ turns + suc k = omega arith in
      let soon : IfSome (slice_get plan taken) (λ e. turns < e.due) =
      sooner (slice_get plan taken) (suc turns) (turns + suc k) (omega arith) before in
      let later : IfSome (slice_get plan taken) (λ e. (turns + 1) + k ≤ e.due) =
      subst (λ t. IfSome (slice_get plan taken) (λ e. t ≤ e.due)) (sym count) before in
      let rest = subst (λ t. IsReached o own plan k (After p m turns whole are.0) (state_by q n own t taken) n) count
      (quick_turns k (turned p m).processor (turned p m).memory (turns + 1) q n (whole_after p m turns whole are.0) later
      are.1) in
      record {
        quiet = (
          step_is p m turns whole are.0 soon,
          subst (λ (s : MachineState). AreQuietSteps k o plan s (state_by q n own (turns + suc k) taken))
              (next_after p m turns whole are.0 soon) rest.quiet,
        );
        whole = rest.whole;
        control = rest.control ∙ are.0.control;
        nearer = λ clear. closer turns (turns + 1) (turns + suc k) (left p) (left (turned p m).processor) (left q) refl
            (rest.nearer (clear_after p m turns whole are.0 clear)) (fewer_after p m turns whole are.0 clear);
      }

  -- the machine w after them, by what the callees ensure
  module _ (w : WholeState) (k limit until : ℕ) (p : Processor) (m : List ℕ) (turns : ℕ) (q : Processor)
      (n source : List ℕ)
      (view_is : record { opening = o; state = state_by p m own turns taken; source = source } ≡ w)
      (whole : IsWhole o (state_by p m own turns taken) own m)
      (event : IfSome (slice_get plan w.state.taken) (λ e. until ≤ e.due))
      (most : turns + k ≤ until) (least : until ≤ limit)
      (are : AreQuickTurns k p m q n) where
    abbrev End : MachineState
    End = state_by q n own (turns + k) taken

    reached : IsReached o own plan k (state_by p m own turns taken) End n
    reached =
        let next : IfSome (slice_get plan taken) (λ e. until ≤ e.due) =
        subst (λ (x : WholeState). IfSome (slice_get plan x.state.taken) (λ e. until ≤ e.due)) (sym view_is) event in
        quick_turns k p m turns q n whole (sooner (slice_get plan taken) (turns + k) until most next) are

    pub whole_then : IsWhole o (state_by q n own (turns + k) taken) own n
    whole_then = reached.whole

    pub hurried_then : IsHurried plan limit w
        (record { opening = o; state = state_by q n own (turns + k) taken; source = source })
    hurried_then =
        subst (λ (before : WholeState). IsHurried plan limit before (record { opening = o; state = End; source = source }))
        view_is
        (record {
          steps = k;
          quiet = reached.quiet;
          turns = refl;
          taken = refl;
          opening = refl;
          source = refl;
          within = λ within. omega (arith, most, least);
        })

    pub control_then : q.control ≡ w.state.processor.control
    control_then = reached.control ∙ ap (λ (x : WholeState). x.state.processor.control) view_is

    pub nearer_then : wp_of w.state.processor.control.cr0 ≡ false → HasFewerLeft w.state End
    nearer_then =
        subst (λ (before : WholeState). wp_of before.state.processor.control.cr0 ≡ false → HasFewerLeft before.state End)
        view_is reached.nearer
