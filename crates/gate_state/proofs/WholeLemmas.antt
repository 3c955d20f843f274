-- The whole machine after each kind of step, from what the parts say.
use Rattle.std.proofs.Common.{◌≡◌, ℕ, ◌+◌, ◌*◌, ◌/◌, Bool, true, false, List, length, refl, sym, ap, subst, ◌∙◌, arith}
use Rattle.std.specs.Prelude.{OnSome, Option, None, Some, not, ◌==◌, ◌&&◌}
use Rattle.std.proofs.lemmas.Bool.{and_right}
use Rattle.nk_bits.specs.declared.call.Answer.{Answer}
use Rattle.nk_bits.specs.declared.call.CallWords.{CallWords}
use Rattle.nk_bits.specs.Accesses.{wp_of}
use Rattle.irq_plan.specs.declared.event.Event.{Event}
use Rattle.irq_plan.specs.declared.event.What.{What}
use Rattle.irq_plan.specs.declared.event.What.TheVariants.{Irq, Drop, Fill, Keep, Forget}
use Rattle.phys_mem.specs.MaskedMemory.{is_book_frame, masked, seen}
use Rattle.phys_mem.specs.Memory.{byte_at}
use Rattle.page_desc.specs.DescriptorBytes.{kinds_in}
use Rattle.nk_body.specs.NestedRecord.{AreBooks, Books, HoldsBooks, Nested, OwnState, books_in, nested_by, nested_in}
use Rattle.nk_body.specs.Calls.{call_of}
use Rattle.nk_body.specs.CallRules.{Sourced, after_call, answer_to, memory_after_call, stand_of, verdict, wants}
use Rattle.cpu_step.specs.declared.stepped.Stepped.{Stepped}
use Rattle.cpu_step.specs.EventsTaken.{event_taken}
use Rattle.cpu_step.specs.Processor.{IsSound, Processor}
use Rattle.cpu_step.specs.Turns.{Turned, enters_body, turned}
use Rattle.gate_state.specs.declared.moves.Move.{Move}
use Rattle.gate_state.specs.GuardedStates.{IsGuarded}
use Rattle.gate_state.specs.MachineStates.{MachineState, Opening, nested_of}
use Rattle.gate_state.specs.MachineSteps.{after_event, after_reading, after_turn, answer_in, answered_with, asked_in, call_in, move_of, nested_after, next, next_by, served, source_of, turn_of, verdict_in, wanted}
use Rattle.gate_state.specs.SourceBytes.{SourceRead, source_place, source_through, source_read, source_with, tlb_by}
use Rattle.gate_state.specs.WholeMachine.{IsWhole}

-- the step by the move
pub next_is : (plan : List Event) (s : MachineState) (m : Move) → m ≡ move_of plan s → next_by m s ≡ next plan s
unfolding next
next_is plan s m is = ap (λ (x : Move). next_by x s) is

-- an event leaves the root
event_root : (what : What) (m : List ℕ) (p : Processor) → (event_taken what m p).control.root ≡ p.control.root
event_root (Irq vector) m p = refl
event_root (Drop page) m p = refl
event_root (Fill page) m p = refl
event_root (Keep level page) m p = refl
event_root (Forget level page) m p = refl

-- the state that processor, memory with the books in it, and what is kept beside memory stand for
abbrev pub state_by : Processor → List ℕ → OwnState → ℕ → ℕ → MachineState
state_by p m own turns taken = record {
  processor = p;
  memory = seen m;
  kinds = kinds_in m;
  ledger = (books_in own m).ledger;
  turns = turns;
  taken = taken;
}

-- what hides bytes leaves the length, so what is seen of memory hides the books of as many frames as the machine has
abbrev pub KeepLength : Type 0
KeepLength = (hidden : ℕ → Bool) (m : List ℕ) → length (masked hidden m) ≡ length m

module _ (keep : KeepLength) (o : Opening) (s : MachineState) (own : OwnState) (m : List ℕ) (whole : IsWhole o s own m) where
  pub size_is : length m ≡ 4096 * o.frames
  size_is =
      sym (keep (is_book_frame (length m / 4096)) m) ∙ ap length (sym whole.memory) ∙ whole.guarded.memory.size

  pub masked_is : masked (is_book_frame o.frames) m ≡ s.memory
  masked_is =
      let frames : length m / 4096 ≡ o.frames = omega (arith, size_is) in
      ap (λ n. masked (is_book_frame n) m) (sym frames) ∙ sym whole.memory

  pub sound_is : (p : Processor) → IsSound (length s.memory) p → IsSound (length m) p
  sound_is p = subst (λ n. IsSound n p) (whole.guarded.memory.size ∙ sym size_is)

  -- the source, which is read in the memory with the books
  module _ (read : (m : List ℕ) (va count : ℕ) → masked (is_book_frame o.frames) m ≡ s.memory
      → source_read m s.processor.control.root s.processor.tlb va count
      ≡ source_read s.memory s.processor.control.root s.processor.tlb va count) where
    pub source_seen : (va : ℕ) (asked_for : Option ℕ)
        → source_through m s.processor.control.root s.processor.tlb va asked_for
        ≡ source_through s.memory s.processor.control.root s.processor.tlb va asked_for
    source_seen va None = refl
    source_seen va (Some count) = ap (λ (it : SourceRead). source_with it.bytes) (read m va count masked_is)

    pub tlb_seen : (va : ℕ) (asked_for : Option ℕ)
        → tlb_by m s.processor.control.root s.processor.tlb va asked_for
        ≡ tlb_by s.memory s.processor.control.root s.processor.tlb va asked_for
    tlb_seen va None = refl
    tlb_seen va (Some count) = ap (λ (it : SourceRead). it.tlb) (read m va count masked_is)

pub event_whole : (o : Opening) (s : MachineState) (own : OwnState) (m : List ℕ) (what : What) (p : Processor)
    → IsWhole o s own m → IsGuarded o (after_event what s) → p ≡ event_taken what s.memory s.processor
    → IsWhole o (record s { processor = p; taken = s.taken + 1 }) own m
event_whole o s own m what p whole guarded is =
    subst (λ (q : Processor). IsWhole o (record s { processor = q; taken = s.taken + 1 }) own m) (sym is)
    (record {
      admitted = whole.admitted;
      guarded = guarded;
      memory = whole.memory;
      kept = whole.kept;
      root = whole.root ∙ sym (event_root what s.memory s.processor);
    })

-- what of a turn over the memory with the books is that of the turn over what is seen
abbrev Alike : Opening → MachineState → Turned → Type 0
Alike o s t =
    (t.processor ≡ (turn_of s).processor) × (t.stepped ≡ (turn_of s).stepped)
    × (masked (is_book_frame o.frames) t.memory ≡ (turn_of s).memory)

-- bytes of the books' frames stay
abbrev pub Stay : ℕ → List ℕ → List ℕ → Type 0
Stay frames m n = (p : ℕ) → is_book_frame frames (p / 4096) ≡ true → byte_at n p ≡ byte_at m p

-- a turn from the state that processor, memory and own stand for, to processor p and memory n
module _ (keep : KeepLength) (o : Opening) (was : Processor) (m : List ℕ) (own : OwnState) (turns taken : ℕ)
    (whole : IsWhole o (state_by was m own turns taken) own m)
    (p : Processor) (n : List ℕ) (stepped : Stepped)
    (is : record { processor = p; memory = n; stepped = stepped } ≡ turned was m)
    (alike : Alike o (state_by was m own turns taken) (turned was m))
    (guarded : IsGuarded o (after_turn (state_by was m own turns taken)))
    (stays : (place : ℕ) → is_book_frame o.frames (place / 4096) ≡ true
    → byte_at (turned was m).memory place ≡ byte_at m place)
    (books : AreBooks (books_in own m) (after_turn (state_by was m own turns taken)).memory)
    (held : (own : OwnState) (m n : List ℕ) → HoldsBooks own m → AreBooks (books_in own m) (seen n)
    → length n ≡ length m → Stay own.frames m n → (books_in own n ≡ books_in own m) × HoldsBooks own n) where
  abbrev State : MachineState
  State = state_by was m own turns taken

  memory_is : masked (is_book_frame o.frames) n ≡ (after_turn State).memory
  unfolding after_turn
  memory_is = ap (λ (t : Turned). masked (is_book_frame o.frames) t.memory) is ∙ alike.2

  size_stays : length n ≡ 4096 * o.frames
  size_stays = sym (keep (is_book_frame o.frames) n) ∙ ap length memory_is ∙ guarded.memory.size

  pub seen_is : seen n ≡ (after_turn State).memory
  seen_is =
      let frames : length n / 4096 ≡ o.frames = omega (arith, size_stays) in
      ap (λ k. masked (is_book_frame k) n) frames ∙ memory_is

  still : (books_in own n ≡ books_in own m) × HoldsBooks own n
  still =
      let before : length m ≡ 4096 * o.frames = size_is keep o State own m whole in
      let frames : o.frames ≡ own.frames = omega (arith, before, whole.kept.stored.size) in
      held own m n whole.kept (subst (AreBooks (books_in own m)) (sym seen_is) books) (size_stays ∙ sym before)
      (subst (λ k. Stay k m n) frames (λ place at. ap (λ (t : Turned). byte_at t.memory place) is ∙ stays place at))

  -- the state after it
  pub turn_is : state_by p n own (turns + 1) taken ≡ after_turn State
  unfolding after_turn
  turn_is =
      let processor : p ≡ (turn_of State).processor = ap (λ (t : Turned). t.processor) is ∙ alike.0 in
      λ i. record {
        processor = processor i;
        memory = seen_is i;
        kinds = (still.0 i).frames.kinds;
        ledger = (still.0 i).ledger;
        turns = turns + 1;
        taken = taken;
      }

  pub shown_is : stepped ≡ (turn_of State).stepped
  shown_is = ap (λ (t : Turned). t.stepped) is ∙ alike.1

  pub turn_whole : nested_of (after_turn State) ≡ nested_of State
      → IsWhole o (state_by p n own (turns + 1) taken) own n
  turn_whole same = record {
    admitted = whole.admitted;
    guarded = subst (IsGuarded o) (sym turn_is) guarded;
    memory = refl;
    kept = still.1;
    root = whole.root ∙ sym (ap (λ (nk : Nested). nk.tables.root) (ap nested_of turn_is ∙ same));
  }

-- of two facts that are said where there is a value, the second
pub second_on : {A : Type 0} (P Q : Type 0) (v : Option A) → OnSome v (P × Q) → OnSome v Q
second_on P Q None both = tt
second_on P Q (Some a) both = both.1

-- the state after the body
module _ (s : MachineState) (books after : Books) (m : List ℕ) (call : CallWords) (place : ℕ) (asked_for : Option ℕ) (source : Sourced) (answer : Answer)
    (root : ℕ) (read p : Processor)
    (kinds_are : books.frames.kinds ≡ s.kinds) (root_is : books.root ≡ s.processor.control.root) (ledger_is : books.ledger ≡ s.ledger)
    (call_is : call ≡ call_in s.processor.regs) (place_is : place ≡ source_place (call_of call))
    (wanted_is : asked_for ≡ wants books.ledger.book (call_of call))
    (source_is : source ≡ source_through s.memory s.processor.control.root s.processor.tlb place asked_for)
    (read_is : read ≡ record s.processor { tlb = tlb_by s.memory s.processor.control.root s.processor.tlb place asked_for })
    (answer_is : answer ≡ answer_to (nested_by books s.memory) (call_of call) source)
    (record_is : nested_by after m ≡ after_call (nested_by books s.memory) (call_of call) source (stand_of (nested_by books s.memory) (call_of call) s.memory))
    (memory_is : m ≡ memory_after_call (nested_by books s.memory) (call_of call) source s.memory)
    (root_after : root ≡ after.root) (processor_is : p ≡ answered_with answer root read) where
  before : nested_by books s.memory ≡ nested_of s
  before = λ i. nested_in (kinds_are i) (root_is i) (ledger_is i) s.memory

  asked_now : call_of call ≡ asked_in s
  asked_now = ap call_of call_is

  place_now : place ≡ source_place (asked_in s)
  place_now = place_is ∙ ap source_place asked_now

  wanted_now : asked_for ≡ wanted s
  wanted_now = wanted_is ∙ (λ i. wants (ledger_is i).book (asked_now i))

  pub source_now : source ≡ source_of s
  source_now = source_is ∙ (λ i. source_through s.memory s.processor.control.root s.processor.tlb (place_now i) (wanted_now i))

  read_now : read ≡ (after_reading s).processor
  read_now =
      read_is
      ∙ (λ i. record s.processor { tlb = tlb_by s.memory s.processor.control.root s.processor.tlb (place_now i) (wanted_now i) })

  pub verdict_now : verdict (nested_by books s.memory) (call_of call) source ≡ verdict_in s
  verdict_now = λ i. verdict (before i) (asked_now i) (source_now i)

  pub answer_now : answer ≡ answer_in s
  answer_now = answer_is ∙ (λ i. answer_to (before i) (asked_now i) (source_now i))

  record_now : nested_by after m ≡ nested_after s
  record_now = record_is ∙ (λ i. after_call (before i) (asked_now i) (source_now i) (stand_of (before i) (asked_now i) s.memory))

  pub served_is : record s { processor = p; memory = m; kinds = after.frames.kinds; ledger = after.ledger; turns = s.turns + 1 } ≡ served s
  unfolding served
  served_is =
      let memory_now : m ≡ memory_after_call (nested_of s) (asked_in s) (source_of s) s.memory =
      memory_is ∙ (λ i. memory_after_call (before i) (asked_now i) (source_now i) s.memory) in
      let root_now : root ≡ (nested_after s).tables.root = root_after ∙ ap (λ (nk : Nested). nk.tables.root) record_now in
      let kinds_now : after.frames.kinds ≡ (nested_after s).tables.kinds = ap (λ (nk : Nested). nk.tables.kinds) record_now in
      let ledger_now : after.ledger ≡ (nested_after s).ledger = ap (λ (nk : Nested). nk.ledger) record_now in
      let processor_now : p ≡ answered_with (answer_in s) (nested_after s).tables.root (after_reading s).processor =
      processor_is ∙ (λ i. answered_with (answer_now i) (root_now i) (read_now i)) in
      λ i. record s { processor = processor_now i; memory = memory_now i; kinds = kinds_now i; ledger = ledger_now i; turns = s.turns + 1 }

  pub root_stays : after.root ≡ p.control.root
  root_stays = sym (ap (λ (q : Processor). q.control.root) processor_is ∙ root_after)

-- and it is whole
pub served_whole_is : (o : Opening) (s : MachineState) (own after : OwnState) (m n : List ℕ) (p : Processor) → IsWhole o s own m
    → IsGuarded o (served s) → state_by p n after (s.turns + 1) s.taken ≡ served s → after.root ≡ p.control.root → HoldsBooks after n
    → IsWhole o (state_by p n after (s.turns + 1) s.taken) after n
served_whole_is o s own after m n p whole guarded is root held = record {
  admitted = whole.admitted;
  guarded = subst (IsGuarded o) (sym is) guarded;
  memory = refl;
  kept = held;
  root = root;
}

-- behind the body no body is to run
pub behind_body : (answer : Answer) (root : ℕ) (p : Processor) → enters_body (answered_with answer root p) ≡ false
behind_body answer root p = ap (λ b. b && not (wp_of p.control.cr0)) (and_right (p.regs.cpl == 0) (0xFFFFFF800000101D == 0xFFFFFF800000101B) refl)

-- and WP is clear still
pub served_clear : (s : MachineState) → wp_of s.processor.control.cr0 ≡ false → wp_of (served s).processor.control.cr0 ≡ false
unfolding served
served_clear s clear = clear

pub served_behind : (s : MachineState) → enters_body (served s).processor ≡ false
unfolding served
served_behind s = behind_body (answer_in s) (nested_after s).tables.root (after_reading s).processor
