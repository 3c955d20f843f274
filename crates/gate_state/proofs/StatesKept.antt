-- Each kind of step keeps the invariant, and over it a state is safe.
use Rattle.std.proofs.Common.{◌≡◌, ◌≢◌, ℕ, ◌+◌, ◌-◌, ◌*◌, ◌/◌, ◌%◌, ◌^◌, ◌<◌, Bool, true, false, List, length, All, refl, sym, ap, subst, ◌∙◌, arith, inl, inr}
use Rattle.std.specs.Prelude.{IfOk, IfSome, Option, None, Some, Result, Ok, Err, not, ◌==◌, ◌&&◌}
use Rattle.std.proofs.lemmas.Bool.{and_parts, false≢true}
use Rattle.nk_bits.specs.declared.kind.Kind.{Kind}
use Rattle.nk_bits.specs.declared.kind.Kind.TheVariants.{Trap}
use Rattle.nk_bits.specs.declared.leaf.Leaf.{Leaf}
use Rattle.nk_bits.specs.declared.leaf.Upper.{Upper}
use Rattle.nk_bits.specs.Accesses.{IsWalked, smep_of, wp_of}
use Rattle.nk_bits.specs.Claims.{AllPass, Claim}
use Rattle.nk_bits.specs.Kinds.{is_storable, kind_of}
use Rattle.nk_bits.specs.Paging.{is_canonical, page_of, upper_walk, walk, walk_below}
use Rattle.nk_bits.specs.Translations.{IsLive, Translations, fill_walked}
use Rattle.nk_bits.specs.UpperEntries.{serves_page, span_of, walk_by}
use Rattle.nk_bits.specs.TranslationLaws.{KeptLaws}
use Rattle.phys_mem.specs.Memory.{entry_in, stored}
use Rattle.page_walk.specs.MemoryAccess.{view_of}
use Rattle.irq_plan.specs.declared.event.What.{What}
use Rattle.irq_plan.specs.declared.event.What.TheVariants.{Irq, Drop, Fill, Keep, Forget}
use Rattle.irq_plan.specs.PlannedEvents.{IsPlannable}
use Rattle.page_desc.specs.PageTables.{HoldsSoundTables}
use Rattle.nk_body.specs.NestedRecord.{AreBooks, Books, nested_in}
use Rattle.cpu_step.specs.declared.stepped.Stepped.TheVariants as stepped
use Rattle.cpu_step.specs.Processor.{IsSound}
use Rattle.cpu_step.specs.TurnStores.{turn_stores}
use Rattle.cpu_step.specs.Turns.{enters_body, is_at_body, turned}
use Rattle.gate_state.specs.AnyVector.{DeliversAny}
use Rattle.gate_state.specs.GateWindow.{IsGatePoint}
use Rattle.gate_state.specs.GuardedStates.{AreKinds, IsAdmitted, IsGuarded, KeepsOpeningBytes}
use Rattle.gate_state.specs.MachineStates.{MachineState, Opening, nested_of}
use Rattle.gate_state.specs.MachineSteps.{after_event, after_reading, after_turn, asked_in, shown_by_turn, turn_of, wanted}
use Rattle.gate_state.specs.RespectedKinds.{leads, respecting, respects}
use Rattle.gate_state.specs.SafeStates.{IsSafe, TakesTurn}
use Rattle.gate_state.specs.ShownSteps.{IsShown}
use Rattle.gate_state.specs.SourceBytes.{source_place}
use Rattle.gate_state.proofs.LowerLaws.{LowerLaws}
use Rattle.gate_state.proofs.Ready.{IsReady, Kept}
use Rattle.gate_state.proofs.Scene.{SceneLaws}
use Rattle.gate_state.proofs.SceneProofs.{scene_laws}
use Rattle.gate_state.proofs.SceneProofsRespects.{look_passes}
use Rattle.gate_state.proofs.SceneProofsUppers.{entry_passes}
use Rattle.gate_state.proofs.SceneProofsWalks.{kind_is}
use Rattle.gate_state.proofs.SourceReads.{source_keeps}
use Rattle.gate_state.proofs.TurnFacts.{TurnFacts}
use Rattle.gate_state.proofs.TurnKept.{gate_instruction, turn_kept}

-- CR4 of the opening has SMEP
has_smep : (cr4 : ℕ) → cr4 ≡ 0x100020 → smep_of cr4 ≡ true
unfolding smep_of
has_smep cr4 is = ap (λ n. n / 2 ^ 20 % 2 == 1) is

-- the leaf that a walk found is filled
filled_pass : (laws : KeptLaws) (test : Claim) (tlb : Translations) (page : ℕ) (found : Result Leaf ℕ) → AllPass test tlb
    → IfOk found (λ leaf. test.pair (page, leaf) ≡ true) → AllPass test (fill_walked tlb page None found)
filled_pass laws test tlb page (Ok leaf) all passes = laws.filled test tlb page leaf all passes
filled_pass laws test tlb page (Err level) all passes = all

each_found : {A : Type 0} (P : A → Type 0) (found : Option A) → ((it : A) → found ≡ Some it → P it) → IfSome found P
each_found P None holds = tt
each_found P (Some it) holds = holds it refl

module _ (laws : LowerLaws) (o : Opening) (admitted : IsAdmitted o) where
  abbrev Facts : List Kind → Type 0
  Facts ks = TurnFacts o ks

  scenes_of : (ks : List Kind) → AreKinds o ks → SceneLaws o ks
  scenes_of ks are = scene_laws laws o ks admitted are

  -- the trap stack may be stored to
  pub stack_storable : (ks : List Kind) → AreKinds o ks → is_storable (kind_of ks 3) ≡ true
  stack_storable ks are = ap is_storable (kind_is laws o ks admitted are 3 Trap (omega (arith, admitted.layout.least)) (laws.opening_kinds.trap o.image o.frames) refl)

  pub ready : (s : MachineState) → IsGuarded o s → IsReady o s.kinds s.processor s.memory
  ready s guarded = record {
    control = guarded.control;
    scene = record {
      admitted = admitted;
      kinds_are = guarded.kinds;
      memory = guarded.memory;
      tables = guarded.tables;
      smep = has_smep s.processor.control.cr4 guarded.control.cr4;
    };
    pass = guarded.translations;
  }

  -- a turn
  module _ (s : MachineState) (guarded : IsGuarded o s) (facts : TurnFacts o s.kinds) (takes : TakesTurn s.processor) where
    abbrev made : List (ℕ × ℕ)
    made = turn_stores s.processor s.memory

    pub kept : Kept o s.kinds (wp_of s.processor.control.cr0) s.processor.control.root s.memory (turned s.processor s.memory) made
    kept = turn_kept laws o s.kinds (scenes_of s.kinds guarded.kinds) facts (stack_storable s.kinds guarded.kinds) s.processor s.memory (ready s guarded) takes.no_body takes.runs guarded.window

    pub turn_guarded : IsGuarded o (after_turn s)
    unfolding after_turn
    turn_guarded = record {
      control = kept.control;
      kinds = guarded.kinds;
      tables =
          let after : ((turn_of s).processor.control.root, (turn_of s).memory) ≡ (s.processor.control.root, stored s.memory made) = λ i. (kept.same_root i, kept.memory_is i) in
          subst (λ (x : ℕ × List ℕ). HoldsSoundTables s.kinds x.0 x.1) (sym after) (laws.stores.sound s.kinds s.processor.control.root s.memory made guarded.tables kept.are.places);
      memory = subst (KeepsOpeningBytes o s.kinds) (sym kept.memory_is) ((scenes_of s.kinds guarded.kinds).held_stored s.memory made admitted guarded.kinds guarded.memory kept.are);
      ledger = guarded.ledger;
      next = omega (arith, guarded.next);
      translations = kept.pass;
      window = kept.window;
    }

    pub turn_stays : nested_of (after_turn s) ≡ nested_of s
    unfolding after_turn
    turn_stays =
        ap (λ (root : ℕ). nested_in s.kinds root s.ledger (turn_of s).memory) kept.same_root
        ∙ ap (nested_in s.kinds s.processor.control.root s.ledger) kept.memory_is
        ∙ laws.stores.nested s.kinds s.processor.control.root s.ledger s.memory made guarded.tables.handler kept.are.places

    pub turn_books : (books : Books) → books.frames.kinds ≡ s.kinds → AreBooks books s.memory → AreBooks books (after_turn s).memory
    unfolding after_turn
    turn_books books same are =
        subst (AreBooks books) (sym kept.memory_is)
        (laws.stores.books books s.memory made are
        (subst (λ (ks : List Kind). All (λ w. is_storable (kind_of ks (w.0 / 4096)) ≡ true) made) (sym same) kept.are.places))

    pub turn_runs : (turn_of s).stepped ≢ stepped.Shutdown
    turn_runs = kept.runs

    pub turn_shows : IsShown (shown_by_turn (turn_of s).stepped)
    turn_shows = kept.shows

    pub turn_places : wp_of s.processor.control.cr0 ≡ false → All (λ store. store.0 / 4096 ≡ 3) made
    turn_places = kept.places

  -- another pending set, and other translations
  with_event : (s : MachineState) (pending : ℕ) (tlb : Translations) → IsGuarded o s → pending < 2 ^ 16 → AllPass (respecting o s.kinds) tlb
      → IsGuarded o (record s { processor = record s.processor { pending = pending; tlb = tlb }; taken = s.taken + 1 })
  with_event s pending tlb guarded small pass = record {
    control = record {
      cr0 = guarded.control.cr0;
      cr2 = guarded.control.cr2;
      cr4 = guarded.control.cr4;
      efer = guarded.control.efer;
      tables = guarded.control.tables;
      cpl = guarded.control.cpl;
      registers = guarded.control.registers;
      pending = small;
    };
    kinds = guarded.kinds;
    tables = guarded.tables;
    memory = guarded.memory;
    ledger = guarded.ledger;
    next = guarded.next;
    translations = pass;
    window = λ clear. let at : IsGatePoint s.processor = guarded.window clear in
        record { offset = at.offset; stands = record { supervisor = at.stands.supervisor; runs = at.stands.runs; rip = at.stands.rip; point = at.stands.point; holds = at.stands.holds } };
  }

  -- what walks find in a guarded state respects the kinds
  walked_in : (s : MachineState) → IsGuarded o s → IsWalked (view_of s.memory s.processor.control 0) (respecting o s.kinds)
  walked_in s guarded = (scenes_of s.kinds guarded.kinds).walked s.memory s.processor.control 0 (ready s guarded).scene

  pub event_guarded : (s : MachineState) (what : What) → IsPlannable what → IsGuarded o s → IsGuarded o (after_event what s)
  event_guarded s (Irq vector) plannable guarded = with_event s _ s.processor.tlb guarded (laws.pending.left s.processor.pending (vector - 32) true guarded.control.pending (omega (arith, plannable))) guarded.translations
  event_guarded s (Drop page) plannable guarded = with_event s s.processor.pending _ guarded guarded.control.pending (laws.kept.forgotten (respecting o s.kinds) s.processor.tlb (page_of page) guarded.translations)
  event_guarded s (Fill page) plannable guarded =
      let canonical : is_canonical page ≡ true = (and_parts (is_canonical page) (page % 4096 == 0) plannable).0 in
      with_event s s.processor.pending _ guarded guarded.control.pending
      (filled_pass laws.kept (respecting o s.kinds) s.processor.tlb (page_of page)
      (walk_by (entry_in s.memory) (length s.memory / 4096) s.processor.control.root s.processor.tlb.upper (page_of page)) guarded.translations
      (laws.kept.found (view_of s.memory s.processor.control 0) (respecting o s.kinds) s.processor.tlb page (walked_in s guarded) guarded.translations canonical))
  event_guarded s (Keep level page) plannable guarded =
      let canonical : is_canonical page ≡ true = (and_parts (is_canonical page) (page % 4096 == 0) plannable.2).0 in
      let found : Option Upper = upper_walk (entry_in s.memory) (length s.memory / 4096) s.processor.control.root (page_of page) level in
      with_event s s.processor.pending _ guarded guarded.control.pending
      (laws.kept.entry_kept (respecting o s.kinds) s.processor.tlb level (page_of page) found guarded.translations
      (each_found (λ (it : Upper). leads o s.kinds (level, span_of level (page_of page), it) ≡ true) found
      (λ it is. (scenes_of s.kinds guarded.kinds).upper_leads s.memory s.processor.control level page it (ready s guarded).scene plannable.0 plannable.1 canonical is)))
  event_guarded s (Forget level page) plannable guarded =
      with_event s s.processor.pending _ guarded guarded.control.pending
      (laws.kept.entry_forgotten (respecting o s.kinds) s.processor.tlb level (page_of page) guarded.translations)

  -- other translations
  pub reading_pass : (s : MachineState) → IsGuarded o s → AllPass (respecting o s.kinds) (after_reading s).processor.tlb
  reading_pass s guarded =
      source_keeps laws.kept (respecting o s.kinds) s.memory s.processor.control (walked_in s guarded) s.processor.tlb (source_place (asked_in s)) (wanted s) guarded.translations

  -- the processor is sound
  pub guarded_sound : (s : MachineState) → IsGuarded o s → IsSound (length s.memory) s.processor
  guarded_sound s guarded = record {
    cpl = guarded.control.cpl;
    context = record {
      root =
          let inside : s.processor.control.root < length s.kinds = laws.kind.table_in_memory s.kinds s.processor.control.root (omega (arith, guarded.tables.root_level)) in
          omega (arith, inside, guarded.tables.size);
      frames = (scenes_of s.kinds guarded.kinds).named s.memory s.processor.control s.processor.tlb (ready s guarded).scene guarded.translations;
    };
  }

  -- each live translation respects the kinds
  live_respects : (s : MachineState) → IsGuarded o s → (page : ℕ) (leaf : Leaf)
      → IsLive (entry_in s.memory) (length s.memory / 4096) s.processor.control.root s.processor.tlb page leaf → respects o s.kinds (page, leaf) ≡ true
  live_respects s guarded page leaf (inl found) =
      let Is : Option Leaf → Type 0 = λ at. IfSome at (λ leaf. respects o s.kinds (page, leaf) ≡ true) in
      subst Is found (look_passes (respecting o s.kinds) s.processor.tlb page guarded.translations)
  live_respects s guarded page leaf (inr given) =
      let same : page_of (4096 * page) ≡ page = omega arith in
      let walked : IsWalked (view_of s.memory s.processor.control 0) (respecting o s.kinds) = walked_in s guarded in
      let at : respects o s.kinds (page_of (4096 * page), leaf) ≡ true = elim given.1 [
        | inl found ↦
            walked.root (4096 * page) leaf given.0
            (ap (walk (entry_in s.memory) (length s.memory / 4096) s.processor.control.root) same ∙ found)
        | inr below ↦
            walked.below below.entry (4096 * page) leaf (entry_passes (respecting o s.kinds) s.processor.tlb below.place below.entry below.kept guarded.translations) given.0
            (ap (λ (n : ℕ). serves_page n below.entry) same ∙ below.for_page)
            (ap (λ (n : ℕ). walk_below (entry_in s.memory) (length s.memory / 4096) n below.entry.0 below.entry.2) same ∙ below.found)
      ] in
      ap (λ n. respects o s.kinds (n, leaf)) (sym same) ∙ at

  -- each vector can be delivered
  pub guarded_delivers : (s : MachineState) → IsGuarded o s → TurnFacts o s.kinds → DeliversAny s
  guarded_delivers s guarded facts vector code few =
      (facts.delivers s.memory s.processor.control s.processor.tables s.processor.regs vector code s.processor.tlb
      (ready s guarded).scene guarded.control.tables guarded.translations few).made

  pub guarded_safe : (s : MachineState) → IsGuarded o s → TurnFacts o s.kinds → IsSafe o s
  guarded_safe s guarded facts = record {
    gates = λ takes clear none.
        gate_instruction laws o s.kinds (scenes_of s.kinds guarded.kinds) facts (stack_storable s.kinds guarded.kinds) s.processor s.memory (ready s guarded) (guarded.window clear)
        (away takes.no_body clear);
    respected = live_respects s guarded;
    stores = λ takes. (kept s guarded facts takes).are.places;
    window_stores = λ takes clear. turn_places s guarded facts takes clear;
    runs = λ takes. turn_runs s guarded facts takes;
  }
    where
      away : enters_body s.processor ≡ false → wp_of s.processor.control.cr0 ≡ false → is_at_body s.processor.regs ≡ false
      away outside clear = by_place (is_at_body s.processor.regs) (wp_of s.processor.control.cr0) outside clear
        where
          by_place : (b w : Bool) → b && not w ≡ false → w ≡ false → b ≡ false
          by_place b true out clear = absurd (false≢true (sym clear))
          by_place true false out clear = absurd (false≢true (sym out))
          by_place false false out clear = refl
