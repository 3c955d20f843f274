-- A turn, an event and a source over a memory of which a guarded state's is seen, as they are over the state's memory.
use Rattle.std.proofs.Common.{◌≡◌, ℕ, ◌/◌, true, List, length, sym, ap, ◌∙◌}
use Rattle.std.proofs.lemmas.Bool.{false≢true}
use Rattle.nk_bits.specs.Kinds.{is_storable}
use Rattle.phys_mem.specs.MaskedMemory.{is_book_frame, masked}
use Rattle.nk_bits.specs.Translations.{translation}
use Rattle.phys_mem.specs.Memory.{byte_at, entry_in, stored}
use Rattle.page_walk.specs.MemoryAccess.{view_of}
use Rattle.cpu_step.specs.InstructionFetch.{instruction_at}
use Rattle.cpu_step.specs.TurnStores.{turn_stores}
use Rattle.cpu_step.specs.Turns.{turned}
use Rattle.irq_plan.specs.declared.event.What.{What}
use Rattle.cpu_step.specs.EventsTaken.{event_taken}
use Rattle.gate_state.specs.GuardedStates.{IsAdmitted, IsGuarded}
use Rattle.gate_state.specs.MachineStates.{MachineState, Opening}
use Rattle.gate_state.specs.RespectedKinds.{respecting}
use Rattle.gate_state.specs.SafeStates.{TakesTurn}
use Rattle.gate_state.specs.SourceBytes.{source_read}
use Rattle.gate_state.proofs.BookFrames.{book_hidden}
use Rattle.gate_state.proofs.LowerLaws.{LowerLaws}
use Rattle.gate_state.proofs.MaskedScenes.{IsSeen, alike, masked_stored}
use Rattle.gate_state.proofs.MaskedSources.{event_same, source_same, translation_same}
use Rattle.gate_state.proofs.MaskedTurns.{Left, left_by, turned_same}
use Rattle.gate_state.proofs.Scene.{AreStores, SceneLaws}
use Rattle.gate_state.proofs.SceneProofs.{scene_laws}
use Rattle.gate_state.proofs.SceneProofsStores.{place_apart}
use Rattle.gate_state.proofs.StatesKept.{kept, ready}
use Rattle.gate_state.proofs.TurnFacts.{TurnFacts}

module _ (laws : LowerLaws) (o : Opening) (admitted : IsAdmitted o) (s : MachineState)
    (guarded : IsGuarded o s) (m : List ℕ) (is : masked (is_book_frame o.frames) m ≡ s.memory) where
  scenes : SceneLaws o s.kinds
  scenes = scene_laws laws o s.kinds admitted guarded.kinds

  seen : IsSeen o s.kinds m s.memory s.processor.control
  seen = record { scene = (ready laws o admitted s guarded).scene; masks = is }

  module _ (facts : TurnFacts o s.kinds) (takes : TakesTurn s.processor) where
    abbrev made : List (ℕ × ℕ)
    made = turn_stores s.processor s.memory

    storable : AreStores s.kinds made
    storable = (kept laws o admitted s guarded facts takes).are

    turn_left : left_by (turned s.processor s.memory) made ≡ left_by (turned s.processor m) (turn_stores s.processor m)
    turn_left =
        turned_same laws o s.kinds scenes facts s.processor m s.memory
        (record { seen = seen; tables = guarded.control.tables; pass = guarded.translations }) guarded.control.registers
        guarded.control.pending storable

    pub masked_stores : turn_stores s.processor m ≡ turn_stores s.processor s.memory
    masked_stores = ap (λ (x : Left). x.2) (sym turn_left)

    turn_memory : (turned s.processor m).memory ≡ stored m made
    turn_memory =
        laws.turn_stores.memory s.processor m ∙ ap (λ (x : Left). stored m x.2) (sym turn_left)

    pub masked_turn : ((turned s.processor m).processor ≡ (turned s.processor s.memory).processor)
        × ((turned s.processor m).stepped ≡ (turned s.processor s.memory).stepped)
        × (masked (is_book_frame o.frames) (turned s.processor m).memory ≡ (turned s.processor s.memory).memory)
    masked_turn = (
      ap (λ (x : Left). x.0) (sym turn_left),
      ap (λ (x : Left). x.1) (sym turn_left),
      ap (masked (is_book_frame o.frames)) turn_memory
          ∙ masked_stored laws o s.kinds m s.memory s.processor.control seen made storable
          ∙ sym (laws.turn_stores.memory s.processor s.memory),
    )

    pub masked_stays : (place : ℕ) → is_book_frame o.frames (place / 4096) ≡ true
        → byte_at (turned s.processor m).memory place ≡ byte_at m place
    masked_stays place book =
        ap (λ x. byte_at x place) turn_memory
        ∙ laws.memory.byte_elsewhere m made place
        (place_apart s.kinds made storable.places place (λ may.
        false≢true (sym (ap is_storable (book_hidden laws o s.kinds admitted guarded.kinds (place / 4096) book))
        ∙ may)))

  pub masked_fetch : instruction_at m (view_of m s.processor.control s.processor.regs.cpl) s.processor.regs.rip s.processor.tlb
      ≡ instruction_at s.memory (view_of s.memory s.processor.control s.processor.regs.cpl) s.processor.regs.rip s.processor.tlb
  masked_fetch =
      sym (laws.alike_fetch.instruction (respecting o s.kinds) s.processor.control s.processor.regs.cpl s.memory m
      s.processor.regs.rip s.processor.tlb (alike laws o s.kinds m s.memory s.processor.control seen)
      (scenes.walked s.memory s.processor.control s.processor.regs.cpl seen.scene) guarded.translations)

  pub masked_event : (what : What) → event_taken what m s.processor ≡ event_taken what s.memory s.processor
  masked_event what =
      sym (event_same laws o s.kinds scenes m s.memory what s.processor seen guarded.translations)

  pub masked_source : (va count : ℕ) → source_read m s.processor.control.root s.processor.tlb va count
      ≡ source_read s.memory s.processor.control.root s.processor.tlb va count
  masked_source va count =
      sym (source_same laws o s.kinds scenes m s.memory s.processor.control seen s.processor.tlb va count
      guarded.translations)

  pub masked_translation : (page : ℕ) → translation (entry_in m) (length m / 4096) s.processor.control.root s.processor.tlb page
      ≡ translation (entry_in s.memory) (length s.memory / 4096) s.processor.control.root s.processor.tlb page
  masked_translation page =
      sym (translation_same laws o s.kinds scenes m s.memory s.processor.control seen s.processor.tlb page
      guarded.translations)
