-- A turn over a memory of which a guarded state's is seen: processor and what is shown are as over the state's memory,
-- and so are the stores.
use Rattle.std.proofs.Common.{◌≡◌, ◌⊎◌, ℕ, ◌+◌, ◌*◌, ◌/◌, ◌^◌, ◌<◌, Bool, true, false, List, [], ◌∷◌, ◌++◌, All, refl, sym, ap, subst, ◌∙◌, arith, inl, inr}
use Rattle.std.specs.Prelude.{Option, None, Some, Result, Ok, Err, if◌then◌else◌}
use Rattle.std.proofs.lemmas.List.Elements.{All-cons, All-head, All-nil, All-tail}
use Rattle.nk_bits.specs.declared.kind.Kind.{Kind}
use Rattle.nk_bits.specs.Claims.{AllPass}
use Rattle.nk_bits.specs.Kinds.{is_storable, kind_of}
use Rattle.nk_bits.specs.Outcomes.{Outcome, then_by}
use Rattle.nk_bits.specs.Translations.{Translations, faulted}
use Rattle.phys_mem.specs.Memory.{stored}
use Rattle.page_walk.specs.MemoryAccess.{view_of}
use Rattle.port_bus.specs.PortWords.{console_byte}
use Rattle.x86_regs.specs.declared.effects.Act.{Act}
use Rattle.x86_regs.specs.declared.effects.Act.TheVariants as act
use Rattle.x86_regs.specs.declared.effects.Effect.{Effect}
use Rattle.x86_regs.specs.declared.faults.Fault.{Fault}
use Rattle.x86_regs.specs.declared.faults.Fault.TheVariants as fault
use Rattle.x86_regs.specs.declared.registers.Regs.{Regs}
use Rattle.x86_regs.specs.Effects.{effect_of, memory_after}
use Rattle.x86_regs.specs.EffectsKept.{AreRegisters}
use Rattle.trap_unit.specs.declared.shutdown.Shut.{Shut}
use Rattle.trap_unit.specs.TrapDelivery.{interrupt_allowed}
use Rattle.trap_unit.specs.TrapReturn.{returned}
use Rattle.cpu_step.specs.declared.fetch.Fetched.{Fetched}
use Rattle.cpu_step.specs.declared.stepped.Stepped.{Stepped}
use Rattle.cpu_step.specs.InstructionFetch.{instruction_at}
use Rattle.cpu_step.specs.Processor.{Processor, deliverable}
use Rattle.cpu_step.specs.TurnStores.{act_stores, body_stores, effect_stores, fault_stores, instruction_stores, interrupt_stores, return_stores, stores_unless, trap_stores, turn_stores, write_stores}
use Rattle.cpu_step.specs.Turns.{Turned, acted, delivery_of, instructed, instruction_made, interrupted_by, is_at_body, fault_raised, refused_body, returned_by, console_shown, stepped_by, trapped, turned, turned_by, turned_unless, woken}
use Rattle.gate_state.specs.MachineOpening.{opening_tables}
use Rattle.gate_state.specs.MachineStates.{Opening}
use Rattle.gate_state.specs.RespectedKinds.{respecting}
use Rattle.gate_state.proofs.Delivery.{IsAsked}
use Rattle.gate_state.proofs.Instructions.{memory_stored}
use Rattle.gate_state.proofs.LowerLaws.{LowerLaws}
use Rattle.gate_state.proofs.MaskedDeliveries.{Deliveries, delivered_same}
use Rattle.gate_state.proofs.MaskedScenes.{IsSeen, alike, seen_stored}
use Rattle.gate_state.proofs.Scene.{AreStores, SceneLaws}
use Rattle.gate_state.proofs.TurnFacts.{TurnFacts}

-- what a turn leaves but for memory, with its stores
abbrev pub Left : Type 0
Left = Processor × Stepped × List (ℕ × ℕ)

abbrev pub left_by : Turned → List (ℕ × ℕ) → Left
left_by it ws = (it.processor, it.stepped, ws)

-- a processor over a memory m of which a scene's memory n is seen, with translations that respect the kinds
pub record IsOver (o : Opening) (ks : List Kind) (p : Processor) (m n : List ℕ) : Type 0 where
  pub seen : IsSeen o ks m n p.control
  pub tables : p.tables ≡ opening_tables
  pub pass : AllPass (respecting o ks) p.tlb

-- the stores in front are such as the whole
all_front : (P : ℕ × ℕ → Type 0) (ws more : List (ℕ × ℕ)) → All P (ws ++ more) → All P ws
all_front P [] more each = All-nil P
all_front P (w ∷ ws) more each =
    All-cons P w ws (All-head P w (ws ++ more) each) (all_front P ws more (All-tail P w (ws ++ more) each))

front_storable : (ks : List Kind) (ws more : List (ℕ × ℕ)) → AreStores ks (ws ++ more) → AreStores ks ws
front_storable ks ws more are = record {
  places = all_front (λ (w : ℕ × ℕ). is_storable (kind_of ks (w.0 / 4096)) ≡ true) ws more are.places;
  bytes = all_front (λ (w : ℕ × ℕ). w.1 < 256) ws more are.bytes;
}

module _ (laws : LowerLaws) (o : Opening) (ks : List Kind) (scenes : SceneLaws o ks)
    (facts : TurnFacts o ks) where
  trap_same : (vector : ℕ) (code : Option ℕ) (p : Processor) (m n : List ℕ) → IsOver o ks p m n → vector < 48
      → left_by (trapped vector code p n) (trap_stores vector code p n)
      ≡ left_by (trapped vector code p m) (trap_stores vector code p m)
  unfolding trapped
  trap_same vector code p m n over few =
      ap (λ (x : Deliveries). (record p { regs = x.0; tlb = x.1 }, stepped_by x.2 (delivery_of vector code p), x.3))
      (delivered_same laws o ks scenes p.regs p.control p.tables vector code m n p.tlb over.seen over.tables
      over.pass few)

  with_cr2 : (p : Processor) (m n : List ℕ) (value : ℕ) → IsOver o ks p m n
      → IsOver o ks (record p { control = record p.control { cr2 = value } }) m n
  with_cr2 p m n value over = record {
    seen = record {
      scene = record {
        admitted = over.seen.scene.admitted;
        kinds_are = over.seen.scene.kinds_are;
        memory = over.seen.scene.memory;
        tables = over.seen.scene.tables;
        smep = over.seen.scene.smep;
      };
      masks = over.seen.masks;
    };
    tables = over.tables;
    pass = over.pass;
  }

  raise_same : (it : Fault) (p : Processor) (m n : List ℕ) → IsOver o ks p m n
      → left_by (fault_raised it p n) (fault_stores it p n) ≡ left_by (fault_raised it p m) (fault_stores it p m)
  raise_same fault.Divide p m n over = trap_same 0 None p m n over (omega arith)
  raise_same fault.Opcode p m n over = trap_same 6 None p m n over (omega arith)
  raise_same fault.Stack p m n over = trap_same 12 (Some 0) p m n over (omega arith)
  raise_same (fault.General code) p m n over = trap_same 13 (Some code) p m n over (omega arith)
  raise_same (fault.Page code address) p m n over =
      trap_same 14 (Some code) (record p { control = record p.control { cr2 = address } }) m n
      (with_cr2 p m n address over)
      (omega arith)

  -- with other registers, and other translations
  with_registers : (p : Processor) (m n : List ℕ) (regs : Regs) → IsOver o ks p m n
      → IsOver o ks (record p { regs = regs }) m n
  with_registers p m n regs over = record { seen = over.seen; tables = over.tables; pass = over.pass }

  with_translations : (p : Processor) (m n : List ℕ) (tlb : Translations) → IsOver o ks p m n
      → AllPass (respecting o ks) tlb
      → IsOver o ks (record p { tlb = tlb }) m n
  with_translations p m n tlb over pass = record { seen = over.seen; tables = over.tables; pass = pass }

  -- what an instruction asks of the processor
  shown_same : (byte : Option ℕ) (p : Processor) (m n : List ℕ)
      → left_by (console_shown byte p n) [] ≡ left_by (console_shown byte p m) []
  shown_same None p m n = refl
  shown_same (Some byte) p m n = refl

  interrupt_same : (allowed : Result Bool Shut) (vector : ℕ) (before : Regs) (p : Processor) (m n : List ℕ)
      → (allowed ≡ Ok false) ⊎ ((allowed ≡ Ok true) × (vector < 48)) → IsOver o ks p m n
      → left_by (interrupted_by allowed vector before p n) (interrupt_stores allowed vector before p n)
      ≡ left_by (interrupted_by allowed vector before p m) (interrupt_stores allowed vector before p m)
  interrupt_same allowed vector before p m n (inl refused) over =
      subst (λ (a : Result Bool Shut).
      left_by (interrupted_by a vector before p n) (interrupt_stores a vector before p n)
      ≡ left_by (interrupted_by a vector before p m) (interrupt_stores a vector before p m)) (sym refused)
      (raise_same (fault.General (8 * vector + 2)) (record p { regs = before }) m n (with_registers p m n before over))
  interrupt_same allowed vector before p m n (inr asked) over =
      subst (λ (a : Result Bool Shut).
      left_by (interrupted_by a vector before p n) (interrupt_stores a vector before p n)
      ≡ left_by (interrupted_by a vector before p m) (interrupt_stores a vector before p m)) (sym asked.0)
      (trap_same vector None p m n over asked.1)

  return_same : (answer : Result Regs Fault) (before : Regs) (p : Processor) (m n : List ℕ) → IsOver o ks p m n
      → left_by (returned_by answer before p n) (return_stores answer before p n)
      ≡ left_by (returned_by answer before p m) (return_stores answer before p m)
  return_same (Ok regs) before p m n over = refl
  return_same (Err it) before p m n over =
      raise_same it (record p { regs = before }) m n (with_registers p m n before over)

  act_same : (a : Act) (before : Regs) (p : Processor) (m n : List ℕ) → IsOver o ks p m n
      → left_by (acted a before p n) (act_stores a before p n) ≡ left_by (acted a before p m) (act_stores a before p m)
  act_same act.Quiet before p m n over = refl
  act_same (act.Out byte port) before p m n over = shown_same (console_byte port byte) p m n
  act_same (act.In port) before p m n over = refl
  act_same act.Halt before p m n over = refl
  act_same act.Enable before p m n over = refl
  act_same (act.Interrupt vector) before p m n over =
      let Of : Outcome Shut Bool → List ℕ → Left = λ allowed memory.
      left_by (interrupted_by allowed.answer vector before (record p { tlb = allowed.tlb }) memory)
      (interrupt_stores allowed.answer vector before (record p { tlb = allowed.tlb }) memory) in
      let one : Outcome Shut Bool = interrupt_allowed p.control p.tables p.regs.cpl vector n p.tlb in
      let other : Outcome Shut Bool = interrupt_allowed p.control p.tables p.regs.cpl vector m p.tlb in
      let asked : IsAsked o ks vector one =
      facts.asks n p.control p.tables p.regs.cpl vector p.tlb over.seen.scene over.tables over.pass in
      let same : one ≡ other =
      laws.alike_reads.allowed (respecting o ks) p.control p.tables p.regs.cpl vector n m p.tlb
      (alike laws o ks m n p.control over.seen) (scenes.walked n p.control 0 over.seen.scene) over.pass in
      interrupt_same one.answer vector before (record p { tlb = one.tlb }) m n asked.answered
      (with_translations p m n one.tlb over asked.pass)
      ∙ ap (λ (x : Outcome Shut Bool). Of x m) same
  act_same (act.Return frame) before p m n over = return_same (returned p.regs frame) before p m n over
  act_same (act.Cr0 value) before p m n over = refl
  act_same (act.Cr2 value) before p m n over = refl
  act_same (act.Cr3 value) before p m n over = refl
  act_same (act.Cr4 value) before p m n over = refl
  act_same (act.Idt base limit) before p m n over = refl
  act_same (act.DropPage page) before p m n over = refl

  -- an instruction, by what its effect answers
  effect_same : (answer : Result Effect Fault) (p : Processor) (m n : List ℕ) (tlb : Translations) → IsOver o ks p m n
      → AllPass (respecting o ks) tlb → AreStores ks (effect_stores answer p n tlb)
      → left_by (turned_by answer p n tlb) (effect_stores answer p n tlb)
      ≡ left_by (turned_by answer p m tlb) (effect_stores answer p m tlb)
  effect_same (Err it) p m n tlb over pass are =
      raise_same it (record p { tlb = tlb }) m n (with_translations p m n tlb over pass)
  effect_same (Ok effect) p m n tlb over pass are =
      let ws : List (ℕ × ℕ) = write_stores effect.write in
      let q : Processor = record p { regs = effect.regs; tlb = tlb } in
      let written : IsSeen o ks (stored m ws) (stored n ws) p.control =
      seen_stored laws o ks m n p.control over.seen scenes ws (front_storable ks ws _ are) in
      let seen : IsSeen o ks (memory_after effect.write m) (memory_after effect.write n) p.control =
      subst (λ (x : List ℕ). IsSeen o ks x (memory_after effect.write n) p.control) (sym (memory_stored effect.write m))
      (subst (λ (x : List ℕ). IsSeen o ks (stored m ws) x p.control) (sym (memory_stored effect.write n)) written) in
      ap (λ (x : Left). (x.0, x.1, ws ++ x.2))
      (act_same effect.act p.regs q (memory_after effect.write m) (memory_after effect.write n)
      (record { seen = seen; tables = over.tables; pass = pass }))

  -- its fetch and its effect
  module _ (p : Processor) (m n : List ℕ) (over : IsOver o ks p m n) (registers : AreRegisters p.regs) where
    abbrev fetched : Outcome Fault Fetched
    fetched = instruction_at n (view_of n p.control p.regs.cpl) p.regs.rip p.tlb

    fetch_passes : AllPass (respecting o ks) fetched.tlb
    fetch_passes = facts.fetch_pass n p.control p.regs.cpl p.regs.rip p.tlb over.seen.scene over.pass

    behind_same : (answer : Result Fetched Fault) → fetched.answer ≡ answer
        → then_by answer fetched.tlb (λ it after. effect_of it.instr it.size p.regs p.control n after)
        ≡ then_by answer fetched.tlb (λ it after. effect_of it.instr it.size p.regs p.control m after)
    behind_same (Err it) is = refl
    behind_same (Ok it) is =
        laws.alike.effect it.instr it.size p.regs p.control n m fetched.tlb (respecting o ks)
        (alike laws o ks m n p.control over.seen)
        (scenes.walked n p.control p.regs.cpl over.seen.scene) fetch_passes
        (facts.fetch_formed n p.control p.regs.cpl p.regs.rip p.tlb over.seen.scene it is) registers

    made_same : instruction_made p n ≡ instruction_made p m
    made_same =
        behind_same fetched.answer refl
        ∙ ap (λ (x : Outcome Fault Fetched). then_by x.answer x.tlb
        (λ it after. effect_of it.instr it.size p.regs p.control m after))
        (laws.alike_fetch.instruction (respecting o ks) p.control p.regs.cpl n m p.regs.rip p.tlb
        (alike laws o ks m n p.control over.seen)
        (scenes.walked n p.control p.regs.cpl over.seen.scene) over.pass)

    behind_passes : (answer : Result Fetched Fault) → fetched.answer ≡ answer
        → let made : Outcome Fault Effect = then_by answer fetched.tlb
        (λ it after. effect_of it.instr it.size p.regs p.control n after) in
        AllPass (respecting o ks) made.tlb
    behind_passes (Err it) is = fetch_passes
    behind_passes (Ok it) is =
        laws.grant.translations it.instr it.size p.regs p.control n fetched.tlb (respecting o ks)
        (facts.fetch_formed n p.control p.regs.cpl p.regs.rip p.tlb over.seen.scene it is) registers
        (scenes.walked n p.control p.regs.cpl over.seen.scene) fetch_passes

    made_turn : let made : Outcome Fault Effect = instruction_made p n in
        let other : Outcome Fault Effect = instruction_made p m in
        AreStores ks (effect_stores made.answer p n made.tlb)
        → left_by (turned_by made.answer p n made.tlb) (effect_stores made.answer p n made.tlb)
        ≡ left_by (turned_by other.answer p m other.tlb) (effect_stores other.answer p m other.tlb)
    made_turn are =
        let made : Outcome Fault Effect = instruction_made p n in
        effect_same made.answer p m n made.tlb over (behind_passes fetched.answer refl) are
        ∙ ap (λ (x : Outcome Fault Effect).
        left_by (turned_by x.answer p m x.tlb) (effect_stores x.answer p m x.tlb)) made_same

    instructed_same : AreStores ks (instruction_stores p n)
        → left_by (instructed p n) (instruction_stores p n) ≡ left_by (instructed p m) (instruction_stores p m)
    unfolding instructed instruction_stores
    instructed_same are = by_place (is_at_body p.regs) are
      where
        by_place : (b : Bool) → let made : Outcome Fault Effect = instruction_made p n in
            let other : Outcome Fault Effect = instruction_made p m in
            AreStores ks (if b then body_stores p n else effect_stores made.answer p n made.tlb)
            → left_by (if b then refused_body p n else turned_by made.answer p n made.tlb)
            (if b then body_stores p n else effect_stores made.answer p n made.tlb)
            ≡ left_by (if b then refused_body p m else turned_by other.answer p m other.tlb)
            (if b then body_stores p m else effect_stores other.answer p m other.tlb)
        by_place true are =
            raise_same (fault.Page 3 0xFFFFFF8000004FF8) (record p { tlb = faulted p.tlb 0xFFFFFF8000004 }) m n
            (with_translations p m n (faulted p.tlb 0xFFFFFF8000004) over
            (laws.kept.faulted (respecting o ks) p.tlb 0xFFFFFF8000004 over.pass))
        by_place false are = made_turn are

  pub turned_same : (p : Processor) (m n : List ℕ) → IsOver o ks p m n → AreRegisters p.regs → p.pending < 2 ^ 16
      → AreStores ks (turn_stores p n)
      → left_by (turned p n) (turn_stores p n) ≡ left_by (turned p m) (turn_stores p m)
  unfolding turned turn_stores
  turned_same p m n over registers pending are = by_vector (deliverable p) refl are
    where
      by_vector : (vector : Option ℕ) → deliverable p ≡ vector → AreStores ks (stores_unless vector p n)
          → left_by (turned_unless vector p n) (stores_unless vector p n)
          ≡ left_by (turned_unless vector p m) (stores_unless vector p m)
      by_vector (Some vector) is are =
          trap_same vector None (woken vector p) m n
          (record { seen = over.seen; tables = over.tables; pass = over.pass })
          (laws.pending.vector p vector pending is).1
      by_vector None is are =
          instructed_same (record p { shielded = false }) m n
          (record { seen = over.seen; tables = over.tables; pass = over.pass }) registers are
