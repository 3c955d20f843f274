-- A turn in a scene that is told to touch any byte stores on the trap stack alone: it is a delivery's.
use Rattle.std.proofs.Common.{◌≡◌, ◌⊎◌, ℕ, ◌+◌, ◌*◌, ◌/◌, ◌^◌, ◌<◌, Bool, true, false, List, ◌++◌, All, refl, sym, subst, arith, inl, inr}
use Rattle.std.specs.Prelude.{IfOk, Option, None, Some, Result, Ok, Err, if◌then◌else◌}
use Rattle.std.proofs.lemmas.List.Elements.{All-nil}
use Rattle.nk_bits.specs.declared.kind.Kind.{Kind}
use Rattle.nk_bits.specs.Claims.{AllPass}
use Rattle.nk_bits.specs.Outcomes.{Outcome, then_by}
use Rattle.nk_bits.specs.Translations.{Translations, faulted}
use Rattle.page_walk.specs.MemoryAccess.{view_of}
use Rattle.port_bus.specs.PortWords.{console_byte}
use Rattle.x86_regs.specs.declared.effects.Act.{Act}
use Rattle.x86_regs.specs.declared.effects.Act.TheVariants as act
use Rattle.x86_regs.specs.declared.effects.Effect.{Effect}
use Rattle.x86_regs.specs.declared.effects.Write.{Write}
use Rattle.x86_regs.specs.declared.faults.Fault.{Fault}
use Rattle.x86_regs.specs.declared.faults.Fault.TheVariants as fault
use Rattle.x86_regs.specs.declared.registers.Regs.{Regs}
use Rattle.x86_regs.specs.Effects.{IfDelivered, LeavesToDelivery, effect_of, memory_after}
use Rattle.x86_regs.specs.EffectsKept.{AreRegisters}
use Rattle.trap_unit.specs.declared.shutdown.Shut.{Shut}
use Rattle.trap_unit.specs.TrapDelivery.{interrupt_allowed}
use Rattle.trap_unit.specs.TrapReturn.{returned}
use Rattle.cpu_step.specs.declared.fetch.Fetched.{Fetched}
use Rattle.cpu_step.specs.declared.touched.Touched.TheVariants.{Any}
use Rattle.cpu_step.specs.FramesTouched.{effect_touched, instruction_touched, touched_by, touched_of, touched_unless, turn_touched}
use Rattle.cpu_step.specs.InstructionFetch.{instruction_at}
use Rattle.cpu_step.specs.Processor.{Processor, deliverable}
use Rattle.cpu_step.specs.TurnStores.{act_stores, body_stores, effect_stores, fault_stores, instruction_stores, interrupt_stores, return_stores, stores_unless, trap_stores, turn_stores, write_stores}
use Rattle.cpu_step.specs.Turns.{acted, console_shown, instructed, instruction_made, is_at_body, refused_body, turned_by}
use Rattle.gate_state.specs.MachineOpening.{opening_tables}
use Rattle.gate_state.specs.MachineStates.{Opening}
use Rattle.gate_state.specs.RespectedKinds.{respecting}
use Rattle.gate_state.proofs.Delivery.{IsAsked}
use Rattle.gate_state.proofs.LowerLaws.{LowerLaws}
use Rattle.gate_state.proofs.PortWrites.{then_ok}
use Rattle.gate_state.proofs.Scene.{IsScene, SceneLaws}
use Rattle.gate_state.proofs.TurnFacts.{TurnFacts}

abbrev pub AreTrapped : List (ℕ × ℕ) → Type 0
AreTrapped ws = All (λ (w : ℕ × ℕ). w.0 / 4096 ≡ 3) ws

-- a processor over a scene, with the opening's tables and translations that respect the kinds
pub record IsIn (o : Opening) (ks : List Kind) (p : Processor) (m : List ℕ) : Type 0 where
  pub scene : IsScene o ks m p.control
  pub tables : p.tables ≡ opening_tables
  pub pass : AllPass (respecting o ks) p.tlb

-- the write of an instruction is told by its frames
never_any : {A : Type 0} (write : Option Write) → touched_of write ≡ Any → A
never_any None is = absurd (cc)
never_any (Some w) is = absurd (cc)

console_any : {A : Type 0} (byte : Option ℕ) (write : Option Write) (p : Processor) (m : List ℕ)
    → touched_by (console_shown byte p m).stepped write ≡ Any → A
console_any None write p m is = never_any write is
console_any (Some byte) write p m is = never_any write is

module _ (laws : LowerLaws) (o : Opening) (ks : List Kind) (scenes : SceneLaws o ks) (facts : TurnFacts o ks) where
  trap_trapped : (vector : ℕ) (code : Option ℕ) (p : Processor) (m : List ℕ) → IsIn o ks p m → vector < 48
      → AreTrapped (trap_stores vector code p m)
  trap_trapped vector code p m here few =
      (facts.delivers m p.control p.tables p.regs vector code p.tlb here.scene here.tables here.pass few).places

  with_cr2 : (p : Processor) (m : List ℕ) (value : ℕ) → IsIn o ks p m
      → IsIn o ks (record p { control = record p.control { cr2 = value } }) m
  with_cr2 p m value here = record {
    scene = record {
      admitted = here.scene.admitted;
      kinds_are = here.scene.kinds_are;
      memory = here.scene.memory;
      tables = here.scene.tables;
      smep = here.scene.smep;
    };
    tables = here.tables;
    pass = here.pass;
  }

  fault_trapped : (it : Fault) (p : Processor) (m : List ℕ) → IsIn o ks p m → AreTrapped (fault_stores it p m)
  fault_trapped fault.Divide p m here = trap_trapped 0 None p m here (omega arith)
  fault_trapped fault.Opcode p m here = trap_trapped 6 None p m here (omega arith)
  fault_trapped fault.Stack p m here = trap_trapped 12 (Some 0) p m here (omega arith)
  fault_trapped (fault.General code) p m here = trap_trapped 13 (Some code) p m here (omega arith)
  fault_trapped (fault.Page code address) p m here =
      trap_trapped 14 (Some code) (record p { control = record p.control { cr2 = address } }) m
      (with_cr2 p m address here) (omega arith)

  interrupt_trapped : (allowed : Result Bool Shut) (vector : ℕ) (before : Regs) (p : Processor) (m : List ℕ)
      → (allowed ≡ Ok false) ⊎ ((allowed ≡ Ok true) × (vector < 48)) → IsIn o ks p m
      → AreTrapped (interrupt_stores allowed vector before p m)
  interrupt_trapped allowed vector before p m (inl refused) here =
      subst (λ (a : Result Bool Shut). AreTrapped (interrupt_stores a vector before p m)) (sym refused)
      (fault_trapped (fault.General (8 * vector + 2)) (record p { regs = before }) m
      (record { scene = here.scene; tables = here.tables; pass = here.pass }))
  interrupt_trapped allowed vector before p m (inr asked) here =
      subst (λ (a : Result Bool Shut). AreTrapped (interrupt_stores a vector before p m)) (sym asked.0)
      (trap_trapped vector None p m here asked.1)

  return_trapped : (answer : Result Regs Fault) (before : Regs) (p : Processor) (m : List ℕ) → IsIn o ks p m
      → AreTrapped (return_stores answer before p m)
  return_trapped (Ok regs) before p m here = All-nil (λ (w : ℕ × ℕ). w.0 / 4096 ≡ 3)
  return_trapped (Err it) before p m here =
      fault_trapped it (record p { regs = before }) m
      (record { scene = here.scene; tables = here.tables; pass = here.pass })

  -- an interrupt or a return, which writes nothing before it is delivered
  without_write : (a : Act) (write : Option Write) (before : Regs) (p : Processor) (m : List ℕ) → write ≡ None
      → AreTrapped (act_stores a before p m)
      → AreTrapped (write_stores write ++ act_stores a before p (memory_after write m))
  without_write a write before p m none trapped =
      subst (λ (w : Option Write). AreTrapped (write_stores w ++ act_stores a before p (memory_after w m))) (sym none)
      trapped

  act_trapped : (a : Act) (write : Option Write) (before : Regs) (p : Processor) (m : List ℕ) (P : Type 0)
      → IfDelivered a (P × (write ≡ None)) → IsIn o ks p m
      → touched_by (acted a before p (memory_after write m)).stepped write ≡ Any
      → AreTrapped (write_stores write ++ act_stores a before p (memory_after write m))
  act_trapped (act.Interrupt vector) write before p m P none here is =
      let allowed : Outcome Shut Bool = interrupt_allowed p.control p.tables p.regs.cpl vector m p.tlb in
      let asked : IsAsked o ks vector allowed =
      facts.asks m p.control p.tables p.regs.cpl vector p.tlb here.scene here.tables here.pass in
      without_write (act.Interrupt vector) write before p m none.1
      (interrupt_trapped allowed.answer vector before (record p { tlb = allowed.tlb }) m asked.answered
      (record { scene = here.scene; tables = here.tables; pass = asked.pass }))
  act_trapped (act.Return frame) write before p m P none here is =
      without_write (act.Return frame) write before p m none.1
      (return_trapped (returned p.regs frame) before p m here)
  act_trapped (act.Out byte port) write before p m P none here is =
      console_any (console_byte port byte) write p (memory_after write m) is
  act_trapped act.Quiet write before p m P none here is = never_any write is
  act_trapped (act.In port) write before p m P none here is = never_any write is
  act_trapped act.Halt write before p m P none here is = never_any write is
  act_trapped act.Enable write before p m P none here is = never_any write is
  act_trapped (act.Cr0 value) write before p m P none here is = never_any write is
  act_trapped (act.Cr2 value) write before p m P none here is = never_any write is
  act_trapped (act.Cr3 value) write before p m P none here is = never_any write is
  act_trapped (act.Cr4 value) write before p m P none here is = never_any write is
  act_trapped (act.Idt base limit) write before p m P none here is = never_any write is
  act_trapped (act.DropPage page) write before p m P none here is = never_any write is

  effect_trapped : (answer : Result Effect Fault) (p : Processor) (m : List ℕ) (tlb : Translations) → IsIn o ks p m
      → AllPass (respecting o ks) tlb → IfOk answer (LeavesToDelivery p.regs)
      → effect_touched answer (turned_by answer p m tlb).stepped ≡ Any → AreTrapped (effect_stores answer p m tlb)
  effect_trapped (Err it) p m tlb here pass leaves is =
      fault_trapped it (record p { tlb = tlb }) m (record { scene = here.scene; tables = here.tables; pass = pass })
  effect_trapped (Ok effect) p m tlb here pass leaves is =
      act_trapped effect.act effect.write p.regs (record p { regs = effect.regs; tlb = tlb }) m _ leaves
      (record { scene = here.scene; tables = here.tables; pass = pass }) is

  module _ (p : Processor) (m : List ℕ) (here : IsIn o ks p m) (registers : AreRegisters p.regs) where
    abbrev fetched : Outcome Fault Fetched
    fetched = instruction_at m (view_of m p.control p.regs.cpl) p.regs.rip p.tlb

    made_leaves : IfOk (instruction_made p m).answer (LeavesToDelivery p.regs)
    made_leaves =
        then_ok (LeavesToDelivery p.regs) fetched.answer _ _
        (λ it. laws.effect.moved it.instr it.size p.regs p.control m _)

    fetch_passes : AllPass (respecting o ks) fetched.tlb
    fetch_passes = facts.fetch_pass m p.control p.regs.cpl p.regs.rip p.tlb here.scene here.pass

    behind_passes : (answer : Result Fetched Fault) → fetched.answer ≡ answer
        → let made : Outcome Fault Effect = then_by answer fetched.tlb
        (λ it after. effect_of it.instr it.size p.regs p.control m after) in
        AllPass (respecting o ks) made.tlb
    behind_passes (Err it) is = fetch_passes
    behind_passes (Ok it) is =
        laws.grant.translations it.instr it.size p.regs p.control m fetched.tlb (respecting o ks)
        (facts.fetch_formed m p.control p.regs.cpl p.regs.rip p.tlb here.scene it is) registers
        (scenes.walked m p.control p.regs.cpl here.scene) fetch_passes

    instruction_trapped : instruction_touched p m ≡ Any → AreTrapped (instruction_stores p m)
    unfolding instructed instruction_stores instruction_touched
    instruction_trapped is = by_place (is_at_body p.regs) is
      where
        by_place : (b : Bool) → let made : Outcome Fault Effect = instruction_made p m in
            (if b then Any
            else effect_touched made.answer (if b then refused_body p m else turned_by made.answer p m made.tlb).stepped)
            ≡ Any
            → AreTrapped (if b then body_stores p m else effect_stores made.answer p m made.tlb)
        by_place true is =
            fault_trapped (fault.Page 3 0xFFFFFF8000004FF8) (record p { tlb = faulted p.tlb 0xFFFFFF8000004 }) m
            (record {
              scene = here.scene;
              tables = here.tables;
              pass = laws.kept.faulted (respecting o ks) p.tlb 0xFFFFFF8000004 here.pass;
            })
        by_place false is =
            effect_trapped (instruction_made p m).answer p m (instruction_made p m).tlb here
            (behind_passes fetched.answer refl) made_leaves is

  pub turn_trapped : (p : Processor) (m : List ℕ) → IsIn o ks p m → AreRegisters p.regs → p.pending < 2 ^ 16
      → turn_touched p m ≡ Any → AreTrapped (turn_stores p m)
  unfolding turn_touched turn_stores
  turn_trapped p m here registers pending is = by_vector (deliverable p) refl is
    where
      by_vector : (vector : Option ℕ) → deliverable p ≡ vector → touched_unless vector p m ≡ Any
          → AreTrapped (stores_unless vector p m)
      by_vector (Some vector) due is = trap_trapped vector None p m here (laws.pending.vector p vector pending due).1
      by_vector None due is =
          instruction_trapped (record p { shielded = false }) m
          (record { scene = here.scene; tables = here.tables; pass = here.pass }) registers is
