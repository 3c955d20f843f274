-- Memory after a turn is memory after its stores.
use Rattle.std.proofs.Common.{◌≡◌, ℕ, ◌*◌, ◌+◌, ◌∙◌, Bool, true, false, if◌then◌else◌, List, [], refl, sym, ap}
use Rattle.std.specs.Prelude.{Option, Some, None, Result, Ok, Err}
use Rattle.nk_bits.specs.Outcomes.{Outcome}
use Rattle.nk_bits.specs.Translations.{Translations, faulted}
use Rattle.phys_mem.specs.Memory.{stored}
use Rattle.phys_mem.specs.MemoryLaws.{MemoryLaws}
use Rattle.port_bus.specs.PortWords.{console_byte}
use Rattle.x86_regs.specs.declared.effects.Act.{Act}
use Rattle.x86_regs.specs.declared.effects.Act.TheVariants as act
use Rattle.x86_regs.specs.declared.effects.Effect.{Effect}
use Rattle.x86_regs.specs.declared.effects.Write.{Write}
use Rattle.x86_regs.specs.declared.faults.Fault.{Fault}
use Rattle.x86_regs.specs.declared.faults.Fault.TheVariants as fault
use Rattle.x86_regs.specs.declared.registers.Regs.{Regs}
use Rattle.trap_unit.specs.declared.shutdown.Shut.{Shut}
use Rattle.trap_unit.specs.TrapDelivery.{interrupt_allowed}
use Rattle.trap_unit.specs.TrapReturn.{returned}
use Rattle.trap_unit.specs.DeliveryLaws.{DeliveryLaws}
use Rattle.cpu_step.specs.Processor.{Processor, deliverable}
use Rattle.x86_regs.specs.Effects.{memory_after}
use Rattle.cpu_step.specs.Turns.{acted, error_code_of, control_after, instructed, instruction_made, interrupted_by, is_at_body, fault_raised, refused_body, returned_by, console_shown, trapped, turned, turned_by, turned_unless, vector_of, woken}
use Rattle.cpu_step.specs.TurnStores.{act_stores, body_stores, effect_stores, fault_stores, instruction_stores, interrupt_stores, return_stores, stores_unless, trap_stores, turn_stores, write_stores}

stored_none : (m : List ℕ) → m ≡ stored m []
unfolding stored
stored_none m = refl

write_stored : (write : Option Write) (m : List ℕ) → memory_after write m ≡ stored m (write_stores write)
write_stored None m = stored_none m
write_stored (Some write) m = refl

shown_stored : (byte : Option ℕ) (p : Processor) (m : List ℕ) → (console_shown byte p m).memory ≡ stored m []
shown_stored None p m = stored_none m
shown_stored (Some byte) p m = stored_none m

module _ (memory : MemoryLaws) (deliveries : DeliveryLaws) where
  trapped_stored : (vector : ℕ) (code : Option ℕ) (p : Processor) (m : List ℕ)
      → (trapped vector code p m).memory ≡ stored m (trap_stores vector code p m)
  unfolding trapped
  trapped_stored vector code p m = deliveries.stores p.regs p.control p.tables vector code m p.tlb

  raised_stored : (it : Fault) (p : Processor) (m : List ℕ) → (fault_raised it p m).memory ≡ stored m (fault_stores it p m)
  raised_stored it p m =
      trapped_stored (vector_of it) (error_code_of it) (record p { control = control_after it p.control }) m

  interrupted_stored : (allowed : Result Bool Shut) (vector : ℕ) (before : Regs) (p : Processor) (m : List ℕ)
      → (interrupted_by allowed vector before p m).memory ≡ stored m (interrupt_stores allowed vector before p m)
  interrupted_stored (Ok true) vector before p m = trapped_stored vector None p m
  interrupted_stored (Ok false) vector before p m =
      raised_stored (fault.General (8 * vector + 2)) (record p { regs = before }) m
  interrupted_stored (Err shut) vector before p m = stored_none m

  returned_stored : (answer : Result Regs Fault) (before : Regs) (p : Processor) (m : List ℕ)
      → (returned_by answer before p m).memory ≡ stored m (return_stores answer before p m)
  returned_stored (Ok regs) before p m = stored_none m
  returned_stored (Err it) before p m = raised_stored it (record p { regs = before }) m

  acted_stored : (a : Act) (before : Regs) (p : Processor) (m : List ℕ)
      → (acted a before p m).memory ≡ stored m (act_stores a before p m)
  acted_stored act.Quiet before p m = stored_none m
  acted_stored (act.Out byte port) before p m = shown_stored (console_byte port byte) p m
  acted_stored (act.In port) before p m = stored_none m
  acted_stored act.Halt before p m = stored_none m
  acted_stored act.Enable before p m = stored_none m
  acted_stored (act.Interrupt vector) before p m =
      let allowed : Outcome Shut Bool = interrupt_allowed p.control p.tables p.regs.cpl vector m p.tlb in
      interrupted_stored allowed.answer vector before (record p { tlb = allowed.tlb }) m
  acted_stored (act.Return frame) before p m = returned_stored (returned p.regs frame) before p m
  acted_stored (act.Cr0 value) before p m = stored_none m
  acted_stored (act.Cr2 value) before p m = stored_none m
  acted_stored (act.Cr3 value) before p m = stored_none m
  acted_stored (act.Cr4 value) before p m = stored_none m
  acted_stored (act.Idt base limit) before p m = stored_none m
  acted_stored (act.DropPage page) before p m = stored_none m

  effect_stored : (answer : Result Effect Fault) (p : Processor) (m : List ℕ) (tlb : Translations)
      → (turned_by answer p m tlb).memory ≡ stored m (effect_stores answer p m tlb)
  effect_stored (Err it) p m tlb = raised_stored it (record p { tlb = tlb }) m
  effect_stored (Ok effect) p m tlb =
      let q : Processor = record p { regs = effect.regs; tlb = tlb } in
      let later : List (ℕ × ℕ) = act_stores effect.act p.regs q (memory_after effect.write m) in
      acted_stored effect.act p.regs q (memory_after effect.write m)
      ∙ ap (λ (l : List ℕ). stored l later) (write_stored effect.write m)
      ∙ sym (memory.append m (write_stores effect.write) later)

  instructed_stored : (p : Processor) (m : List ℕ) → (instructed p m).memory ≡ stored m (instruction_stores p m)
  unfolding instructed instruction_stores
  instructed_stored p m = by_place (is_at_body p.regs)
    where
      by_place : (b : Bool)
          → (if b then refused_body p m else turned_by (instruction_made p m).answer p m (instruction_made p m).tlb).memory
          ≡ stored m (if b then body_stores p m else effect_stores (instruction_made p m).answer p m (instruction_made p m).tlb)
      by_place true = raised_stored (fault.Page 3 0xFFFFFF8000004FF8) (record p { tlb = faulted p.tlb 0xFFFFFF8000004 }) m
      by_place false = effect_stored (instruction_made p m).answer p m (instruction_made p m).tlb

  stored_unless : (vector : Option ℕ) (p : Processor) (m : List ℕ)
      → (turned_unless vector p m).memory ≡ stored m (stores_unless vector p m)
  stored_unless (Some vector) p m = trapped_stored vector None (woken vector p) m
  stored_unless None p m = instructed_stored (record p { shielded = false }) m

  pub turned_stored : (p : Processor) (m : List ℕ) → (turned p m).memory ≡ stored m (turn_stores p m)
  unfolding turned turn_stores
  turned_stored p m = stored_unless (deliverable p) p m
