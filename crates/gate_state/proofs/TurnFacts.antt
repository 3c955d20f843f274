-- What is known of the parts of a turn in a guarded state: deliveries, fetches, and the instructions of the gates.
use Rattle.std.proofs.Common.{◌≡◌, ◌≢◌, ◌⊎◌, ℕ, ◌+◌, ◌-◌, ◌*◌, ◌^◌, ◌<◌, ◌≤◌, true, false, List, [], ◌∷◌}
use Rattle.std.specs.Prelude.{IfOk, None, Option, Ok}
use Rattle.nk_bits.specs.declared.control.Control.{Control}
use Rattle.nk_bits.specs.declared.kind.Kind.{Kind}
use Rattle.nk_bits.specs.Accesses.{wp_of}
use Rattle.nk_bits.specs.Claims.{AllPass}
use Rattle.nk_bits.specs.Translations.{Translations, invalidated}
use Rattle.page_walk.specs.MemoryAccess.{view_of}
use Rattle.gate_text.specs.GatePoints.{instruction_bytes, is_point}
use Rattle.nk_bits.specs.KernelLayout.{gate_address}
use Rattle.trap_unit.specs.DeliveryStores.{delivery_stores}
use Rattle.trap_unit.specs.TrapDelivery.{at_handler, delivered, interrupt_allowed}
use Rattle.x86_decode.specs.Conditions.{is_protected}
use Rattle.x86_decode.specs.Reader.{decoded_of}
use Rattle.x86_decode.specs.WellFormed.{IsWellFormed}
use Rattle.x86_decode.specs.declared.instruction.Decoded.TheVariants.{Whole}
use Rattle.x86_regs.specs.declared.delivery.Tables.{Tables}
use Rattle.x86_regs.specs.declared.effects.Act.TheVariants as act
use Rattle.x86_regs.specs.declared.effects.Effect.{Effect}
use Rattle.x86_regs.specs.declared.registers.Regs.{Regs}
use Rattle.x86_regs.specs.Effects.{effect_of}
use Rattle.x86_regs.specs.EffectsKept.{AreRegisters}
use Rattle.cpu_step.specs.declared.fetch.Fetched.{Fetched}
use Rattle.cpu_step.specs.InstructionFetch.{instruction_at}
use Rattle.cpu_step.specs.Processor.{Processor}
use Rattle.gate_state.specs.GateWindow.{IsAtPoint, IsGatePoint}
use Rattle.gate_state.specs.GuardedStates.{IsControlled, IsCr0}
use Rattle.gate_state.specs.MachineOpening.{opening_tables}
use Rattle.gate_state.specs.MachineStates.{Opening}
use Rattle.gate_state.specs.RespectedKinds.{respecting}
use Rattle.gate_state.proofs.Scene.{IsScene}
use Rattle.gate_state.proofs.Delivery.{IsAsked, IsDelivery}
use Rattle.gate_state.proofs.FetchProtected.{IsLoad}
use Rattle.gate_state.proofs.Window.{KeepsWindow, cr0_after}

pub record TurnFacts (o : Opening) (ks : List Kind) : Type 0 where
  pub invalidates : (tlb : Translations) (page : ℕ) → AllPass (respecting o ks) tlb → AllPass (respecting o ks) (invalidated tlb page)
  pub delivers : (m : List ℕ) (control : Control) (tables : Tables) (regs : Regs) (vector : ℕ) (code : Option ℕ) (tlb : Translations)
      → IsScene o ks m control → tables ≡ opening_tables → AllPass (respecting o ks) tlb → vector < 48
      → IsDelivery o ks m regs vector code (delivered regs control tables vector code m tlb)
      (delivery_stores regs control tables vector code m tlb)
  pub asks : (m : List ℕ) (control : Control) (tables : Tables) (cpl vector : ℕ) (tlb : Translations)
      → IsScene o ks m control → tables ≡ opening_tables → AllPass (respecting o ks) tlb
      → IsAsked o ks vector (interrupt_allowed control tables cpl vector m tlb)
  pub fetch_pass : (m : List ℕ) (control : Control) (cpl rip : ℕ) (tlb : Translations) → IsScene o ks m control
      → AllPass (respecting o ks) tlb → AllPass (respecting o ks) (instruction_at m (view_of m control cpl) rip tlb).tlb
  pub fetch_formed : (m : List ℕ) (control : Control) (cpl rip : ℕ) (tlb : Translations) → IsScene o ks m control → (it : Fetched)
      → (instruction_at m (view_of m control cpl) rip tlb).answer ≡ Ok it → IsWellFormed it.instr
  pub fetch_protected : (m : List ℕ) (control : Control) (rip : ℕ) (tlb : Translations) → IsScene o ks m control
      → AllPass (respecting o ks) tlb → rip < 2 ^ 64 → (it : Fetched)
      → (instruction_at m (view_of m control 0) rip tlb).answer ≡ Ok it → is_protected it.instr.op ≡ true → IsLoad rip it
  pub fetch_listed : (m : List ℕ) (control : Control) (tlb : Translations) (offset : ℕ) → IsScene o ks m control
      → AllPass (respecting o ks) tlb → is_point offset ≡ true → offset ≢ 27
      → (it : Fetched) × (decoded_of (instruction_bytes offset) ≡ Whole it.instr it.size)
      × ((instruction_at m (view_of m control 0) (gate_address + offset) tlb).answer ≡ Ok it)
  pub window_effect : (p : Processor) (m : List ℕ) (tlb : Translations) (offset : ℕ) (it : Fetched) → IsControlled p
      → IsScene o ks m p.control → AllPass (respecting o ks) tlb → wp_of p.control.cr0 ≡ false → IsAtPoint offset p → offset ≢ 27
      → decoded_of (instruction_bytes offset) ≡ Whole it.instr it.size
      → (effect : Effect) × ((effect_of it.instr it.size p.regs p.control m tlb).answer ≡ Ok effect) × KeepsWindow p effect
  pub load_effect : (p : Processor) (m : List ℕ) (tlb : Translations) (offset : ℕ) (it : Fetched)
      → (offset ≡ 13) ⊎ (offset ≡ 37) ⊎ (offset ≡ 457) → p.regs.rip ≡ gate_address + offset → p.regs.cpl ≡ 0 → p.halted ≡ false
      → AreRegisters p.regs → decoded_of (0x0F ∷ 0x22 ∷ 0xC0 ∷ []) ≡ Whole it.instr it.size
      → IfOk (effect_of it.instr it.size p.regs p.control m tlb).answer (λ effect. ((value : ℕ) × (effect.act ≡ act.Cr0 value))
      × IsCr0 (cr0_after effect.act p.control.cr0)
      × (wp_of (cr0_after effect.act p.control.cr0) ≡ false
      → IsGatePoint (record p { regs = effect.regs; control = record p.control { cr0 = cr0_after effect.act p.control.cr0 } }))
      × (effect.write ≡ None))
  pub handler_point : (p : Processor) (vector : ℕ) → 32 ≤ vector → vector < 48 → AreRegisters p.regs → p.halted ≡ false
      → IsGatePoint (record p { regs = at_handler p.regs (0xFFFFFF8000001040 + 8 * vector) (0xFFFFFF8000004000 - 40) })
