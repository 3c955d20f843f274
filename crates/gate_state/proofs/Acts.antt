-- What an instruction asks of the processor keeps what a turn keeps: with WP set, where no control register and no table
-- is loaded.
use Rattle.std.proofs.Common.{◌≡◌, ◌⊎◌, ℕ, ◌+◌, ◌*◌, ◌<◌, Bool, true, false, List, [], refl, sym, subst, arith, inl, inr}
use Rattle.std.specs.Prelude.{IfSome, Option, None, Some, Result, Ok, Err, ◌==◌, ◌&&◌, if◌then◌else◌}
use Rattle.std.proofs.lemmas.Bool.{and_parts}
use Rattle.nk_bits.specs.declared.kind.Kind.{Kind}
use Rattle.nk_bits.specs.Accesses.{wp_of}
use Rattle.nk_bits.specs.Claims.{AllPass}
use Rattle.nk_bits.specs.Kinds.{is_storable, kind_of}
use Rattle.nk_bits.specs.Outcomes.{Outcome}
use Rattle.nk_bits.specs.Paging.{is_canonical}
use Rattle.nk_bits.specs.Translations.{Translations, invalidated}
use Rattle.port_bus.specs.PortWords.{port_byte, console_byte, input_after}
use Rattle.x86_regs.specs.declared.delivery.Frame.{Frame}
use Rattle.x86_regs.specs.declared.effects.Act.{Act}
use Rattle.x86_regs.specs.declared.effects.Act.TheVariants as act
use Rattle.x86_regs.specs.declared.faults.Fault.{Fault}
use Rattle.x86_regs.specs.declared.faults.Fault.TheVariants as fault
use Rattle.x86_regs.specs.declared.registers.Regs.{Regs}
use Rattle.x86_regs.specs.EffectsKept.{AreRegisters, IsSmallAct, LoadsNothing}
use Rattle.trap_unit.specs.declared.shutdown.Shut.{Shut}
use Rattle.trap_unit.specs.TrapDelivery.{interrupt_allowed}
use Rattle.trap_unit.specs.TrapReturn.{at_return, may_return, returned, selector}
use Rattle.cpu_step.specs.Processor.{Processor}
use Rattle.cpu_step.specs.TurnStores.{act_stores, interrupt_stores, return_stores}
use Rattle.cpu_step.specs.Turns.{acted, interrupted_by, ran, returned_by, console_shown, with_al}
use Rattle.gate_state.specs.MachineStates.{Opening}
use Rattle.gate_state.specs.RespectedKinds.{respecting}
use Rattle.gate_state.proofs.Delivery.{IsAsked}
use Rattle.gate_state.proofs.Ready.{IsReady, Kept, ran_kept}
use Rattle.gate_state.proofs.RegisterBounds.{al_registers, return_registers}
use Rattle.gate_state.proofs.Traps.{raise_kept, set_never, trap_kept}
use Rattle.gate_state.proofs.TurnFacts.{TurnFacts}

-- a processor whose registers are others of 64 bits, at CPL 0 or 3
pub with_registers : (o : Opening) (ks : List Kind) (p : Processor) (m : List ℕ) (regs : Regs) → IsReady o ks p m → AreRegisters regs → (regs.cpl ≡ 0) ⊎ (regs.cpl ≡ 3)
    → IsReady o ks (record p { regs = regs }) m
with_registers o ks p m regs ready are cpl = record {
  control = record {
    cr0 = ready.control.cr0;
    cr2 = ready.control.cr2;
    cr4 = ready.control.cr4;
    efer = ready.control.efer;
    tables = ready.control.tables;
    cpl = cpl;
    registers = are;
    pending = ready.control.pending;
  };
  scene = ready.scene;
  pass = ready.pass;
}

-- and whose translations are others that respect the kinds
pub with_translations : (o : Opening) (ks : List Kind) (p : Processor) (m : List ℕ) (tlb : Translations) → IsReady o ks p m → AllPass (respecting o ks) tlb
    → IsReady o ks (record p { tlb = tlb }) m
with_translations o ks p m tlb ready pass = record {
  control = record {
    cr0 = ready.control.cr0;
    cr2 = ready.control.cr2;
    cr4 = ready.control.cr4;
    efer = ready.control.efer;
    tables = ready.control.tables;
    cpl = ready.control.cpl;
    registers = ready.control.registers;
    pending = ready.control.pending;
  };
  scene = ready.scene;
  pass = pass;
}

-- the console takes a byte
console_small : (port byte : ℕ) → byte < 256 → IfSome (console_byte port byte) (λ b. b < 256)
unfolding console_byte
console_small port byte small = choice (port == 0xE9)
  where
    choice : (b : Bool) → IfSome (if b then Some byte else None) (λ b. b < 256)
    choice true = small
    choice false = tt

-- an entry of a choice
pub chosen : {A : Type 0} (b : Bool) (x y z : A) → (if b then x else y) ≡ z → ((b ≡ true) × (x ≡ z)) ⊎ ((b ≡ false) × (y ≡ z))
chosen true x y z e = inl (refl, e)
chosen false x y z e = inr (refl, e)

module _ (o : Opening) (ks : List Kind) (facts : TurnFacts o ks) (storable : is_storable (kind_of ks 3) ≡ true) where
  -- a byte that goes to the console, or is lost
  shown_kept : (wp : Bool) (byte : Option ℕ) (p : Processor) (m : List ℕ) → IfSome byte (λ b. b < 256)
      → IsReady o ks p m → wp_of p.control.cr0 ≡ true → Kept o ks wp p.control.root m (console_shown byte p m) []
  shown_kept wp None p m small ready set =
      ran_kept o ks wp p m ready (set_never o ks facts storable (wp_of p.control.cr0) set)
  shown_kept wp (Some byte) p m small ready set =
      let kept : Kept o ks wp p.control.root m (ran p m) [] = ran_kept o ks wp p m ready (set_never o ks facts storable (wp_of p.control.cr0) set) in
      record {
        control = kept.control;
        same_root = kept.same_root;
        pass = kept.pass;
        window = kept.window;
        runs = λ e. absurd (cc);
        shows = small;
        memory_is = kept.memory_is;
        are = kept.are;
        places = kept.places;
      }

  -- an interrupt by an instruction
  interrupted_kept : (wp : Bool) (allowed : Result Bool Shut) (vector : ℕ) (before : Regs) (p : Processor) (m : List ℕ)
      → vector < 256 → (allowed ≡ Ok false) ⊎ ((allowed ≡ Ok true) × (vector < 48))
      → IsReady o ks p m → IsReady o ks (record p { regs = before }) m → wp_of p.control.cr0 ≡ true
      → Kept o ks wp p.control.root m (interrupted_by allowed vector before p m) (interrupt_stores allowed vector before p m)
  interrupted_kept wp allowed vector before p m few (inl refused) ready old set =
      subst (λ (a : Result Bool Shut). Kept o ks wp p.control.root m (interrupted_by a vector before p m) (interrupt_stores a vector before p m)) (sym refused)
      (raise_kept o ks facts storable wp (record p { regs = before }) m (fault.General (8 * vector + 2))
      (omega (arith, few)) old set)
  interrupted_kept wp allowed vector before p m few (inr asked) ready old set =
      subst (λ (a : Result Bool Shut). Kept o ks wp p.control.root m (interrupted_by a vector before p m) (interrupt_stores a vector before p m)) (sym asked.0)
      (trap_kept o ks facts storable wp p m vector None ready asked.1 tt
      (set_never o ks facts storable (wp_of p.control.cr0) set))

  -- a return: the CPL is 3, or 0
  returns_ok : (wp : Bool) (regs before : Regs) (frame : Frame) (p : Processor) (m : List ℕ) → IsReady o ks p m → IsReady o ks (record p { regs = before }) m
      → wp_of p.control.cr0 ≡ true → AreRegisters regs → Kept o ks wp p.control.root m (returned_by (returned regs frame) before p m) (return_stores (returned regs frame) before p m)
  unfolding returned
  returns_ok wp regs before frame p m ready old set are =
      return_choice wp (may_return regs.cpl (selector frame.cs) (selector frame.ss) && is_canonical frame.rip) (at_return regs frame) before p m ready old set
      (λ is. (return_registers regs frame are (and_parts (may_return regs.cpl (selector frame.cs) (selector frame.ss)) (is_canonical frame.rip) is).1, either_cpl (selector frame.cs == 0x1B)))
    where
      either_cpl : (b : Bool) → let n : ℕ = if b then 3 else 0 in (n ≡ 0) ⊎ (n ≡ 3)
      either_cpl true = inr refl
      either_cpl false = inl refl

      return_choice : (wp : Bool) (b : Bool) (after before : Regs) (p : Processor) (m : List ℕ) → IsReady o ks p m → IsReady o ks (record p { regs = before }) m → wp_of p.control.cr0 ≡ true
          → (b ≡ true → AreRegisters after × ((after.cpl ≡ 0) ⊎ (after.cpl ≡ 3)))
          → let answer : Result Regs Fault = if b then Ok after else Err (fault.General 0) in
          Kept o ks wp p.control.root m (returned_by answer before p m) (return_stores answer before p m)
      return_choice wp true after before p m ready old set is =
          ran_kept o ks wp (record p { regs = after }) m (with_registers o ks p m after ready (is refl).0 (is refl).1) (set_never o ks facts storable (wp_of p.control.cr0) set)
      return_choice wp false after before p m ready old set is =
          raise_kept o ks facts storable wp (record p { regs = before }) m (fault.General 0) (omega arith) old set

  -- any act that loads neither a control register nor a table
  pub act_kept : (wp : Bool) (a : Act) (before : Regs) (p : Processor) (m : List ℕ) → LoadsNothing a → IsSmallAct a
      → IsReady o ks p m → IsReady o ks (record p { regs = before }) m
      → wp_of p.control.cr0 ≡ true → Kept o ks wp p.control.root m (acted a before p m) (act_stores a before p m)
  act_kept wp act.Quiet before p m calm small ready old set =
      ran_kept o ks wp p m ready (set_never o ks facts storable (wp_of p.control.cr0) set)
  act_kept wp (act.Out byte port) before p m calm small ready old set =
      shown_kept wp (console_byte port byte) p m (console_small port byte small) ready set
  act_kept wp (act.In port) before p m calm small ready old set =
      let q : Processor = record p { regs = with_al p.regs (port_byte p.input port); input = input_after p.input port } in
      let now : IsReady o ks (record p { regs = with_al p.regs (port_byte p.input port) }) m = with_registers o ks p m (with_al p.regs (port_byte p.input port)) ready (al_registers p.regs (port_byte p.input port) ready.control.registers) ready.control.cpl in
      ran_kept o ks wp q m
      (record {
        control = record {
          cr0 = now.control.cr0;
          cr2 = now.control.cr2;
          cr4 = now.control.cr4;
          efer = now.control.efer;
          tables = now.control.tables;
          cpl = now.control.cpl;
          registers = now.control.registers;
          pending = now.control.pending;
        };
        scene = now.scene;
        pass = now.pass;
      })
      (set_never o ks facts storable (wp_of p.control.cr0) set)
  act_kept wp act.Halt before p m calm small ready old set =
      ran_kept o ks wp (record p { halted = true }) m
      (record {
        control = record {
          cr0 = ready.control.cr0;
          cr2 = ready.control.cr2;
          cr4 = ready.control.cr4;
          efer = ready.control.efer;
          tables = ready.control.tables;
          cpl = ready.control.cpl;
          registers = ready.control.registers;
          pending = ready.control.pending;
        };
        scene = ready.scene;
        pass = ready.pass;
      })
      (set_never o ks facts storable (wp_of p.control.cr0) set)
  act_kept wp act.Enable before p m calm small ready old set =
      ran_kept o ks wp (record p { shielded = true }) m
      (record {
        control = record {
          cr0 = ready.control.cr0;
          cr2 = ready.control.cr2;
          cr4 = ready.control.cr4;
          efer = ready.control.efer;
          tables = ready.control.tables;
          cpl = ready.control.cpl;
          registers = ready.control.registers;
          pending = ready.control.pending;
        };
        scene = ready.scene;
        pass = ready.pass;
      })
      (set_never o ks facts storable (wp_of p.control.cr0) set)
  act_kept wp (act.Interrupt vector) before p m calm small ready old set =
      let allowed : Outcome Shut Bool = interrupt_allowed p.control p.tables p.regs.cpl vector m p.tlb in
      let asked : IsAsked o ks vector allowed = facts.asks m p.control p.tables p.regs.cpl vector p.tlb ready.scene ready.control.tables ready.pass in
      interrupted_kept wp allowed.answer vector before (record p { tlb = allowed.tlb }) m small asked.answered
      (with_translations o ks p m allowed.tlb ready asked.pass) (with_translations o ks (record p { regs = before }) m allowed.tlb old asked.pass) set
  act_kept wp (act.Return frame) before p m calm small ready old set =
      returns_ok wp p.regs before frame p m ready old set ready.control.registers
  act_kept wp (act.Cr0 value) before p m calm small ready old set = absurd calm
  act_kept wp (act.Cr2 value) before p m calm small ready old set = absurd calm
  act_kept wp (act.Cr3 value) before p m calm small ready old set = absurd calm
  act_kept wp (act.Cr4 value) before p m calm small ready old set = absurd calm
  act_kept wp (act.Idt base limit) before p m calm small ready old set = absurd calm
  act_kept wp (act.DropPage page) before p m calm small ready old set =
      ran_kept o ks wp (record p { tlb = invalidated p.tlb page }) m (with_translations o ks p m (invalidated p.tlb page) ready (facts.invalidates p.tlb page ready.pass))
      (set_never o ks facts storable (wp_of p.control.cr0) set)
