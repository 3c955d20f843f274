-- A delivery in a guarded state keeps what a turn keeps.
use Rattle.std.proofs.Common.{◌≡◌, ℕ, ◌+◌, ◌-◌, ◌*◌, ◌/◌, ◌^◌, ◌<◌, Bool, true, false, List, length, All, refl, sym, ap, subst, ◌∙◌, arith, inl}
use Rattle.std.specs.Prelude.{IfSome, Option, None, Some, Result, Ok}
use Rattle.std.proofs.lemmas.Bool.{false≢true}
use Rattle.std.proofs.lemmas.List.Elements.{All-weaker}
use Rattle.nk_bits.specs.declared.call.Delivery.{Delivery}
use Rattle.nk_bits.specs.declared.kind.Kind.{Kind}
use Rattle.nk_bits.specs.Accesses.{wp_of}
use Rattle.nk_bits.specs.Kinds.{is_storable, kind_of}
use Rattle.x86_regs.specs.declared.faults.Fault.{Fault}
use Rattle.x86_regs.specs.declared.faults.Fault.TheVariants as fault
use Rattle.x86_regs.specs.declared.registers.Regs.{Regs}
use Rattle.x86_regs.specs.EffectsKept.{AreRegisters, IsSmallFault}
use Rattle.trap_unit.specs.declared.shutdown.Shut.{Shut}
use Rattle.trap_unit.specs.TrapDelivery.{Delivered, at_handler, codes_of, delivered}
use Rattle.cpu_step.specs.declared.stepped.Stepped.TheVariants as stepped
use Rattle.cpu_step.specs.Processor.{Processor}
use Rattle.cpu_step.specs.TurnStores.{fault_stores, trap_stores}
use Rattle.cpu_step.specs.Turns.{delivery_of, fault_raised, stepped_by, trapped}
use Rattle.gate_state.specs.GateWindow.{IsGatePoint}
use Rattle.gate_state.specs.GuardedStates.{IsControlled}
use Rattle.gate_state.specs.MachineStates.{Opening}
use Rattle.gate_state.specs.MachineSteps.{shown_by_turn}
use Rattle.gate_state.specs.ShownSteps.{IsShown, IsShownDelivery}
use Rattle.gate_state.proofs.Delivery.{IsDelivery}
use Rattle.gate_state.proofs.Ready.{IsReady, Kept}
use Rattle.gate_state.proofs.RegisterBounds.{handler_registers}
use Rattle.gate_state.proofs.Scene.{AreStores}
use Rattle.gate_state.proofs.TurnFacts.{TurnFacts}

-- the same gate point of a processor with the same registers
moved_point : (p q : Processor) (r : Regs) → IsGatePoint (record p { regs = r }) → q.regs ≡ r → q.halted ≡ p.halted → q.control.cr0 ≡ p.control.cr0 → IsGatePoint q
moved_point p q r point regs halted cr0 =
    let Points : Regs → Bool → ℕ → Type 0 = λ r h c. IsGatePoint (record q { regs = r; halted = h; control = record q.control { cr0 = c } }) in
    let here : Points r p.halted p.control.cr0 = record {
      offset = point.offset;
      stands = record { supervisor = point.stands.supervisor; runs = point.stands.runs; rip = point.stands.rip; point = point.stands.point; holds = point.stands.holds };
    } in
    subst (λ (x : Regs). Points x q.halted q.control.cr0) (sym regs)
    (subst (λ (x : Bool). Points r x q.control.cr0) (sym halted)
    (subst (λ (x : ℕ). Points r p.halted x) (sym cr0) here))

module _ (o : Opening) (ks : List Kind) (facts : TurnFacts o ks) (storable : is_storable (kind_of ks 3) ≡ true) where
  -- stores on the trap stack
  pub on_trap_stack : (ws : List (ℕ × ℕ)) → All (λ w. w.0 / 4096 ≡ 3) ws → All (λ w. w.1 < 256) ws → AreStores ks ws
  on_trap_stack ws places bytes = record {
    places = All-weaker (λ (w : ℕ × ℕ). w.0 / 4096 ≡ 3) (λ (w : ℕ × ℕ). is_storable (kind_of ks (w.0 / 4096)) ≡ true) (λ w is. ap (λ n. is_storable (kind_of ks n)) is ∙ storable) ws places;
    bytes = bytes;
  }

  shown_made : (answer : Result Unit Shut) (d : Delivery) → answer ≡ Ok tt → stepped_by answer d ≡ stepped.Shutdown → ⊥
  shown_made answer d made shut =
      let e : stepped.Delivered d ≡ stepped.Shutdown = sym (ap (λ (a : Result Unit Shut). stepped_by a d) made) ∙ shut in absurd (cc)

  -- what a delivery shows
  delivery_shown : (p : Processor) (vector : ℕ) (code : Option ℕ) → IsControlled p → vector < 48
      → IfSome code (λ c. c < 2 ^ 64) → IsShownDelivery (delivery_of vector code p)
  delivery_shown p vector code control few small = record {
    vector = omega (arith, few);
    code = small;
    rip = control.registers.rip;
    cr2 = (p.control.cr2, control.cr2, refl);
  }

  -- a delivery; with WP clear, one that arrives at a gate point
  pub trap_kept : (wp : Bool) (p : Processor) (m : List ℕ) (vector : ℕ) (code : Option ℕ) → IsReady o ks p m → vector < 48
      → IfSome code (λ c. c < 2 ^ 64)
      → (wp_of p.control.cr0 ≡ false → IsGatePoint (record p { regs = at_handler p.regs (0xFFFFFF8000001040 + 8 * vector) (0xFFFFFF8000004000 - 8 * (5 + length (codes_of code))) }))
      → Kept o ks wp p.control.root m (trapped vector code p m) (trap_stores vector code p m)
  unfolding trapped
  trap_kept wp p m vector code ready few small point =
      let it : IsDelivery o ks m p.regs vector code (delivered p.regs p.control p.tables vector code m p.tlb) (trap_stores vector code p m) = facts.delivers m p.control p.tables p.regs vector code p.tlb ready.scene ready.control.tables ready.pass few in
      let made : Delivered = delivered p.regs p.control p.tables vector code m p.tlb in
      record {
        control = record {
          cr0 = ready.control.cr0;
          cr2 = ready.control.cr2;
          cr4 = ready.control.cr4;
          efer = ready.control.efer;
          tables = ready.control.tables;
          cpl = inl (ap (λ (r : Regs). r.cpl) it.regs_are);
          registers = subst AreRegisters (sym it.regs_are) (handler_registers p.regs _ _ ready.control.registers (omega arith));
          pending = ready.control.pending;
        };
        same_root = refl;
        pass = it.pass;
        window = λ clear. moved_point p (record p { regs = made.regs; tlb = made.tlb }) _ (point clear) it.regs_are refl refl;
        runs = λ e. shown_made made.answer (delivery_of vector code p) it.made e;
        shows =
            subst (λ (a : Result Unit Shut). IsShown (shown_by_turn (stepped_by a (delivery_of vector code p))))
            (sym it.made) (delivery_shown p vector code ready.control few small);
        memory_is = it.memory_is;
        are = on_trap_stack (trap_stores vector code p m) it.places it.bytes;
        places = λ clear. it.places;
      }

  -- a processor with another CR2
  with_cr2 : (p : Processor) (m : List ℕ) (value : ℕ) → value < 2 ^ 64 → IsReady o ks p m
      → IsReady o ks (record p { control = record p.control { cr2 = value } }) m
  with_cr2 p m value small ready = record {
    control = record {
      cr0 = ready.control.cr0;
      cr2 = small;
      cr4 = ready.control.cr4;
      efer = ready.control.efer;
      tables = ready.control.tables;
      cpl = ready.control.cpl;
      registers = ready.control.registers;
      pending = ready.control.pending;
    };
    scene = record {
      admitted = ready.scene.admitted;
      kinds_are = ready.scene.kinds_are;
      memory = ready.scene.memory;
      tables = ready.scene.tables;
      smep = ready.scene.smep;
    };
    pass = ready.pass;
  }

  pub set_never : {A : Type 0} (b : Bool) → b ≡ true → b ≡ false → A
  set_never b set clear = absurd (false≢true (sym clear ∙ set))

  -- a fault with WP set
  pub raise_kept : (wp : Bool) (p : Processor) (m : List ℕ) (it : Fault) → IsSmallFault it → IsReady o ks p m
      → wp_of p.control.cr0 ≡ true → Kept o ks wp p.control.root m (fault_raised it p m) (fault_stores it p m)
  raise_kept wp p m fault.Divide small ready set =
      trap_kept wp p m 0 None ready (omega arith) tt (set_never (wp_of p.control.cr0) set)
  raise_kept wp p m fault.Opcode small ready set =
      trap_kept wp p m 6 None ready (omega arith) tt (set_never (wp_of p.control.cr0) set)
  raise_kept wp p m fault.Stack small ready set =
      trap_kept wp p m 12 (Some 0) ready (omega arith) (omega arith) (set_never (wp_of p.control.cr0) set)
  raise_kept wp p m (fault.General code) small ready set =
      trap_kept wp p m 13 (Some code) ready (omega arith) small (set_never (wp_of p.control.cr0) set)
  raise_kept wp p m (fault.Page code address) small ready set =
      trap_kept wp (record p { control = record p.control { cr2 = address } }) m 14 (Some code)
      (with_cr2 p m address small.1 ready) (omega arith) small.0 (set_never (wp_of p.control.cr0) set)
