-- An instruction in a guarded state keeps what a turn keeps: with WP clear it is one of the gates', and with WP set only
-- the gates' loads of CR0 load a control register.
use Rattle.std.proofs.Common.{◌≡◌, ◌⊎◌, ℕ, ◌+◌, ◌/◌, ◌%◌, ◌<◌, Bool, true, false, List, [], length, All, refl, sym, subst, arith, inl, inr}
use Rattle.std.specs.Prelude.{Option, None, Some, Result, Ok, IfOk, IfSome}
use Rattle.std.proofs.lemmas.Bool.{false≢true}
use Rattle.std.proofs.lemmas.List.Elements.{All-nil}
use Rattle.nk_bits.specs.declared.kind.Kind.{Kind}
use Rattle.nk_bits.specs.Accesses.{crosses, wp_of}
use Rattle.nk_bits.specs.Claims.{AllPass}
use Rattle.nk_bits.specs.Kinds.{is_storable, kind_of}
use Rattle.nk_bits.specs.Paging.{page_of}
use Rattle.nk_bits.specs.Translations.{Translations}
use Rattle.phys_mem.specs.Memory.{stored}
use Rattle.boot_map.specs.KernelSlot.{slot_start}
use Rattle.page_walk.specs.MemoryAccess.{stores_at, view_of}
use Rattle.x86_decode.specs.Conditions.{is_protected}
use Rattle.x86_decode.specs.WellFormed.{IsWellFormed}
use Rattle.x86_regs.specs.declared.effects.Act.{Act}
use Rattle.x86_regs.specs.declared.effects.Act.TheVariants as act
use Rattle.x86_regs.specs.declared.effects.Effect.{Effect}
use Rattle.x86_regs.specs.declared.effects.Write.{Write}
use Rattle.x86_regs.specs.declared.registers.Regs.{Regs}
use Rattle.x86_regs.specs.Effects.{effect_of, memory_after}
use Rattle.x86_regs.specs.EffectsKept.{AreRegisters, IsGranted, IsSmallAct, LoadsNothing}
use Rattle.cpu_step.specs.declared.fetch.Fetched.{Fetched}
use Rattle.cpu_step.specs.Processor.{Processor}
use Rattle.cpu_step.specs.TurnStores.{act_stores, effect_stores, write_stores}
use Rattle.cpu_step.specs.Turns.{acted, kept_in_cr0}
use Rattle.gate_state.specs.GateWindow.{IsGatePoint}
use Rattle.gate_state.specs.GuardedStates.{IsCr0}
use Rattle.gate_state.specs.MachineStates.{Opening}
use Rattle.gate_state.specs.RespectedKinds.{respecting}
use Rattle.gate_state.proofs.DeliveryReads.{stack_leaf}
use Rattle.gate_state.proofs.FetchProtected.{IsLoad}
use Rattle.gate_state.proofs.LowerLaws.{LowerLaws}
use Rattle.gate_state.proofs.Ready.{IsReady, Kept, kept_behind, no_stores, ran_kept, stored_none}
use Rattle.gate_state.proofs.Scene.{AreStores, IsScene, SceneLaws, scene_stored}
use Rattle.gate_state.proofs.Acts.{act_kept, with_registers}
use Rattle.gate_state.proofs.Traps.{on_trap_stack}
use Rattle.gate_state.proofs.TurnFacts.{TurnFacts}
use Rattle.gate_state.proofs.Window.{KeepsWindow, cr0_after}
use Rattle.gate_state.proofs.Writes.{granted_stores, stack_stores, stores_bytes}

-- a fact of an answer that is there
pub ok_at : {A F : Type 0} (P : A → Type 0) (r : Result A F) (x : A) → r ≡ Ok x → IfOk r P → P x
ok_at {A} {F} P r x is fact = let Q : Result A F → Type 0 = λ a. IfOk a P in subst Q is fact

pub memory_stored : (write : Option Write) (m : List ℕ) → memory_after write m ≡ stored m (write_stores write)
memory_stored None m = sym (stored_none m)
memory_stored (Some w) m = refl

-- what holds of the stores of the write, if there is one
write_cases : (Q : List (ℕ × ℕ) → Type 0) (P : Write → Type 0) (write : Option Write) → IfSome write P → Q [] → ((w : Write) → P w → Q (stores_at w.va w.width w.target w.value)) → Q (write_stores write)
write_cases Q P None fact none some = none
write_cases Q P (Some w) fact none some = some w fact

-- both facts of a write
both_of : (P Q : Write → Type 0) (write : Option Write) → IfSome write P → IfSome write Q → IfSome write (λ w. P w × Q w)
both_of P Q None one other = tt
both_of P Q (Some w) one other = (one, other)

-- an act that is quiet, or loads CR0
abbrev IsCr0Act : Act → Type 0
IsCr0Act a = (a ≡ act.Quiet) ⊎ ((value : ℕ) × (a ≡ act.Cr0 value))

module _ (laws : LowerLaws) (o : Opening) (ks : List Kind) (scenes : SceneLaws o ks) (facts : TurnFacts o ks) (storable : is_storable (kind_of ks 3) ≡ true) where
  -- a processor whose CR0 is another of the six values
  with_cr0 : (p : Processor) (m : List ℕ) (cr0 : ℕ) → IsReady o ks p m → IsCr0 cr0 → IsReady o ks (record p { control = record p.control { cr0 = cr0 } }) m
  with_cr0 p m cr0 ready is = record {
    control = record {
      cr0 = is;
      cr2 = ready.control.cr2;
      cr4 = ready.control.cr4;
      efer = ready.control.efer;
      tables = ready.control.tables;
      cpl = ready.control.cpl;
      registers = ready.control.registers;
      pending = ready.control.pending;
    };
    scene = record { admitted = ready.scene.admitted; kinds_are = ready.scene.kinds_are; memory = ready.scene.memory; tables = ready.scene.tables; smep = ready.scene.smep };
    pass = ready.pass;
  }

  -- such an act, where it leaves the supervisor at a gate point if it leaves WP clear
  cr0_kept : (wp : Bool) (a : Act) (before : Regs) (p : Processor) (m : List ℕ) → IsCr0Act a → IsReady o ks p m → IsCr0 (cr0_after a p.control.cr0)
      → (wp_of (cr0_after a p.control.cr0) ≡ false → IsGatePoint (record p { control = record p.control { cr0 = cr0_after a p.control.cr0 } }))
      → Kept o ks wp p.control.root m (acted a before p m) (act_stores a before p m)
  cr0_kept wp a before p m (inl quiet) ready is point =
      subst (λ (x : Act). Kept o ks wp p.control.root m (acted x before p m) (act_stores x before p m)) (sym quiet)
      (ran_kept o ks wp p m ready (subst (λ (x : Act). wp_of (cr0_after x p.control.cr0) ≡ false → IsGatePoint (record p { control = record p.control { cr0 = cr0_after x p.control.cr0 } })) quiet point))
  cr0_kept wp a before p m (inr loads) ready is point =
      subst (λ (x : Act). Kept o ks wp p.control.root m (acted x before p m) (act_stores x before p m)) (sym loads.1)
      (ran_kept o ks wp (record p { control = record p.control { cr0 = kept_in_cr0 loads.0 } }) m
      (with_cr0 p m (kept_in_cr0 loads.0) ready (subst (λ (x : Act). IsCr0 (cr0_after x p.control.cr0)) loads.1 is))
      (subst (λ (x : Act). wp_of (cr0_after x p.control.cr0) ≡ false → IsGatePoint (record p { control = record p.control { cr0 = cr0_after x p.control.cr0 } })) loads.1 point))

  -- what holds of an effect that was made in a guarded state
  pub record IsMade (p : Processor) (m : List ℕ) (effect : Effect) : Type 0 where
    pub registers : AreRegisters effect.regs
    pub cpl : effect.regs.cpl ≡ p.regs.cpl
    pub granted : IfSome effect.write (IsGranted (view_of m p.control p.regs.cpl) (respecting o ks) (length m))

  pub made : (p : Processor) (m : List ℕ) (tlb : Translations) (it : Fetched) (effect : Effect) → IsReady o ks p m → AllPass (respecting o ks) tlb → IsWellFormed it.instr
      → (effect_of it.instr it.size p.regs p.control m tlb).answer ≡ Ok effect → IsMade p m effect
  made p m tlb it effect ready pass formed is =
      let whole : length m % 4096 ≡ 0 = omega (arith, ready.scene.memory.size) in
      record {
        registers = ok_at (λ (e : Effect). AreRegisters e.regs) _ effect is (laws.grant.registers it.instr it.size p.regs p.control m tlb formed ready.control.registers);
        cpl = (ok_at (λ (e : Effect). (e.regs.cpl ≡ p.regs.cpl) × (e.regs.ss ≡ p.regs.ss)) _ effect is (laws.effect.privilege it.instr it.size p.regs p.control m tlb)).0;
        granted = ok_at (λ (e : Effect). IfSome e.write (IsGranted (view_of m p.control p.regs.cpl) (respecting o ks) (length m))) _ effect is
            (laws.grant.granted it.instr it.size p.regs p.control m tlb (respecting o ks) formed ready.control.registers whole (scenes.named m p.control tlb ready.scene pass) (scenes.walked m p.control p.regs.cpl ready.scene) pass);
      }

  -- the processor and memory behind the write
  behind : (p : Processor) (m : List ℕ) (tlb : Translations) (effect : Effect) → IsReady o ks p m → AllPass (respecting o ks) tlb → IsMade p m effect → AreStores ks (write_stores effect.write)
      → IsReady o ks (record p { regs = effect.regs; tlb = tlb }) (memory_after effect.write m)
  behind p m tlb effect ready pass done are =
      let scene : IsScene o ks (memory_after effect.write m) p.control = subst (λ (x : List ℕ). IsScene o ks x p.control) (sym (memory_stored effect.write m)) (scene_stored o ks scenes m p.control (write_stores effect.write) ready.scene are) in
      record {
        control = record {
          cr0 = ready.control.cr0;
          cr2 = ready.control.cr2;
          cr4 = ready.control.cr4;
          efer = ready.control.efer;
          tables = ready.control.tables;
          cpl = subst (λ (n : ℕ). (n ≡ 0) ⊎ (n ≡ 3)) (sym done.cpl) ready.control.cpl;
          registers = done.registers;
          pending = ready.control.pending;
        };
        scene = scene;
        pass = pass;
      }

  -- an instruction of the gates, with WP clear
  pub window_kept : (p : Processor) (m : List ℕ) (tlb : Translations) (effect : Effect) → IsReady o ks p m → AllPass (respecting o ks) tlb → IsMade p m effect → KeepsWindow p effect
      → (wp : Bool) → Kept o ks wp p.control.root m (acted effect.act p.regs (record p { regs = effect.regs; tlb = tlb }) (memory_after effect.write m))
      (effect_stores (Ok effect) p m tlb)
  window_kept p m tlb effect ready pass done keeps wp =
      let view = view_of m p.control p.regs.cpl in
      let places : All (λ (s : ℕ × ℕ). s.0 / 4096 ≡ 3) (write_stores effect.write) =
      write_cases (λ ws. All (λ (s : ℕ × ℕ). s.0 / 4096 ≡ 3) ws) (λ w. IsGranted view (respecting o ks) (length m) w × ((page_of w.va ≡ slot_start + 3) × (crosses w.va w.width ≡ false))) effect.write
      (both_of (IsGranted view (respecting o ks) (length m)) (λ w. (page_of w.va ≡ slot_start + 3) × (crosses w.va w.width ≡ false)) effect.write done.granted keeps.write_is)
      (All-nil (λ (s : ℕ × ℕ). s.0 / 4096 ≡ 3))
      (λ w both. stack_stores laws o ks scenes view (length m) w both.0 both.1.0 both.1.1 (stack_leaf o.image o.frames)) in
      let bytes : All (λ (s : ℕ × ℕ). s.1 < 256) (write_stores effect.write) =
      write_cases (λ ws. All (λ (s : ℕ × ℕ). s.1 < 256) ws) (IsGranted view (respecting o ks) (length m)) effect.write done.granted
      (All-nil (λ (s : ℕ × ℕ). s.1 < 256)) (λ w granted. stores_bytes laws w.va w.width w.target w.value) in
      let are : AreStores ks (write_stores effect.write) = on_trap_stack o ks facts storable (write_stores effect.write) places bytes in
      let q : Processor = record p { regs = effect.regs; tlb = tlb } in
      kept_behind o ks laws.memory wp p.control.root m (memory_after effect.write m) (write_stores effect.write) _ _ (memory_stored effect.write m) are (λ clear. places)
      (cr0_kept wp effect.act p.regs q (memory_after effect.write m) keeps.act_is (behind p m tlb effect ready pass done are) keeps.cr0_is
      (λ clear. let point : IsGatePoint (record p { regs = effect.regs; control = record p.control { cr0 = cr0_after effect.act p.control.cr0 } }) = keeps.window clear in
      record { offset = point.offset; stands = record { supervisor = point.stands.supervisor; runs = point.stands.runs; rip = point.stands.rip; point = point.stands.point; holds = point.stands.holds } }))

  -- with WP set the write goes to frames that may be stored to
  set_stores : (p : Processor) (m : List ℕ) (effect : Effect) → IsMade p m effect → wp_of p.control.cr0 ≡ true → AreStores ks (write_stores effect.write)
  set_stores p m effect done set =
      write_cases (AreStores ks) (IsGranted (view_of m p.control p.regs.cpl) (respecting o ks) (length m)) effect.write done.granted (no_stores ks)
      (λ w granted. granted_stores laws o ks (view_of m p.control p.regs.cpl) (length m) w granted set)

  -- any instruction with WP set
  pub set_kept : (p : Processor) (m : List ℕ) (tlb after : Translations) (it : Fetched) (effect : Effect) → IsReady o ks p m → AllPass (respecting o ks) tlb → AllPass (respecting o ks) after → IsWellFormed it.instr
      → wp_of p.control.cr0 ≡ true → p.halted ≡ false → (p.regs.cpl ≡ 0 → is_protected it.instr.op ≡ true → IsLoad p.regs.rip it)
      → (effect_of it.instr it.size p.regs p.control m tlb).answer ≡ Ok effect
      → Kept o ks true p.control.root m (acted effect.act p.regs (record p { regs = effect.regs; tlb = after }) (memory_after effect.write m))
      (effect_stores (Ok effect) p m after)
  set_kept p m tlb after it effect ready pass pass_after formed set runs loads is =
      let done : IsMade p m effect = made p m tlb it effect ready pass formed is in
      let are : AreStores ks (write_stores effect.write) = set_stores p m effect done set in
      let q : Processor = record p { regs = effect.regs; tlb = after } in
      let now : IsReady o ks q (memory_after effect.write m) = behind p m after effect ready pass_after done are in
      kept_behind o ks laws.memory true p.control.root m (memory_after effect.write m) (write_stores effect.write) _ _ (memory_stored effect.write m) are (λ never. absurd (false≢true (sym never)))
      (by_op (is_protected it.instr.op) refl now)
    where
      by_op : (b : Bool) → is_protected it.instr.op ≡ b → IsReady o ks (record p { regs = effect.regs; tlb = after }) (memory_after effect.write m)
          → Kept o ks true p.control.root (memory_after effect.write m) (acted effect.act p.regs (record p { regs = effect.regs; tlb = after }) (memory_after effect.write m))
          (act_stores effect.act p.regs (record p { regs = effect.regs; tlb = after }) (memory_after effect.write m))
      by_op false calm now =
          act_kept o ks facts storable true effect.act p.regs (record p { regs = effect.regs; tlb = after }) (memory_after effect.write m)
          (ok_at (λ (e : Effect). LoadsNothing e.act) _ effect is
          (laws.grant.calm it.instr it.size p.regs p.control m tlb calm))
          (ok_at (λ (e : Effect). IsSmallAct e.act) _ effect is
          (laws.bound.act it.instr it.size p.regs p.control m tlb)) now
          (with_registers o ks (record p { regs = effect.regs; tlb = after }) (memory_after effect.write m) p.regs now ready.control.registers ready.control.cpl) set
      by_op true protected now =
          let supervisor : p.regs.cpl ≡ 0 = ok_at (λ (e : Effect). p.regs.cpl ≡ 0) _ effect is (laws.grant.supervisor it.instr it.size p.regs p.control m tlb protected) in
          let load : IsLoad p.regs.rip it = loads supervisor protected in
          let left = ok_at (λ (e : Effect). ((value : ℕ) × (e.act ≡ act.Cr0 value)) × IsCr0 (cr0_after e.act p.control.cr0)
          × (wp_of (cr0_after e.act p.control.cr0) ≡ false → IsGatePoint (record p { regs = e.regs; control = record p.control { cr0 = cr0_after e.act p.control.cr0 } })) × (e.write ≡ None)) _ effect is
          (facts.load_effect p m tlb load.offset it load.places load.rip_is supervisor runs ready.control.registers load.listed) in
          cr0_kept true effect.act p.regs (record p { regs = effect.regs; tlb = after }) (memory_after effect.write m) (inr left.0) now left.1
          (λ clear. let point : IsGatePoint (record p { regs = effect.regs; control = record p.control { cr0 = cr0_after effect.act p.control.cr0 } }) = left.2 clear in
          record { offset = point.offset; stands = record { supervisor = point.stands.supervisor; runs = point.stands.runs; rip = point.stands.rip; point = point.stands.point; holds = point.stands.holds } })
