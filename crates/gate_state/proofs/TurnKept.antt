-- A turn in a guarded state keeps what a turn keeps; and with WP clear its instruction is one of the gates'.
use Rattle.std.proofs.Common.{◌≡◌, ◌≢◌, ℕ, ◌+◌, ◌-◌, ◌<◌, ◌≤◌, Bool, true, false, List, refl, sym, ap, subst, ◌∙◌, arith}
use Rattle.std.specs.Prelude.{IfErr, Option, None, Some, Result, Ok, Err, is_none, not, ◌==◌, ◌&&◌, if◌then◌else◌}
use Rattle.std.proofs.lemmas.Bool.{and_from, eq-eqb, false≢true}
use Rattle.std.proofs.lemmas.Result.{IfErr-at_err}
use Rattle.nk_bits.specs.declared.kind.Kind.{Kind}
use Rattle.nk_bits.specs.Accesses.{wp_of}
use Rattle.nk_bits.specs.Claims.{AllPass}
use Rattle.nk_bits.specs.Kinds.{is_storable, kind_of}
use Rattle.nk_bits.specs.Outcomes.{Outcome, then_by}
use Rattle.nk_bits.specs.Translations.{faulted}
use Rattle.page_walk.specs.MemoryAccess.{view_of}
use Rattle.nk_bits.specs.KernelLayout.{gate_address}
use Rattle.x86_decode.specs.declared.instruction.Decoded.TheVariants.{Whole}
use Rattle.x86_decode.specs.WellFormed.{IsWellFormed}
use Rattle.x86_regs.specs.declared.effects.Effect.{Effect}
use Rattle.x86_regs.specs.declared.faults.Fault.{Fault}
use Rattle.x86_regs.specs.declared.faults.Fault.TheVariants as fault
use Rattle.x86_regs.specs.Effects.{effect_of}
use Rattle.x86_regs.specs.EffectsKept.{IsSmallFault}
use Rattle.cpu_step.specs.declared.fetch.Fetched.{Fetched}
use Rattle.cpu_step.specs.InstructionFetch.{instruction_at}
use Rattle.cpu_step.specs.Processor.{Processor, deliverable}
use Rattle.cpu_step.specs.TurnStores.{body_stores, effect_stores, instruction_stores, stores_unless, turn_stores}
use Rattle.cpu_step.specs.Turns.{enters_body, instructed, instruction_made, is_at_body, refused_body, turned, turned_by, turned_unless, woken}
use Rattle.gate_state.specs.GateWindow.{IsAtPoint, IsGatePoint}
use Rattle.gate_state.specs.MachineStates.{Opening}
use Rattle.gate_state.specs.MachineSteps.{waits}
use Rattle.gate_state.specs.RespectedKinds.{respecting}
use Rattle.gate_state.specs.SafeStates.{IsGateInstruction}
use Rattle.gate_state.proofs.ListedInstructions.{listed_only, listed_right}
use Rattle.gate_state.proofs.LowerLaws.{LowerLaws}
use Rattle.gate_state.proofs.Ready.{IsReady, Kept}
use Rattle.gate_state.proofs.Scene.{SceneLaws}
use Rattle.gate_state.proofs.Acts.{with_translations}
use Rattle.gate_state.proofs.Instructions.{IsMade, made, set_kept, window_kept}
use Rattle.gate_state.proofs.Traps.{raise_kept, trap_kept}
use Rattle.gate_state.proofs.TurnFacts.{TurnFacts}

-- the instruction that is made, once one is fetched
pub made_from : (p : Processor) (m : List ℕ) (it : Fetched) → (instruction_at m (view_of m p.control p.regs.cpl) p.regs.rip p.tlb).answer ≡ Ok it
    → instruction_made p m ≡ effect_of it.instr it.size p.regs p.control m (instruction_at m (view_of m p.control p.regs.cpl) p.regs.rip p.tlb).tlb
made_from p m it is =
    let fetched : Outcome Fault Fetched = instruction_at m (view_of m p.control p.regs.cpl) p.regs.rip p.tlb in
    ap (λ (a : Result Fetched Fault). then_by a fetched.tlb (λ x after. effect_of x.instr x.size p.regs p.control m after)) is

-- at the body's place
at_body : (offset : ℕ) (p : Processor) → IsAtPoint offset p → is_at_body p.regs ≡ false → offset ≢ 27
at_body offset p at away same =
    let rip : p.regs.rip ≡ 0xFFFFFF800000101B = at.rip ∙ ap (λ n. gate_address + n) same in
    absurd (false≢true (sym away ∙ and_from (p.regs.cpl == 0) (p.regs.rip == 0xFFFFFF800000101B) (eq-eqb _ _ at.supervisor) (eq-eqb _ _ rip)))

module _ (laws : LowerLaws) (o : Opening) (ks : List Kind) (scenes : SceneLaws o ks) (facts : TurnFacts o ks) (storable : is_storable (kind_of ks 3) ≡ true) where
  -- with WP clear, away from the body's place: what is fetched is the listing's
  pub gate_instruction : (p : Processor) (m : List ℕ) → IsReady o ks p m → IsGatePoint p → is_at_body p.regs ≡ false → IsGateInstruction p m
  gate_instruction p m ready point away =
      let offset : ℕ = point.offset in
      let at : IsAtPoint offset p = point.stands in
      let elsewhere : offset ≢ 27 = at_body offset p at away in
      let found = facts.fetch_listed m p.control p.tlb offset ready.scene ready.pass at.point elsewhere in
      record {
        offset = offset;
        point = at;
        elsewhere = elsewhere;
        fetched = found.0;
        found = ap (λ (r : ℕ). (instruction_at m (view_of m p.control p.regs.cpl) r p.tlb).answer) at.rip
            ∙ ap (λ (c : ℕ). (instruction_at m (view_of m p.control c) (gate_address + offset) p.tlb).answer) at.supervisor ∙ found.2;
        listed = listed_right laws offset at.point (Whole found.0.instr found.0.size) found.1;
      }

  -- an instruction with WP clear
  clear_kept : (wp : Bool) (p : Processor) (m : List ℕ) → IsReady o ks p m → wp_of p.control.cr0 ≡ false → IsGatePoint p → is_at_body p.regs ≡ false
      → Kept o ks wp p.control.root m (turned_by (instruction_made p m).answer p m (instruction_made p m).tlb)
      (effect_stores (instruction_made p m).answer p m (instruction_made p m).tlb)
  clear_kept wp p m ready clear point away =
      let gate : IsGateInstruction p m = gate_instruction p m ready point away in
      let fetched : Outcome Fault Fetched = instruction_at m (view_of m p.control p.regs.cpl) p.regs.rip p.tlb in
      let it : Fetched = gate.fetched in
      let after : AllPass (respecting o ks) fetched.tlb = facts.fetch_pass m p.control p.regs.cpl p.regs.rip p.tlb ready.scene ready.pass in
      let formed = facts.fetch_formed m p.control p.regs.cpl p.regs.rip p.tlb ready.scene it gate.found in
      let it_makes = facts.window_effect p m fetched.tlb gate.offset it ready.control ready.scene after clear gate.point gate.elsewhere
      (listed_only laws gate.offset gate.point.point (Whole it.instr it.size) gate.listed) in
      let outcome : Outcome Fault Effect = effect_of it.instr it.size p.regs p.control m fetched.tlb in
      let pass : AllPass (respecting o ks) outcome.tlb = laws.grant.translations it.instr it.size p.regs p.control m fetched.tlb (respecting o ks) formed ready.control.registers (scenes.walked m p.control p.regs.cpl ready.scene) after in
      let done : IsMade laws o ks scenes facts storable p m it_makes.0 = made laws o ks scenes facts storable p m fetched.tlb it it_makes.0 ready after formed it_makes.1 in
      subst (λ (x : Outcome Fault Effect). Kept o ks wp p.control.root m (turned_by x.answer p m x.tlb) (effect_stores x.answer p m x.tlb)) (sym (made_from p m it gate.found))
      (subst (λ (a : Result Effect Fault). Kept o ks wp p.control.root m (turned_by a p m outcome.tlb) (effect_stores a p m outcome.tlb)) (sym it_makes.1)
      (window_kept laws o ks scenes facts storable p m outcome.tlb it_makes.0 ready pass done it_makes.2 wp))

  -- an instruction with WP set, by what its fetch and its effect answer
  fetched_kept : (p : Processor) (m : List ℕ) (fetched : Outcome Fault Fetched) → IsReady o ks p m → wp_of p.control.cr0 ≡ true → p.halted ≡ false
      → fetched ≡ instruction_at m (view_of m p.control p.regs.cpl) p.regs.rip p.tlb → (answer : Result Fetched Fault) → fetched.answer ≡ answer
      → let x : Outcome Fault Effect = then_by answer fetched.tlb (λ x after. effect_of x.instr x.size p.regs p.control m after) in Kept o ks true p.control.root m (turned_by x.answer p m x.tlb) (effect_stores x.answer p m x.tlb)
  fetched_kept p m fetched ready set runs same (Err it) is =
      raise_kept o ks facts storable true (record p { tlb = fetched.tlb }) m it
      (IfErr-at_err IsSmallFault is
      (subst (λ (x : Outcome Fault Fetched). IfErr x.answer IsSmallFault) (sym same)
      (laws.fetch.small m (view_of m p.control p.regs.cpl) p.regs.rip p.tlb)))
      (with_translations o ks p m fetched.tlb ready (subst (λ (x : Outcome Fault Fetched). AllPass (respecting o ks) x.tlb) (sym same) (facts.fetch_pass m p.control p.regs.cpl p.regs.rip p.tlb ready.scene ready.pass))) set
  fetched_kept p m fetched ready set runs same (Ok it) is =
      let after : AllPass (respecting o ks) fetched.tlb = subst (λ (x : Outcome Fault Fetched). AllPass (respecting o ks) x.tlb) (sym same) (facts.fetch_pass m p.control p.regs.cpl p.regs.rip p.tlb ready.scene ready.pass) in
      let found : (instruction_at m (view_of m p.control p.regs.cpl) p.regs.rip p.tlb).answer ≡ Ok it = ap (λ (x : Outcome Fault Fetched). x.answer) (sym same) ∙ is in
      let formed = facts.fetch_formed m p.control p.regs.cpl p.regs.rip p.tlb ready.scene it found in
      let outcome : Outcome Fault Effect = effect_of it.instr it.size p.regs p.control m fetched.tlb in
      let pass : AllPass (respecting o ks) outcome.tlb = laws.grant.translations it.instr it.size p.regs p.control m fetched.tlb (respecting o ks) formed ready.control.registers (scenes.walked m p.control p.regs.cpl ready.scene) after in
      by_answer outcome.answer refl after pass found formed
    where
      by_answer : (answer : Result Effect Fault) → (effect_of it.instr it.size p.regs p.control m fetched.tlb).answer ≡ answer → AllPass (respecting o ks) fetched.tlb → AllPass (respecting o ks) (effect_of it.instr it.size p.regs p.control m fetched.tlb).tlb
          → (instruction_at m (view_of m p.control p.regs.cpl) p.regs.rip p.tlb).answer ≡ Ok it → IsWellFormed it.instr
          → Kept o ks true p.control.root m (turned_by answer p m (effect_of it.instr it.size p.regs p.control m fetched.tlb).tlb)
          (effect_stores answer p m (effect_of it.instr it.size p.regs p.control m fetched.tlb).tlb)
      by_answer (Err f) made_is after pass found formed =
          raise_kept o ks facts storable true (record p { tlb = (effect_of it.instr it.size p.regs p.control m fetched.tlb).tlb }) m f
          (IfErr-at_err IsSmallFault made_is
          (laws.bound.fault it.instr it.size p.regs p.control m fetched.tlb formed ready.control.registers))
          (with_translations o ks p m (effect_of it.instr it.size p.regs p.control m fetched.tlb).tlb ready pass) set
      by_answer (Ok effect) made_is after pass found formed =
          set_kept laws o ks scenes facts storable p m fetched.tlb (effect_of it.instr it.size p.regs p.control m fetched.tlb).tlb it effect ready after pass formed set runs
          (λ supervisor protected. facts.fetch_protected m p.control p.regs.rip p.tlb ready.scene ready.pass ready.control.registers.rip it
          (subst (λ (c : ℕ). (instruction_at m (view_of m p.control c) p.regs.rip p.tlb).answer ≡ Ok it) supervisor found) protected) made_is

  -- an instruction, or the fault at the body's place
  instructed_kept : (p : Processor) (m : List ℕ) → IsReady o ks p m → enters_body p ≡ false → p.halted ≡ false → (wp_of p.control.cr0 ≡ false → IsGatePoint p)
      → Kept o ks (wp_of p.control.cr0) p.control.root m (instructed p m) (instruction_stores p m)
  unfolding instructed instruction_stores
  instructed_kept p m ready no_body runs point = by_place (is_at_body p.regs) refl (wp_of p.control.cr0) refl
    where
      by_place : (b : Bool) → is_at_body p.regs ≡ b → (wp : Bool) → wp_of p.control.cr0 ≡ wp
          → Kept o ks (wp_of p.control.cr0) p.control.root m (if b then refused_body p m else turned_by (instruction_made p m).answer p m (instruction_made p m).tlb)
          (if b then body_stores p m else effect_stores (instruction_made p m).answer p m (instruction_made p m).tlb)
      by_place true at true set =
          raise_kept o ks facts storable (wp_of p.control.cr0) (record p { tlb = faulted p.tlb 0xFFFFFF8000004 }) m
          (fault.Page 3 0xFFFFFF8000004FF8) (omega arith, omega arith)
          (with_translations o ks p m (faulted p.tlb 0xFFFFFF8000004) ready (laws.kept.faulted (respecting o ks) p.tlb 0xFFFFFF8000004 ready.pass)) set
      by_place true at false clear =
          absurd (false≢true (sym no_body ∙ and_from (is_at_body p.regs) (not (wp_of p.control.cr0)) at (ap not clear)))
      by_place false away true set =
          subst (λ (w : Bool). Kept o ks w p.control.root m (turned_by (instruction_made p m).answer p m (instruction_made p m).tlb)
          (effect_stores (instruction_made p m).answer p m (instruction_made p m).tlb)) (sym set)
          (fetched_kept p m (instruction_at m (view_of m p.control p.regs.cpl) p.regs.rip p.tlb) ready set runs refl (instruction_at m (view_of m p.control p.regs.cpl) p.regs.rip p.tlb).answer refl)
      by_place false away false clear = clear_kept (wp_of p.control.cr0) p m ready clear (point clear) away

  -- a processor that is ready, with another mark of the shield
  pub unshielded : (p : Processor) (m : List ℕ) → IsReady o ks p m → IsReady o ks (record p { shielded = false }) m
  unshielded p m ready = record {
    control = record {
      cr0 = ready.control.cr0;
      cr2 = ready.control.cr2;
      cr4 = ready.control.cr4;
      efer = ready.control.efer;
      tables = ready.control.tables;
      cpl = ready.control.cpl;
      registers = ready.control.registers;
      pending = ready.control.pending;
    };
    scene = ready.scene;
    pass = ready.pass;
  }

  -- and one that an interrupt wakes
  awake : (p : Processor) (m : List ℕ) (vector : ℕ) → IsReady o ks p m → vector - 32 < 16 → IsReady o ks (woken vector p) m
  awake p m vector ready few = record {
    control = record {
      cr0 = ready.control.cr0;
      cr2 = ready.control.cr2;
      cr4 = ready.control.cr4;
      efer = ready.control.efer;
      tables = ready.control.tables;
      cpl = ready.control.cpl;
      registers = ready.control.registers;
      pending = laws.pending.left p.pending (vector - 32) false ready.control.pending few;
    };
    scene = ready.scene;
    pass = ready.pass;
  }

  pub turn_kept : (p : Processor) (m : List ℕ) → IsReady o ks p m → enters_body p ≡ false → waits p ≡ false → (wp_of p.control.cr0 ≡ false → IsGatePoint p)
      → Kept o ks (wp_of p.control.cr0) p.control.root m (turned p m) (turn_stores p m)
  unfolding turned turn_stores
  turn_kept p m ready no_body runs point = by_vector (deliverable p) refl
    where
      awake_if : (h : Bool) → h && true ≡ false → h ≡ false
      awake_if true is = absurd (false≢true (sym is))
      awake_if false is = refl

      by_vector : (vector : Option ℕ) → deliverable p ≡ vector → Kept o ks (wp_of p.control.cr0) p.control.root m (turned_unless vector p m) (stores_unless vector p m)
      by_vector (Some vector) is =
          let bounds : (32 ≤ vector) × (vector < 48) = laws.pending.vector p vector ready.control.pending is in
          trap_kept o ks facts storable (wp_of p.control.cr0) (woken vector p) m vector None
          (awake p m vector ready (omega (arith, bounds))) bounds.1 tt
          (λ clear. facts.handler_point (woken vector p) vector bounds.0 bounds.1 ready.control.registers refl)
      by_vector None is =
          let here : p.halted ≡ false = awake_if p.halted (subst (λ (v : Option ℕ). p.halted && is_none v ≡ false) is runs) in
          instructed_kept (record p { shielded = false }) m (unshielded p m ready) no_body here
          (λ clear. let at : IsGatePoint p = point clear in
          record { offset = at.offset; stands = record { supervisor = at.stands.supervisor; runs = at.stands.runs; rip = at.stands.rip; point = at.stands.point; holds = at.stands.holds } })
