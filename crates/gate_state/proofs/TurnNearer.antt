-- With WP clear a turn sets WP or leaves fewer turns of the window, the body leaves fewer, and an event leaves as many.
use Rattle.std.proofs.Common.{◌≡◌, ◌⊎◌, ℕ, ◌+◌, ◌-◌, ◌*◌, ◌<◌, ◌≤◌, Bool, true, false, List, length, refl, sym, ap, subst, ◌∙◌, arith, inl, inr}
use Rattle.std.specs.Prelude.{Option, None, Some, Result, not, ◌&&◌, if◌then◌else◌}
use Rattle.std.proofs.lemmas.Bool.{and_parts, cases_Bool, false≢true, not-true}
use Rattle.irq_plan.specs.declared.event.What.{What}
use Rattle.irq_plan.specs.declared.event.What.TheVariants.{Irq, Drop, Fill, Keep, Forget}
use Rattle.nk_bits.specs.declared.kind.Kind.{Kind}
use Rattle.nk_bits.specs.Accesses.{wp_of}
use Rattle.nk_bits.specs.Kinds.{is_storable, kind_of}
use Rattle.nk_bits.specs.Outcomes.{Outcome}
use Rattle.page_walk.specs.MemoryAccess.{view_of}
use Rattle.gate_text.specs.GatePoints.{is_point}
use Rattle.nk_bits.specs.KernelLayout.{gate_address}
use Rattle.trap_unit.specs.TrapDelivery.{at_handler, codes_of, delivered}
use Rattle.x86_alu.specs.SignedNumbers.{bit}
use Rattle.x86_decode.specs.declared.instruction.Decoded.TheVariants.{Whole}
use Rattle.x86_regs.specs.Combinations.{interrupt_flag}
use Rattle.x86_regs.specs.declared.effects.Act.{Act}
use Rattle.x86_regs.specs.declared.effects.Act.TheVariants as act
use Rattle.x86_regs.specs.declared.effects.Effect.{Effect}
use Rattle.x86_regs.specs.declared.faults.Fault.{Fault}
use Rattle.x86_regs.specs.declared.registers.Regs.{Regs}
use Rattle.x86_regs.specs.Effects.{effect_of, memory_after}
use Rattle.cpu_step.specs.declared.fetch.Fetched.{Fetched}
use Rattle.cpu_step.specs.InstructionFetch.{instruction_at}
use Rattle.cpu_step.specs.Processor.{Processor, deliverable, highest_pending}
use Rattle.cpu_step.specs.TurnStores.{trap_stores}
use Rattle.cpu_step.specs.Turns.{acted, enters_body, instructed, instruction_made, is_at_body, refused_body, trapped, turned, turned_by, turned_unless, woken}
use Rattle.gate_state.specs.GateWindow.{IsGatePoint, holds_at, is_uninterrupted, stands_on}
use Rattle.gate_state.specs.GuardedStates.{IsAdmitted, IsGuarded}
use Rattle.gate_state.specs.MachineOf.{IsAtBody}
use Rattle.gate_state.specs.MachineStates.{MachineState, Opening}
use Rattle.gate_state.specs.MachineSteps.{after_event, after_turn, served}
use Rattle.gate_state.specs.SafeStates.{IsGateInstruction, TakesTurn}
use Rattle.gate_state.specs.WindowLeft.{IsNearer, left, left_at}
use Rattle.gate_state.proofs.BodyKept.{body_stands}
use Rattle.gate_state.proofs.Delivery.{IsDelivery}
use Rattle.gate_state.proofs.ListedInstructions.{listed_only}
use Rattle.gate_state.proofs.LowerLaws.{LowerLaws}
use Rattle.gate_state.proofs.Ready.{IsReady}
use Rattle.gate_state.proofs.Scene.{SceneLaws}
use Rattle.gate_state.proofs.SceneProofs.{scene_laws}
use Rattle.gate_state.proofs.StatesKept.{ready, stack_storable}
use Rattle.gate_state.proofs.StatesOf.{at_body}
use Rattle.gate_state.proofs.TurnFacts.{TurnFacts}
use Rattle.gate_state.proofs.TurnKept.{gate_instruction, made_from, unshielded}
use Rattle.gate_state.proofs.Window.{cr0_after}
use Rattle.gate_state.proofs.WindowNearer.{closer_cleared, left_there, points_closer, stub_left}
use Rattle.gate_state.proofs.WindowPoints.{at_points, stub_before, stub_behind}

-- a vector is delivered where IF is set alone
delivers_set : (p : Processor) (vector : ℕ) → deliverable p ≡ Some vector → bit p.regs.flags interrupt_flag ≡ true
delivers_set p vector is = choice (bit p.regs.flags interrupt_flag) is
  where
    choice : (b : Bool) → (if b && not p.shielded then highest_pending p.pending else None) ≡ Some vector → b ≡ true
    choice true is = refl
    choice false is = let e : None ≡ Some vector = is in absurd (cc)

-- where IF is set, more than six turns are left
module _ (p : Processor) (set : bit p.regs.flags interrupt_flag ≡ true) where
  never : {A : Type 0} → is_uninterrupted p ≡ true → A
  never clear = absurd (false≢true (sym (not-true _ clear) ∙ set))

  never_stacked : {A : Type 0} (address : ℕ) → (is_uninterrupted p && stands_on address p) ≡ true → A
  never_stacked address holds = never (and_parts (is_uninterrupted p) (stands_on address p) holds).0

  many_left : (offset : ℕ) → is_point offset ≡ true → holds_at offset p ≡ true → 6 < left_at offset true
  unfolding left_at
  many_left offset point holds =
      at_points (λ (offset : ℕ). holds_at offset p ≡ true → 6 < left_at offset true) (
        (λ at. omega arith),
        (
          (λ at. never at),
          (
            (λ at. never_stacked 0xFFFFFF8000005000 at),
            (
              (λ at. omega arith),
              (
                (λ at. omega arith),
                (
                  (λ at. omega arith),
                  (
                    (λ at. omega arith),
                    (
                      (λ at. omega arith),
                      (
                        (λ at. never_stacked 0xFFFFFF8000003FD0 at),
                        (
                          (λ at. omega arith),
                          (
                            (λ at. omega arith),
                            (
                              (λ at. omega arith),
                              (
                                (λ at. omega arith),
                                (
                                  (λ at. omega arith),
                                  tt,
                                ),
                              ),
                            ),
                          ),
                        ),
                      ),
                    ),
                  ),
                ),
              ),
            ),
          ),
        ),
      )
      (λ v low high at. never_stacked 0xFFFFFF8000003FD8 (sym (stub_before p v low high) ∙ at))
      (λ v low high at. never_stacked 0xFFFFFF8000003FD0 (sym (stub_behind p v low high) ∙ at))
      offset point holds

  pub point_left : IsGatePoint p → 6 < left p
  point_left point =
      subst (λ (n : ℕ). 6 < n) (sym (left_there p.regs.rip point.offset (bit p.regs.flags interrupt_flag) point.stands.rip))
      (subst (λ (b : Bool). 6 < left_at point.offset b) (sym set)
      (many_left point.offset point.stands.point point.stands.holds))

-- WP is set, or fewer turns are left
nearer_by : (before after : Processor) → (wp_of after.control.cr0 ≡ false → left after < left before) → IsNearer before after
nearer_by before after fewer = elim (cases_Bool (wp_of after.control.cr0)) [
  | inl set ↦ inl set
  | inr clear ↦ inr (fewer clear)
]

-- what an instruction of the window asks of the processor
acted_nearer : (a : Act) (old : Regs) (p q : Processor) (m : List ℕ)
    → (a ≡ act.Quiet) ⊎ ((value : ℕ) × (a ≡ act.Cr0 value))
    → (wp_of (cr0_after a q.control.cr0) ≡ false → left q < left p) → IsNearer p (acted a old q m).processor
acted_nearer a old p q m (inl quiet) fewer =
    subst (λ (x : Act). IsNearer p (acted x old q m).processor) (sym quiet)
    (nearer_by p q (subst (λ (x : Act). wp_of (cr0_after x q.control.cr0) ≡ false → left q < left p) quiet fewer))
acted_nearer a old p q m (inr (value, loads)) fewer =
    subst (λ (x : Act). IsNearer p (acted x old q m).processor) (sym loads)
    (nearer_by p (acted (act.Cr0 value) old q m).processor
    (subst (λ (x : Act). wp_of (cr0_after x q.control.cr0) ≡ false → left q < left p) loads fewer))

module _ (laws : LowerLaws) (o : Opening) (ks : List Kind) (scenes : SceneLaws o ks) (facts : TurnFacts o ks)
    (storable : is_storable (kind_of ks 3) ≡ true) where
  -- a delivery leads to a stub, where six are left
  delivery_nearer : (p : Processor) (m : List ℕ) (vector : ℕ) → IsReady o ks p m → 32 ≤ vector → vector < 48
      → bit p.regs.flags interrupt_flag ≡ true → IsGatePoint p
      → left (trapped vector None (woken vector p) m).processor < left p
  unfolding trapped
  delivery_nearer p m vector ready low high set point =
      let it : IsDelivery o ks m p.regs vector None (delivered p.regs p.control p.tables vector None m p.tlb)
      (trap_stores vector None (woken vector p) m) =
      facts.delivers m p.control p.tables p.regs vector None p.tlb ready.scene ready.control.tables ready.pass high in
      let regs : Regs = at_handler p.regs (0xFFFFFF8000001040 + 8 * vector)
      (0xFFFFFF8000004000 - 8 * (5 + length (codes_of None))) in
      let rip : regs.rip ≡ gate_address + (64 + 8 * vector) = omega arith in
      let there : left_at (regs.rip - gate_address) (bit regs.flags interrupt_flag) ≡ 6 =
      left_there regs.rip (64 + 8 * vector) (bit regs.flags interrupt_flag) rip
      ∙ ap (left_at (64 + 8 * vector)) (laws.flag.same 9 p.regs.flags false) ∙ (stub_left vector low high).0 in
      let before : 6 < left p = point_left p set point in
      subst (λ (r : Regs). left_at (r.rip - gate_address) (bit r.flags interrupt_flag) < left p) (sym it.regs_are)
      (subst (λ (n : ℕ). n < left p) (sym there) before)

  -- an instruction of the gates
  instruction_nearer : (p : Processor) (m : List ℕ) → IsReady o ks p m → wp_of p.control.cr0 ≡ false → IsGatePoint p
      → is_at_body p.regs ≡ false
      → IsNearer p (turned_by (instruction_made p m).answer p m (instruction_made p m).tlb).processor
  instruction_nearer p m ready clear point away =
      let gate : IsGateInstruction p m = gate_instruction laws o ks scenes facts storable p m ready point away in
      let fetched : Outcome Fault Fetched = instruction_at m (view_of m p.control p.regs.cpl) p.regs.rip p.tlb in
      let it : Fetched = gate.fetched in
      let after = facts.fetch_pass m p.control p.regs.cpl p.regs.rip p.tlb ready.scene ready.pass in
      let makes = facts.window_effect p m fetched.tlb gate.offset it ready.control ready.scene after clear gate.point
      gate.elsewhere (listed_only laws gate.offset gate.point.point (Whole it.instr it.size) gate.listed) in
      let outcome : Outcome Fault Effect = effect_of it.instr it.size p.regs p.control m fetched.tlb in
      subst (λ (x : Outcome Fault Effect). IsNearer p (turned_by x.answer p m x.tlb).processor)
      (sym (made_from p m it gate.found))
      (subst (λ (a : Result Effect Fault). IsNearer p (turned_by a p m outcome.tlb).processor) (sym makes.1)
      (acted_nearer makes.0.act p.regs p (record p { regs = makes.0.regs; tlb = outcome.tlb })
      (memory_after makes.0.write m) makes.2.act_is makes.2.nearer))

  turn_nearer : (p : Processor) (m : List ℕ) → IsReady o ks p m → wp_of p.control.cr0 ≡ false → IsGatePoint p
      → is_at_body p.regs ≡ false → IsNearer p (turned p m).processor
  unfolding turned instructed
  turn_nearer p m ready clear point away = by_vector (deliverable p) refl
    where
      by_vector : (vector : Option ℕ) → deliverable p ≡ vector → IsNearer p (turned_unless vector p m).processor
      by_vector (Some vector) is =
          let bounds : (32 ≤ vector) × (vector < 48) = laws.pending.vector p vector ready.control.pending is in
          inr (delivery_nearer p m vector ready bounds.0 bounds.1 (delivers_set p vector is) point)
      by_vector None is =
          let q : Processor = record p { shielded = false } in
          subst (λ (b : Bool). IsNearer p (if b then refused_body q m
          else turned_by (instruction_made q m).answer q m (instruction_made q m).tlb).processor) (sym away)
          (instruction_nearer q m (unshielded laws o ks scenes facts storable p m ready) clear (record {
            offset = point.offset;
            stands = record {
              supervisor = point.stands.supervisor;
              runs = point.stands.runs;
              rip = point.stands.rip;
              point = point.stands.point;
              holds = point.stands.holds;
            };
          }) away)

-- at a point where no body is to run, the supervisor isn't at its place
away_from_body : (p : Processor) → enters_body p ≡ false → wp_of p.control.cr0 ≡ false → is_at_body p.regs ≡ false
away_from_body p outside clear = choice (is_at_body p.regs) (wp_of p.control.cr0) outside clear
  where
    choice : (b w : Bool) → b && not w ≡ false → w ≡ false → b ≡ false
    choice b true outside clear = absurd (false≢true (sym clear))
    choice true false outside clear = absurd (false≢true (sym outside))
    choice false false outside clear = refl

module _ (laws : LowerLaws) (o : Opening) (admitted : IsAdmitted o) (s : MachineState) (guarded : IsGuarded o s) where
  pub turn_left : TurnFacts o s.kinds → TakesTurn s.processor → wp_of s.processor.control.cr0 ≡ false
      → IsNearer s.processor (after_turn s).processor
  unfolding after_turn
  turn_left facts takes clear =
      turn_nearer laws o s.kinds (scene_laws laws o s.kinds admitted guarded.kinds) facts
      (stack_storable laws o admitted s.kinds guarded.kinds) s.processor s.memory (ready laws o admitted s guarded) clear
      (guarded.window clear) (away_from_body s.processor takes.no_body clear)

  pub body_left : enters_body s.processor ≡ true → left (served s).processor < left s.processor
  unfolding served
  body_left enters =
      let p : Processor = s.processor in
      let at : IsAtBody p = at_body p enters (guarded.window (body_stands p enters).1) in
      let calm : is_uninterrupted p ≡ true =
      (and_parts (is_uninterrupted p) (stands_on 0xFFFFFF8000005000 p) at.point.holds).0 in
      closer_cleared p 27 29 p.regs.flags at.point.rip (not-true _ calm) points_closer.from_27

pub event_left : (what : What) (s : MachineState)
    → ((after_event what s).processor.control.cr0 ≡ s.processor.control.cr0)
    × (left (after_event what s).processor ≡ left s.processor)
event_left (Irq vector) s = (refl, refl)
event_left (Drop page) s = (refl, refl)
event_left (Fill page) s = (refl, refl)
event_left (Keep level page) s = (refl, refl)
event_left (Forget level page) s = (refl, refl)
