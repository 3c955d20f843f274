-- A delivery over a memory of which a scene is seen: it ends as over the scene, and makes the same stores.
use Rattle.std.proofs.Common.{◌≡◌, ℕ, ◌+◌, ◌*◌, ◌-◌, ◌/◌, ◌<◌, ◌≤◌, List, [], ◌∷◌, ◌++◌, length, refl, sym, ap, subst, ◌∙◌, arith}
use Rattle.std.specs.Prelude.{Option, Some, None, Result, Ok, Err}
use Rattle.nk_bits.specs.declared.access.Access.TheVariants.{Write}
use Rattle.nk_bits.specs.declared.control.Control.{Control}
use Rattle.nk_bits.specs.declared.fault.AccessFault.{AccessFault}
use Rattle.nk_bits.specs.declared.kind.Kind.{Kind}
use Rattle.nk_bits.specs.declared.leaf.Target.{Target}
use Rattle.nk_bits.specs.Accesses.{accessed}
use Rattle.nk_bits.specs.Claims.{AllPass}
use Rattle.nk_bits.specs.Outcomes.{Outcome}
use Rattle.nk_bits.specs.Translations.{Translations}
use Rattle.phys_mem.specs.Memory.{stored}
use Rattle.boot_map.specs.Opening.{idt_and_tss_byte}
use Rattle.page_walk.specs.MemoryAccess.{view_of, bytes_written}
use Rattle.x86_regs.specs.declared.delivery.Tables.{Tables}
use Rattle.x86_regs.specs.declared.registers.Regs.{Regs}
use Rattle.x86_regs.specs.Operands.{lowered}
use Rattle.trap_unit.specs.declared.delivery.Entry.{Entry}
use Rattle.trap_unit.specs.declared.shutdown.Shut.{Shut}
use Rattle.trap_unit.specs.DeliveryStores.{delivery_stores, frame_stores, push_stores, pushes_stores, stores_found, stores_on}
use Rattle.trap_unit.specs.TrapDelivery.{Delivered, Pushed, arrived, codes_of, delivered, entered, entry_found, frame_values, gate_offset, made_at, pushed, pushed_on, pushes}
use Rattle.gate_state.specs.MachineOpening.{opening_tables}
use Rattle.gate_state.specs.MachineStates.{Opening}
use Rattle.gate_state.specs.RespectedKinds.{respecting}
use Rattle.gate_state.proofs.Delivery.{entry_gives}
use Rattle.gate_state.proofs.DeliveryGates.{laid_gate, number_from, stack_is}
use Rattle.gate_state.proofs.DeliveryPushes.{IsPushed, push_gives, pushes_kept}
use Rattle.gate_state.proofs.LowerLaws.{LowerLaws}
use Rattle.gate_state.proofs.MaskedScenes.{IsSeen, alike, seen_stored}
use Rattle.gate_state.proofs.Scene.{AreStores, SceneLaws}

-- what pushes and a delivery leave but for memory, with their stores
abbrev Pushes : Type 0
Pushes = Result ℕ Shut × Translations × List (ℕ × ℕ)

abbrev left_by : Pushed → List (ℕ × ℕ) → Pushes
left_by it ws = (it.answer, it.tlb, ws)

abbrev pub Deliveries : Type 0
Deliveries = Regs × Translations × Result Unit Shut × List (ℕ × ℕ)

abbrev pub brought : Delivered → List (ℕ × ℕ) → Deliveries
brought it ws = (it.regs, it.tlb, it.answer, ws)

-- a write is the stores of its number
written_stores : (m : List ℕ) (va value : ℕ) (answer : Result Target AccessFault)
    → bytes_written m va 8 value answer ≡ stored m (stores_found va 8 value answer)
unfolding stored
written_stores m va value (Ok target) = refl
written_stores m va value (Err fault) = refl

-- one push: what it leaves is the same, and memory is that after the stores
record IsFirst (m : List ℕ) (one other : Pushed) (ws vs : List (ℕ × ℕ)) : Type 0 where
  pub answers : one.answer ≡ other.answer
  pub tlb : one.tlb ≡ other.tlb
  pub stores : ws ≡ vs
  pub memory : other.memory ≡ stored m ws

-- the registers at the handler, where the pushes were made
arrived_any : (regs : Regs) (handler : ℕ) (answer : Result ℕ Shut) (m n : List ℕ) (tlb : Translations)
    (ws : List (ℕ × ℕ))
    → brought (arrived regs handler answer m tlb) ws ≡ brought (arrived regs handler answer n tlb) ws
arrived_any regs handler (Ok top) m n tlb ws = refl
arrived_any regs handler (Err it) m n tlb ws = refl

arrived_same : (regs : Regs) (handler : ℕ) (one other : Pushed) (ws vs : List (ℕ × ℕ))
    → left_by one ws ≡ left_by other vs
    → brought (arrived regs handler one.answer one.memory one.tlb) ws
    ≡ brought (arrived regs handler other.answer other.memory other.tlb) vs
arrived_same regs handler one other ws vs same =
    ap (λ (x : Pushes). brought (arrived regs handler x.0 one.memory x.1) x.2) same
    ∙ arrived_any regs handler other.answer one.memory other.memory other.tlb vs

few_codes : (code : Option ℕ) → length (codes_of code) ≤ 1
few_codes None = omega arith
few_codes (Some code) = omega arith

module _ (laws : LowerLaws) (o : Opening) (ks : List Kind) (scenes : SceneLaws o ks) where
  first_same : (control : Control) (value top : ℕ) (m n : List ℕ) (tlb : Translations) → IsSeen o ks m n control
      → AllPass (respecting o ks) tlb
      → IsFirst m (pushed control value top n tlb) (pushed control value top m tlb)
      (push_stores control value top n tlb)
      (push_stores control value top m tlb)
  unfolding pushed push_stores
  first_same control value top m n tlb seen pass =
      let va : ℕ = lowered top 8 in
      let one : Outcome AccessFault Target = accessed (view_of n control 0) Write tlb va 8 in
      let other : Outcome AccessFault Target = accessed (view_of m control 0) Write tlb va 8 in
      let same : one ≡ other =
      laws.alike.accessed (respecting o ks) control 0 n m Write tlb va 8 (alike laws o ks m n control seen)
      (scenes.walked n control 0 seen.scene) pass (omega arith) (omega arith) in
      record {
        answers = ap (λ (x : Outcome AccessFault Target). made_at va x.answer) same;
        tlb = ap (λ (x : Outcome AccessFault Target). x.tlb) same;
        stores = ap (λ (x : Outcome AccessFault Target). stores_found va 8 value x.answer) same;
        memory = written_stores m va value other.answer
            ∙ ap (λ (x : Outcome AccessFault Target). stored m (stores_found va 8 value x.answer)) (sym same);
      }

  -- the memories behind it are seen alike
  first_seen : (control : Control) (m n : List ℕ) (last : ℕ) (one other : Pushed) (ws vs : List (ℕ × ℕ))
      → IsSeen o ks m n control → IsPushed o ks n last one ws → IsFirst m one other ws vs
      → IsSeen o ks other.memory one.memory control
  first_seen control m n last one other ws vs seen done first =
      let are : AreStores ks ws = pushes_kept laws o ks scenes n control ws done.places done.bytes seen.scene in
      subst (λ (x : List ℕ). IsSeen o ks x one.memory control) (sym first.memory)
      (subst (λ (x : List ℕ). IsSeen o ks (stored m ws) x control) (sym done.memory_is)
      (seen_stored laws o ks m n control seen scenes ws are))

  pushes_same : (control : Control) (values : List ℕ) (top : ℕ) (m n : List ℕ) (tlb : Translations)
      → IsSeen o ks m n control → AllPass (respecting o ks) tlb → 0xFFFFFF8000003000 + 8 * length values ≤ top
      → top ≤ 0xFFFFFF8000004000
      → left_by (pushes control values top n tlb) (pushes_stores control values top n tlb)
      ≡ left_by (pushes control values top m tlb) (pushes_stores control values top m tlb)
  pushes_same control [] top m n tlb seen pass low high = refl
  pushes_same control (value ∷ values) top m n tlb seen pass low high =
      let one : Pushed = pushed control value top n tlb in
      let other : Pushed = pushed control value top m tlb in
      let ws : List (ℕ × ℕ) = push_stores control value top n tlb in
      let vs : List (ℕ × ℕ) = push_stores control value top m tlb in
      let On : Result ℕ Shut → List ℕ → Translations → List (ℕ × ℕ) → Pushes = λ answer memory after made.
      left_by (pushed_on answer memory after (pushes control values))
      (made ++ stores_on answer memory after (pushes_stores control values)) in
      let done : IsPushed o ks n (top - 8) one ws =
      push_gives laws o ks scenes control value top n tlb seen.scene pass (omega (arith, low)) high in
      let first : IsFirst m one other ws vs = first_same control value top m n tlb seen pass in
      ap (λ answer. On answer one.memory one.tlb ws) done.answers
      ∙ ap (λ (x : Pushes). (x.0, x.1, ws ++ x.2))
      (pushes_same control values (top - 8) other.memory one.memory one.tlb
      (first_seen control m n (top - 8) one other ws vs seen done first) done.pass (omega (arith, low))
      (omega (arith, high)))
      ∙ ap (λ answer. On answer other.memory one.tlb ws) (sym done.answers)
      ∙ (λ j. On (first.answers j) other.memory (first.tlb j) (first.stores j))

  -- from an entry at the top of the trap stack
  entered_same : (regs : Regs) (control : Control) (code : Option ℕ) (entry : Entry) (m n : List ℕ) (tlb : Translations)
      → IsSeen o ks m n control → AllPass (respecting o ks) tlb → entry.top ≡ 0xFFFFFF8000004000
      → brought (entered regs control code (Ok entry) n tlb) (frame_stores regs control code (Ok entry) n tlb)
      ≡ brought (entered regs control code (Ok entry) m tlb) (frame_stores regs control code (Ok entry) m tlb)
  entered_same regs control code entry m n tlb seen pass stands =
      let values : List ℕ = frame_values regs code in
      let count : length values ≡ 5 + length (codes_of code) = omega arith in
      let few : length (codes_of code) ≤ 1 = few_codes code in
      arrived_same regs entry.handler (pushes control values entry.top n tlb) (pushes control values entry.top m tlb)
      (pushes_stores control values entry.top n tlb) (pushes_stores control values entry.top m tlb)
      (pushes_same control values entry.top m n tlb seen pass (omega (arith, count, few, stands))
      (omega (arith, stands)))

  here_same : (regs : Regs) (control : Control) (vector : ℕ) (code : Option ℕ) (m n : List ℕ) (tlb : Translations)
      → IsSeen o ks m n control → AllPass (respecting o ks) tlb → vector < 48
      → brought (delivered regs control opening_tables vector code n tlb)
      (delivery_stores regs control opening_tables vector code n tlb)
      ≡ brought (delivered regs control opening_tables vector code m tlb)
      (delivery_stores regs control opening_tables vector code m tlb)
  unfolding delivered delivery_stores
  here_same regs control vector code m n tlb seen pass few =
      let Of : Result Entry Shut → List ℕ → Translations → Deliveries = λ answer memory after.
      brought (entered regs control code answer memory after) (frame_stores regs control code answer memory after) in
      let one : Outcome Shut Entry = entry_found control opening_tables vector n tlb in
      let other : Outcome Shut Entry = entry_found control opening_tables vector m tlb in
      let gives = entry_gives laws o ks scenes n control seen.scene vector tlb few pass in
      let entry : Entry = record {
        handler = gate_offset (laid_gate vector);
        top = number_from idt_and_tss_byte 8 1060 / 16 * 16;
      } in
      let same : one ≡ other =
      laws.alike_reads.entry (respecting o ks) control opening_tables vector n m tlb (alike laws o ks m n control seen)
      (scenes.walked n control 0 seen.scene) pass in
      ap (λ answer. Of answer n one.tlb) gives.answers
      ∙ entered_same regs control code entry m n one.tlb seen gives.pass (ap (λ x. x / 16 * 16) stack_is)
      ∙ ap (λ answer. Of answer m one.tlb) (sym gives.answers)
      ∙ ap (λ (x : Outcome Shut Entry). Of x.answer m x.tlb) same

  pub delivered_same : (regs : Regs) (control : Control) (tables : Tables) (vector : ℕ) (code : Option ℕ) (m n : List ℕ)
      (tlb : Translations) → IsSeen o ks m n control → tables ≡ opening_tables → AllPass (respecting o ks) tlb
      → vector < 48
      → brought (delivered regs control tables vector code n tlb)
      (delivery_stores regs control tables vector code n tlb)
      ≡ brought (delivered regs control tables vector code m tlb)
      (delivery_stores regs control tables vector code m tlb)
  delivered_same regs control tables vector code m n tlb seen are pass few =
      subst (λ (x : Tables).
      brought (delivered regs control x vector code n tlb) (delivery_stores regs control x vector code n tlb)
      ≡ brought (delivered regs control x vector code m tlb)
      (delivery_stores regs control x vector code m tlb)) (sym are)
      (here_same regs control vector code m n tlb seen pass few)
