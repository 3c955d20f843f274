-- A delivery of a vector in a scene never shuts the machine down: it leads to the vector's stub, and stores on the trap
-- stack alone.
use Rattle.std.proofs.Common.{◌≡◌, ◌⊎◌, ℕ, ◌+◌, ◌*◌, ◌-◌, ◌/◌, ◌<◌, ◌≤◌, Bool, true, false, List, length, All, refl, sym, ap, subst, arith, inl, inr}
use Rattle.std.specs.Prelude.{Option, Some, None, Result, Ok, nat_le}
use Rattle.std.proofs.lemmas.Bool.{cases_lt, cond-false, cond-true, le-ltb, lt-ltb}
use Rattle.nk_bits.specs.declared.control.Control.{Control}
use Rattle.nk_bits.specs.declared.kind.Kind.{Kind}
use Rattle.nk_bits.specs.declared.kind.Kind.TheVariants.{Fixed}
use Rattle.nk_bits.specs.Claims.{AllPass}
use Rattle.nk_bits.specs.Kinds.{kind_of}
use Rattle.nk_bits.specs.Outcomes.{Outcome, and_then, answered, refused}
use Rattle.nk_bits.specs.Translations.{Translations}
use Rattle.phys_mem.specs.Memory.{stored}
use Rattle.boot_map.specs.Opening.{idt_and_tss_byte}
use Rattle.x86_regs.specs.declared.delivery.Tables.{Tables}
use Rattle.x86_regs.specs.declared.registers.Regs.{Regs}
use Rattle.x86_regs.specs.Operands.{wrapped}
use Rattle.trap_unit.specs.declared.delivery.Entry.{Entry}
use Rattle.trap_unit.specs.declared.gate.Gate.{Gate}
use Rattle.trap_unit.specs.declared.shutdown.Shut.{Shut}
use Rattle.trap_unit.specs.DeliveryStores.{delivery_stores, frame_stores, pushes_stores}
use Rattle.trap_unit.specs.TrapDelivery.{Delivered, Pushed, arrived, at_handler, codes_of, delivered, entered, entry_found, frame_values, descriptor_address, gate_found, gate_level, gate_offset, gate_read, if_good, interrupt_allowed, is_good, passes_limit, pushes, read_at, shut}
use Rattle.page_desc.specs.PageTables.{is_unchanging}
use Rattle.gate_state.specs.MachineOpening.{opening_tables}
use Rattle.gate_state.specs.MachineStates.{Opening}
use Rattle.gate_state.specs.RespectedKinds.{respecting}
use Rattle.gate_state.proofs.LowerLaws.{LowerLaws}
use Rattle.gate_state.proofs.Scene.{AreStores, IsScene, SceneLaws}
use Rattle.gate_state.proofs.SceneProofsWalks.{kind_is}
use Rattle.gate_state.proofs.DeliveryGates.{gate_leads, laid_gate, number_from, number_held, stack_is}
use Rattle.gate_state.proofs.DeliveryReads.{Gives, read_gives, then_gives}
use Rattle.gate_state.proofs.DeliveryPushes.{IsPushed, pushes_give, pushes_kept}

pub record IsDelivery (o : Opening) (ks : List Kind) (m : List ℕ) (regs : Regs) (vector : ℕ) (code : Option ℕ)
    (it : Delivered) (ws : List (ℕ × ℕ)) : Type 0 where
  pub made : it.answer ≡ Ok tt
  pub regs_are : it.regs ≡ at_handler regs (0xFFFFFF8000001040 + 8 * vector)
      (0xFFFFFF8000004000 - 8 * (5 + length (codes_of code)))
  pub memory_is : it.memory ≡ stored m ws
  pub places : All (λ w. w.0 / 4096 ≡ 3) ws
  pub bytes : All (λ w. w.1 < 256) ws
  pub pass : AllPass (respecting o ks) it.tlb

-- INT n asks first: it never shuts the machine down, and is allowed for the 48 vectors alone
pub record IsAsked (o : Opening) (ks : List Kind) (vector : ℕ) (it : Outcome Shut Bool) : Type 0 where
  pub answered : (it.answer ≡ Ok false) ⊎ ((it.answer ≡ Ok true) × (vector < 48))
  pub pass : AllPass (respecting o ks) it.tlb

-- at most one error code is pushed
few_codes : (code : Option ℕ) → length (codes_of code) ≤ 1
few_codes None = omega arith
few_codes (Some code) = omega arith

-- the two answers of a test
abbrev IsTold : Type 0 → Result Bool Shut → Type 0
IsTold few r = (r ≡ Ok false) ⊎ ((r ≡ Ok true) × few)

told : (b : Bool) (few : Type 0) → few → IsTold few (Ok b)
told true few is = inr (refl, is)
told false few is = inl refl

-- what comes of the pushes comes of the delivery
arrived_gives : (o : Opening) (ks : List Kind) (m : List ℕ) (regs : Regs) (handler top vector : ℕ) (code : Option ℕ)
    (last : Pushed) (ws : List (ℕ × ℕ))
    → handler ≡ 0xFFFFFF8000001040 + 8 * vector → top ≡ 0xFFFFFF8000004000 - 8 * (5 + length (codes_of code))
    → IsPushed o ks m top last ws
    → IsDelivery o ks m regs vector code (arrived regs handler last.answer last.memory last.tlb) ws
arrived_gives o ks m regs handler top vector code last ws leads ends done =
    subst (λ (r : Result ℕ Shut). IsDelivery o ks m regs vector code (arrived regs handler r last.memory last.tlb) ws)
    (sym done.answers)
    (record {
      made = refl;
      regs_are = ap (λ (x : ℕ × ℕ). at_handler regs x.0 x.1) (λ j. (leads j, ends j));
      memory_is = done.memory_is;
      places = done.places;
      bytes = done.bytes;
      pass = done.pass;
    })

module _ (laws : LowerLaws) (o : Opening) (ks : List Kind) (scenes : SceneLaws o ks) where
  -- the first frame is fixed
  first_kept : (m : List ℕ) (control : Control) → IsScene o ks m control → is_unchanging (kind_of ks 0) ≡ true
  first_kept m control scene =
      let least : 512 ≤ o.frames = scene.admitted.layout.least in
      ap is_unchanging (kind_is laws o ks scene.admitted scene.kinds_are 0 Fixed (omega arith)
      (laws.opening_kinds.fixed o.image o.frames).0 refl)

  module _ (m : List ℕ) (control : Control) (scene : IsScene o ks m control) where
    -- a read of the first frame finds what the opening has there
    read_opening : (va place : ℕ) (tlb : Translations) → va ≡ 0xFFFFFF8000000000 + place → place + 8 ≤ 4096
        → AllPass (respecting o ks) tlb
        → Gives (respecting o ks) Shut ℕ (read_at control va m tlb) (number_from idt_and_tss_byte 8 place)
    read_opening va place tlb is within pass =
        subst (λ x. Gives (respecting o ks) Shut ℕ (read_at control va m tlb) x)
        (number_held o ks m scene.memory (first_kept m control scene) 8 place within)
        (read_gives o ks scenes m control scene va place tlb is within pass)

    gate_gives : (vector : ℕ) (tlb : Translations) → vector < 48 → AllPass (respecting o ks) tlb
        → Gives (respecting o ks) Shut Gate (gate_read control opening_tables vector m tlb) (laid_gate vector)
    unfolding gate_read
    gate_gives vector tlb few pass =
        let va : ℕ = descriptor_address opening_tables vector in
        let here : va ≡ 0xFFFFFF8000000000 + 16 * vector = omega (arith, few) in
        then_gives (respecting o ks) Shut ℕ Gate (read_at control va m tlb)
        (number_from idt_and_tss_byte 8 (16 * vector)) _ (laid_gate vector)
        (read_opening va (16 * vector) tlb here (omega (arith, few)) pass)
        (λ after kept.
        then_gives (respecting o ks) Shut ℕ Gate (read_at control (wrapped (va + 8)) m after)
        (number_from idt_and_tss_byte 8 (16 * vector + 8)) _ (laid_gate vector)
        (read_opening (wrapped (va + 8)) (16 * vector + 8) after (omega (arith, here, few)) (omega (arith, few)) kept)
        (λ last passing. record { answers = refl; pass = passing }))

    within_limit : (vector : ℕ) → vector < 48 → passes_limit opening_tables vector ≡ false
    within_limit vector few = le-ltb 767 (16 * vector + 15) (omega arith)

    good_gives : (vector : ℕ) (tlb : Translations) → vector < 48 → AllPass (respecting o ks) tlb
        → Gives (respecting o ks) Shut Gate (gate_found control opening_tables vector m tlb) (laid_gate vector)
    good_gives vector tlb few pass =
        let found : Outcome Shut Gate = and_then (gate_read control opening_tables vector m tlb) if_good in
        let good : Gives (respecting o ks) Shut Gate found (laid_gate vector) =
        then_gives (respecting o ks) Shut Gate Gate (gate_read control opening_tables vector m tlb) (laid_gate vector)
        if_good (laid_gate vector)
        (gate_gives vector tlb few pass)
        (λ after kept.
        subst (λ (out : Outcome Shut Gate). Gives (respecting o ks) Shut Gate out (laid_gate vector))
        (sym (cond-true (is_good (laid_gate vector)) (answered (laid_gate vector) after) (refused shut after)
        (gate_leads vector few).0))
        (record { answers = refl; pass = kept })) in
        subst (λ (out : Outcome Shut Gate). Gives (respecting o ks) Shut Gate out (laid_gate vector))
        (sym (cond-false (passes_limit opening_tables vector) (refused shut tlb) found (within_limit vector few))) good

    -- the entry of a delivery: the vector's stub, and the top of the trap stack
    pub entry_gives : (vector : ℕ) (tlb : Translations) → vector < 48 → AllPass (respecting o ks) tlb
        → Gives (respecting o ks) Shut Entry (entry_found control opening_tables vector m tlb)
        (record { handler = gate_offset (laid_gate vector); top = number_from idt_and_tss_byte 8 1060 / 16 * 16 })
    unfolding entry_found
    entry_gives vector tlb few pass =
        then_gives (respecting o ks) Shut Gate Entry (gate_found control opening_tables vector m tlb) (laid_gate vector)
        _ _ (good_gives vector tlb few pass)
        (λ after kept.
        then_gives (respecting o ks) Shut ℕ Entry (read_at control (wrapped (opening_tables.tss + 36)) m after)
        (number_from idt_and_tss_byte 8 1060) _ _
        (read_opening (wrapped (opening_tables.tss + 36)) 1060 after refl (omega arith) kept)
        (λ last passing. record { answers = refl; pass = passing }))

    -- the pushes from an entry
    entered_gives : (regs : Regs) (vector : ℕ) (code : Option ℕ) (tlb : Translations) (handler top : ℕ)
        → handler ≡ 0xFFFFFF8000001040 + 8 * vector → top ≡ 0xFFFFFF8000004000 → AllPass (respecting o ks) tlb
        → IsDelivery o ks m regs vector code (entered regs control code (Ok (record { handler = handler; top = top }))
        m tlb) (frame_stores regs control code (Ok (record { handler = handler; top = top })) m tlb)
    entered_gives regs vector code tlb handler top leads stands pass =
        let values : List ℕ = frame_values regs code in
        let count : length values ≡ 5 + length (codes_of code) = omega arith in
        let few : length (codes_of code) ≤ 1 = few_codes code in
        arrived_gives o ks m regs handler (top - 8 * length values) vector code (pushes control values top m tlb)
        (pushes_stores control values top m tlb) leads (omega (arith, count, stands))
        (pushes_give laws o ks scenes control values top m tlb scene pass (omega (arith, count, few, stands))
        (omega (arith, stands)))

    delivers_here : (regs : Regs) (vector : ℕ) (code : Option ℕ) (tlb : Translations) → AllPass (respecting o ks) tlb
        → vector < 48
        → IsDelivery o ks m regs vector code (delivered regs control opening_tables vector code m tlb)
        (delivery_stores regs control opening_tables vector code m tlb)
    unfolding delivered delivery_stores
    delivers_here regs vector code tlb pass few =
        let entry : Outcome Shut Entry = entry_found control opening_tables vector m tlb in
        let gives = entry_gives vector tlb few pass in
        subst (λ (r : Result Entry Shut). IsDelivery o ks m regs vector code
        (entered regs control code r m entry.tlb) (frame_stores regs control code r m entry.tlb)) (sym gives.answers)
        (entered_gives regs vector code entry.tlb (gate_offset (laid_gate vector))
        (number_from idt_and_tss_byte 8 1060 / 16 * 16)
        (gate_leads vector few).1 (ap (λ x. x / 16 * 16) stack_is) gives.pass)

    asks_here : (cpl vector : ℕ) (tlb : Translations) → AllPass (respecting o ks) tlb
        → IsAsked o ks vector (interrupt_allowed control opening_tables cpl vector m tlb)
    unfolding interrupt_allowed
    asks_here cpl vector tlb pass =
        let found : Outcome Shut Bool =
        and_then (read_at control (descriptor_address opening_tables vector) m tlb)
        (λ low after. answered (nat_le cpl (gate_level low)) after) in
        elim (cases_lt vector 48) [
          | inl few ↦
              let low : ℕ = number_from idt_and_tss_byte 8 (16 * vector) in
              let gives : Gives (respecting o ks) Shut Bool found (nat_le cpl (gate_level low)) =
              then_gives (respecting o ks) Shut ℕ Bool (read_at control (descriptor_address opening_tables vector) m tlb) low _ _
              (read_opening (descriptor_address opening_tables vector) (16 * vector) tlb (omega (arith, few))
              (omega (arith, few)) pass)
              (λ after kept. record { answers = refl; pass = kept }) in
              subst (λ (out : Outcome Shut Bool). IsAsked o ks vector out)
              (sym (cond-false (passes_limit opening_tables vector) (answered false tlb) found
              (within_limit vector few)))
              (record {
                answered = subst (IsTold (vector < 48)) (sym gives.answers)
                    (told (nat_le cpl (gate_level low)) (vector < 48) few);
                pass = gives.pass;
              })
          | inr past ↦
              subst (λ (out : Outcome Shut Bool). IsAsked o ks vector out)
              (sym (cond-true (passes_limit opening_tables vector) (answered false tlb) found
              (lt-ltb 767 (16 * vector + 15) (omega (arith, past)))))
              (record { answered = inl refl; pass = pass })
        ]

  -- stores on the trap stack leave what is guarded
  pub stores_kept : (m : List ℕ) (control : Control) (ws : List (ℕ × ℕ)) → All (λ w. w.0 / 4096 ≡ 3) ws
      → All (λ w. w.1 < 256) ws → IsScene o ks m control → AreStores ks ws
  stores_kept = pushes_kept laws o ks scenes

  pub delivers : (m : List ℕ) (control : Control) (tables : Tables) (regs : Regs) (vector : ℕ) (code : Option ℕ)
      (tlb : Translations)
      → IsScene o ks m control → tables ≡ opening_tables → AllPass (respecting o ks) tlb → vector < 48
      → IsDelivery o ks m regs vector code (delivered regs control tables vector code m tlb)
      (delivery_stores regs control tables vector code m tlb)
  delivers m control tables regs vector code tlb scene same pass few =
      subst (λ t. IsDelivery o ks m regs vector code (delivered regs control t vector code m tlb)
      (delivery_stores regs control t vector code m tlb)) (sym same)
      (delivers_here m control scene regs vector code tlb pass few)

  pub asks : (m : List ℕ) (control : Control) (tables : Tables) (cpl vector : ℕ) (tlb : Translations)
      → IsScene o ks m control → tables ≡ opening_tables → AllPass (respecting o ks) tlb
      → IsAsked o ks vector (interrupt_allowed control tables cpl vector m tlb)
  asks m control tables cpl vector tlb scene same pass =
      subst (λ t. IsAsked o ks vector (interrupt_allowed control t cpl vector m tlb)) (sym same)
      (asks_here m control scene cpl vector tlb pass)
