-- What the pushes of a delivery leave in a scene: stores on the trap stack alone.
use Rattle.std.proofs.Common.{◌≡◌, ℕ, suc, ◌+◌, ◌*◌, ◌-◌, ◌/◌, ◌%◌, ◌^◌, ◌<◌, ◌≤◌, true, List, [], ◌∷◌, ◌++◌, length, All, refl, sym, ap, subst, ◌∙◌, arith}
use Rattle.std.specs.Prelude.{Some, Result, Ok}
use Rattle.std.proofs.lemmas.List.Elements.{All-append, All-nil, All-weaker}
use Rattle.nk_bits.specs.declared.access.Access.TheVariants.{Write}
use Rattle.nk_bits.specs.declared.control.Control.{Control}
use Rattle.nk_bits.specs.declared.kind.Kind.{Kind}
use Rattle.nk_bits.specs.declared.kind.Kind.TheVariants.{Trap}
use Rattle.nk_bits.specs.declared.leaf.Target.{Target}
use Rattle.nk_bits.specs.Accesses.{accessed, first_part}
use Rattle.nk_bits.specs.Claims.{AllPass}
use Rattle.nk_bits.specs.Kinds.{is_storable, kind_of}
use Rattle.nk_bits.specs.Paging.{page_of}
use Rattle.nk_bits.specs.Translations.{Translations}
use Rattle.phys_mem.specs.Memory.{stored, stores}
use Rattle.nk_bits.specs.KernelLayout.{trap_stack}
use Rattle.boot_map.specs.KernelSlot.{slot_leaf, slot_start, writable}
use Rattle.page_walk.specs.MemoryAccess.{stores_at, view_of, bytes_written}
use Rattle.x86_regs.specs.Operands.{lowered}
use Rattle.trap_unit.specs.declared.shutdown.Shut.{Shut}
use Rattle.trap_unit.specs.DeliveryStores.{push_stores, pushes_stores, stores_found, stores_on}
use Rattle.trap_unit.specs.TrapDelivery.{Pushed, made_at, pushed, pushed_on, pushes}
use Rattle.gate_state.specs.MachineStates.{Opening}
use Rattle.gate_state.specs.RespectedKinds.{respecting}
use Rattle.gate_state.proofs.LowerLaws.{LowerLaws}
use Rattle.gate_state.proofs.Scene.{AreStores, IsScene, SceneLaws, scene_stored}
use Rattle.gate_state.proofs.SceneProofsWalks.{kind_is}
use Rattle.gate_state.proofs.DeliveryReads.{stack_leaf, whole_part}

-- memory after these stores, on the trap stack alone
pub record IsPushed (o : Opening) (ks : List Kind) (m : List ℕ) (last : ℕ) (it : Pushed) (ws : List (ℕ × ℕ)) : Type 0 where
  pub answers : it.answer ≡ Ok last
  pub memory_is : it.memory ≡ stored m ws
  pub places : All (λ w. w.0 / 4096 ≡ 3) ws
  pub bytes : All (λ w. w.1 < 256) ws
  pub pass : AllPass (respecting o ks) it.tlb

-- the stores of an access on one page are those of its number
no_stores : (P : ℕ × ℕ → Type 0) (n p v : ℕ) → n ≡ 0 → All P (stores n p v)
unfolding stores
no_stores P n p v none = subst (λ k. All P (stores k p v)) (sym none) (All-nil P)

one_part : (P : ℕ × ℕ → Type 0) (va width first value : ℕ) → va % 4096 + width ≤ 4096 → All P (stores width first value)
    → All P (stores_at va width (record { first = first; second = 0 }) value)
one_part P va width first value within all =
    let part : first_part va width ≡ width = whole_part va width within in
    All-append P (stores (first_part va width) first value)
    (stores (width - first_part va width) 0 (value / 256 ^ first_part va width))
    (subst (λ k. All P (stores k first value)) (sym part) all)
    (no_stores P (width - first_part va width) 0 (value / 256 ^ first_part va width) (omega (arith, part)))

stored_none : (m : List ℕ) → stored m [] ≡ m
unfolding stored
stored_none m = refl

module _ (laws : LowerLaws) (o : Opening) (ks : List Kind) (scenes : SceneLaws o ks) where
  -- the trap stack may be stored to
  trap_storable : (m : List ℕ) (control : Control) → IsScene o ks m control → is_storable (kind_of ks 3) ≡ true
  trap_storable m control scene =
      let least : 512 ≤ o.frames = scene.admitted.layout.least in
      ap is_storable (kind_is laws o ks scene.admitted scene.kinds_are 3 Trap (omega arith)
      (laws.opening_kinds.trap o.image o.frames) refl)

  pub pushes_kept : (m : List ℕ) (control : Control) (ws : List (ℕ × ℕ)) → All (λ w. w.0 / 4096 ≡ 3) ws
      → All (λ w. w.1 < 256) ws → IsScene o ks m control → AreStores ks ws
  pushes_kept m control ws places bytes scene = record {
    places = All-weaker (λ w. w.0 / 4096 ≡ 3) (λ w. is_storable (kind_of ks (w.0 / 4096)) ≡ true)
        (λ w is. ap (λ f. is_storable (kind_of ks f)) is ∙ trap_storable m control scene) ws places;
    bytes = bytes;
  }

  -- a push at this address
  push_at : (control : Control) (value top va : ℕ) (m : List ℕ) (tlb : Translations) → IsScene o ks m control
      → AllPass (respecting o ks) tlb → lowered top 8 ≡ va → 0xFFFFFF8000003000 ≤ va → va + 8 ≤ 0xFFFFFF8000004000
      → IsPushed o ks m va (pushed control value top m tlb) (push_stores control value top m tlb)
  unfolding pushed push_stores
  push_at control value top va m tlb scene pass is low high =
      let at : ℕ = lowered top 8 in
      let page : page_of at ≡ slot_start + 3 = omega (arith, is, low, high) in
      let laid : slot_leaf o.image o.frames (page_of at) ≡ Some (writable trap_stack) =
      ap (slot_leaf o.image o.frames) page ∙ stack_leaf o.image o.frames in
      let fits : at < 2 ^ 64 = omega (arith, is, high) in
      let from : 4096 * slot_start ≤ at = omega (arith, is, low) in
      let short : at % 4096 + 8 ≤ 4096 = omega (arith, is, low, high) in
      let place : ℕ = 4096 * 3 + at % 4096 in
      let target : Target = record { first = place; second = 0 } in
      let found : (accessed (view_of m control 0) Write tlb at 8).answer ≡ Ok target =
      scenes.slot_accessed m control 0 Write tlb at 8 (writable trap_stack) scene pass fits from (omega arith) short
      laid refl in
      subst (λ (ws : List (ℕ × ℕ)). IsPushed o ks m va (pushed control value top m tlb) ws) (sym (ap (stores_found at 8 value) found))
      (record {
        answers = ap (made_at at) found ∙ ap Ok is;
        memory_is = ap (bytes_written m at 8 value) found;
        places = one_part (λ w. w.0 / 4096 ≡ 3) at 8 place value short
            (laws.frame.within_frame 8 place value 3 (omega arith) (omega (arith, short)));
        bytes = one_part (λ w. w.1 < 256) at 8 place value short (laws.memory.values 8 place value);
        pass = scenes.accessed_pass m control 0 Write tlb at 8 scene pass fits (omega arith);
      })

  pub push_gives : (control : Control) (value top : ℕ) (m : List ℕ) (tlb : Translations) → IsScene o ks m control
      → AllPass (respecting o ks) tlb → 0xFFFFFF8000003000 + 8 ≤ top → top ≤ 0xFFFFFF8000004000
      → IsPushed o ks m (top - 8) (pushed control value top m tlb) (push_stores control value top m tlb)
  push_gives control value top m tlb scene pass low high =
      push_at control value top (top - 8) m tlb scene pass (omega (arith, low, high)) (omega (arith, low))
      (omega (arith, low, high))

  -- a scene after a push
  pushed_scene : (m : List ℕ) (control : Control) (last : ℕ) (it : Pushed) (ws : List (ℕ × ℕ)) → IsScene o ks m control
      → IsPushed o ks m last it ws → IsScene o ks it.memory control
  pushed_scene m control last it ws scene done =
      subst (λ l. IsScene o ks l control) (sym done.memory_is)
      (scene_stored o ks scenes m control ws scene (pushes_kept m control ws done.places done.bytes scene))

  -- pushes after a push
  push_on : (m : List ℕ) (middle last : ℕ) (first : Pushed) (next : ℕ → List ℕ → Translations → Pushed)
      (ws : List (ℕ × ℕ)) (more : ℕ → List ℕ → Translations → List (ℕ × ℕ))
      → IsPushed o ks m middle first ws
      → IsPushed o ks first.memory last (next middle first.memory first.tlb) (more middle first.memory first.tlb)
      → IsPushed o ks m last (pushed_on first.answer first.memory first.tlb next)
      (ws ++ stores_on first.answer first.memory first.tlb more)
  push_on m middle last first next ws more done later =
      let then : List (ℕ × ℕ) = more middle first.memory first.tlb in
      subst (λ (r : Result ℕ Shut). IsPushed o ks m last (pushed_on r first.memory first.tlb next)
      (ws ++ stores_on r first.memory first.tlb more)) (sym done.answers)
      (record {
        answers = later.answers;
        memory_is = later.memory_is ∙ ap (λ l. stored l then) done.memory_is ∙ sym (laws.memory.append m ws then);
        places = All-append (λ w. w.0 / 4096 ≡ 3) ws then done.places later.places;
        bytes = All-append (λ w. w.1 < 256) ws then done.bytes later.bytes;
        pass = later.pass;
      })

  -- all pushes, as long as they stay on the trap stack's page
  pub pushes_give : (control : Control) (values : List ℕ) (top : ℕ) (m : List ℕ) (tlb : Translations)
      → IsScene o ks m control
      → AllPass (respecting o ks) tlb → 0xFFFFFF8000003000 + 8 * length values ≤ top → top ≤ 0xFFFFFF8000004000
      → IsPushed o ks m (top - 8 * length values) (pushes control values top m tlb) (pushes_stores control values top m tlb)
  pushes_give control [] top m tlb scene pass low high = record {
    answers = ap Ok (omega arith);
    memory_is = sym (stored_none m);
    places = All-nil (λ w. w.0 / 4096 ≡ 3);
    bytes = All-nil (λ w. w.1 < 256);
    pass = pass;
  }
  pushes_give control (value ∷ values) top m tlb scene pass low high =
      let first : Pushed = pushed control value top m tlb in
      let made : List (ℕ × ℕ) = push_stores control value top m tlb in
      let done : IsPushed o ks m (top - 8) first made =
      push_gives control value top m tlb scene pass (omega (arith, low)) high in
      let last : top - 8 - 8 * length values ≡ top - 8 * suc (length values) = omega (arith, low) in
      push_on m (top - 8) (top - 8 * suc (length values)) first (pushes control values) made (pushes_stores control values) done
      (subst (λ at. IsPushed o ks first.memory at (pushes control values (top - 8) first.memory first.tlb)
      (pushes_stores control values (top - 8) first.memory first.tlb)) last
      (pushes_give control values (top - 8) first.memory first.tlb (pushed_scene m control (top - 8) first made scene done)
      done.pass (omega (arith, low)) (omega (arith, high))))
