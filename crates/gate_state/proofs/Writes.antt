-- The write of an instruction in a guarded state goes to frames that may be stored to; on the trap stack's page it goes to
-- the trap stack.
use Rattle.std.proofs.Common.{◌≡◌, ◌⊎◌, ℕ, ◌+◌, ◌-◌, ◌*◌, ◌/◌, ◌%◌, ◌^◌, ◌<◌, ◌≤◌, Bool, true, false, List, All, refl, sym, ap, subst, ◌∙◌, arith, inl, inr}
use Rattle.std.specs.Prelude.{Some, not, ◌==◌, ◌&&◌, ◌||◌, if◌then◌else◌}
use Rattle.std.proofs.lemmas.Bool.{and_parts, or_cases, false≢true, ltb-false}
use Rattle.std.proofs.lemmas.List.Elements.{All-append, All-nil, All-weaker}
use Rattle.nk_bits.specs.declared.access.Access.TheVariants as access
use Rattle.nk_bits.specs.declared.kind.Kind.{Kind}
use Rattle.nk_bits.specs.declared.leaf.Leaf.{Leaf}
use Rattle.nk_bits.specs.declared.leaf.Target.{Target}
use Rattle.nk_bits.specs.AccessRights.{may}
use Rattle.nk_bits.specs.Accesses.{IsAccessSize, Serves, View, crosses, first_part, next_page, place_in}
use Rattle.nk_bits.specs.Claims.{Claim}
use Rattle.nk_bits.specs.Kinds.{allows, is_storable, kind_of}
use Rattle.nk_bits.specs.Paging.{is_slot_page, page_of}
use Rattle.phys_mem.specs.Memory.{stores}
use Rattle.boot_map.specs.KernelSlot.{slot_leaf, slot_start, writable}
use Rattle.page_walk.specs.MemoryAccess.{stores_at}
use Rattle.x86_regs.specs.declared.effects.Write.{Write}
use Rattle.x86_regs.specs.EffectsKept.{IsGranted}
use Rattle.gate_state.specs.MachineStates.{Opening}
use Rattle.gate_state.specs.RespectedKinds.{fits_kind, is_code, is_leaf, respecting, respects}
use Rattle.gate_state.proofs.LowerLaws.{LowerLaws}
use Rattle.gate_state.proofs.Scene.{AreStores, SceneLaws}

-- an access to a byte serves at a place of its frame
frame_of_place : (leaf : Leaf) (va : ℕ) → place_in leaf va / 4096 ≡ leaf.frame
frame_of_place leaf va = omega arith

-- an access size is at most 8
size_small : (width : ℕ) → IsAccessSize width → width ≤ 8
size_small width is = omega (arith, is)

-- the stores' bytes are below 256
pub stores_bytes : (laws : LowerLaws) (va width : ℕ) (target : Target) (value : ℕ) → All (λ w. w.1 < 256) (stores_at va width target value)
stores_bytes laws va width target value =
    All-append (λ (w : ℕ × ℕ). w.1 < 256) (stores (first_part va width) target.first value) (stores (width - first_part va width) target.second (value / 256 ^ first_part va width))
    (laws.memory.values (first_part va width) target.first value) (laws.memory.values (width - first_part va width) target.second (value / 256 ^ first_part va width))

-- a translation that may be written, and respects the kinds, names a frame that may be stored to
pub writable_storable : (laws : LowerLaws) (o : Opening) (ks : List Kind) (page : ℕ) (leaf : Leaf) → respects o ks (page, leaf) ≡ true → leaf.rights.can_write ≡ true
    → is_storable (kind_of ks leaf.frame) ≡ true
unfolding respects
writable_storable laws o ks page leaf pass writes = choice_storable (is_slot_page page) pass
  where
    not_or : (a b : Bool) → a ≡ true → not a || b ≡ true → b ≡ true
    not_or true b is e = e
    not_or false b is e = absurd (false≢true is)

    choice_storable : (b : Bool) → (if b then is_leaf (slot_leaf o.image o.frames page) leaf && fits_kind ks leaf else allows (kind_of ks leaf.frame) leaf.rights) ≡ true
        → is_storable (kind_of ks leaf.frame) ≡ true
    choice_storable true e =
        not_or leaf.rights.can_write (is_storable (kind_of ks leaf.frame)) writes
        (and_parts (not leaf.rights.can_write || is_storable (kind_of ks leaf.frame)) (not leaf.rights.exec || (leaf.frame == 1 || is_code (kind_of ks leaf.frame)))
        (and_parts (is_leaf (slot_leaf o.image o.frames page) leaf) (fits_kind ks leaf) e).1).0
    choice_storable false e = laws.kind.storable (kind_of ks leaf.frame) leaf.rights e writes

-- with WP set, or for the user, a write needs a writable page
write_needs : (leaf : Leaf) (cpl : ℕ) (wp smep : Bool) → (wp ≡ true) → may access.Write leaf.rights cpl wp smep ≡ true → leaf.rights.can_write ≡ true
write_needs leaf cpl wp smep set serves = by_cpl (cpl == 0) (subst (λ (b : Bool). (if cpl == 0 then leaf.rights.can_write || not b else leaf.rights.user && leaf.rights.can_write) ≡ true) set serves)
  where
    by_cpl : (b : Bool) → (if b then leaf.rights.can_write || not true else leaf.rights.user && leaf.rights.can_write) ≡ true → leaf.rights.can_write ≡ true
    by_cpl true e = elim (or_cases leaf.rights.can_write (not true) e) [ inl is ↦ is | inr never ↦ absurd (false≢true never) ]
    by_cpl false e = (and_parts leaf.rights.user leaf.rights.can_write e).1

part_within : (va width : ℕ) → va % 4096 + first_part va width ≤ 4096
unfolding first_part
part_within va width = omega arith

-- without a second page the first has all bytes
part_whole : (va width : ℕ) → crosses va width ≡ false → width - first_part va width ≡ 0
unfolding first_part crosses
part_whole va width none = omega (arith, ltb-false 4096 (va % 4096 + width) none)

next_at_start : (va : ℕ) → next_page va % 4096 ≡ 0
unfolding next_page
next_at_start va = omega arith

no_stores_left : (P : ℕ → Type 0) (n place value : ℕ) → n ≡ 0 → All (λ w. P (w.0 / 4096)) (stores n place value)
unfolding stores
no_stores_left P n place value is = subst (λ k. All (λ (w : ℕ × ℕ). P (w.0 / 4096)) (stores k place value)) (sym is) (All-nil (λ (w : ℕ × ℕ). P (w.0 / 4096)))

module _ (laws : LowerLaws) where
  -- the stores of some bytes at a place of a frame
  part_places : (P : ℕ → Type 0) (n place value frame offset : ℕ) → place ≡ 4096 * frame + offset → offset + n ≤ 4096 → P frame
      → All (λ w. P (w.0 / 4096)) (stores n place value)
  part_places P n place value frame offset is within holds =
      All-weaker (λ (w : ℕ × ℕ). w.0 / 4096 ≡ frame) (λ (w : ℕ × ℕ). P (w.0 / 4096)) (λ w at. subst P (sym at) holds) (stores n place value)
      (laws.frame.within_frame n place value frame (omega arith) (omega arith))

  -- what holds of the frames of translations that serve a write holds of the frame of each byte that it stores
  pub granted_places : (view : View) (test : Claim) (size : ℕ) (w : Write) → IsGranted view test size w → (P : ℕ → Type 0)
      → ((page : ℕ) (leaf : Leaf) → test.pair (page, leaf) ≡ true → may access.Write leaf.rights view.cpl view.wp view.smep ≡ true
      → (page ≡ page_of w.va) ⊎ (crosses w.va w.width ≡ true) → P leaf.frame)
      → All (λ s. P (s.0 / 4096)) (stores_at w.va w.width w.target w.value)
  granted_places view test size w granted P each =
      let part : ℕ = first_part w.va w.width in
      All-append (λ (s : ℕ × ℕ). P (s.0 / 4096)) (stores part w.target.first w.value) (stores (w.width - part) w.target.second (w.value / 256 ^ part))
      (part_places P part w.target.first w.value granted.first.leaf.frame (w.va % 4096) granted.first.place_is (part_within w.va w.width)
      (each (page_of w.va) granted.first.leaf granted.first.passes granted.first.may_access (inl refl)))
      (second_places (crosses w.va w.width) refl)
    where
      second_places : (b : Bool) → crosses w.va w.width ≡ b
          → All (λ s. P (s.0 / 4096)) (stores (w.width - first_part w.va w.width) w.target.second (w.value / 256 ^ first_part w.va w.width))
      second_places true is =
          let second : Serves view access.Write test (next_page w.va) w.target.second = granted.second is in
          part_places P (w.width - first_part w.va w.width) w.target.second (w.value / 256 ^ first_part w.va w.width) second.leaf.frame 0
          (second.place_is ∙ ap (λ n. 4096 * second.leaf.frame + n) (next_at_start w.va)) (omega (arith, size_small w.width granted.sized))
          (each (page_of (next_page w.va)) second.leaf second.passes second.may_access (inr is))
      second_places false is = no_stores_left P (w.width - first_part w.va w.width) w.target.second (w.value / 256 ^ first_part w.va w.width) (part_whole w.va w.width is)

  -- with WP set, a write goes to frames that may be stored to
  pub granted_stores : (o : Opening) (ks : List Kind) (view : View) (size : ℕ) (w : Write) → IsGranted view (respecting o ks) size w → view.wp ≡ true
      → AreStores ks (stores_at w.va w.width w.target w.value)
  granted_stores o ks view size w granted set = record {
    places = granted_places view (respecting o ks) size w granted (λ f. is_storable (kind_of ks f) ≡ true)
        (λ page leaf pass serves at. writable_storable laws o ks page leaf pass (write_needs leaf view.cpl view.wp view.smep set serves));
    bytes = stores_bytes laws w.va w.width w.target w.value;
  }

  -- a write on the trap stack's page goes to the trap stack
  pub stack_stores : (o : Opening) (ks : List Kind) (scenes : SceneLaws o ks) (view : View) (size : ℕ) (w : Write) → IsGranted view (respecting o ks) size w
      → page_of w.va ≡ slot_start + 3 → crosses w.va w.width ≡ false → slot_leaf o.image o.frames (slot_start + 3) ≡ Some (writable 3)
      → All (λ s. s.0 / 4096 ≡ 3) (stores_at w.va w.width w.target w.value)
  stack_stores o ks scenes view size w granted page alone laid =
      granted_places view (respecting o ks) size w granted (λ f. f ≡ 3) (λ p leaf pass serves at. on_stack p leaf pass at)
    where
      same_leaf : (one other : Leaf) → Some one ≡ Some other → one.frame ≡ other.frame
      same_leaf one other e = let same : one ≡ other = cc in ap (λ (l : Leaf). l.frame) same

      on_stack : (p : ℕ) (leaf : Leaf) → respects o ks (p, leaf) ≡ true → (p ≡ page_of w.va) ⊎ (crosses w.va w.width ≡ true) → leaf.frame ≡ 3
      on_stack p leaf pass (inl is) =
          let at : p ≡ slot_start + 3 = is ∙ page in
          let found : slot_leaf o.image o.frames p ≡ Some leaf = scenes.slot_is p leaf (omega (arith, at)) (omega (arith, at)) pass in
          same_leaf leaf (writable 3) (sym found ∙ ap (slot_leaf o.image o.frames) at ∙ laid)
      on_stack p leaf pass (inr is) = absurd (false≢true (sym alone ∙ is))
