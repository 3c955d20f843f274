-- Walks over two records of the tables that agree in each frame but the books': they are the same, from the root and
-- below each upper entry that leads where it may.
use Rattle.std.proofs.Common.{◌≡◌, ◌⊎◌, ℕ, zero, suc, ◌+◌, ◌-◌, ◌<◌, ◌≤◌, ◌==◌, ◌&&◌, ◌||◌, Bool, true, false, not, List, refl, sym, ap, subst, ◌∙◌, arith, inl, inr, lit<, mod-lt}
use Rattle.std.specs.Prelude.{Option, Some, None, Err, nat_le, if◌then◌else◌}
use Rattle.std.proofs.lemmas.Bool.{and_parts, cases_Bool, eqb-true, not-false, or_parts}
use Rattle.nk_bits.specs.declared.kind.Kind.{Kind}
use Rattle.nk_bits.specs.declared.kind.Kind.TheVariants.{Fixed}
use Rattle.nk_bits.specs.declared.leaf.Rights.{Rights}
use Rattle.nk_bits.specs.declared.leaf.Upper.{Upper}
use Rattle.nk_bits.specs.Kinds.{kind_of, level_of}
use Rattle.nk_bits.specs.Paging.{all_rights, common, frame_of, is_large, is_missing, is_present, is_slot_entry, is_slot_page, page_index, rights_of, slot_value, upper_from, upper_walk, walk_from}
use Rattle.nk_bits.specs.UpperEntries.{KeptEntry, serves_page, first_of_span}
use Rattle.phys_mem.specs.Memory.{entry_in}
use Rattle.boot_map.specs.KernelSlot.{IsNamedIn, slot_upper}
use Rattle.page_desc.specs.PageTables.{HoldsSoundTables}
use Rattle.gate_state.specs.GuardedStates.{AreKinds, IsAdmitted, KeepsOpeningBytes}
use Rattle.gate_state.specs.MachineStates.{Opening}
use Rattle.gate_state.specs.RespectedKinds.{leads}
use Rattle.gate_state.proofs.BookFrames.{fixed_apart, is_book, table_apart}
use Rattle.gate_state.proofs.LowerLaws.{LowerLaws}
use Rattle.gate_state.proofs.SceneProofsRespects.{slot_bounds}
use Rattle.gate_state.proofs.SceneProofsUppers.{Leading, leading, same_laid, same_side}

-- one of the kernel slot's own tables, of this level
abbrev IsSlotTable : (ℕ → ℕ → ℕ) → ℕ → ℕ → Type 0
IsSlotTable t level f =
    ((level ≡ 3) × (f ≡ 6)) ⊎ ((level ≡ 2) × ((f ≡ 7) ⊎ (f ≡ 9))) ⊎ ((level ≡ 1) × ((f ≡ 8) ⊎ IsNamedIn t 9 f))

-- a table of this level, by its kind or of the slot; below level 1 there are the pages
abbrev pub IsTableOf : List Kind → (ℕ → ℕ → ℕ) → ℕ → ℕ → Type 0
IsTableOf ks t level f = (level ≡ 0) ⊎ (level_of (kind_of ks f) ≡ level) ⊎ IsSlotTable t level f

index_small : (page level : ℕ) → page_index page level < 512
unfolding page_index
index_small page level = mod-lt _ (lit< tt)

present_from : (frames level e : ℕ) → is_missing frames level e ≡ false → is_present e ≡ true
unfolding is_missing
present_from frames level e is =
    not-false (is_present e)
    (or_parts (not (is_present e)) (nat_le frames (frame_of e))
    (or_parts (not (is_present e) || nat_le frames (frame_of e)) ((level == 3 || level == 2) && is_large e) is).0).0

-- a choice is the same where what is chosen is
chosen_else : {A : Type 0} (b : Bool) (first one other : A) → (b ≡ false → one ≡ other)
    → (if b then first else one) ≡ (if b then first else other)
chosen_else true first one other same = refl
chosen_else false first one other same = same refl

slot_frame : frame_of slot_value ≡ 6
unfolding frame_of slot_value
slot_frame = refl

module _ (laws : LowerLaws) (o : Opening) (ks : List Kind) (admitted : IsAdmitted o)
    (kinds_are : AreKinds o ks) (n : List ℕ) (root : ℕ) (tables : HoldsSoundTables ks root n) where
  abbrev t : ℕ → ℕ → ℕ
  t = entry_in n

  abbrev IsTable : ℕ → ℕ → Type 0
  IsTable = IsTableOf ks t

  -- none of them is a book's
  fixed_slot : (level f : ℕ) → IsSlotTable t level f → kind_of ks f ≡ Fixed
  fixed_slot level f (inl third) = ap (kind_of ks) third.1 ∙ tables.slot_root
  fixed_slot level f (inr (inl second)) = elim second.1 [
    | inl seven ↦ ap (kind_of ks) seven ∙ tables.area_root
    | inr nine ↦ ap (kind_of ks) nine ∙ tables.slot.directory
  ]
  fixed_slot level f (inr (inr first)) = elim first.1 [
    | inl eight ↦ ap (kind_of ks) eight ∙ tables.slot.table
    | inr named ↦ ap (kind_of ks) (sym named.names) ∙ tables.slot.named named.at named.inside named.present
  ]

  apart : (level f : ℕ) → 1 ≤ level → IsTable level f → is_book laws o ks admitted kinds_are f ≡ false
  apart level f some (inl none) = absurd (omega (arith, some, none))
  apart level f some (inr (inl is)) = table_apart laws o ks admitted kinds_are f (omega (arith, some, is))
  apart level f some (inr (inr slots)) = fixed_apart laws o ks admitted kinds_are f (fixed_slot level f slots)

  -- a present entry of one leads to one of the level below
  link_leads : (level f i : ℕ) → i < 512 → level_of (kind_of ks f) ≡ suc (suc level) → is_present (t f i) ≡ true
      → IsTable (suc level) (frame_of (t f i))
  link_leads level f i small is present = elim (cases_Bool (is_slot_entry (level_of (kind_of ks f)) i)) [
    | inl slots ↦
        let parts = and_parts (level_of (kind_of ks f) == 4) (i == 511) slots in
        let four : level_of (kind_of ks f) ≡ 4 = eqb-true (level_of (kind_of ks f)) 4 parts.0 in
        let value : t f i ≡ slot_value =
        ap (t f) (eqb-true i 511 parts.1) ∙ laws.sound.slot ks t f tables.tables four in
        inr (inr (inl (omega (arith, four, is), ap frame_of value ∙ slot_frame)))
    | inr other ↦
        let below =
        (laws.sound.link ks t f i tables.tables small (omega (arith, is)) (tables.levels f) other present).0 in
        inr (inl (omega (arith, below, is)))
  ]

  slot_leads : (level f i : ℕ) → i < 512 → IsSlotTable t (suc level) f → is_present (t f i) ≡ true
      → IsTable level (frame_of (t f i))
  slot_leads level f i small (inl third) present =
      let two : level ≡ 2 = omega (arith, third.0) in
      let six : t f i ≡ t 6 i = ap (λ frame. t frame i) third.1 in
      elim (tables.slot_names i small (sym (ap is_present six) ∙ present)) [
        | inl seven ↦ inr (inr (inr (inl (two, inl (ap frame_of six ∙ seven)))))
        | inr nine ↦ inr (inr (inr (inl (two, inr (ap frame_of six ∙ nine)))))
      ]
  slot_leads level f i small (inr (inl second)) present =
      let one : level ≡ 1 = omega (arith, second.0) in
      elim second.1 [
        | inl seven ↦
            let is : t f i ≡ t 7 i = ap (λ frame. t frame i) seven in
            let names = tables.area_names i small (sym (ap is_present is) ∙ present) in
            inr (inr (inr (inr (one, inl (ap frame_of is ∙ names)))))
        | inr nine ↦
            let is : t f i ≡ t 9 i = ap (λ frame. t frame i) nine in
            inr (inr (inr (inr (
              one,
              inr (record {
                at = i;
                inside = small;
                present = sym (ap is_present is) ∙ present;
                names = sym (ap frame_of is);
              }),
            ))))
      ]
  slot_leads level f i small (inr (inr first)) present = inl (omega (arith, first.0))

  leads_on : (level f i : ℕ) → i < 512 → IsTable (suc level) f → is_present (t f i) ≡ true
      → IsTable level (frame_of (t f i))
  leads_on level f i small (inl none) present = absurd (omega (arith, none))
  leads_on zero f i small (inr (inl is)) present = inl refl
  leads_on (suc level) f i small (inr (inl is)) present = link_leads level f i small is present
  leads_on level f i small (inr (inr slots)) present = slot_leads level f i small slots present

  module _ (u : ℕ → ℕ → ℕ) (same : (f i : ℕ) → i < 512 → is_book laws o ks admitted kinds_are f ≡ false → t f i ≡ u f i)
      (frames page : ℕ) where
    same_entry : (level f : ℕ) → IsTable (suc level) f
        → t f (page_index page (suc level)) ≡ u f (page_index page (suc level))
    same_entry level f is =
        same f (page_index page (suc level)) (index_small page (suc level)) (apart (suc level) f (omega arith) is)

    pub from_same : (level f : ℕ) (r : Rights) → IsTable level f
        → walk_from t frames page level f r ≡ walk_from u frames page level f r
    unfolding walk_from
    from_same zero f r is = refl
    from_same (suc level) f r is =
        let i : ℕ = page_index page (suc level) in
        let e : ℕ = t f i in
        chosen_else (is_missing frames (suc level) e) (Err (suc level)) _ _
        (λ there. from_same level (frame_of e) (common r (rights_of e))
        (leads_on level f i (index_small page (suc level)) is (present_from frames (suc level) e there)))
        ∙ ap (λ x. if is_missing frames (suc level) x then Err (suc level)
        else walk_from u frames page level (frame_of x) (common r (rights_of x))) (same_entry level f is)

    pub upper_same : (left level f : ℕ) (r : Rights) → IsTable level f
        → upper_from t frames page left level f r ≡ upper_from u frames page left level f r
    unfolding upper_from
    upper_same zero level f r is = refl
    upper_same (suc left) zero f r is = refl
    upper_same (suc left) (suc level) f r is =
        let i : ℕ = page_index page (suc level) in
        let e : ℕ = t f i in
        chosen_else (is_missing frames (suc level) e) None _ _
        (λ there. upper_same left level (frame_of e) (common r (rights_of e))
        (leads_on level f i (index_small page (suc level)) is (present_from frames (suc level) e there)))
        ∙ ap (λ x. if is_missing frames (suc level) x then None
        else upper_from u frames page left level (frame_of x) (common r (rights_of x))) (same_entry level f is)

  -- what the first look-ups find is such a table
  otherwise : {A : Type 0} (b : Bool) (found : Option A) (it : A) → (if b then None else found) ≡ Some it
      → (b ≡ false) × (found ≡ Some it)
  otherwise true found it is = absurd (cc)
  otherwise false found it is = (refl, is)

  upper_table : (rest left level : ℕ) (frames page f : ℕ) (r : Rights) (it : Upper) → left + rest ≡ level
      → IsTable level f
      → upper_from t frames page left level f r ≡ Some it → IsTable rest it.frame
  unfolding upper_from
  upper_table rest zero level frames page f r it sum is found =
      let frame : f ≡ it.frame = cc in
      let same : level ≡ rest = omega (arith, sum) in
      subst (λ x. IsTable x it.frame) same (subst (IsTable level) frame is)
  upper_table rest (suc left) zero frames page f r it sum is found = absurd (omega (arith, sum))
  upper_table rest (suc left) (suc level) frames page f r it sum is found =
      let i : ℕ = page_index page (suc level) in
      let e : ℕ = t f i in
      let there = otherwise (is_missing frames (suc level) e) _ it found in
      upper_table rest left level frames page (frame_of e) (common r (rights_of e)) it (omega (arith, sum))
      (leads_on level f i (index_small page (suc level)) is (present_from frames (suc level) e there.0)) there.1

  pub root_table : IsTable 4 root
  root_table = inr (inl tables.root_level)

  -- an upper entry that leads names one
  pub led_table : (held : KeepsOpeningBytes o ks n) (entry : KeptEntry) (page : ℕ) → leads o ks entry ≡ true
      → serves_page page entry ≡ true
      → IsTable (entry.0 - 1) entry.2.frame
  led_table held entry page is covered =
      let level : ℕ = entry.0 in
      let lead : Leading o ks entry = leading o ks entry is in
      let under = (laws.upper.covers page entry covered).2 in
      let side : is_slot_page (first_of_span level entry.1) ≡ is_slot_page page =
      same_side laws o ks admitted kinds_are level entry.1 page lead.least lead.most under in
      elim (cases_Bool (is_slot_page page)) [
        | inl on ↦
            let bounds = slot_bounds page on in
            let laid : slot_upper o.image o.frames page level ≡ Some entry.2 =
            sym (same_laid laws o ks admitted kinds_are level entry.1 page lead.least lead.most under)
            ∙ lead.within (side ∙ on) in
            let found : upper_walk t o.frames root page level ≡ Some entry.2 =
            laws.slot_upper.any o.image o.frames root page level t admitted.layout admitted.pages held.slot
            (laws.sound.slot ks t root tables.tables tables.root_level) bounds.0 bounds.1 lead.least lead.most ∙ laid in
            upper_table (level - 1) (5 - level) 4 o.frames page root all_rights entry.2
            (omega (arith, lead.least, lead.most)) root_table found
        | inr off ↦
            inr (inl (omega (arith, (lead.outside (side ∙ off)).0)))
      ]
