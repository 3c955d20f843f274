-- The walk over what sound tables stand for is the walk over memory: it reads tables and fixed frames other than 2 alone.
use Rattle.std.proofs.Common.{◌≡◌, ◌≢◌, ◌⊎◌, ℕ, zero, suc, ◌<◌, Bool, true, false, ◌==◌, List, length, arith, refl, sym, ap, subst, ◌∙◌, inl, inr}
use Rattle.std.specs.Prelude.{Err, if◌then◌else◌}
use Rattle.std.proofs.lemmas.Bool.{and_parts, cases_Bool, eqb-true}
use Rattle.phys_mem.specs.Memory.{entry_in}
use Rattle.nk_bits.specs.declared.kind.Kind.{Kind}
use Rattle.nk_bits.specs.declared.kind.Kind.TheVariants.{Fixed}
use Rattle.nk_bits.specs.declared.leaf.Rights.{Rights}
use Rattle.nk_bits.specs.Kinds.{kind_of, level_of}
use Rattle.nk_bits.specs.Paging.{all_rights, common, frame_of, is_missing, is_present, is_slot_entry, page_index, rights_of, slot_value, walk, walk_from}
use Rattle.page_desc.specs.PageTables.{HoldsSoundTables, tables_in, value_in}
use Rattle.page_desc.proofs.LawfulForms.{link_leads, slot_entry_is}
use Rattle.page_desc.proofs.PageTableValues.{table_at, value_of_fixed, value_of_table}
use Rattle.page_desc.proofs.SoundWalk.{index_small, present_found}

-- the kernel slot's entry names its table of level 3
slot_names_six : frame_of slot_value ≡ 6
unfolding frame_of slot_value
slot_names_six = refl

choice_rest : {A : Type 0} (b : Bool) (x y z : A) → (b ≡ false → y ≡ z) → (if b then x else y) ≡ (if b then x else z)
choice_rest true x y z same = refl
choice_rest false x y z same = same refl

-- the frames of the kernel slot's own tables of a level
abbrev IsSlots : List Kind → ℕ → ℕ → Type 0
IsSlots kinds zero f = ⊥
IsSlots kinds (suc zero) f = (kind_of kinds f ≡ Fixed) × (f ≢ 2)
IsSlots kinds (suc (suc zero)) f = (f ≡ 7) ⊎ (f ≡ 9)
IsSlots kinds (suc (suc (suc zero))) f = f ≡ 6
IsSlots kinds (suc (suc (suc (suc level)))) f = ⊥

-- a frame that the walk may come to at a level: a table, or one of the slot's; at level 0 any
abbrev IsReached : List Kind → ℕ → ℕ → Type 0
IsReached kinds zero f = Unit {0}
IsReached kinds (suc level) f = (level_of (kind_of kinds f) ≡ suc level) ⊎ IsSlots kinds (suc level) f

module _ (kinds : List Kind) (root : ℕ) (m : List ℕ) (sound : HoldsSoundTables kinds root m) where
  slots_fixed : (level f : ℕ) → IsSlots kinds level f → (kind_of kinds f ≡ Fixed) × (f ≢ 2)
  slots_fixed zero f is = absurd is
  slots_fixed (suc zero) f is = is
  slots_fixed (suc (suc zero)) f is = elim is [
    | inl area ↦ (ap (kind_of kinds) area ∙ sound.area_root, λ two. absurd (omega (arith, area, two)))
    | inr image ↦ (ap (kind_of kinds) image ∙ sound.slot.directory, λ two. absurd (omega (arith, image, two)))
  ]
  slots_fixed (suc (suc (suc zero))) f is =
      (ap (kind_of kinds) is ∙ sound.slot_root, λ two. absurd (omega (arith, is, two)))
  slots_fixed (suc (suc (suc (suc level)))) f is = absurd is

  -- there the record has memory's entries
  value_reached : (level f i : ℕ) → i < 512 → IsReached kinds (suc level) f
      → value_in (tables_in kinds root m) f i ≡ entry_in m f i
  value_reached level f i small reached = elim reached [
    | inl table ↦ value_of_table kinds root m f i small (table_at kinds f (omega (arith, table)))
    | inr slots ↦
        let fixed = slots_fixed (suc level) f slots in
        value_of_fixed kinds root m f i small fixed.0 fixed.1
  ]

  -- the slot's tables lead to each other
  slots_lead : (level f i : ℕ) → i < 512 → IsSlots kinds (suc (suc level)) f → is_present (entry_in m f i) ≡ true
      → IsSlots kinds (suc level) (frame_of (entry_in m f i))
  slots_lead zero f i small is present = elim is [
    | inl area ↦
        let names : frame_of (entry_in m f i) ≡ 8 =
        ap (λ g. frame_of (entry_in m g i)) area
        ∙ sound.area_names i small (ap (λ g. is_present (entry_in m g i)) (sym area) ∙ present) in
        (ap (kind_of kinds) names ∙ sound.slot.table, λ two. absurd (omega (arith, names, two)))
    | inr image ↦
        let here : is_present (entry_in m 9 i) ≡ true = ap (λ g. is_present (entry_in m g i)) (sym image) ∙ present in
        let names : frame_of (entry_in m f i) ≡ frame_of (entry_in m 9 i) = ap (λ g. frame_of (entry_in m g i)) image in
        (ap (kind_of kinds) names ∙ sound.slot.named i small here, λ two. sound.apart i small here (sym names ∙ two))
  ]
  slots_lead (suc zero) f i small is present =
      subst (λ g. (frame_of (entry_in m g i) ≡ 7) ⊎ (frame_of (entry_in m g i) ≡ 9)) (sym is)
      (sound.slot_names i small (ap (λ g. is_present (entry_in m g i)) (sym is) ∙ present))
  slots_lead (suc (suc level)) f i small is present = absurd is

  -- a table leads to tables, and by its slot entry to the slot's
  table_leads : (level f i : ℕ) → i < 512 → level_of (kind_of kinds f) ≡ suc (suc level)
      → is_present (entry_in m f i) ≡ true → IsReached kinds (suc level) (frame_of (entry_in m f i))
  table_leads level f i small is present = elim (cases_Bool (is_slot_entry (level_of (kind_of kinds f)) i)) [
    | inl slot ↦
        let parts = and_parts (level_of (kind_of kinds f) == 4) (i == 511) slot in
        let four : level_of (kind_of kinds f) ≡ 4 = eqb-true _ 4 parts.0 in
        let names : frame_of (entry_in m f i) ≡ 6 =
        ap (λ n. frame_of (entry_in m f n)) (eqb-true i 511 parts.1)
        ∙ ap frame_of (slot_entry_is kinds (entry_in m) sound.tables f four) ∙ slot_names_six in
        let two : 2 ≡ level = omega (arith, is, four) in
        subst (λ n. IsReached kinds (suc n) (frame_of (entry_in m f i))) two (inr names)
    | inr other ↦
        let leads =
        link_leads kinds (entry_in m) sound.tables f i small (omega (arith, is)) (sound.levels f) other present in
        inl (omega (arith, leads.0, is))
  ]

  leads : (level f i : ℕ) → i < 512 → IsReached kinds (suc level) f → is_present (entry_in m f i) ≡ true
      → IsReached kinds level (frame_of (entry_in m f i))
  leads zero f i small reached present = tt
  leads (suc level) f i small reached present = elim reached [
    | inl table ↦ table_leads level f i small table present
    | inr slots ↦ inr (slots_lead level f i small slots present)
  ]

  same_from : (frames page level f : ℕ) (r : Rights) → IsReached kinds level f
      → walk_from (value_in (tables_in kinds root m)) frames page level f r ≡ walk_from (entry_in m) frames page level f r
  unfolding walk_from
  same_from frames page zero f r reached = refl
  same_from frames page (suc level) f r reached =
      let t : ℕ → ℕ → ℕ = value_in (tables_in kinds root m) in
      let i : ℕ = page_index page (suc level) in
      let e : ℕ = entry_in m f i in
      let small : i < 512 = index_small page (suc level) in
      ap (λ v. if is_missing frames (suc level) v then Err (suc level)
      else walk_from t frames page level (frame_of v) (common r (rights_of v))) (value_reached level f i small reached)
      ∙ choice_rest (is_missing frames (suc level) e) (Err (suc level)) _ _
      (λ there. same_from frames page level (frame_of e) (common r (rights_of e))
      (leads level f i small reached (present_found frames (suc level) e there)))

  pub record_walk : (page : ℕ) → walk (value_in (tables_in kinds root m)) (length kinds) root page
      ≡ walk (entry_in m) (length kinds) root page
  unfolding walk walk_from
  record_walk page = same_from (length kinds) page 4 root all_rights (inl sound.root_level)
