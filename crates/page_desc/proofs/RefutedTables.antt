-- Memories that hold no sound tables, each named by the sentence that it guards.
use Rattle.std.proofs.Common.{◌≡◌, ◌≢◌, ℕ, ◌+◌, ◌*◌, ◌<◌, ◌≤◌, true, ◌==◌, ◌&&◌, List, length, sym, ap, subst, ◌∙◌, arith, inl, inr}
use Rattle.std.specs.Prelude.{not}
use Rattle.std.proofs.lemmas.Bool.{and_parts, eqb-true, false≢true, or_cases}
use Rattle.phys_mem.specs.Memory.{entry_in}
use Rattle.nk_bits.specs.declared.kind.Kind.{Kind}
use Rattle.nk_bits.specs.declared.kind.Kind.TheVariants.{Data, Table, Fixed, Guarded, Hidden}
use Rattle.nk_bits.specs.EntryForms.{has_form}
use Rattle.nk_bits.specs.Kinds.{allows, kind_of, level_of}
use Rattle.nk_bits.specs.KernelLayout.{area_directory, area_table, handler_slot, image_directory, slot_table}
use Rattle.nk_bits.specs.Paging.{frame_of, grants_writes, is_present, is_user, rights_of, slot_value}
use Rattle.page_desc.specs.FrameCounts.{IsSlotFixed}
use Rattle.page_desc.specs.PageTables.{HoldsSoundTables}
use Rattle.page_desc.specs.SoundTables.{AreTables, grants_all, is_lawful, is_lawful_leaf, is_lawful_link}

-- what a present entry of a table of level 1 to 3 is, or one of level 4 that isn't the kernel slot's
lawful_leaf : (kinds : List Kind) (i e : ℕ) → is_present e ≡ true → is_lawful kinds 1 i e ≡ true
    → allows (kind_of kinds (frame_of e)) (rights_of e) ≡ true
unfolding is_lawful
lawful_leaf kinds i e present lawful =
    elim (or_cases (not (is_present e)) (has_form 1 e && is_lawful_leaf kinds e) lawful) [
      | inl absent ↦ absurd (false≢true (sym (ap not present) ∙ absent))
      | inr formed ↦ (and_parts (has_form 1 e) (is_lawful_leaf kinds e) formed).1
    ]

lawful_link : (kinds : List Kind) (i e : ℕ) → is_present e ≡ true → is_lawful kinds 2 i e ≡ true
    → is_lawful_link kinds 2 e ≡ true
unfolding is_lawful
lawful_link kinds i e present lawful =
    elim (or_cases (not (is_present e)) (has_form 2 e && is_lawful_link kinds 2 e) lawful) [
      | inl absent ↦ absurd (false≢true (sym (ap not present) ∙ absent))
      | inr formed ↦ (and_parts (has_form 2 e) (is_lawful_link kinds 2 e) formed).1
    ]

module _ (kinds : List Kind) (t : ℕ → ℕ → ℕ) (f i : ℕ) (inside : i < 512) (it : AreTables kinds t) where
  at_level : (level : ℕ) → kind_of kinds f ≡ Table level → 1 ≤ level → level ≤ 4 → is_lawful kinds level i (t f i) ≡ true
  at_level level is least most =
      subst (λ (n : ℕ). is_lawful kinds n i (t f i) ≡ true) (ap level_of is)
      (it.lawful f i inside (subst (λ (n : ℕ). 1 ≤ n) (sym (ap level_of is)) least)
      (subst (λ (n : ℕ). n ≤ 4) (sym (ap level_of is)) most))

  -- a leaf of a page table that may be written, linked or not
  writable_table : (level : ℕ) → kind_of kinds f ≡ Table 1 → is_present (t f i) ≡ true
      → kind_of kinds (frame_of (t f i)) ≡ Table level → grants_writes (t f i) ≡ true → ⊥
  writable_table level is present named writes =
      let may = lawful_leaf kinds i (t f i) present (at_level 1 is (omega arith) (omega arith)) in
      let only : allows (Table level) (rights_of (t f i)) ≡ true =
      subst (λ (k : Kind). allows k (rights_of (t f i)) ≡ true) named may in
      let parts = and_parts (not (grants_writes (t f i)) && not (is_user (t f i))) _ only in
      let reads = and_parts (not (grants_writes (t f i))) (not (is_user (t f i))) parts.0 in
      false≢true (sym (ap not writes) ∙ reads.0)

  -- a leaf of a frame of protected bytes that a user may read
  users_guarded_frame : kind_of kinds f ≡ Table 1 → is_present (t f i) ≡ true
      → kind_of kinds (frame_of (t f i)) ≡ Guarded → is_user (t f i) ≡ true → ⊥
  users_guarded_frame is present named user =
      let may = lawful_leaf kinds i (t f i) present (at_level 1 is (omega arith) (omega arith)) in
      let only : allows Guarded (rights_of (t f i)) ≡ true =
      subst (λ (k : Kind). allows k (rights_of (t f i)) ≡ true) named may in
      let parts = and_parts (not (grants_writes (t f i)) && not (is_user (t f i))) _ only in
      let reads = and_parts (not (grants_writes (t f i))) (not (is_user (t f i))) parts.0 in
      false≢true (sym (ap not user) ∙ reads.1)

  -- a leaf of a hidden frame
  leaf_of_a_hidden_frame : kind_of kinds f ≡ Table 1 → is_present (t f i) ≡ true
      → kind_of kinds (frame_of (t f i)) ≡ Hidden → ⊥
  leaf_of_a_hidden_frame is present named =
      let may = lawful_leaf kinds i (t f i) present (at_level 1 is (omega arith) (omega arith)) in
      false≢true (sym (ap (λ (k : Kind). allows k (rights_of (t f i))) named) ∙ may)

  -- a link to data, and one that leaves a level out
  link_to : (kind : Kind) → level_of kind ≢ 1 → kind_of kinds f ≡ Table 2 → is_present (t f i) ≡ true
      → kind_of kinds (frame_of (t f i)) ≡ kind → ⊥
  link_to kind other is present named =
      let link = lawful_link kinds i (t f i) present (at_level 2 is (omega arith) (omega arith)) in
      let parts = and_parts (level_of (kind_of kinds (frame_of (t f i))) + 1 == 2) (grants_all (t f i)) link in
      let below : level_of (kind_of kinds (frame_of (t f i))) + 1 ≡ 2 = eqb-true _ 2 parts.0 in
      let level : level_of kind + 1 ≡ 2 = subst (λ (k : Kind). level_of k + 1 ≡ 2) named below in
      other (omega (arith, level))

  link_to_data : kind_of kinds f ≡ Table 2 → is_present (t f i) ≡ true → kind_of kinds (frame_of (t f i)) ≡ Data → ⊥
  link_to_data = link_to Data (λ (e : 0 ≡ 1). omega (arith, e))

  link_to_its_own_level : kind_of kinds f ≡ Table 2 → is_present (t f i) ≡ true → kind_of kinds (frame_of (t f i)) ≡ Table 2 → ⊥
  link_to_its_own_level = link_to (Table 2) (λ (e : 2 ≡ 1). omega (arith, e))

-- another value in the kernel slot's entry
another_slot : (kinds : List Kind) (t : ℕ → ℕ → ℕ) (f : ℕ) → kind_of kinds f ≡ Table 4 → t f 511 ≢ slot_value
    → AreTables kinds t → ⊥
unfolding is_lawful
another_slot kinds t f is other it =
    let lawful : is_lawful kinds 4 511 (t f 511) ≡ true = at_level kinds t f 511 (omega arith) it 4 is (omega arith) (omega arith) in
    other (eqb-true (t f 511) slot_value lawful)

-- the kernel slot's tables of level 1, or the image's table that names them, of another kind than Fixed
module _ (kinds : List Kind) (t : ℕ → ℕ → ℕ) (it : IsSlotFixed kinds t) where
  loose_area_table : kind_of kinds area_table ≢ Fixed → ⊥
  loose_area_table other = other it.table

  loose_directory : kind_of kinds image_directory ≢ Fixed → ⊥
  loose_directory other = other it.directory

  loose_range_table : (i : ℕ) → i < 512 → is_present (t image_directory i) ≡ true
      → kind_of kinds (frame_of (t image_directory i)) ≢ Fixed → ⊥
  loose_range_table i inside present other = other (it.named i inside present)

module _ (kinds : List Kind) (root : ℕ) (m : List ℕ) (it : HoldsSoundTables kinds root m) where
  -- a frame more than there are kinds
  longer_memory : length m ≡ 4096 * length kinds + 4096 → ⊥
  longer_memory is = let size = it.size in omega (arith, is, size)

  -- a table of level 5, and a root of level 3
  table_of_level_5 : (f : ℕ) → kind_of kinds f ≡ Table 5 → ⊥
  table_of_level_5 f is =
      let most : level_of (Table 5) ≤ 4 = subst (λ (k : Kind). level_of k ≤ 4) is (it.levels f) in omega (arith, most)

  root_of_level_3 : kind_of kinds root ≡ Table 3 → ⊥
  root_of_level_3 is =
      let four : level_of (Table 3) ≡ 4 = subst (λ (k : Kind). level_of k ≡ 4) is it.root_level in omega (arith, four)

  -- the kernel slot's tables of level 3 and 2, or the handler slot's frame, of another kind than Fixed
  loose_slot_table : kind_of kinds slot_table ≢ Fixed → ⊥
  loose_slot_table other = other it.slot_root

  loose_area_directory : kind_of kinds area_directory ≢ Fixed → ⊥
  loose_area_directory other = other it.area_root

  loose_handler_slot : kind_of kinds handler_slot ≢ Fixed → ⊥
  loose_handler_slot other = other it.handler

  -- the handler slot among the image's tables, and a third table of level 2 in the kernel slot
  handler_slot_as_a_table : (i : ℕ) → i < 512 → is_present (entry_in m image_directory i) ≡ true
      → frame_of (entry_in m image_directory i) ≡ handler_slot → ⊥
  handler_slot_as_a_table i inside present is = it.apart i inside present is

  third_directory : (i : ℕ) → i < 512 → is_present (entry_in m slot_table i) ≡ true
      → frame_of (entry_in m slot_table i) ≢ area_directory → frame_of (entry_in m slot_table i) ≢ image_directory → ⊥
  third_directory i inside present one other =
      elim (it.slot_names i inside present) [
        | inl area ↦ one area
        | inr image ↦ other image
      ]

  second_area_table : (i : ℕ) → i < 512 → is_present (entry_in m area_directory i) ≡ true
      → frame_of (entry_in m area_directory i) ≢ area_table → ⊥
  second_area_table i inside present other = other (it.area_names i inside present)
