-- The counts after a frame of data becomes a new table, and after an empty table becomes data: in a table of level 4 the
-- kernel slot's entry alone counts, as a link of frame 6.
use Rattle.std.proofs.Common.{◌≡◌, ◌≢◌, ℕ, ◌+◌, ◌<◌, ◌≤◌, true, false, ◌&&◌, ◌==◌, List, length, set, arith, refl, sym, ap, ◌∙◌, inl, inr}
use Rattle.std.proofs.lemmas.Bool.{and_left, and_parts, and_right, cases_Bool, cases_eq, eqb-true, eq-eqb, ne_eqb}
use Rattle.std.proofs.lemmas.Grind.{common_steps}
use Rattle.nk_bits.specs.declared.kind.Kind.{Kind}
use Rattle.nk_bits.specs.declared.kind.Kind.TheVariants.{Data, Table, Fixed}
use Rattle.nk_bits.specs.Kinds.{kind_of, level_of}
use Rattle.nk_bits.specs.Paging.{emptied, frame_of, is_present, is_slot_entry, slot_value, zeroed}
use Rattle.page_desc.specs.FrameCounts.{IsSlotFixed, is_link_level, is_link_to, is_loose_leaf, links_in, loose_in, count_if}
use Rattle.page_desc.proofs.KindChanges.{absent_zero, link_absent, loose_absent, links_moved, loose_moved}

-- the frame that the kernel slot's entry names is 6
pub slot_link : (frame : ℕ) → is_link_to frame slot_value ≡ (frame == 6)
unfolding is_present frame_of slot_value
slot_link frame =
    elim (cases_eq frame 6) [
      | inl is ↦ eq-eqb 6 frame (sym is) ∙ sym (eq-eqb frame 6 is)
      | inr apart ↦ ne_eqb 6 frame (λ e. apart (sym e)) ∙ sym (ne_eqb frame 6 apart)
    ]

-- only a table of level 4 has the kernel slot's entry, which is its last
pub not_first : (level i : ℕ) → is_slot_entry level i ≡ true → level ≡ 4
not_first level i is = eqb-true level 4 (and_parts (level == 4) (i == 511) is).0

pub not_below : (level i : ℕ) → i < 511 → is_slot_entry level i ≡ false
not_below level i small = and_right (level == 4) (i == 511) (ne_eqb i 511 (λ e. absurd (omega (arith, small, e))))

pub not_lower : (level i : ℕ) → level ≢ 4 → is_slot_entry level i ≡ false
not_lower level i apart = and_left (level == 4) (i == 511) (ne_eqb level 4 apart)

-- a row of leaves in which all but the kernel slot's entry are absent
pub leaf_row : (level i frame e : ℕ) → (is_slot_entry level i ≡ false → is_present e ≡ false)
    → ((level == 1) && is_loose_leaf frame e) ≡ false
leaf_row level i frame e absent =
    elim (cases_Bool (is_slot_entry level i)) [
      | inl slot ↦ and_left (level == 1) _ (ne_eqb level 1 (λ one. absurd (omega (arith, one, not_first level i slot))))
      | inr other ↦ and_right (level == 1) _ (loose_absent frame e (absent other))
    ]

-- and the last entry of such a row of links
pub last_link : (level frame e : ℕ) → level ≤ 4 → (level ≡ 4 → e ≡ slot_value) → (level ≢ 4 → is_present e ≡ false)
    → (is_link_level level && is_link_to frame e) ≡ (level == 4 && frame == 6)
last_link level frame e most slot absent =
    elim (cases_eq level 4) [
      | inl four ↦
          ap (λ l. is_link_level l && is_link_to frame e) four ∙ ap (is_link_to frame) (slot four) ∙ slot_link frame
          ∙ sym (ap (λ b. b && frame == 6) (eq-eqb level 4 four))
      | inr apart ↦
          and_right (is_link_level level) _ (link_absent frame e (absent apart))
          ∙ sym (and_left (level == 4) _ (ne_eqb level 4 apart))
    ]

-- the entries of a new table, and of a frame that was zeroed
pub emptied_slot : (t : ℕ → ℕ → ℕ) (a level i : ℕ) → is_slot_entry level i ≡ true → emptied t a level a i ≡ slot_value
unfolding emptied
emptied_slot t a level i is = grind (arith, common_steps)

pub emptied_here : (t : ℕ → ℕ → ℕ) (a level i : ℕ) → is_slot_entry level i ≡ false → emptied t a level a i ≡ 0
unfolding emptied
emptied_here t a level i is = grind (arith, common_steps)

pub emptied_elsewhere : (t : ℕ → ℕ → ℕ) (a level f i : ℕ) → f ≢ a → emptied t a level f i ≡ t f i
unfolding emptied
emptied_elsewhere t a level f i other = grind (arith, common_steps)

pub zeroed_elsewhere : (t : ℕ → ℕ → ℕ) (a f i : ℕ) → f ≢ a → zeroed t a f i ≡ t f i
unfolding zeroed
zeroed_elsewhere t a f i other = grind (arith, common_steps)

-- a frame of data becomes a table of this level
module _ (kinds : List Kind) (t : ℕ → ℕ → ℕ) (a level : ℕ) (fixed : IsSlotFixed kinds t) (inside : a < length kinds)
    (free : kind_of kinds a ≡ Data) (most : level ≤ 4) where
  not_fixed : kind_of kinds a ≢ Fixed
  not_fixed is = let clash : Data ≡ Fixed = sym free ∙ is in cc

  table_apart : Table level ≢ Fixed
  table_apart is = cc

  pub loose_emptied : (frame : ℕ)
      → loose_in (set kinds a (Table level)) (emptied t a level) frame ≡ loose_in kinds t frame
  loose_emptied frame =
      loose_moved kinds t (emptied t a level) a (Table level) fixed inside not_fixed table_apart (λ f i apart. emptied_elsewhere t a level f i apart) frame
      (λ i small. ap (λ k. (level_of k == 1) && is_loose_leaf frame (t a i)) free)
      (λ i small. leaf_row level i frame (emptied t a level a i) (λ other. ap is_present (emptied_here t a level i other) ∙ absent_zero))

  pub links_emptied : (frame : ℕ)
      → links_in (set kinds a (Table level)) (emptied t a level) frame ≡ links_in kinds t frame + count_if (level == 4 && frame == 6)
  links_emptied frame =
      let all =
      links_moved kinds t (emptied t a level) a (Table level) fixed inside not_fixed table_apart (λ f i apart. emptied_elsewhere t a level f i apart) frame
      (λ i small. ap (λ k. is_link_level (level_of k) && is_link_to frame (t a i)) free)
      (λ i small. and_right (is_link_level level) _ (link_absent frame (emptied t a level a i) (ap is_present (emptied_here t a level i (not_below level i small)) ∙ absent_zero))) in
      let before : count_if (is_link_level (level_of (kind_of kinds a)) && is_link_to frame (t a 511)) ≡ 0 =
      ap (λ k. count_if (is_link_level (level_of k) && is_link_to frame (t a 511))) free in
      let after : count_if (is_link_level level && is_link_to frame (emptied t a level a 511)) ≡ count_if (level == 4 && frame == 6) =
      ap count_if (last_link level frame (emptied t a level a 511) most (λ four. emptied_slot t a level 511 (ap (λ l. is_slot_entry l 511) four)) (λ apart. ap is_present (emptied_here t a level 511 (not_lower level 511 apart)) ∙ absent_zero)) in
      omega (arith, all, before, after)

-- an empty table of level 1 to 4 becomes data, with its entries 0
module _ (kinds : List Kind) (t : ℕ → ℕ → ℕ) (a : ℕ) (fixed : IsSlotFixed kinds t) (inside : a < length kinds)
    (least : 1 ≤ level_of (kind_of kinds a)) (most : level_of (kind_of kinds a) ≤ 4)
    (empty : (i : ℕ) → i < 512 → is_slot_entry (level_of (kind_of kinds a)) i ≡ false → is_present (t a i) ≡ false) (slot : level_of (kind_of kinds a) ≡ 4 → t a 511 ≡ slot_value) where
  was_fixed : kind_of kinds a ≢ Fixed
  was_fixed is = absurd (omega (arith, least, ap level_of is))

  data_apart : Data ≢ Fixed
  data_apart is = cc

  pub loose_zeroed : (frame : ℕ) → loose_in (set kinds a Data) (zeroed t a) frame ≡ loose_in kinds t frame
  loose_zeroed frame =
      loose_moved kinds t (zeroed t a) a Data fixed inside was_fixed data_apart (λ f i apart. zeroed_elsewhere t a f i apart) frame
      (λ i small. leaf_row (level_of (kind_of kinds a)) i frame (t a i) (empty i small))
      (λ i small. refl)

  pub links_zeroed : (frame : ℕ)
      → links_in (set kinds a Data) (zeroed t a) frame + count_if (level_of (kind_of kinds a) == 4 && frame == 6) ≡ links_in kinds t frame
  links_zeroed frame =
      let all =
      links_moved kinds t (zeroed t a) a Data fixed inside was_fixed data_apart (λ f i apart. zeroed_elsewhere t a f i apart) frame
      (λ i small. and_right (is_link_level (level_of (kind_of kinds a))) (is_link_to frame (t a i)) (link_absent frame (t a i) (empty i (omega (arith, small)) (not_below (level_of (kind_of kinds a)) i small))))
      (λ i small. refl) in
      let before : count_if (is_link_level (level_of (kind_of kinds a)) && is_link_to frame (t a 511)) ≡ count_if (level_of (kind_of kinds a) == 4 && frame == 6) =
      ap count_if (last_link (level_of (kind_of kinds a)) frame (t a 511) most slot (λ apart. empty 511 (omega arith) (not_lower (level_of (kind_of kinds a)) 511 apart))) in
      omega (arith, all, before)
