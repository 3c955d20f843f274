-- Regions that live before a change and after it: their identifiers rise along the slots, and where all slots in use hold what
-- they held, or a new region, each keeps its slot and the number of its first page.
use Rattle.std.proofs.Common.{◌≡◌, ◌⊎◌, ℕ, ◌<◌, ◌≤◌, List, length, map, arith, refl, sym, ap, ◌∙◌, subst, inl, inr, slice_index, slice_index_or}
use Rattle.std.specs.Prelude.{All, AllPairs}
use Rattle.std.proofs.lemmas.Grind.{get_or_default_zero}
use Rattle.std.proofs.lemmas.List.{get_or-map, length-map}
use Rattle.region_book.specs.declared.row.Row.{Row}
use Rattle.region_book.specs.RegionBytes.{KeepsSlots, RegionIndex, bits_in, book_in, row_in}
use Rattle.region_book.specs.RegionRecords.{IsBook, RegionRecord}
use Rattle.region_book.specs.RegionRows.{region_at}
use Rattle.region_book.proofs.ListEdits.{place_of_key}

-- the slot was in use, with the same identifier and number
pub record WasInUse (slots m n : List ℕ) (t : ℕ) : Type 0 where
  pub place : ℕ
  pub within : place < length slots
  pub there : slice_index slots place ≡ t
  pub id : (row_in n t).id ≡ (row_in m t).id
  pub number : (row_in n t).slot ≡ (row_in m t).slot

pub was_in_use : (slots m n : List ℕ) (k d : ℕ) → k < length slots
    → (row_in n (slice_index_or slots k d)).id ≡ (row_in m (slice_index_or slots k d)).id
    → (row_in n (slice_index_or slots k d)).slot ≡ (row_in m (slice_index_or slots k d)).slot
    → WasInUse slots m n (slice_index_or slots k d)
was_in_use slots m n k d below id number = record {
  place = k;
  within = below;
  there = sym (get_or_default_zero slots k d below);
  id = id;
  number = number;
}

module _ (index : RegionIndex) (m : List ℕ) (book : IsBook (book_in index m)) where
  rows_within : (k : ℕ) → k < length index.slots → k < length (map (row_in m) index.slots)
  rows_within k below = omega (arith, below, length-map index.slots (row_in m))

  regions_within : (k : ℕ) → k < length index.slots → k < length (book_in index m).regions
  regions_within k below =
      omega (arith, rows_within k below, length-map (map (row_in m) index.slots) (region_at (bits_in m)))

  id_at : (k d : ℕ) (e : RegionRecord) → k < length index.slots
      → (slice_index_or (book_in index m).regions k e).id ≡ (row_in m (slice_index_or index.slots k d)).id
  id_at k d e below =
      ap (λ (r : RegionRecord). r.id)
      (get_or-map (region_at (bits_in m)) (map (row_in m) index.slots) k (row_in m d) e (rows_within k below)
      ∙ ap (region_at (bits_in m)) (get_or-map (row_in m) index.slots k d (row_in m d) below))

  pub slots_rise : AllPairs (λ a b. (row_in m a).id < (row_in m b).id) index.slots
  slots_rise a b d low below =
      let e : RegionRecord = region_at (bits_in m) (row_in m d) in
      omega (arith, book.rising a b e low (regions_within b below), id_at a d e (omega (arith, low, below)), id_at b d e below)

  below_next : All (λ s. (row_in m s).id < index.next) index.slots
  below_next k d below =
      let e : RegionRecord = region_at (bits_in m) (row_in m d) in
      let less = (book.each k e (regions_within k below)).below in
      omega (arith, less, id_at k d e below)

  module _ (after : RegionIndex) (n : List ℕ) where
    pub slots_kept : All (λ t. WasInUse index.slots m n t ⊎ (index.next ≤ (row_in n t).id)) after.slots
        → KeepsSlots index m after n
    slots_kept each k d k_below j e j_below same =
        elim (each j e j_below) [
          | inl was ↦
              let at : slice_index_or index.slots was.place d ≡ slice_index_or after.slots j e =
              get_or_default_zero index.slots was.place d was.within ∙ was.there in
              let place : was.place ≡ k =
              place_of_key (λ s. (row_in m s).id) index.slots slots_rise was.place k d was.within k_below
              (ap (λ s. (row_in m s).id) at ∙ sym was.id ∙ same) in
              let is : slice_index_or after.slots j e ≡ slice_index_or index.slots k d =
              sym at ∙ ap (λ i. slice_index_or index.slots i d) place in
              (is, was.number ∙ ap (λ s. (row_in m s).slot) is)
          | inr new ↦ absurd (omega (arith, new, same, below_next k d k_below))
        ]

  -- nothing changes
  pub slots_as_they_were : KeepsSlots index m index m
  slots_as_they_were = slots_kept index m (λ k d below. inl (was_in_use index.slots m m k d below refl refl))

-- a change of other bytes comes before
pub kept_behind : (index after : RegionIndex) (m o n : List ℕ) → All (λ s. row_in o s ≡ row_in m s) index.slots
    → KeepsSlots index o after n → KeepsSlots index m after n
kept_behind index after m o n same keeps k d k_below j e j_below =
    subst (λ (row : Row). (row_in n (slice_index_or after.slots j e)).id ≡ row.id
    → (slice_index_or after.slots j e ≡ slice_index_or index.slots k d)
    × ((row_in n (slice_index_or after.slots j e)).slot ≡ row.slot)) (same k d k_below) (keeps k d k_below j e j_below)
