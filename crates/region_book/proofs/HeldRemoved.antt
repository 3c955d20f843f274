-- Regions in memory after the slot and the bits of one of them were made 0.
use Rattle.std.proofs.Common.{◌≡◌, ◌≢◌, ◌⊎◌, ℕ, ◌+◌, ◌<◌, ◌≤◌, Bool, true, false, not, ◌&&◌, ◌==◌, List, length, map, arith, refl, sym, ap, ◌∙◌, subst, inl, inr, slice_index, slice_index_or}
use Rattle.std.specs.Prelude.{All, AllPairs, filter}
use Rattle.std.specs.List.{list_any, remove}
use Rattle.std.proofs.lemmas.Bool.{and_from, and_parts, cases_eq, cases_order, eq-eqb, false_from_ne_true, false≢true, ne_eqb}
use Rattle.std.proofs.lemmas.Grind.{get_or_default_zero}
use Rattle.std.proofs.lemmas.List.{get_or-map, length-map}
use Rattle.std.proofs.lemmas.List.Elements.{All-filter, filter_passes}
use Rattle.std.proofs.lemmas.List.Kept.{AllPairs-filter}
use Rattle.phys_mem.specs.Memory.{byte_at}
use Rattle.region_book.specs.declared.row.Row.{Row}
use Rattle.region_book.specs.RegionBytes.{HasRowForm, HoldsRegions, KeepsSlots, RegionIndex, bits_in, book_in, row_in, slot_place}
use Rattle.region_book.specs.RegionCalls.{freed}
use Rattle.region_book.specs.RegionRecords.{IsBook}
use Rattle.region_book.specs.RegionRows.{AreApart, AreRowsKept, bit_in, book_of, first_bit, in_run, region_at}
use Rattle.region_book.proofs.BookBits.{region_elsewhere}
use Rattle.region_book.proofs.FreedBook.{freed_is}
use Rattle.region_book.proofs.KeptRows.{kept_removed}
use Rattle.region_book.proofs.KeptSlots.{WasInUse, slots_kept, slots_rise, was_in_use}
use Rattle.region_book.proofs.LeftSlots.{LeavesSlots, form_left, row_left, zero_left}
use Rattle.region_book.proofs.ListEdits.{map_agree, map_filter, place_of_key}
use Rattle.region_book.proofs.RunTests.{all_kept, any_filtered, any_more, outside_run, removed_by_key}

-- the row has another identifier
abbrev is_other : ℕ → Row → Bool
is_other id row = not (row.id == id)

no_less : (b t : Bool) → t ≡ false → (b && not t) ≡ b
no_less true t is = ap not is
no_less false t is = refl

module _ (index : RegionIndex) (m n : List ℕ) (held : HoldsRegions index m) (book : IsBook (book_in index m))
    (i s id : ℕ) (within : i < length index.slots) (at : slice_index index.slots i ≡ s) (named : (row_in m s).id ≡ id)
    (left : LeavesSlots s m n)
    (each : (k : ℕ) → bit_in (bits_in n) k ≡ (bit_in (bits_in m) k && not (in_run (first_bit (row_in m s)) (row_in m s).size k))) where
  at_any : (d : ℕ) → slice_index_or index.slots i d ≡ s
  at_any d = get_or_default_zero index.slots i d within ∙ at

  row_at_place : (k d : ℕ) (e : Row) → k < length index.slots →
      slice_index_or (map (row_in m) index.slots) k e ≡ row_in m (slice_index_or index.slots k d)
  row_at_place k d e below = get_or-map (row_in m) index.slots k d e below

  rising : AllPairs (λ a b. (row_in m a).id < (row_in m b).id) index.slots
  rising = slots_rise index m book

  other_place : (j d : ℕ) → j < length index.slots → slice_index_or index.slots j d ≢ s →
      is_other id (row_in m (slice_index_or index.slots j d)) ≡ true
  other_place j d below apart =
      ap not (ne_eqb (row_in m (slice_index_or index.slots j d)).id id (λ same.
      apart (ap (λ k. slice_index_or index.slots k d)
      (place_of_key (λ t. (row_in m t).id) index.slots rising j i d below within
      (same ∙ sym (ap (λ t. (row_in m t).id) (at_any d) ∙ named))) ∙ at_any d)))

  -- one that stays isn't the slot
  not_here : (t : ℕ) → is_other id (row_in m t) ≡ true → t ≢ s
  not_here t stays same =
      false≢true (sym (ap not (eq-eqb (row_in m t).id id (ap (λ u. (row_in m u).id) same ∙ named))) ∙ stays)

  pub slots_removed : remove index.slots i ≡ filter (λ t. is_other id (row_in m t)) index.slots
  slots_removed =
      removed_by_key (λ t. (row_in m t).id) index.slots i id rising within
      (λ d. ap (λ t. (row_in m t).id) (at_any d) ∙ named)

  rows_removed : map (row_in n) (filter (λ t. is_other id (row_in m t)) index.slots) ≡ filter (is_other id) (map (row_in m) index.slots)
  rows_removed =
      map_agree (row_in n) (row_in m) (filter (λ t. is_other id (row_in m t)) index.slots)
      (λ k d below. row_left s m n left _ (not_here _ (filter_passes (λ t. is_other id (row_in m t)) index.slots k d below)))
      ∙ map_filter (is_other id) (row_in m) index.slots

  -- what is found in another slot is found in one that stays
  any_stays : (p q : ℕ → Bool) → p s ≡ false → ((t : ℕ) → t ≢ s → p t ≡ true → q t ≡ true) →
      list_any p index.slots ≡ true → list_any q (filter (λ t. is_other id (row_in m t)) index.slots) ≡ true
  any_stays p q none more any =
      any_filtered (λ t. is_other id (row_in m t)) q index.slots
      ∙ any_more p (λ t. is_other id (row_in m t) && q t) index.slots
      (λ j d below passes.
      let apart : slice_index_or index.slots j d ≢ s = λ same. false≢true (sym none ∙ ap p (sym same) ∙ passes) in
      and_from (is_other id (row_in m (slice_index_or index.slots j d))) (q (slice_index_or index.slots j d))
      (other_place j d below apart) (more (slice_index_or index.slots j d) apart passes)) any

  -- the row's bits are apart from those of every other
  apart_from : (j : ℕ) (d : Row) → j < length (map (row_in m) index.slots) → j ≢ i →
      (first_bit (row_in m s) + (row_in m s).size ≤ first_bit (slice_index_or (map (row_in m) index.slots) j d))
      ⊎ (first_bit (slice_index_or (map (row_in m) index.slots) j d) + (slice_index_or (map (row_in m) index.slots) j d).size
      ≤ first_bit (row_in m s))
  apart_from j d below apart =
      let here : slice_index_or (map (row_in m) index.slots) i d ≡ row_in m s =
      row_at_place i 0 d within ∙ ap (row_in m) at in
      let short : i < length (map (row_in m) index.slots) = omega (arith, within, length-map index.slots (row_in m)) in
      elim (cases_order i j) [
        | inl same ↦ absurd (apart (sym same))
        | inr order ↦ elim order [
          | inl low ↦
              subst (λ x. AreApart x (slice_index_or (map (row_in m) index.slots) j d)) here (held.kept.apart i j d low below)
          | inr high ↦
              turned (slice_index_or (map (row_in m) index.slots) j d)
              (subst (AreApart (slice_index_or (map (row_in m) index.slots) j d)) here (held.kept.apart j i d high short))
        ]
      ]
    where
      turned : (row : Row) → AreApart row (row_in m s) → AreApart (row_in m s) row
      turned row is = elim is [ inl before ↦ inr before | inr after ↦ inl after ]

  regions_kept : map (region_at (bits_in n)) (filter (is_other id) (map (row_in m) index.slots))
      ≡ map (region_at (bits_in m)) (filter (is_other id) (map (row_in m) index.slots))
  regions_kept =
      map_agree (region_at (bits_in n)) (region_at (bits_in m)) (filter (is_other id) (map (row_in m) index.slots))
      (all_kept (is_other id) (λ row. region_at (bits_in n) row ≡ region_at (bits_in m) row) (map (row_in m) index.slots)
      (λ j d below stays.
      region_elsewhere (bits_in m) (bits_in n) (slice_index_or (map (row_in m) index.slots) j d)
      (λ k low high. each k ∙ no_less (bit_in (bits_in m) k) (in_run (first_bit (row_in m s)) (row_in m s).size k)
      (outside_run (first_bit (row_in m s)) (row_in m s).size (first_bit (slice_index_or (map (row_in m) index.slots) j d))
      (slice_index_or (map (row_in m) index.slots) j d).size k (apart_from j d below (place_apart j d below stays)) low high))))
    where
      place_apart : (j : ℕ) (d : Row) → j < length (map (row_in m) index.slots) →
          is_other id (slice_index_or (map (row_in m) index.slots) j d) ≡ true → j ≢ i
      place_apart j d below stays same =
          false≢true (sym (ap (λ k. is_other id (slice_index_or (map (row_in m) index.slots) k d)) same
          ∙ ap (is_other id) (row_at_place i 0 d within ∙ ap (row_in m) at)
          ∙ ap not (eq-eqb (row_in m s).id id named)) ∙ stays)

  pub freed_in : book_in (record index { slots = filter (λ t. is_other id (row_in m t)) index.slots }) n
      ≡ freed (book_in index m) id
  freed_in =
      ap (λ rows. book_of rows (bits_in n) index.next index.declared) rows_removed
      ∙ ap (λ regions. record (book_in index m) { regions = regions }) regions_kept
      ∙ freed_is (map (row_in m) index.slots) (bits_in m) index.next index.declared (book_in index m) id refl

  -- the row alone goes, and lies in the pool
  gone : (row_in m s).pooled ≡ true → All (λ row. is_other id row ≡ false → row.pooled ≡ true) (map (row_in m) index.slots)
  gone pooled j d below out =
      let within : j < length index.slots = omega (arith, below, length-map index.slots (row_in m)) in
      let here : slice_index_or (map (row_in m) index.slots) j d ≡ row_in m (slice_index_or index.slots j s) =
      row_at_place j s d within in
      elim (cases_eq (slice_index_or index.slots j s) s) [
        | inl is ↦ ap (λ (row : Row). row.pooled) (here ∙ ap (row_in m) is) ∙ pooled
        | inr apart ↦ absurd (false≢true (sym out ∙ ap (is_other id) here ∙ other_place j s within apart))
      ]

  pub removed_keeps : KeepsSlots index m (record index { slots = filter (λ t. is_other id (row_in m t)) index.slots }) n
  removed_keeps =
      slots_kept index m book (record index { slots = filter (λ t. is_other id (row_in m t)) index.slots }) n
      (all_kept (λ t. is_other id (row_in m t)) (λ t. WasInUse index.slots m n t ⊎ (index.next ≤ (row_in n t).id)) index.slots
      (λ k d below stays.
      let same : row_in n (slice_index_or index.slots k d) ≡ row_in m (slice_index_or index.slots k d) =
      row_left s m n left (slice_index_or index.slots k d) (not_here (slice_index_or index.slots k d) stays) in
      inl (was_in_use index.slots m n k d below (ap (λ (row : Row). row.id) same) (ap (λ (row : Row). row.slot) same))))

  pub held_removed : (row_in m s).pooled ≡ true → length (bits_in n) ≡ 73728 → ((p : ℕ) → p < 64 → byte_at n (slot_place s + p) ≡ 0) →
      HoldsRegions (record index { slots = filter (λ t. is_other id (row_in m t)) index.slots }) n
  held_removed pooled long zero =
      let kept = kept_removed (map (row_in m) index.slots) (bits_in m) index.declared held.kept (is_other id) (gone pooled) in
      record {
        size = omega (arith, held.size, left.size);
        slots = All-filter (λ t. is_other id (row_in m t)) (λ t. t < 256) index.slots held.slots;
        once = AllPairs-filter (λ a b. a ≢ b) (λ t. is_other id (row_in m t)) index.slots held.once;
        kept = subst (λ rows. AreRowsKept rows (bits_in n) index.declared) (sym rows_removed)
            (record {
              count = kept.count;
              room = long;
              most = kept.most;
              numbers = kept.numbers;
              held = kept.held;
              apart = kept.apart;
            });
        rows = all_kept (λ t. is_other id (row_in m t)) (HasRowForm n) index.slots
            (λ k d below stays. form_left s m n left _ (not_here _ stays) (held.rows k d below));
        free = λ t p small none below. elim (cases_eq t s) [
          | inl is ↦ subst (λ u. byte_at n (slot_place u + p) ≡ 0) (sym is) (zero p below)
          | inr apart ↦
              zero_left s m n left t p apart below
              (held.free t p small
              (false_from_ne_true (list_any (λ u. u == t) index.slots)
              (λ any. false≢true (sym none ∙ any_stays (λ u. u == t) (λ u. u == t)
              (ne_eqb s t (λ same. apart (sym same))) (λ u other is. is) any))) below)
        ];
        bits = λ k is.
            let parts = and_parts (bit_in (bits_in m) k) (not (in_run (first_bit (row_in m s)) (row_in m s).size k))
            (sym (each k) ∙ is) in
            any_stays (λ t. in_run (first_bit (row_in m t)) (row_in m t).size k)
            (λ t. in_run (first_bit (row_in n t)) (row_in n t).size k)
            (from_not (in_run (first_bit (row_in m s)) (row_in m s).size k) parts.1)
            (λ t apart run. ap (λ (row : Row). in_run (first_bit row) row.size k) (row_left s m n left t apart) ∙ run)
            (held.bits k parts.0);
      }
    where
      from_not : (b : Bool) → not b ≡ true → b ≡ false
      from_not true is = sym is
      from_not false is = refl
