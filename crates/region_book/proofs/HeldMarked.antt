-- Regions in memory after bits of one of them were set and its tail moved.
use Rattle.std.proofs.Common.{◌≡◌, ◌≢◌, ℕ, ◌+◌, ◌<◌, ◌≤◌, Bool, true, ◌||◌, List, length, map, set, arith, refl, sym, ap, ◌∙◌, subst, inl, inr, slice_index, slice_index_or}
use Rattle.std.specs.Prelude.{IfSome, Some}
use Rattle.std.specs.List.{list_any}
use Rattle.std.proofs.lemmas.Bool.{cases_Bool, cases_eq}
use Rattle.std.proofs.lemmas.Grind.{get_or_default_zero}
use Rattle.std.proofs.lemmas.List.{set-get_or}
use Rattle.std.proofs.lemmas.List.Folds.{list_any_at}
use Rattle.region_book.specs.declared.row.Row.{Row}
use Rattle.region_book.specs.RegionBytes.{HasRowForm, HoldsRegions, KeepsSlots, RegionIndex, bits_in, book_in, row_in}
use Rattle.region_book.specs.RegionRecords.{IsBook, marked, region_of, with_region}
use Rattle.region_book.specs.RegionRows.{AreRowsKept, bit_in, book_of, first_bit, in_run, moved, row_of}
use Rattle.region_book.proofs.KeptRows.{kept_moved}
use Rattle.region_book.proofs.KeptSlots.{slots_kept, was_in_use}
use Rattle.region_book.proofs.LeftSlots.{LeavesSlots, form_left, not_in, row_left, zero_left}
use Rattle.region_book.proofs.ListEdits.{map_set_agree}
use Rattle.region_book.proofs.MarkedBook.{marked_book, marked_is}
use Rattle.region_book.proofs.RunTests.{any_more, inner_run}
use Rattle.region_book.proofs.SlotFound.{row_here, rows_within}
use Rattle.region_book.proofs.SlotOrder.{same_place}

-- the bits of a row
abbrev run_of : List ℕ → ℕ → ℕ → Bool
run_of m k s = in_run (first_bit (row_in m s)) (row_in m s).size k

moved_run : (row : Row) (tail k : ℕ) →
    in_run (first_bit (moved row tail)) (moved row tail).size k ≡ in_run (first_bit row) row.size k
unfolding first_bit
moved_run row tail k = refl

module _ (index : RegionIndex) (m n : List ℕ) (held : HoldsRegions index m) (i s : ℕ) (within : i < length index.slots)
    (at : slice_index index.slots i ≡ s) (left : LeavesSlots s m n) where
  other_slot : (k d : ℕ) → k < length index.slots → k ≢ i → slice_index_or index.slots k d ≢ s
  other_slot k d below apart same =
      apart (same_place index.slots k i held.once below within
      (sym (get_or_default_zero index.slots k d below) ∙ same ∙ sym at))

  rows_set : map (row_in n) index.slots ≡ set (map (row_in m) index.slots) i (row_in n s)
  rows_set =
      ap (map (row_in n)) (sym (ap (set index.slots i) (sym at) ∙ set-get_or index.slots i 0))
      ∙ map_set_agree (row_in n) (row_in m) index.slots i s (row_in n s) within refl
      (λ k d below apart. row_left s m n left (slice_index_or index.slots k d) (other_slot k d below apart))

  module _ (offset count : ℕ) (row_is : row_in n s ≡ moved (row_in m s) (offset + count))
      (each : (k : ℕ) → bit_in (bits_in n) k ≡ (bit_in (bits_in m) k || in_run (first_bit (row_in m s) + offset) count k))
      (long : length (bits_in n) ≡ 73728) where
    rows_are : map (row_in n) index.slots ≡ set (map (row_in m) index.slots) i (moved (row_in m s) (offset + count))
    rows_are = rows_set ∙ ap (set (map (row_in m) index.slots) i) row_is

    same_run : (k t : ℕ) → run_of n k t ≡ run_of m k t
    same_run k t =
        elim (cases_eq t s) [
          | inl is ↦
              subst (λ u. run_of n k u ≡ run_of m k u) (sym is)
              (ap (λ (row : Row). in_run (first_bit row) row.size k) row_is ∙ moved_run (row_in m s) (offset + count) k)
          | inr apart ↦ ap (λ (row : Row). in_run (first_bit row) row.size k) (row_left s m n left t apart)
        ]

    bits_of_rows : offset + count ≤ (row_in m s).size → (k : ℕ) → bit_in (bits_in n) k ≡ true →
        list_any (run_of n k) index.slots ≡ true
    bits_of_rows fits k is =
        elim (cases_Bool (bit_in (bits_in m) k)) [
          | inl was ↦
              any_more (run_of m k) (run_of n k) index.slots
              (λ j d below run. same_run k (slice_index_or index.slots j d) ∙ run) (held.bits k was)
          | inr clear ↦
              list_any_at (run_of n k) index.slots i 0 within
              (ap (run_of n k) at ∙ same_run k s
              ∙ inner_run (first_bit (row_in m s)) (row_in m s).size offset count k fits
              (sym (ap (λ b. b || in_run (first_bit (row_in m s) + offset) count k) clear) ∙ sym (each k) ∙ is))
        ]

    pub held_marked : offset + count ≤ (row_in m s).size → (HasRowForm m s → HasRowForm n s) → HoldsRegions index n
    held_marked fits form = record {
      size = omega (arith, held.size, left.size);
      slots = held.slots;
      once = held.once;
      kept = subst (λ rows. AreRowsKept rows (bits_in n) index.declared) (sym rows_are)
          (kept_moved (map (row_in m) index.slots) (bits_in m) index.declared held.kept (bits_in n) i (offset + count)
          (row_in m s) (rows_within index m held i s within at) (row_here index m held i s within at) long);
      rows = λ k d below. elim (cases_eq (slice_index_or index.slots k d) s) [
        | inl is ↦ subst (HasRowForm n) (sym is) (form (subst (HasRowForm m) is (held.rows k d below)))
        | inr apart ↦ form_left s m n left (slice_index_or index.slots k d) apart (held.rows k d below)
      ];
      free = λ t p small none below.
          zero_left s m n left t p (λ same. not_in index.slots t i 0 none within (at ∙ sym same)) below
          (held.free t p small none below);
      bits = bits_of_rows fits;
    }

    marked_row : (t : ℕ) → ((row_in n t).id ≡ (row_in m t).id) × ((row_in n t).slot ≡ (row_in m t).slot)
    marked_row t =
        elim (cases_eq t s) [
          | inl is ↦
              subst (λ u. ((row_in n u).id ≡ (row_in m u).id) × ((row_in n u).slot ≡ (row_in m u).slot)) (sym is)
              (ap (λ (row : Row). row.id) row_is, ap (λ (row : Row). row.slot) row_is)
          | inr apart ↦
              let same : row_in n t ≡ row_in m t = row_left s m n left t apart in
              (ap (λ (row : Row). row.id) same, ap (λ (row : Row). row.slot) same)
        ]

    pub marked_keeps : IsBook (book_in index m) → KeepsSlots index m index n
    marked_keeps book =
        slots_kept index m book index n (λ k d below.
        let same = marked_row (slice_index_or index.slots k d) in
        inl (was_in_use index.slots m n k d below same.0 same.1))

    module _ (id : ℕ)
        (located : (d : Row) → row_of (map (row_in m) index.slots) id ≡ Some (slice_index_or (map (row_in m) index.slots) i d))
        (book : IsBook (book_in index m)) (fits : IfSome (region_of (book_in index m) id) (λ r. offset + count ≤ r.size)) where
      pub marked_in : IfSome (region_of (book_in index m) id)
          (λ r. book_in index n ≡ with_region (book_in index m) (marked r offset count))
      marked_in =
          subst (λ rows. IfSome (region_of (book_in index m) id)
          (λ r. book_of rows (bits_in n) index.next index.declared ≡ with_region (book_in index m) (marked r offset count)))
          (sym rows_are)
          (marked_is (map (row_in m) index.slots) (bits_in m) index.next index.declared (book_in index m) id refl i
          (row_in m s) (rows_within index m held i s within at) located (row_here index m held i s within at) (bits_in n) offset count (offset + count) held.kept book fits refl each)

      pub marked_sound_in : IsBook (book_in index n)
      marked_sound_in =
          subst (λ rows. IsBook (book_of rows (bits_in n) index.next index.declared)) (sym rows_are)
          (marked_book (map (row_in m) index.slots) (bits_in m) index.next index.declared (book_in index m) id refl i
          (row_in m s) (rows_within index m held i s within at) located (row_here index m held i s within at) (bits_in n) offset count (offset + count) held.kept book fits refl each)
