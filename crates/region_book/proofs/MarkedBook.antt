-- The book after a range of a region was marked, by its rows and bits.
use Rattle.std.proofs.Common.{◌≡◌, ℕ, ◌+◌, ◌<◌, ◌≤◌, ◌||◌, List, length, map, set, arith, sym, ap, ◌∙◌, subst, slice_index_or}
use Rattle.std.specs.Prelude.{Some, IfSome}
use Rattle.std.proofs.lemmas.List.{get_or-map, length-map}
use Rattle.region_book.specs.declared.row.Row.{Row}
use Rattle.region_book.specs.RegionRecords.{Book, IsBook, RegionRecord, marked, region_of, with_region}
use Rattle.region_book.specs.RegionRows.{AreRowsKept, bit_in, book_of, first_bit, in_run, moved, region_at, row_of}
use Rattle.region_book.proofs.BookBits.{marked_regions}
use Rattle.region_book.proofs.BookRows.{region_found}
use Rattle.region_book.proofs.Found.{for_some, of_some}
use Rattle.region_book.proofs.SoundBooks.{marked_sound, with_marked}

module _ (rows : List Row) (bits : List ℕ) (next declared : ℕ) (now : Book) (id : ℕ)
    (view : book_of rows bits next declared ≡ now)
    (i : ℕ) (row : Row) (within : i < length rows)
    (located : (d : Row) → row_of rows id ≡ Some (slice_index_or rows i d))
    (is : (d : Row) → slice_index_or rows i d ≡ row) where
  pub found : region_of now id ≡ Some (region_at bits row)
  found = region_found rows bits next declared now id view row (located row ∙ ap Some (is row))

  pub range_fits : (offset count : ℕ) → IfSome (region_of now id) (λ r. offset + count ≤ r.size) →
      offset + count ≤ row.size
  range_fits offset count fits =
      of_some (region_of now id) (region_at bits row) (λ r. offset + count ≤ r.size) found fits

  within_now : i < length (book_of rows bits next declared).regions
  within_now = omega (arith, within, length-map rows (region_at bits))

  is_now : (d : RegionRecord) → slice_index_or (book_of rows bits next declared).regions i d ≡ region_at bits row
  is_now d = get_or-map (region_at bits) rows i row d within ∙ ap (region_at bits) (is row)

  module _ (after : List ℕ) (offset count tail : ℕ) (kept : AreRowsKept rows bits declared) (book : IsBook now)
      (fits : IfSome (region_of now id) (λ r. offset + count ≤ r.size)) (tail_is : tail ≡ offset + count)
      (each : (k : ℕ) → bit_in after k ≡ (bit_in bits k || in_run (first_bit row + offset) count k)) where
    sound : IsBook (book_of rows bits next declared)
    sound = subst IsBook (sym view) book

    -- the regions of the new rows and bits
    regions_are : book_of (set rows i (moved row tail)) after next declared
        ≡ record (book_of rows bits next declared) {
          regions = set (map (region_at bits) rows) i
              (marked (region_at bits row) offset count);
        }
    regions_are =
        ap (λ rs. record (book_of rows bits next declared) { regions = rs })
        (marked_regions rows bits after declared i row offset count tail kept within is
        (range_fits offset count fits) tail_is each)

    pub marked_is : IfSome (region_of now id)
        (λ r. book_of (set rows i (moved row tail)) after next declared ≡ with_region now (marked r offset count))
    marked_is =
        for_some (region_of now id) (region_at bits row)
        (λ r. book_of (set rows i (moved row tail)) after next declared ≡ with_region now
        (marked r offset count)) found
        (regions_are ∙ sym (with_marked (book_of rows bits next declared) sound i offset count
        (region_at bits row) within_now is_now)
        ∙ ap (λ book. with_region book (marked (region_at bits row) offset count)) view)

    pub marked_book : IsBook (book_of (set rows i (moved row tail)) after next declared)
    marked_book =
        subst IsBook (sym regions_are)
        (marked_sound (book_of rows bits next declared) sound i offset count (region_at bits row) within_now is_now
        (range_fits offset count fits))
