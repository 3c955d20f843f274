-- The book after a row was put in, by its rows and bits.
use Rattle.std.proofs.Common.{◌≡◌, ℕ, ◌+◌, ◌-◌, ◌*◌, ◌<◌, ◌≤◌, true, false, not, ◌&&◌, List, [], ◌∷◌, ◌++◌, length, arith, sym, ap, ◌∙◌, subst}
use Rattle.std.specs.Prelude.{if◌then◌else◌}
use Rattle.std.proofs.lemmas.List.{length-map}
use Rattle.region_book.specs.declared.row.Row.{Row}
use Rattle.region_book.specs.RegionCalls.{with_one_more, is_range_taken}
use Rattle.nk_bits.specs.KernelLayout.{pool_start}
use Rattle.region_book.specs.RegionRecords.{Book}
use Rattle.region_book.specs.RegionRows.{IsHeld, AreRowsKept, bit_in, book_of, first_bit, in_run, pages_of_row, region_of_row, region_at}
use Rattle.region_book.proofs.BookBits.{added_regions}
use Rattle.region_book.proofs.KeptRows.{IsNew, each_apart, held_more, kept_added, new_held}
use Rattle.region_book.proofs.PoolPlaces.{taken_by_rows}

module _ (rows : List Row) (bits : List ℕ) (next declared : ℕ) (now : Book)
    (view : book_of rows bits next declared ≡ now) (row : Row) (pages : ℕ)
    (kept : AreRowsKept rows bits declared) (small : row.size ≤ 65536)
    (pooled : row.pooled ≡ true → (pool_start ≤ row.first) × (row.first + row.size ≤ pool_start + 65536) ×
    (is_range_taken now.regions row.size (row.first - pool_start) ≡ false))
    (paged : row.pooled ≡ false → (row.size ≡ 4096 * pages) × (row.slot ≡ now.declared))
    (most : now.declared + pages ≤ 128) where
  pub new : IsNew rows declared pages row
  new = record {
    size = small;
    pooled = λ e. let is = pooled e in (
      is.0,
      is.1,
      sym (taken_by_rows bits rows row.size (row.first - pool_start))
          ∙ ap (λ (book : Book). is_range_taken book.regions row.size (row.first - pool_start)) view ∙ is.2,
    );
    declared = λ e. let is = paged e in (is.0, is.1 ∙ ap (λ (book : Book). book.declared) (sym view));
  }

  pages_within : declared + pages ≤ 128
  pages_within = omega (arith, most, ap (λ (book : Book). book.declared) view)

  pub row_held : IsHeld 128 row
  row_held = held_more (declared + pages) 128 row pages_within (new_held rows declared pages row new)

  module _ (after : List ℕ) (after_rows : List Row) (after_is : after_rows ≡ rows ++ row ∷ []) where
    pub added_kept : row.slot ≡ (if row.pooled then 0 else declared) → pages_of_row row ≡ pages →
        length now.regions < 256 → length after ≡ 73728 → AreRowsKept after_rows after (declared + pages)
    added_kept number counted few long =
        subst (λ rs. AreRowsKept rs after (declared + pages)) (sym after_is)
        (kept_added rows bits after declared pages row kept new number counted
        (omega (
          arith,
          few,
          ap (λ (book : Book). length book.regions) view,
          length-map rows (region_at bits),
        )) pages_within long)

    pub added_is : ((k : ℕ) → bit_in after k ≡ (bit_in bits k && not (in_run (first_bit row) row.size k))) →
        book_of after_rows after (next + 1) (declared + pages) ≡ with_one_more now (region_of_row row) pages
    added_is each =
        ap (λ rs. book_of rs after (next + 1) (declared + pages)) after_is
        ∙ ap (λ rs. record (with_one_more (book_of rows bits next declared) (region_of_row row) pages) { regions = rs })
        (added_regions rows bits after row (each_apart rows bits after declared pages row kept new) each)
        ∙ ap (λ book. with_one_more book (region_of_row row) pages) view
