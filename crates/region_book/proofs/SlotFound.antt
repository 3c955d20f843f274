-- The row of a live region, by its place in the order of slots.
use Rattle.std.proofs.Common.{◌≡◌, ℕ, ◌+◌, ◌<◌, ◌≤◌, ◌==◌, List, length, map, arith, refl, ap, ◌∙◌, subst, slice_index, slice_index_or}
use Rattle.std.specs.Prelude.{IfSome, Some}
use Rattle.std.proofs.lemmas.Bool.{eqb-true}
use Rattle.std.proofs.lemmas.List.{get_or-map, length-map}
use Rattle.region_book.specs.declared.row.Row.{Row}
use Rattle.region_book.specs.RegionBytes.{HoldsRegions, RegionIndex, bits_in, book_in, row_in}
use Rattle.region_book.specs.RegionRecords.{region_of}
use Rattle.region_book.specs.RegionRows.{IsHeld, region_at, row_of}
use Rattle.region_book.proofs.BookRows.{region_found}
use Rattle.region_book.proofs.Found.{found_place}
use Rattle.region_book.proofs.KeptRows.{all_held}
use Rattle.region_book.proofs.MarkedBook.{range_fits}

module _ (index : RegionIndex) (m : List ℕ) (held : HoldsRegions index m) (i s : ℕ) (within : i < length index.slots)
    (at : slice_index index.slots i ≡ s) where
  pub rows_within : i < length (map (row_in m) index.slots)
  rows_within = omega (arith, within, length-map index.slots (row_in m))

  pub row_here : (d : Row) → slice_index_or (map (row_in m) index.slots) i d ≡ row_in m s
  row_here d = get_or-map (row_in m) index.slots i 0 d within ∙ ap (row_in m) at

  pub row_held : IsHeld 128 (row_in m s)
  row_held = subst (IsHeld 128) (row_here (row_in m s))
      (all_held (map (row_in m) index.slots) (bits_in m) index.declared held.kept i (row_in m s) rows_within)

  module _ (id : ℕ)
      (located : (d : Row) → row_of (map (row_in m) index.slots) id ≡ Some (slice_index_or (map (row_in m) index.slots) i d)) where
    located_row : row_of (map (row_in m) index.slots) id ≡ Some (row_in m s)
    located_row = located (row_in m s) ∙ ap Some (row_here (row_in m s))

    pub found_in : region_of (book_in index m) id ≡ Some (region_at (bits_in m) (row_in m s))
    found_in =
        region_found (map (row_in m) index.slots) (bits_in m) index.next index.declared (book_in index m) id refl
        (row_in m s) located_row

    pub named_in : (row_in m s).id ≡ id
    named_in =
        eqb-true (row_in m s).id id
        (found_place (λ row. row.id == id) (map (row_in m) index.slots) (row_in m s) located_row).3

    pub range_in : (offset count : ℕ) → IfSome (region_of (book_in index m) id) (λ r. offset + count ≤ r.size) →
        offset + count ≤ (row_in m s).size
    range_in offset count fits =
        range_fits (map (row_in m) index.slots) (bits_in m) index.next index.declared (book_in index m) id refl i
        (row_in m s) rows_within located row_here offset count fits
