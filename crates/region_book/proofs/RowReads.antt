-- The row of a live region, read from its slot.
use Rattle.std.proofs.Common.{◌≡◌, ℕ, ◌+◌, ◌<◌, Bool, true, false, ◌||◌, List, length, map, take, arith, refl, sym, ap, ◌∙◌, subst, slice_index, slice_index_or}
use Rattle.std.specs.Prelude.{None, Some, option_map, slice_get}
use Rattle.std.specs.List.{list_any}
use Rattle.std.proofs.lemmas.List.{get_or-map, length-map}
use Rattle.std.proofs.lemmas.List.Folds.{list_any_at, list_any_more}
use Rattle.std.proofs.lemmas.Option.{slice_get-map}
use Rattle.region_book.specs.declared.regions.Region.{Region}
use Rattle.region_book.specs.declared.row.Row.{Row}
use Rattle.region_book.specs.RegionBytes.{HoldsRegions, RegionIndex, bits_in, book_in, row_in}
use Rattle.region_book.specs.RegionRecords.{region_of, shown_region}
use Rattle.region_book.specs.RegionRows.{IsHeld, region_at, row_of}
use Rattle.region_book.proofs.BookRows.{region_missing}
use Rattle.region_book.proofs.KeptRows.{held_more}

pub row_stands : (m slots : List ℕ) (i s : ℕ) → i < length slots → slice_index slots i ≡ s → (row : Row) → row ≡ row_in m s
    → (d : Row) → slice_index_or (map (row_in m) slots) i d ≡ row
row_stands m slots i s within place row read d =
    get_or-map (row_in m) slots i 0 d within ∙ ap (row_in m) place ∙ sym read

-- one row more of which a test is known
module _ (p : Row → Bool) (m slots : List ℕ) (i s : ℕ) (within : i < length slots) (place : slice_index slots i ≡ s) (row : Row)
    (read : row ≡ row_in m s) where
  room_at : i < length (map (row_in m) slots)
  room_at = omega (arith, within, length-map slots (row_in m))

  pub none_of_more : list_any p (take i (map (row_in m) slots)) ≡ false → p row ≡ false
      → list_any p (take (i + 1) (map (row_in m) slots)) ≡ false
  none_of_more none here =
      list_any_more p (map (row_in m) slots) i row room_at
      ∙ ap (λ b. b || p (slice_index_or (map (row_in m) slots) i row)) none
      ∙ ap p (row_stands m slots i s within place row read row) ∙ here

  pub some_here : p row ≡ true → list_any p (map (row_in m) slots) ≡ true
  some_here here =
      list_any_at p (map (row_in m) slots) i row room_at (ap p (row_stands m slots i s within place row read row) ∙ here)

module _ (index : RegionIndex) (m slots : List ℕ) (order : slots ≡ index.slots) where
  -- by its place
  module _ (i s : ℕ) (within : i < length slots) (place : slice_index slots i ≡ s) (row : Row) (read : row ≡ row_in m s) where
    pub row_stands_held : HoldsRegions index m → IsHeld 128 row
    row_stands_held held =
        held_more index.declared 128 row held.kept.most
        (subst (IsHeld index.declared)
        (subst (λ xs. slice_index_or (map (row_in m) xs) i row ≡ row) order (row_stands m slots i s within place row read row))
        (held.kept.held i row (omega (arith, within, ap length order, length-map index.slots (row_in m)))))

  pub region_lacks : (id : ℕ) → row_of (map (row_in m) slots) id ≡ None → region_of (book_in index m) id ≡ None
  region_lacks id none =
      region_missing (map (row_in m) index.slots) (bits_in m) index.next index.declared (book_in index m) id refl
      (subst (λ xs. row_of (map (row_in m) xs) id ≡ None) order none)

  pub shown_at : (i s : ℕ) (row : Row) (result : Region) → Some s ≡ slice_get slots i → row ≡ row_in m s
      → result ≡ shown_region (region_at (bits_in m) row)
      → Some result ≡ option_map shown_region (slice_get (book_in index m).regions i)
  shown_at i s row result place read is =
      ap Some is
      ∙ ap (option_map shown_region) (ap (option_map (region_at (bits_in m)))
      (ap Some read ∙ ap (option_map (row_in m)) (place ∙ ap (λ xs. slice_get xs i) order)
      ∙ sym (slice_get-map (row_in m) index.slots i))
      ∙ sym (slice_get-map (region_at (bits_in m)) (map (row_in m) index.slots) i))
