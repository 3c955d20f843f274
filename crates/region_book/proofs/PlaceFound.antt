-- The region at a place of the order: its row, and that it is the one of its identifier.
use Rattle.std.proofs.Common.{◌≡◌, ℕ, ◌<◌, ◌==◌, List, length, map, arith, refl, sym, ap, ◌∙◌, subst, slice_index, slice_index_or, eq-eqb}
use Rattle.std.specs.Prelude.{IfNone, IfSome, None, Option, Some, option_map, slice_get}
use Rattle.std.proofs.lemmas.Bool.{ne_eqb}
use Rattle.std.proofs.lemmas.List.{get_or-map, length-map}
use Rattle.std.proofs.lemmas.Option.{get_or_from_slice_get, slice_get-get_or, slice_get-map, slice_get_within}
use Rattle.region_book.specs.declared.row.Row.{Row}
use Rattle.region_book.specs.RegionBytes.{RegionIndex, bits_in, book_in, row_in}
use Rattle.region_book.specs.RegionRecords.{Book, IsBook, RegionRecord, region_of}
use Rattle.region_book.specs.RegionRows.{region_at, row_of}
use Rattle.region_book.proofs.BookRows.{region_found}
use Rattle.region_book.proofs.BytePlaces.{listed_region}
use Rattle.region_book.proofs.Found.{find_at}
use Rattle.region_book.proofs.KeptSlots.{slots_rise}
use Rattle.region_book.proofs.RowReads.{region_lacks}

module _ (index : RegionIndex) (m slots : List ℕ) (order : slots ≡ index.slots) where
  -- a look-up's place is that of the region
  place_found : (i id : ℕ) → i < length slots
      → ((d : Row) → row_of (map (row_in m) slots) id ≡ Some (slice_index_or (map (row_in m) slots) i d))
      → (i < length index.slots) × (region_of (book_in index m) id ≡ slice_get (book_in index m).regions i)
  place_found i id within found =
      let row : Row = slice_index_or (map (row_in m) slots) i (row_in m 0) in
      let below : i < length (map (row_in m) slots) = omega (arith, within, length-map slots (row_in m)) in
      let there : slice_get (map (row_in m) index.slots) i ≡ Some row =
      ap (λ xs. slice_get (map (row_in m) xs) i) (sym order) ∙ slice_get-get_or (map (row_in m) slots) i (row_in m 0) below in (
        omega (arith, within, ap length order),
        region_found (map (row_in m) index.slots) (bits_in m) index.next index.declared (book_in index m) id refl row
            (ap (λ xs. row_of (map (row_in m) xs) id) (sym order) ∙ found (row_in m 0))
            ∙ sym (slice_get-map (region_at (bits_in m)) (map (row_in m) index.slots) i ∙ ap (option_map (region_at (bits_in m))) there),
      )

  pub none_found : (o : Option ℕ) (id : ℕ) → IfNone o (row_of (map (row_in m) slots) id ≡ None) → IfNone o (region_of (book_in index m) id ≡ None)
  none_found None id none = region_lacks index m slots order id none
  none_found (Some i) id none = tt

  pub some_found : (o : Option ℕ) (id : ℕ)
      → IfSome o (λ i. (i < length slots) × ((d : Row) → row_of (map (row_in m) slots) id ≡ Some (slice_index_or (map (row_in m) slots) i d)))
      → IfSome o (λ i. (i < length index.slots) × (region_of (book_in index m) id ≡ slice_get (book_in index m).regions i))
  some_found None id some = tt
  some_found (Some i) id some = place_found i id some.0 some.1

  -- the region by its row
  pub region_here : (i s : ℕ) (row : Row) → i < length slots → slice_index slots i ≡ s → row ≡ row_in m s
      → slice_get (book_in index m).regions i ≡ Some (region_at (bits_in m) row)
  region_here i s row within place read =
      slice_get-map (region_at (bits_in m)) (map (row_in m) index.slots) i
      ∙ ap (option_map (region_at (bits_in m)))
      (slice_get-map (row_in m) index.slots i
      ∙ ap (option_map (row_in m)) (ap (λ xs. slice_get xs i) (sym order) ∙ slice_get-get_or slots i 0 within ∙ ap Some place)
      ∙ ap Some (sym read))

module _ (index : RegionIndex) (m : List ℕ) (i s : ℕ) (within : i < length index.slots) (at : slice_index index.slots i ≡ s)
    (book : IsBook (book_in index m)) where
  -- no earlier row has its identifier
  pub located_here : (d : Row) → row_of (map (row_in m) index.slots) (row_in m s).id
      ≡ Some (slice_index_or (map (row_in m) index.slots) i d)
  located_here d =
      let here : slice_index_or (map (row_in m) index.slots) i d ≡ row_in m s =
      get_or-map (row_in m) index.slots i 0 d within ∙ ap (row_in m) at in
      find_at (λ row. row.id == (row_in m s).id) (map (row_in m) index.slots) i d
      (omega (arith, within, length-map index.slots (row_in m)))
      (λ k low.
      let there : slice_index_or (map (row_in m) index.slots) k d ≡ row_in m (slice_index index.slots k) =
      get_or-map (row_in m) index.slots k 0 d (omega (arith, low, within)) in
      ne_eqb (slice_index_or (map (row_in m) index.slots) k d).id (row_in m s).id
      (λ same. omega (
        arith,
        slots_rise index m book k i 0 low within,
        same,
        ap (λ (row : Row). row.id) there,
        ap (λ s. (row_in m s).id) at,
      )))
      (ap (λ (row : Row). row.id == (row_in m s).id) here ∙ eq-eqb (row_in m s).id (row_in m s).id refl)

  region_named : region_of (book_in index m) (row_in m s).id ≡ slice_get (book_in index m).regions i
  region_named = (place_found index m index.slots refl i (row_in m s).id within located_here).1

  -- what is said of the region at the place is said of the one of its identifier, and the other way round
  pub by_name : (P : RegionRecord → Type 0) → IfSome (slice_get (book_in index m).regions i) P
      → IfSome (region_of (book_in index m) (row_in m s).id) P
  by_name P holds = subst (λ o. IfSome o P) (sym region_named) holds

  pub by_place : (P : RegionRecord → Type 0) → IfSome (region_of (book_in index m) (row_in m s).id) P
      → IfSome (slice_get (book_in index m).regions i) P
  by_place P holds = subst (λ o. IfSome o P) region_named holds

-- a region of a sound book is the one of its identifier
pub listed : (now : Book) (i : ℕ) (r : RegionRecord) → IsBook now → slice_get now.regions i ≡ Some r → region_of now r.id ≡ Some r
listed now i r book here =
    let there : slice_index_or now.regions i r ≡ r = get_or_from_slice_get now.regions i r r here in
    subst (λ r. region_of now r.id ≡ Some r) there (listed_region now book i r (slice_get_within now.regions i r here))
