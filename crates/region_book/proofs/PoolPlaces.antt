-- The least place of the pool that is free, by the rows.
use Rattle.std.proofs.Common.{◌≡◌, ℕ, ◌+◌, ◌*◌, ◌/◌, ◌%◌, ◌<◌, ◌≤◌, Bool, true, false, not, ◌&&◌, ◌||◌, nat_le, List, [], ◌∷◌, map, arith, refl, ap, ◌∙◌, inl, inr, slice_index_or}
use Rattle.std.specs.Prelude.{Some, None}
use Rattle.std.specs.List.{find, list_any, range_with_len}
use Rattle.std.proofs.lemmas.Bool.{and_from, and_left, and_right, cases_lt, lt-leb, le-leb}
use Rattle.std.proofs.lemmas.List.FromFn.{length-map-range_with_len, get_or-map-range_with_len}
use Rattle.region_book.specs.declared.row.Row.{Row}
use Rattle.region_book.specs.RegionCalls.{is_range_taken, room}
use Rattle.region_book.specs.RegionRows.{region_at, row_meets}
use Rattle.region_book.proofs.Found.{find_at, find_none}

-- a region has a byte of a range where its row has
pub taken_by_rows : (bits : List ℕ) (rows : List Row) (size p : ℕ) →
    is_range_taken (map (region_at bits) rows) size p ≡ list_any (row_meets size p) rows
taken_by_rows bits [] size p = refl
taken_by_rows bits (row ∷ rows) size p = ap (λ t. row_meets size p row || t) (taken_by_rows bits rows size p)

-- the first multiple of 16 that passes a test
module _ (test : ℕ → Bool) (n : ℕ) where
  places : List ℕ
  places = map (λ k. 16 * k) (range_with_len 0 n)

  place_at : (k d : ℕ) → k < n → slice_index_or places k d ≡ 16 * k
  unfolding places
  place_at k d below = get_or-map-range_with_len (λ k. 16 * k) 0 n k k d below (omega arith)

  find_place : (k : ℕ) → k < n → ((j : ℕ) → j < k → test (16 * j) ≡ false) → test (16 * k) ≡ true →
      find test (map (λ k. 16 * k) (range_with_len 0 n)) ≡ Some (16 * k)
  unfolding places
  find_place k below before here =
      find_at test places k 0 (omega (arith, length-map-range_with_len (λ k. 16 * k) 0 n))
      (λ j low. ap test (place_at j 0 (omega arith)) ∙ before j low) (ap test (place_at k 0 below) ∙ here)
      ∙ ap Some (place_at k 0 below)

  find_no_place : ((j : ℕ) → j < n → test (16 * j) ≡ false) → find test (map (λ k. 16 * k) (range_with_len 0 n)) ≡ None
  unfolding places
  find_no_place none =
      find_none test places (λ k d below. let inside : k < n = omega
      (arith, below, length-map-range_with_len (λ k. 16 * k) 0 n) in ap test (place_at k d inside) ∙ none k inside)

module _ (bits : List ℕ) (rows : List Row) (size place : ℕ)
    (taken : (q : ℕ) → q % 16 ≡ 0 → q < place → list_any (row_meets size q) rows ≡ true) where
  taken_before : (j : ℕ) → 16 * j < place →
      (nat_le (16 * j + size) 65536 && not (is_range_taken (map (region_at bits) rows) size (16 * j))) ≡ false
  taken_before j low =
      and_right (nat_le (16 * j + size) 65536) _
      (ap not (taken_by_rows bits rows size (16 * j) ∙ taken (16 * j) (omega arith) low))

  -- a free place, below which all is taken
  pub room_found : place % 16 ≡ 0 → 1 ≤ size → place + size ≤ 65536 → list_any (row_meets size place) rows ≡ false →
      room (map (region_at bits) rows) size ≡ Some place
  unfolding room
  room_found even some fits free =
      let place_is : 16 * (place / 16) ≡ place = omega arith in
      find_place (λ p. nat_le (p + size) 65536 && not (is_range_taken (map (region_at bits) rows) size p)) 4096 (place / 16)
      (omega arith) (λ j low. taken_before j (omega arith))
      (and_from (nat_le (16 * (place / 16) + size) 65536) _ (le-leb _ _ (omega arith))
      (ap not (ap (is_range_taken (map (region_at bits) rows) size) place_is ∙ taken_by_rows bits rows size place ∙ free)))
      ∙ ap Some place_is

  -- all is taken below a place from which on it doesn't fit
  pub no_room : 65536 < place + size → room (map (region_at bits) rows) size ≡ None
  unfolding room
  no_room late =
      find_no_place (λ p. nat_le (p + size) 65536 && not (is_range_taken (map (region_at bits) rows) size p)) 4096
      (λ j below. elim (cases_lt (16 * j) place) [
        | inl low ↦ taken_before j low
        | inr high ↦ and_left (nat_le (16 * j + size) 65536) _ (lt-leb _ _ (omega (arith, high, late)))
      ])
