-- The regions of a book by its rows: the one of an identifier, and which of its bytes were written.
use Rattle.std.proofs.Common.{◌≡◌, ℕ, ◌+◌, ◌<◌, ◌≤◌, Bool, true, false, ◌==◌, List, [], ◌∷◌, map, arith, refl, sym, ap, ◌∙◌, slice_index_or}
use Rattle.std.specs.Prelude.{Some, None, cond, option_map}
use Rattle.std.specs.List.{find, list_any, range_with_len}
use Rattle.std.proofs.lemmas.List.FromFn.{get_or-map-range_with_len}
use Rattle.region_book.specs.declared.row.Row.{Row}
use Rattle.region_book.specs.RegionRecords.{Book, is_written_in, region_of}
use Rattle.region_book.specs.RegionRows.{bit_in, bits_from, book_of, first_bit, region_at, row_of}
use Rattle.region_book.proofs.BitTests.{same_in_runs}

find_mapped : {X Y : Type 0} (p : Y → Bool) (f : X → Y) (xs : List X) →
    find p (map f xs) ≡ option_map f (find (λ x. p (f x)) xs)
find_mapped p f [] = refl
find_mapped p f (x ∷ xs) = go (p (f x)) (find_mapped p f xs)
  where
    go : (here : Bool) → find p (map f xs) ≡ option_map f (find (λ x. p (f x)) xs) →
        cond here (Some (f x)) (find p (map f xs)) ≡ option_map f (cond here (Some x) (find (λ x. p (f x)) xs))
    go true later = refl
    go false later = later

module _ (rows : List Row) (bits : List ℕ) (next declared : ℕ) (now : Book) (id : ℕ)
    (view : book_of rows bits next declared ≡ now) where
  region_by_row : region_of now id ≡ option_map (region_at bits) (row_of rows id)
  region_by_row = ap (λ book. region_of book id) (sym view) ∙ find_mapped (λ r. r.id == id) (region_at bits) rows

  pub region_found : (row : Row) → row_of rows id ≡ Some row → region_of now id ≡ Some (region_at bits row)
  region_found row found = region_by_row ∙ ap (option_map (region_at bits)) found

  pub region_missing : row_of rows id ≡ None → region_of now id ≡ None
  region_missing none = region_by_row ∙ ap (option_map (region_at bits)) none

-- which bytes were written
pub written_at : (bits : List ℕ) (first count k : ℕ) → k < count →
    slice_index_or (bits_from bits first count) k false ≡ bit_in bits (first + k)
unfolding bits_from
written_at bits first count k within =
    get_or-map-range_with_len (λ k. bit_in bits (first + k)) 0 count k k false within (omega arith)

pub written_by_bits : (bits : List ℕ) (row : Row) (offset count : ℕ) → offset + count ≤ row.size →
    is_written_in (region_at bits row) offset count ≡ list_any (bit_in bits)
    (range_with_len (first_bit row + offset) count)
written_by_bits bits row offset count fits =
    same_in_runs (λ k. slice_index_or (bits_from bits (first_bit row) row.size) k false) (bit_in bits) offset
    (first_bit row + offset) count
    (λ i below.
    let place : first_bit row + (offset + i) ≡ first_bit row + offset + i = omega arith in
    written_at bits (first_bit row) row.size (offset + i) (omega arith) ∙ ap (bit_in bits) place)
