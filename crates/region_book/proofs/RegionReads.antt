-- What a region's byte and the bits of a range are, by the row that a look-up found.
use Rattle.std.proofs.Common.{◌≡◌, ℕ, ◌+◌, ◌*◌, ◌/◌, ◌<◌, ◌≤◌, Bool, false, ◌==◌, List, length, sym, ap, ◌∙◌, subst}
use Rattle.std.specs.Prelude.{All, Option, Some, IfSome}
use Rattle.std.specs.List.{list_any, range_with_len}
use Rattle.phys_mem.specs.Memory.{stored}
use Rattle.region_book.specs.declared.row.Row.{Row}
use Rattle.region_book.specs.RegionRecords.{Book, IsBook, IsRegion, RegionRecord, byte_place, is_written_in, region_of, region_stores}
use Rattle.region_book.specs.RegionRows.{IsHeld, bit_in, first_bit, row_place, region_at, region_with, row_stores}
use Rattle.region_book.proofs.BookRows.{written_by_bits}
use Rattle.region_book.proofs.Found.{for_some, found_holds, of_some}
use Rattle.region_book.proofs.RowPlaces.{byte_place_is, frame_of_place, place_within, region_stores_is}

-- a sound book's region is sound
pub region_sound : (now : Book) (id : ℕ) (r : RegionRecord) → IsBook now → region_of now id ≡ Some r → IsRegion now.next r
region_sound now id r book found = found_holds (λ r. r.id == id) (IsRegion now.next) now.regions r found book.each

module _ (now : Book) (id : ℕ) (o : Option Row) (row : Row) (is : o ≡ Some row)
    (some : IfSome o (λ row. (written : List Bool) × (region_of now id ≡ Some (region_with written row))))
    (held : IfSome o (IsHeld 128)) where
  found : (written : List Bool) × (region_of now id ≡ Some (region_with written row))
  found = of_some o row (λ row. (written : List Bool) × (region_of now id ≡ Some (region_with written row))) is some

  held_row : IsHeld 128 row
  held_row = of_some o row (IsHeld 128) is held

  pub byte_within : (offset : ℕ) → IfSome (region_of now id) (λ r. offset < r.size) → offset < row.size
  byte_within offset within = of_some (region_of now id) (region_with found.0 row) (λ r. offset < r.size) found.1 within

  pub byte_fits : (size : ℕ) → IsBook now →
      IfSome (region_of now id) (λ r. All (λ f. 4096 * f + 4096 ≤ size) r.frames) →
      (k : ℕ) → k < row.size → row_place row k < size
  byte_fits size book frames k within =
      subst (λ p. p < size) (byte_place_is 128 row found.0 k held_row within)
      (place_within now.next size k (region_with found.0 row)
      (region_sound now id (region_with found.0 row) book found.1) within
      (of_some (region_of now id) (region_with found.0 row)
      (λ r. All (λ f. 4096 * f + 4096 ≤ size) r.frames) found.1 frames))

  pub byte_aside : (test : ℕ → Bool) → IsBook now → IfSome (region_of now id) (λ r. All (λ f. test f ≡ false) r.frames) →
      (k : ℕ) → k < row.size → test (row_place row k / 4096) ≡ false
  byte_aside test book frames k within =
      subst (λ p. test (p / 4096) ≡ false) (byte_place_is 128 row found.0 k held_row within)
      (frame_of_place now.next k (region_with found.0 row) (λ f. test f ≡ false)
      (region_sound now id (region_with found.0 row) book found.1) within
      (of_some (region_of now id) (region_with found.0 row) (λ r. All (λ f. test f ≡ false) r.frames) found.1 frames))

  pub byte_is : (offset : ℕ) (read : ℕ → ℕ) (byte : ℕ) → offset < row.size → byte ≡ read (row_place row offset) →
      IfSome (region_of now id) (λ r. byte ≡ read (byte_place r offset))
  byte_is offset read byte within was =
      for_some (region_of now id) (region_with found.0 row) (λ r. byte ≡ read (byte_place r offset)) found.1
      (was ∙ ap read (sym (byte_place_is 128 row found.0 offset held_row within)))

  pub bytes_within : (offset count : ℕ) → IfSome (region_of now id) (λ r. offset + count ≤ r.size) →
      offset + count ≤ row.size
  bytes_within offset count within =
      of_some (region_of now id) (region_with found.0 row) (λ r. offset + count ≤ r.size) found.1 within

  pub stores_are : (offset : ℕ) (bytes before after : List ℕ) → offset + length bytes ≤ row.size →
      after ≡ stored before (row_stores row offset bytes) →
      IfSome (region_of now id) (λ r. after ≡ stored before (region_stores r offset bytes))
  stores_are offset bytes before after fits was =
      for_some (region_of now id) (region_with found.0 row)
      (λ r. after ≡ stored before (region_stores r offset bytes)) found.1
      (was ∙ ap (stored before) (sym (region_stores_is 128 row found.0 offset bytes held_row fits)))

module _ (o : Option RegionRecord) (offset count : ℕ) (bits : List ℕ) (row : Row)
    (within : IfSome o (λ r. offset + count ≤ r.size))
    (found : o ≡ Some (region_at bits row)) where
  range_within : offset + count ≤ row.size
  range_within = of_some o (region_at bits row) (λ r. offset + count ≤ r.size) found within

  pub written_is : (first : ℕ) (answer : Bool) → first ≡ first_bit row →
      answer ≡ list_any (bit_in bits) (range_with_len (first + offset) count) →
      IfSome o (λ r. answer ≡ is_written_in r offset count)
  written_is first answer first_is was =
      for_some o (region_at bits row) (λ r. answer ≡ is_written_in r offset count) found
      (was ∙ ap (λ first. list_any (bit_in bits) (range_with_len (first + offset) count)) first_is
      ∙ sym (written_by_bits bits row offset count range_within))
