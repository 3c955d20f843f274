-- Stores of a row's bytes in frames that are no book frames: they show, and the bytes of book frames stay, so those of slots
-- and bits too.
use Rattle.std.proofs.Common.{◌≡◌, ◌≢◌, ℕ, ◌+◌, ◌*◌, ◌/◌, ◌<◌, ◌≤◌, Bool, true, false, ◌&&◌, nat_lt, List, [], ◌∷◌, length, arith, sym, ap, ◌∙◌}
use Rattle.std.specs.Prelude.{All}
use Rattle.std.proofs.lemmas.Bool.{false≢true, le-leb, lt-leb, lt-ltb}
use Rattle.std.proofs.lemmas.List.Elements.{All-cons, All-nil}
use Rattle.phys_mem.specs.MaskedMemory.{is_book_frame, masked, seen}
use Rattle.phys_mem.specs.Memory.{byte_at, stored}
use Rattle.region_book.specs.declared.row.Row.{Row}
use Rattle.region_book.specs.RegionBytes.{HoldsRegions, RegionIndex, book_in, row_in}
use Rattle.region_book.specs.RegionRows.{row_place, row_stores}
use Rattle.region_book.proofs.RegionsKept.{book_same, each_same, held_same}

-- a store of a row's bytes is at one of its places
row_stores_at : (P : ℕ → Type 0) (row : Row) (offset : ℕ) (bytes : List ℕ) →
    ((k : ℕ) → offset ≤ k → k < offset + length bytes → P (row_place row k)) →
    All (λ w. P w.0) (row_stores row offset bytes)
unfolding row_stores
row_stores_at P row offset [] each = All-nil (λ (w : ℕ × ℕ). P w.0)
row_stores_at P row offset (b ∷ bytes) each =
    All-cons (λ (w : ℕ × ℕ). P w.0) (row_place row offset, b) (row_stores row (offset + 1) bytes)
    (each offset (omega arith) (omega arith))
    (row_stores_at P row (offset + 1) bytes (λ k least most. each k (omega (arith, least)) (omega (arith, most))))

-- no byte of so many from the first on stands in a book frame
abbrev pub IsAside : ℕ → Row → ℕ → Type 0
IsAside size row count = (k : ℕ) → k < count → is_book_frame (size / 4096) (row_place row k / 4096) ≡ false

module _ (before after : List ℕ) (row : Row) (offset count : ℕ) (bytes : List ℕ) (fits : offset + length bytes ≤ count)
    (aside : IsAside (length before) row count) (stored_is : after ≡ stored before (row_stores row offset bytes)) where
  pub stores_seen : ((hidden : ℕ → Bool) (m : List ℕ) (ws : List (ℕ × ℕ)) → All (λ w. hidden (w.0 / 4096) ≡ false) ws
      → masked hidden (stored m ws) ≡ stored (masked hidden m) ws) → length after ≡ length before
      → seen after ≡ stored (seen before) (row_stores row offset bytes)
  stores_seen law size =
      ap (λ n. masked (is_book_frame (n / 4096)) after) size
      ∙ ap (masked (is_book_frame (length before / 4096))) stored_is
      ∙ law (is_book_frame (length before / 4096)) before (row_stores row offset bytes)
      (row_stores_at (λ p. is_book_frame (length before / 4096) (p / 4096) ≡ false) row offset bytes
      (λ k least most. aside k (omega (arith, most, fits))))

  pub books_stay : ((m : List ℕ) (ws : List (ℕ × ℕ)) (p : ℕ) → All (λ w. w.0 ≢ p) ws → byte_at (stored m ws) p ≡ byte_at m p)
      → (p : ℕ) → is_book_frame (length before / 4096) (p / 4096) ≡ true → byte_at after p ≡ byte_at before p
  books_stay law p hidden =
      ap (λ m. byte_at m p) stored_is
      ∙ law before (row_stores row offset bytes) p
      (row_stores_at (λ q. q ≢ p) row offset bytes
      (λ k least most same.
      false≢true (sym (aside k (omega (arith, most, fits)))
      ∙ ap (λ q. is_book_frame (length before / 4096) (q / 4096)) same ∙ hidden)))

-- the bytes of slots and bits stand in book frames, those of frames 10 to 25 don't
pub regions_are_books : (frames p : ℕ) → 0x2A000 ≤ p → p < 0x40000 → is_book_frame frames (p / 4096) ≡ true
unfolding is_book_frame
regions_are_books frames p low high =
    ap (λ b. b && nat_lt (p / 4096) (64 + (frames + 255) / 256)) (le-leb 26 (p / 4096) (omega (arith, low)))
    ∙ lt-ltb (p / 4096) (64 + (frames + 255) / 256) (omega (arith, high))

pub low_is_no_book : (frames p : ℕ) → p < 4096 * 26 → is_book_frame frames (p / 4096) ≡ false
unfolding is_book_frame
low_is_no_book frames p low =
    ap (λ b. b && nat_lt (p / 4096) (64 + (frames + 255) / 256)) (lt-leb 26 (p / 4096) (omega (arith, low)))

-- a change of other frames leaves the slots, the bits and what they hold
module _ (before after : List ℕ) (size : length after ≡ length before)
    (stays : (p : ℕ) → is_book_frame (length before / 4096) (p / 4096) ≡ true → byte_at after p ≡ byte_at before p) where
  regions_stay : (p : ℕ) → 0x2A000 ≤ p → p < 0x40000 → byte_at after p ≡ byte_at before p
  regions_stay p low high = stays p (regions_are_books (length before / 4096) p low high)

  pub book_stays : (index : RegionIndex) → HoldsRegions index before → book_in index after ≡ book_in index before
  book_stays index held = book_same index before after held size regions_stay

  pub rows_stay : (index : RegionIndex) → HoldsRegions index before → All (λ s. row_in after s ≡ row_in before s) index.slots
  rows_stay index held = each_same index before after held size regions_stay

  pub held_stays : (index : RegionIndex) → HoldsRegions index before → HoldsRegions index after
  held_stays index held = held_same index before after held size regions_stay
