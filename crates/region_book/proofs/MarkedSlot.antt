-- Regions in memory after bits of one of them were set, and then its tail moved.
use Rattle.std.proofs.Common.{◌≡◌, ℕ, ◌+◌, ◌<◌, ◌≤◌, ◌||◌, List, length, map, arith, ap, ◌∙◌, slice_index, slice_index_or}
use Rattle.std.specs.Prelude.{IfSome, Some}
use Rattle.region_book.specs.declared.row.Row.{Row}
use Rattle.region_book.specs.BitChanges.{DiffersInBits}
use Rattle.region_book.specs.RegionBytes.{HasRowForm, HoldsRegions, KeepsSlots, RegionIndex, bits_in, book_in, row_in}
use Rattle.region_book.specs.RegionRecords.{IsBook, marked, region_of, with_region}
use Rattle.region_book.specs.RegionRows.{bit_in, first_bit, in_run, moved, row_of}
use Rattle.region_book.specs.SlotChanges.{DiffersInSlot}
use Rattle.region_book.proofs.BitBytes.{bits_length}
use Rattle.region_book.proofs.HeldMarked.{held_marked, marked_in, marked_keeps, marked_sound_in}
use Rattle.region_book.proofs.LeftSlots.{LeavesSlots, form_of_bits, left_by_both, row_of_bits}
use Rattle.region_book.proofs.SlotFound.{range_in}
use Rattle.region_book.proofs.SlotRows.{bits_of_slot}

module _ (index : RegionIndex) (m o n : List ℕ) (held : HoldsRegions index m) (i s id : ℕ) (within : i < length index.slots)
    (at : slice_index index.slots i ≡ s)
    (located : (d : Row) → row_of (map (row_in m) index.slots) id ≡ Some (slice_index_or (map (row_in m) index.slots) i d))
    (row : Row) (row_is : row ≡ row_in m s) (first : ℕ) (first_is : first ≡ first_bit row) (offset count : ℕ)
    (fits : IfSome (region_of (book_in index m) id) (λ r. offset + count ≤ r.size))
    (bits : DiffersInBits m o)
    (set : (k : ℕ) → bit_in (bits_in o) k ≡ (bit_in (bits_in m) k || in_run (first + offset) count k))
    (slot : DiffersInSlot s o n) (tail : row_in n s ≡ moved (row_in o s) (offset + count)) where
  left : LeavesSlots s m n
  left = left_by_both s m o n bits slot

  each : (k : ℕ) → bit_in (bits_in n) k ≡ (bit_in (bits_in m) k || in_run (first_bit (row_in m s) + offset) count k)
  each k =
      ap (λ b. bit_in b k) (bits_of_slot s o n slot) ∙ set k
      ∙ ap (λ f. bit_in (bits_in m) k || in_run (f + offset) count k) (first_is ∙ ap first_bit row_is)

  moved_is : row_in n s ≡ moved (row_in m s) (offset + count)
  moved_is = tail ∙ ap (λ r. moved r (offset + count)) (row_of_bits m o bits s)

  long : length (bits_in n) ≡ 73728
  long = bits_length n (omega (arith, held.size, left.size))

  pub held_now : (HasRowForm o s → HasRowForm n s) → HoldsRegions index n
  held_now form =
      held_marked index m n held i s within at left offset count moved_is each long
      (range_in index m held i s within at id located offset count fits) (λ was. form (form_of_bits m o bits s was))

  pub slots_now : IsBook (book_in index m) → KeepsSlots index m index n
  slots_now book = marked_keeps index m n held i s within at left offset count moved_is each long book

  pub marked_now : IsBook (book_in index m) →
      IfSome (region_of (book_in index m) id) (λ r. book_in index n ≡ with_region (book_in index m) (marked r offset count))
  marked_now book = marked_in index m n held i s within at left offset count moved_is each long id located book fits

  pub book_now : IsBook (book_in index m) → IsBook (book_in index n)
  book_now book = marked_sound_in index m n held i s within at left offset count moved_is each long id located book fits
