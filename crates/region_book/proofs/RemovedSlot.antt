-- Regions in memory after the bits of one of them were cleared, then its slot, and then it left the order.
use Rattle.std.proofs.Common.{◌≡◌, ℕ, ◌+◌, ◌<◌, true, not, ◌&&◌, List, length, map, arith, sym, ap, ◌∙◌, subst, slice_index, slice_index_or}
use Rattle.std.specs.Prelude.{IfSome, Some}
use Rattle.std.specs.List.{remove}
use Rattle.phys_mem.specs.Memory.{byte_at}
use Rattle.region_book.specs.declared.row.Row.{Row}
use Rattle.region_book.specs.BitChanges.{DiffersInBits}
use Rattle.region_book.specs.RegionBytes.{HoldsRegions, KeepsSlots, RegionIndex, bits_in, book_in, row_in, slot_place}
use Rattle.region_book.specs.RegionCalls.{freed}
use Rattle.region_book.specs.RegionRecords.{IsBook, region_of}
use Rattle.region_book.specs.RegionRows.{bit_in, first_bit, in_run, region_at, row_of}
use Rattle.region_book.specs.SlotChanges.{DiffersInSlot}
use Rattle.region_book.proofs.BitBytes.{bits_length}
use Rattle.region_book.proofs.Found.{of_some}
use Rattle.region_book.proofs.HeldRemoved.{freed_in, held_removed, removed_keeps, slots_removed}
use Rattle.region_book.proofs.LeftSlots.{LeavesSlots, left_by_both}
use Rattle.region_book.proofs.SlotFound.{found_in, named_in}
use Rattle.region_book.proofs.SlotRows.{bits_of_slot}

module _ (index : RegionIndex) (m o n : List ℕ) (held : HoldsRegions index m) (book : IsBook (book_in index m))
    (i s id : ℕ) (within : i < length index.slots) (at : slice_index index.slots i ≡ s)
    (located : (d : Row) → row_of (map (row_in m) index.slots) id ≡ Some (slice_index_or (map (row_in m) index.slots) i d))
    (row : Row) (row_is : row ≡ row_in m s) (first : ℕ) (first_is : first ≡ first_bit row)
    (bits : DiffersInBits m o)
    (cleared : (k : ℕ) → bit_in (bits_in o) k ≡ (bit_in (bits_in m) k && not (in_run first row.size k)))
    (slot : DiffersInSlot s o n) (slots : List ℕ) (slots_are : slots ≡ remove index.slots i) where
  left : LeavesSlots s m n
  left = left_by_both s m o n bits slot

  each : (k : ℕ) → bit_in (bits_in n) k ≡ (bit_in (bits_in m) k && not (in_run (first_bit (row_in m s)) (row_in m s).size k))
  each k =
      ap (λ b. bit_in b k) (bits_of_slot s o n slot) ∙ cleared k
      ∙ ap (λ f. bit_in (bits_in m) k && not (in_run f row.size k)) (first_is ∙ ap first_bit row_is)
      ∙ ap (λ (r : Row). bit_in (bits_in m) k && not (in_run (first_bit (row_in m s)) r.size k)) row_is

  pub freed_now : book_in (record index { slots = slots }) n ≡ freed (book_in index m) id
  freed_now =
      ap (λ list. book_in (record index { slots = list }) n)
      (slots_are ∙ slots_removed index m n held book i s id within at (named_in index m held i s within at id located) left each)
      ∙ freed_in index m n held book i s id within at (named_in index m held i s within at id located) left each

  pub slots_freed : KeepsSlots index m (record index { slots = slots }) n
  slots_freed =
      subst (λ list. KeepsSlots index m (record index { slots = list }) n)
      (sym (slots_are ∙ slots_removed index m n held book i s id within at (named_in index m held i s within at id located) left each))
      (removed_keeps index m n held book i s id within at (named_in index m held i s within at id located) left each)

  pooled_here : IfSome (region_of (book_in index m) id) (λ r. r.pooled ≡ true) → (row_in m s).pooled ≡ true
  pooled_here pooled =
      of_some (region_of (book_in index m) id) (region_at (bits_in m) (row_in m s)) (λ r. r.pooled ≡ true)
      (found_in index m held i s within at id located) pooled

  pub held_freed : IfSome (region_of (book_in index m) id) (λ r. r.pooled ≡ true) → ((p : ℕ) → p < 64 → byte_at n (slot_place s + p) ≡ 0) → HoldsRegions (record index { slots = slots }) n
  held_freed pooled zero =
      subst (λ list. HoldsRegions (record index { slots = list }) n)
      (sym (slots_are ∙ slots_removed index m n held book i s id within at (named_in index m held i s within at id located) left each))
      (held_removed index m n held book i s id within at (named_in index m held i s within at id located) left each
      (pooled_here pooled) (bits_length n (omega (arith, held.size, left.size))) zero)
