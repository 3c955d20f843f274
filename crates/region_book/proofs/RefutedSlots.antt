-- Memories that don't hold regions, and rows that aren't kept, each named by the sentence that it guards.
use Rattle.std.proofs.Common.{◌≡◌, ◌≢◌, ◌+◌, ◌*◌, ◌%◌, ◌<◌, ◌≤◌, ◌==◌, ℕ, true, false, if◌then◌else◌, List, take, length, inl, inr, sym, ◌∙◌, arith}
use Rattle.std.specs.Prelude.{All, AllPairs, None, Some, map, slice_get}
use Rattle.std.specs.List.{list_any, sum_by}
use Rattle.std.proofs.lemmas.Bool.{false≢true}
use Rattle.nk_bits.specs.KernelLayout.{pool_start}
use Rattle.phys_mem.specs.Memory.{byte_at, number_at}
use Rattle.region_book.specs.declared.row.Row.{Row}
use Rattle.region_book.specs.RegionBytes.{DiffersInRegions, HasRowForm, HoldsRegions, RegionIndex, bits_in, book_in, row_in, slot_place}
use Rattle.region_book.specs.RegionCalls.{free_rule, freed, with_one_more}
use Rattle.region_book.specs.RegionLaws.{NumberedLaws}
use Rattle.region_book.specs.RegionRecords.{Book, IsApart, IsBook, IsEachOnce, RegionRecord, declared_before, marked, region_of, with_region}
use Rattle.region_book.specs.RegionRows.{AreApart, AreNumbered, AreRowsKept, IsHeld, bit_in, first_bit, in_run, pages_of_row}

-- a row of too many bytes; one that begins before the pool, or ends past it; and declared pages that are not whole, or that
-- pass those that were declared
module _ (slots : ℕ) (row : Row) (it : IsHeld slots row) where
  long_row : row.size ≡ 65537 → ⊥
  long_row is = let most = it.size in omega (arith, is, most)

  row_before_the_pool : row.pooled ≡ true → row.first + 1 ≡ pool_start → ⊥
  row_before_the_pool pooled is = let least = (it.pooled pooled).0 in omega (arith, is, least)

  row_past_the_pool : row.pooled ≡ true → row.first + row.size ≡ pool_start + 65537 → ⊥
  row_past_the_pool pooled is = let most = (it.pooled pooled).1 in omega (arith, is, most)

  part_of_a_page : row.pooled ≡ false → row.size % 4096 ≡ 1 → ⊥
  part_of_a_page declared is = let whole = (it.declared declared).0 in omega (arith, is, whole)

  undeclared_page : row.pooled ≡ false → 4096 * row.slot + row.size ≡ 4096 * (slots + 1) → ⊥
  undeclared_page declared is = let most = (it.declared declared).1 in omega (arith, is, most)

-- rows numbered otherwise, too many rows, and bits that two have
module _ (rows : List Row) (bits : List ℕ) (declared : ℕ) (it : AreRowsKept rows bits declared) where
  many_rows : length rows ≡ 257 → ⊥
  many_rows is = let most = it.count in omega (arith, is, most)

  few_bits : length bits ≡ 73727 → ⊥
  few_bits is = let room = it.room in omega (arith, is, room)

  many_pages : declared ≡ 129 → ⊥
  many_pages is = let most = it.most in omega (arith, is, most)

  unnumbered : (AreNumbered rows declared → ⊥) → ⊥
  unnumbered none = none it.numbers

  row_elsewhere : (All (IsHeld declared) rows → ⊥) → ⊥
  row_elsewhere none = none it.held

  common_bits : (AllPairs AreApart rows → ⊥) → ⊥
  common_bits none = none it.apart

module _ (rows : List Row) (declared : ℕ) (it : AreNumbered rows declared) where
  another_number : (i : ℕ) (row : Row) → slice_get rows i ≡ Some row
      → row.slot ≢ (if row.pooled then 0 else sum_by pages_of_row (take i rows)) → ⊥
  another_number i row stands other = other (it.each i row stands)

  one_page_more : sum_by pages_of_row rows ≡ declared + 1 → ⊥
  one_page_more is = let pages = it.pages in omega (arith, is, pages)

-- two declared regions with a frame in common
module _ (one other : RegionRecord) (it : IsApart one other) where
  common_frame : one.pooled ≡ false → other.pooled ≡ false → (All (λ f. All (λ g. f ≢ g) other.frames) one.frames → ⊥) → ⊥
  common_frame first second none = none (it.pages first second)

-- a slot whose mark of the pool is neither 0 nor 1, with a number where none belongs, or with a frame too many
module _ (m : List ℕ) (s : ℕ) (it : HasRowForm m s) where
  third_mark : byte_at m (slot_place s + 25) ≡ 2 → ⊥
  third_mark is = let most = it.pooled in omega (arith, is, most)

  unused_number : number_at m 4 (slot_place s + 28) ≢ 0 → ⊥
  unused_number other = other it.unused

  frame_of_the_pool : (i : ℕ) → i < 16 → (row_in m s).pooled ≡ true → number_at m 2 (slot_place s + 32 + 2 * i) ≢ 0 → ⊥
  frame_of_the_pool i inside pooled other = other (it.frames i inside (inl pooled))

  frame_too_many : (i : ℕ) → i < 16 → (row_in m s).size ≤ 4096 * i → number_at m 2 (slot_place s + 32 + 2 * i) ≢ 0 → ⊥
  frame_too_many i inside past other = other (it.frames i inside (inr past))

module _ (index : RegionIndex) (m : List ℕ) (it : HoldsRegions index m) where
  -- a memory that ends within the slots
  short_memory : length m ≡ 0x3FFFF → ⊥
  short_memory is = let most = it.size in omega (arith, is, most)

  -- a slot that isn't one of 256, or stands for two regions; rows that aren't kept, or out of form
  slot_256 : (All (λ s. s < 256) index.slots → ⊥) → ⊥
  slot_256 none = none it.slots

  slot_of_two : (IsEachOnce index.slots → ⊥) → ⊥
  slot_of_two none = none it.once

  unkept_rows : (AreRowsKept (map (row_in m) index.slots) (bits_in m) index.declared → ⊥) → ⊥
  unkept_rows none = none it.kept

  formless_row : (All (HasRowForm m) index.slots → ⊥) → ⊥
  formless_row none = none it.rows

  -- a byte of a slot that is free, and a bit of no region
  byte_of_a_free_slot : (s p : ℕ) → s < 256 → list_any (λ t. t == s) index.slots ≡ false → p < 64
      → byte_at m (slot_place s + p) ≢ 0 → ⊥
  byte_of_a_free_slot s p below free inside other = other (it.free s p below free inside)

  bit_of_no_region : (k : ℕ) → bit_in (bits_in m) k ≡ true
      → list_any (λ s. in_run (first_bit (row_in m s)) (row_in m s).size k) index.slots ≡ false → ⊥
  bit_of_no_region k set none = false≢true (sym none ∙ it.bits k set)

-- a memory of a byte more, and one with another byte next to the slots or next to the bits
module _ (before after : List ℕ) (it : DiffersInRegions before after) where
  one_byte_more : length after ≡ length before + 1 → ⊥
  one_byte_more is = let kept = it.size in omega (arith, is, kept)

  byte_before_the_slots : byte_at after 0x29FFF ≢ byte_at before 0x29FFF → ⊥
  byte_before_the_slots other = other (it.elsewhere 0x29FFF (inl (omega arith)))

  byte_behind_the_bits : byte_at after 0x40000 ≢ byte_at before 0x40000 → ⊥
  byte_behind_the_bits other = other (it.elsewhere 0x40000 (inr (omega arith)))

-- what the laws on numbers of pages leave no room for: a slot that has another number than the pages declared before it, and
-- a call that renumbers
module _ (it : NumberedLaws) where
  misnumbered : (index : RegionIndex) (m : List ℕ) → HoldsRegions index m → IsBook (book_in index m)
      → (All (λ s. (row_in m s).slot
      ≡ (if (row_in m s).pooled then 0 else declared_before (book_in index m) (row_in m s).id)) index.slots → ⊥) → ⊥
  misnumbered index m held book none = none (it.number index m held book)

  renumbered_by_one_more : (book : Book) (r : RegionRecord) (pages id : ℕ) → id ≤ r.id
      → declared_before (with_one_more book r pages) id ≢ declared_before book id → ⊥
  renumbered_by_one_more book r pages id before other = other (it.added book r pages id before)

  renumbered_by_one_less : (book : Book) (id later : ℕ) → IsBook book → free_rule book id ≡ None
      → declared_before (freed book id) later ≢ declared_before book later → ⊥
  renumbered_by_one_less book id later sound freed_by other = other (it.let_go book id later sound freed_by)

  renumbered_by_a_write : (book : Book) (id later offset count : ℕ) (r : RegionRecord) → IsBook book → region_of book id ≡ Some r
      → declared_before (with_region book (marked r offset count)) later ≢ declared_before book later → ⊥
  renumbered_by_a_write book id later offset count r sound found other =
      other (it.written book id later offset count r sound found)
