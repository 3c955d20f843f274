-- Changes of memory that change too much, and rows that no slot holds, each named by the sentence that it guards.
use Rattle.std.proofs.Common.{◌≡◌, ◌≢◌, ◌+◌, ℕ, true, List, length, slice_index, inl, inr, arith}
use Rattle.phys_mem.specs.Memory.{byte_at}
use Rattle.region_book.specs.declared.row.Row.{Row}
use Rattle.region_book.specs.BitChanges.{DiffersInBits}
use Rattle.region_book.specs.RegionBytes.{DiffersInRegions}
use Rattle.region_book.specs.SlotChanges.{DiffersInSlot, DiffersWithin, IsStorableRow}

module _ (m n : List ℕ) where
  -- memory is a byte longer
  longer_by_bits : length n ≡ length m + 1 → DiffersInBits m n → ⊥
  longer_by_bits more it = let same = it.size in omega (arith, more, same)

  longer_by_a_slot : length n ≡ length m + 1 → DiffersInSlot 0 m n → ⊥
  longer_by_a_slot more it = let same = it.size in omega (arith, more, same)

  longer_within : length n ≡ length m + 1 → DiffersWithin 0x3C010 0x3C014 m n → ⊥
  longer_within more it = let same = it.size in omega (arith, more, same)

  longer_by_regions : length n ≡ length m + 1 → DiffersInRegions m n → ⊥
  longer_by_regions more it = let same = it.size in omega (arith, more, same)

  -- the byte before the bits, or the first slot's, is another
  before_the_bits : byte_at n 0x29FFF ≢ byte_at m 0x29FFF → DiffersInBits m n → ⊥
  before_the_bits other it = other (it.elsewhere 0x29FFF (inl (omega arith)))

  behind_the_bits : byte_at n 0x3C000 ≢ byte_at m 0x3C000 → DiffersInBits m n → ⊥
  behind_the_bits other it = other (it.elsewhere 0x3C000 (inr (omega arith)))

  -- a byte of the slot before it or behind it, and one beside a number
  before_slot_1 : byte_at n 0x3C03F ≢ byte_at m 0x3C03F → DiffersInSlot 1 m n → ⊥
  before_slot_1 other it = other (it.elsewhere 0x3C03F (inl (omega arith)))

  behind_slot_1 : byte_at n 0x3C080 ≢ byte_at m 0x3C080 → DiffersInSlot 1 m n → ⊥
  behind_slot_1 other it = other (it.elsewhere 0x3C080 (inr (omega arith)))

  before_a_number : byte_at n 0x3C00F ≢ byte_at m 0x3C00F → DiffersWithin 0x3C010 0x3C014 m n → ⊥
  before_a_number other it = other (it.elsewhere 0x3C00F (inl (omega arith)))

  behind_a_number : byte_at n 0x3C014 ≢ byte_at m 0x3C014 → DiffersWithin 0x3C010 0x3C014 m n → ⊥
  behind_a_number other it = other (it.elsewhere 0x3C014 (inr (omega arith)))

  -- the last byte of the log's frames, and the first one behind the slots
  before_the_regions : byte_at n 0x29FFF ≢ byte_at m 0x29FFF → DiffersInRegions m n → ⊥
  before_the_regions other it = other (it.elsewhere 0x29FFF (inl (omega arith)))

  behind_the_regions : byte_at n 0x40000 ≢ byte_at m 0x40000 → DiffersInRegions m n → ⊥
  behind_the_regions other it = other (it.elsewhere 0x40000 (inr (omega arith)))

-- a number that two bytes don't hold, a frame behind the row's bytes, and one of a row of the pool
module _ (row : Row) (it : IsStorableRow row) where
  slot_of_17_bits : row.slot ≡ 65536 → ⊥
  slot_of_17_bits is = let small = it.slot in omega (arith, is, small)

  second_frame_of_one_page : row.size ≡ 4096 → slice_index row.frames 1 ≢ 0 → ⊥
  second_frame_of_one_page is other = other (it.frames 1 (omega arith) (inr (omega (arith, is))))

  last_frame_of_the_pool : row.pooled ≡ true → slice_index row.frames 15 ≢ 0 → ⊥
  last_frame_of_the_pool pooled other = other (it.frames 15 (omega arith) (inl pooled))
