-- How memory holds the regions: 256 slots of 64 bytes in frames 60 to 63, and a bit for each byte that was written in frames
-- 42 to 59. All numbers are little-endian. Nobody but the nested kernel sees these bytes.
--
-- A slot has the identifier in eight bytes, 0 where it holds no region, the first linear address in eight, the size and the
-- tail in four each, the policy, 1 where the region lies in the pool, the number of pages that were declared before it in two
-- bytes, 0 where it lies in the pool, four that are 0, and its frames in two bytes each, 0 where there is none or the region
-- lies in the pool.
--
-- The pool's 65,536 bytes have the first bits, and 4,096 more belong to each page that was declared, in order. Bit b is bit
-- b mod 8 of byte b / 8.
use Rattle.std.specs.Prelude.{◌≡◌, ◌⊎◌, ◌<◌, ◌≤◌, ℕ, ◌+◌, ◌*◌, true, false, ◌==◌, List, length, map, take, drop, All}
use Rattle.std.specs.List.{list_any, range_with_len}
use Rattle.phys_mem.specs.Memory.{byte_at, number_at}
use Rattle.region_book.specs.declared.row.Row.{Row}
use Rattle.region_book.specs.RegionRecords.{Book, IsEachOnce}
use Rattle.region_book.specs.RegionRows.{AreRowsKept, bit_in, book_of, first_bit, in_run}

-- what the book keeps outside memory: the slots of the live regions in the order of their identifiers, the next identifier,
-- and how many pages were declared
pub record RegionIndex : Type 0 where
  pub slots : List ℕ
  pub next : ℕ
  pub declared : ℕ

-- the first byte of a slot
abbrev pub slot_place : ℕ → ℕ
slot_place s = 0x3C000 + 64 * s

-- the region that stands in a slot, but for its written bytes
unfoldable pub row_in : List ℕ → ℕ → Row
row_in m s = record {
  id = number_at m 8 (slot_place s);
  first = number_at m 8 (slot_place s + 8);
  size = number_at m 4 (slot_place s + 16);
  tail = number_at m 4 (slot_place s + 20);
  policy = byte_at m (slot_place s + 24);
  pooled = byte_at m (slot_place s + 25) == 1;
  slot = number_at m 2 (slot_place s + 26);
  frames = map (λ i. number_at m 2 (slot_place s + 32 + 2 * i)) (range_with_len 0 16);
}

-- the bytes of the bits
unfoldable pub bits_in : List ℕ → List ℕ
bits_in m = take 73728 (drop 0x2A000 m)

-- the book that stands in memory
abbrev pub book_in : RegionIndex → List ℕ → Book
book_in index m = book_of (map (row_in m) index.slots) (bits_in m) index.next index.declared

-- the slot has its form beside what the row tells
pub record HasRowForm (m : List ℕ) (s : ℕ) : Type 0 where
  pub pooled : byte_at m (slot_place s + 25) ≤ 1
  pub unused : number_at m 4 (slot_place s + 28) ≡ 0
  pub frames : (i : ℕ) → i < 16 → ((row_in m s).pooled ≡ true) ⊎ ((row_in m s).size ≤ 4096 * i)
      → number_at m 2 (slot_place s + 32 + 2 * i) ≡ 0

-- memory holds regions in these slots, each in one of its own, and 0 in all others; and no bit is set but those of live regions
pub record HoldsRegions (index : RegionIndex) (m : List ℕ) : Type 0 where
  pub size : 0x40000 ≤ length m
  pub slots : All (λ s. s < 256) index.slots
  pub once : IsEachOnce index.slots
  pub kept : AreRowsKept (map (row_in m) index.slots) (bits_in m) index.declared
  pub rows : All (HasRowForm m) index.slots
  pub free : (s p : ℕ) → s < 256 → list_any (λ t. t == s) index.slots ≡ false → p < 64 → byte_at m (slot_place s + p) ≡ 0
  pub bits : (k : ℕ) → bit_in (bits_in m) k ≡ true
      → list_any (λ s. in_run (first_bit (row_in m s)) (row_in m s).size k) index.slots ≡ true

-- a region that lives before a change and after it stands in the same slot, and its first page has the same number
abbrev pub KeepsSlots : RegionIndex → List ℕ → RegionIndex → List ℕ → Type 0
KeepsSlots before m after n =
    All (λ s. All (λ t. (row_in n t).id ≡ (row_in m s).id → (t ≡ s) × ((row_in n t).slot ≡ (row_in m s).slot)) after.slots)
    before.slots

-- two memories of one size differ in no byte but those of the regions' slots and bits
pub record DiffersInRegions (before after : List ℕ) : Type 0 where
  pub size : length after ≡ length before
  pub elsewhere : (p : ℕ) → (p < 0x2A000) ⊎ (0x40000 ≤ p) → byte_at after p ≡ byte_at before p
