-- The bits, and what the rows of the book stand for.
use Rattle.std.specs.Prelude.{◌≡◌, ◌⊎◌, ◌≤◌, ℕ, ◌+◌, ◌-◌, ◌*◌, ◌/◌, ◌%◌, ◌^◌, Bool, true, false, ◌&&◌, ◌==◌, nat_le, nat_lt, if◌then◌else◌, List, [], ◌∷◌, length, map, replicate, take, slice_get, slice_index, Option, Some, All, AllPairs}
use Rattle.std.specs.List.{find, range_with_len, sum_by}
use Rattle.region_book.specs.declared.row.Row.{Row}
use Rattle.region_book.specs.RegionCalls.{meets}
use Rattle.nk_bits.specs.KernelLayout.{pool_frame, pool_start}
use Rattle.region_book.specs.RegionRecords.{Book, RegionRecord}

-- Bits.

-- bit i of a number
abbrev pub bit_of : ℕ → ℕ → Bool
bit_of n i = n / 2 ^ i % 2 == 1

-- bit k of a list of bytes
unfoldable pub bit_in : List ℕ → ℕ → Bool
bit_in bits k = bit_of (slice_index bits (k / 8)) (k % 8)

-- one of so many from the first on
abbrev pub in_run : ℕ → ℕ → ℕ → Bool
in_run from count k = nat_le from k && nat_lt k (from + count)

-- Rows.

-- the first bit of a row: the pool's bits stand first, and then 4,096 a slot
unfoldable pub first_bit : Row → ℕ
first_bit row = if row.pooled then row.first - pool_start else 65536 + 4096 * row.slot

-- so many bits from a first one on
unfoldable pub bits_from : List ℕ → ℕ → ℕ → List Bool
bits_from bits first count = map (λ k. bit_in bits (first + k)) (range_with_len 0 count)

unfoldable pub frames_of_row : Row → List ℕ
frames_of_row row =
    if row.pooled then range_with_len (pool_frame + (row.first - pool_start) / 4096)
    (((row.first - pool_start) % 4096 + row.size + 4095) / 4096)
    else take (row.size / 4096) row.frames

unfoldable pub place_of_row : Row → ℕ
place_of_row row = if row.pooled then (row.first - pool_start) % 4096 else 0

-- the region that a row stands for, where these of its bytes were written
abbrev pub region_with : List Bool → Row → RegionRecord
region_with written row = record {
  id = row.id;
  policy = row.policy;
  pooled = row.pooled;
  first = row.first;
  size = row.size;
  frames = frames_of_row row;
  place = place_of_row row;
  written = written;
  tail = row.tail;
}

abbrev pub region_at : List ℕ → Row → RegionRecord
region_at bits row = region_with (bits_from bits (first_bit row) row.size) row

-- a new region
abbrev pub region_of_row : Row → RegionRecord
region_of_row row = region_with (replicate row.size false) row

-- a row whose tail moved, where it is append-only
abbrev pub moved : Row → ℕ → Row
moved row tail = record row { tail = if row.policy == 2 then tail else row.tail }

-- the row of an identifier
abbrev pub row_of : List Row → ℕ → Option Row
row_of rows id = find (λ row. row.id == id) rows

-- a row of the pool has a byte of the range
abbrev pub row_meets : ℕ → ℕ → Row → Bool
row_meets size p row = row.pooled && meets p size (row.first - pool_start) row.size

-- the place in memory of a row's byte
unfoldable pub row_place : Row → ℕ → ℕ
row_place row offset =
    if row.pooled then 4096 * pool_frame + (row.first - pool_start) + offset
    else 4096 * slice_index row.frames (offset / 4096) + offset % 4096

-- the stores that put bytes in a row's region from an offset on
unfoldable pub row_stores : Row → ℕ → List ℕ → List (ℕ × ℕ)
row_stores row offset [] = []
row_stores row offset (b ∷ bs) = (row_place row offset, b) ∷ row_stores row (offset + 1) bs

-- a row lies in the pool, or in slots below so many
pub record IsHeld (slots : ℕ) (row : Row) : Type 0 where
  pub size : row.size ≤ 65536
  pub pooled : row.pooled ≡ true → (pool_start ≤ row.first) × (row.first + row.size ≤ pool_start + 65536)
  pub declared : row.pooled ≡ false → (row.size % 4096 ≡ 0) × (4096 * row.slot + row.size ≤ 4096 * slots)

-- two rows have no bit in common
abbrev pub AreApart : Row → Row → Type 0
AreApart one other = (first_bit one + one.size ≤ first_bit other) ⊎ (first_bit other + other.size ≤ first_bit one)

-- the pages of a row that was declared
abbrev pub pages_of_row : Row → ℕ
pages_of_row row = if row.pooled then 0 else row.size / 4096

-- the pages of all rows are numbered from 0 on, row by row: a row has the number of its first page, and 0 where it lies in the
-- pool; and there are so many
pub record AreNumbered (rows : List Row) (declared : ℕ) : Type 0 where
  pub each : (i : ℕ) (row : Row) → slice_get rows i ≡ Some row
      → row.slot ≡ (if row.pooled then 0 else sum_by pages_of_row (take i rows))
  pub pages : sum_by pages_of_row rows ≡ declared

-- at most 256 rows, their pages numbered in order, each with bits of its own
pub record AreRowsKept (rows : List Row) (bits : List ℕ) (declared : ℕ) : Type 0 where
  pub count : length rows ≤ 256
  pub room : length bits ≡ 73728
  pub most : declared ≤ 128
  pub numbers : AreNumbered rows declared
  pub held : All (IsHeld declared) rows
  pub apart : AllPairs AreApart rows

-- the book that rows and bits stand for
abbrev pub book_of : List Row → List ℕ → ℕ → ℕ → Book
book_of rows bits next declared = record { regions = map (region_at bits) rows; next = next; declared = declared }
