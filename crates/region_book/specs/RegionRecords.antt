-- Protected regions, as plain data: what each is, where its bytes stand, and what a sound book of them is.
use Rattle.std.specs.Prelude.{◌≡◌, ◌≢◌, ◌⊎◌, ◌<◌, ◌≤◌, ℕ, ◌+◌, ◌-◌, ◌*◌, ◌/◌, ◌%◌, Bool, true, false, ◌&&◌, ◌||◌, ◌==◌, nat_le, nat_lt, if◌then◌else◌, List, [], ◌∷◌, length, map, filter, slice_index, slice_index_or, Option, All, AllPairs}
use Rattle.std.specs.List.{find, list_any, range_with_len, sum_by}
use Rattle.nk_bits.specs.KernelLayout.{pool_end, pool_frame, pool_start}
use Rattle.region_book.specs.declared.regions.Region.{Region}

-- a region: its identifier; its policy, 1 to 4; whether it lies in the pool; its first linear address; its size in bytes;
-- the frames that hold it, in order, and the place of its first byte in the first of them; which of its bytes were written,
-- by offset; and its tail, behind the last byte that was appended
pub record RegionRecord : Type 0 where
  pub id : ℕ
  pub policy : ℕ
  pub pooled : Bool
  pub first : ℕ
  pub size : ℕ
  pub frames : List ℕ
  pub place : ℕ
  pub written : List Bool
  pub tail : ℕ

-- a region, as others see it
abbrev pub shown_region : RegionRecord → Region
shown_region r = record { id = r.id; policy = r.policy; place = r.first; size = r.size; tail = r.tail; pooled = r.pooled }

-- the live regions by identifier, the next identifier, and how many pages were declared
pub record Book : Type 0 where
  pub regions : List RegionRecord
  pub next : ℕ
  pub declared : ℕ

-- the live region that has an identifier
abbrev pub region_of : Book → ℕ → Option RegionRecord
region_of book id = find (λ r. r.id == id) book.regions

-- the place in memory of the byte at an offset
abbrev pub byte_place : RegionRecord → ℕ → ℕ
byte_place r offset = 4096 * slice_index r.frames ((r.place + offset) / 4096) + (r.place + offset) % 4096

-- the stores that put bytes in a region from an offset on
unfoldable pub region_stores : RegionRecord → ℕ → List ℕ → List (ℕ × ℕ)
region_stores r offset [] = []
region_stores r offset (b ∷ bs) = (byte_place r offset, b) ∷ region_stores r (offset + 1) bs

-- a byte of the range was written before
abbrev pub is_written_in : RegionRecord → ℕ → ℕ → Bool
is_written_in r offset count = list_any (λ k. slice_index_or r.written k false) (range_with_len offset count)

-- the region once a range was written: its bytes count as written, and an append-only region's tail stands behind them
abbrev pub marked : RegionRecord → ℕ → ℕ → RegionRecord
marked r offset count = record r {
  written = map (λ k. slice_index_or r.written k false || (nat_le offset k && nat_lt k (offset + count))) (range_with_len 0 r.size);
  tail = if r.policy == 2 then offset + count else r.tail;
}

-- the book with another region in place of the one that has its identifier
abbrev pub with_region : Book → RegionRecord → Book
with_region book r = record book { regions = map (λ other. if other.id == r.id then r else other) book.regions }

-- each frame stands once
abbrev pub IsEachOnce : List ℕ → Type 0
IsEachOnce frames = AllPairs (λ f g. f ≢ g) frames

-- what holds of each region below a next identifier: it is a range of the pool, in the pool's frames, or whole frames, each
-- once and none of the pool's; written bytes and tail within
pub record IsRegion (next : ℕ) (r : RegionRecord) : Type 0 where
  pub least : 256 ≤ r.id
  pub below : r.id < next
  pub policy : (1 ≤ r.policy) × (r.policy ≤ 4)
  pub size : (1 ≤ r.size) × (r.size ≤ 65536)
  pub written : length r.written ≡ r.size
  pub tail : r.tail ≤ r.size
  pub held : r.place + r.size ≤ 4096 * length r.frames
  pub pooled : r.pooled ≡ true → (pool_start ≤ r.first) × (r.first + r.size ≤ pool_start + 65536)
      × (r.place ≡ (r.first - pool_start) % 4096)
      × (r.frames ≡ range_with_len (pool_frame + (r.first - pool_start) / 4096) ((r.place + r.size + 4095) / 4096))
  pub declared : r.pooled ≡ false → (r.place ≡ 0) × (r.size ≡ 4096 * length r.frames) × IsEachOnce r.frames
      × All (λ f. (f < pool_frame) ⊎ (pool_end ≤ f)) r.frames

-- two regions of the pool don't meet, and two that were declared have no frame in common
pub record IsApart (one other : RegionRecord) : Type 0 where
  pub pool : one.pooled ≡ true → other.pooled ≡ true
      → (one.first + one.size ≤ other.first) ⊎ (other.first + other.size ≤ one.first)
  pub pages : one.pooled ≡ false → other.pooled ≡ false → All (λ f. All (λ g. f ≢ g) other.frames) one.frames

-- the pages of a region that was declared
abbrev pub pages_of_region : RegionRecord → ℕ
pages_of_region r = if r.pooled then 0 else length r.frames

-- how many pages were declared before an identifier was given
abbrev pub declared_before : Book → ℕ → ℕ
declared_before book id = sum_by pages_of_region (filter (λ r. nat_lt r.id id) book.regions)

-- a sound book: identifiers from 256 on rise and are below the next one, at most 256 regions live, they lie apart, and the
-- pages that were declared are those of the regions, at most 128
pub record IsBook (book : Book) : Type 0 where
  pub next : 256 ≤ book.next
  pub count : length book.regions ≤ 256
  pub each : All (IsRegion book.next) book.regions
  pub rising : AllPairs (λ one other. one.id < other.id) book.regions
  pub apart : AllPairs IsApart book.regions
  pub pages : book.declared ≡ sum_by pages_of_region book.regions
  pub most : book.declared ≤ 128
