-- Regions of a sound book, declared frames, regions in memory, and the numbers of their pages.
use Rattle.std.specs.Prelude.{◌≡◌, ◌≢◌, ◌<◌, ◌≤◌, ℕ, ◌+◌, All, List, [], ◌∷◌, None, Some, false, if◌then◌else◌, length, slice_index_or, slice_set}
use Rattle.phys_mem.specs.MaskedMemory.{seen}
use Rattle.phys_mem.specs.Memory.{byte_at, stored}
use Rattle.nk_bits.specs.declared.kind.Kind.{Kind}
use Rattle.nk_bits.specs.declared.kind.Kind.TheVariants.{Guarded}
use Rattle.region_book.specs.RegionBytes.{DiffersInRegions, HoldsRegions, RegionIndex, book_in, row_in}
use Rattle.region_book.specs.RegionCalls.{free_rule, freed, guarded, has_twice, with_one_more}
use Rattle.region_book.specs.RegionRecords.{Book, IsBook, IsEachOnce, RegionRecord, byte_place, declared_before, marked, region_of, region_stores, with_region}

-- each byte of a live region has a place of its own
pub record ApartLaws : Type 0 where
  pub within : (book : Book) (id a b : ℕ) (r : RegionRecord) → IsBook book → region_of book id ≡ Some r
      → a < r.size → b < r.size → a ≢ b → byte_place r a ≢ byte_place r b
  pub between : (book : Book) (id other a b : ℕ) (r q : RegionRecord) → IsBook book → id ≢ other
      → region_of book id ≡ Some r → region_of book other ≡ Some q
      → a < r.size → b < q.size → byte_place r a ≢ byte_place q b
  pub stays : (book : Book) (id other offset b : ℕ) (r q : RegionRecord) (m bytes : List ℕ) → IsBook book → id ≢ other
      → region_of book id ≡ Some r → region_of book other ≡ Some q → offset + length bytes ≤ r.size → b < q.size
      → byte_at (stored m (region_stores r offset bytes)) (byte_place q b) ≡ byte_at m (byte_place q b)
  pub listed : (book : Book) (k : ℕ) (d : RegionRecord) → IsBook book → k < length book.regions
      → region_of book (slice_index_or book.regions k d).id ≡ Some (slice_index_or book.regions k d)

-- the frames of a declaration
pub record DeclaredLaws : Type 0 where
  pub once : (frames : List ℕ) → has_twice frames ≡ false → IsEachOnce frames
  pub none : (kinds : List Kind) → guarded kinds [] ≡ kinds
  pub more : (kinds : List Kind) (f : ℕ) (frames : List ℕ)
      → guarded kinds (f ∷ frames) ≡ guarded (slice_set kinds f Guarded) frames

-- regions in memory, over changes of other bytes and of theirs
pub record HeldRegionsLaws : Type 0 where
  pub agree : (index : RegionIndex) (m n : List ℕ) → HoldsRegions index m → length n ≡ length m
      → ((p : ℕ) → 0x2A000 ≤ p → p < 0x40000 → byte_at n p ≡ byte_at m p)
      → (book_in index n ≡ book_in index m) × HoldsRegions index n
  pub unseen : (m n : List ℕ) → 0x40000 ≤ length m → DiffersInRegions m n → seen n ≡ seen m

-- the number of a region's first page in memory is that of the pages that were declared before it, which the book gives, and
-- no call on regions changes that
pub record NumberedLaws : Type 0 where
  pub number : (index : RegionIndex) (m : List ℕ) → HoldsRegions index m → IsBook (book_in index m)
      → All (λ s. (row_in m s).slot ≡ (if (row_in m s).pooled then 0 else declared_before (book_in index m) (row_in m s).id))
      index.slots
  pub added : (book : Book) (r : RegionRecord) (pages id : ℕ) → id ≤ r.id
      → declared_before (with_one_more book r pages) id ≡ declared_before book id
  pub let_go : (book : Book) (id other : ℕ) → IsBook book → free_rule book id ≡ None
      → declared_before (freed book id) other ≡ declared_before book other
  pub written : (book : Book) (id other offset count : ℕ) (r : RegionRecord) → IsBook book → region_of book id ≡ Some r
      → declared_before (with_region book (marked r offset count)) other ≡ declared_before book other
