-- The calls on regions: pages are declared, a region of the pool is allocated, and freed again. Each has its rules, of which
-- the first that is broken is the answer, and what it makes of the book.
use Rattle.std.specs.Prelude.{ℕ, zero, suc, ◌+◌, ◌-◌, ◌*◌, ◌/◌, ◌%◌, Bool, true, false, not, ◌&&◌, ◌||◌, ◌==◌, nat_le, nat_lt, if◌then◌else◌, List, [], ◌∷◌, ◌++◌, length, map, filter, replicate, slice_index, Option, None, Some, is_none, Result, Ok, Err}
use Rattle.std.specs.List.{find, list_any, range_with_len}
use Rattle.nk_bits.specs.declared.kind.Kind.{Kind}
use Rattle.nk_bits.specs.declared.kind.Kind.TheVariants.{Guarded}
use Rattle.nk_bits.specs.declared.leaf.Leaf.{Leaf}
use Rattle.nk_bits.specs.declared.rule.Rule.{Rule}
use Rattle.nk_bits.specs.declared.rule.Rule.TheVariants.{BadPolicy, BadRange, BadRegion, NoRoom, NotAllocated, NotData, StillLoose, TooManyRegions}
use Rattle.nk_bits.specs.Kinds.{is_data, kind_of}
use Rattle.nk_bits.specs.Paging.{is_canonical, is_canonical_page, walk}
use Rattle.nk_bits.specs.KernelLayout.{pool_frame, pool_start}
use Rattle.region_book.specs.RegionRecords.{Book, RegionRecord, region_of}

-- the rule is the first that is broken, where this is so, and else one of the later rules, if any
abbrev pub else_rule : Bool → Rule → Option Rule → Option Rule
else_rule is_broken rule later = if is_broken then Some rule else later

abbrev pub is_policy : ℕ → Bool
is_policy policy = nat_le 1 policy && nat_le policy 4

-- The pool.

-- two ranges have a byte in common
abbrev pub meets : ℕ → ℕ → ℕ → ℕ → Bool
meets p size q count = nat_lt p (q + count) && nat_lt q (p + size)

-- a live region of the pool has a byte of the range
abbrev pub is_range_taken : List RegionRecord → ℕ → ℕ → Bool
is_range_taken regions size p = list_any (λ r. r.pooled && meets p size (r.first - pool_start) r.size) regions

-- the least multiple of 16 from which on so many bytes of the pool are free
unfoldable pub room : List RegionRecord → ℕ → Option ℕ
room regions size =
    find (λ p. nat_le (p + size) 65536 && not (is_range_taken regions size p)) (map (λ k. 16 * k) (range_with_len 0 4096))

unfoldable pub alloc_rule : Book → ℕ → ℕ → Option Rule
alloc_rule book size policy =
    else_rule (size == 0 || nat_lt 65536 size) BadRange
    (else_rule (not (is_policy policy)) BadPolicy
    (else_rule (nat_le 256 (length book.regions)) TooManyRegions
    (else_rule (is_none (room book.regions size)) NoRoom None)))

-- the new region at a place of the pool, with no byte written
abbrev pub pool_region : Book → ℕ → ℕ → ℕ → RegionRecord
pool_region book size policy p = record {
  id = book.next;
  policy = policy;
  pooled = true;
  first = pool_start + p;
  size = size;
  frames = range_with_len (pool_frame + p / 4096) ((p % 4096 + size + 4095) / 4096);
  place = p % 4096;
  written = replicate size false;
  tail = 0;
}

-- the book with a region more
abbrev pub with_one_more : Book → RegionRecord → ℕ → Book
with_one_more book r pages = record {
  regions = book.regions ++ r ∷ [];
  next = book.next + 1;
  declared = book.declared + pages;
}

-- freeing a region, which was allocated
abbrev pub free_rule_of : Option RegionRecord → Option Rule
free_rule_of None = Some BadRegion
free_rule_of (Some r) = else_rule (not r.pooled) NotAllocated None

abbrev pub free_rule : Book → ℕ → Option Rule
free_rule book id = free_rule_of (region_of book id)

abbrev pub freed : Book → ℕ → Book
freed book id = record book { regions = filter (λ r. not (r.id == id)) book.regions }

-- The range of a write.

-- the range isn't empty and lies in the region
abbrev pub fits_region : Option RegionRecord → ℕ → ℕ → Bool
fits_region None offset count = false
fits_region (Some r) offset count = nat_le 1 count && nat_le (offset + count) r.size

abbrev pub fits_in : Book → ℕ → ℕ → ℕ → Bool
fits_in book id offset count = fits_region (region_of book id) offset count

-- Pages.

-- the frame that a page is mapped to by the tables t, where it is canonical and mapped
abbrev pub leaf_frame : Result Leaf ℕ → Option ℕ
leaf_frame (Ok leaf) = Some leaf.frame
leaf_frame (Err level) = None

abbrev pub mapped : (ℕ → ℕ → ℕ) → ℕ → ℕ → ℕ → Option ℕ
mapped t frames root page = if is_canonical_page page then leaf_frame (walk t frames root page) else None

-- the frames of so many pages from a page on, where each is mapped
abbrev pub pages_joined : Option ℕ → Option (List ℕ) → Option (List ℕ)
pages_joined (Some f) (Some fs) = Some (f ∷ fs)
pages_joined _ _ = None

unfoldable pub frames_from : (ℕ → Option ℕ) → ℕ → ℕ → Option (List ℕ)
frames_from at page zero = Some []
frames_from at page (suc n) = pages_joined (at page) (frames_from at (page + 1) n)

-- two places of the list hold the same frame
unfoldable pub has_twice : List ℕ → Bool
has_twice frames =
    list_any (λ i. list_any (λ j. slice_index frames i == slice_index frames j) (range_with_len 0 i))
    (range_with_len 0 (length frames))

-- the range is out of bounds, or not of whole, mapped pages of distinct frames
abbrev pub is_bad_range : ℕ → ℕ → Bool
is_bad_range address size =
    not (is_canonical address) || not (address % 4096 == 0) || size == 0 || not (size % 4096 == 0) || nat_lt 65536 size

-- the rules on the frames of the range, and what is declared of them
abbrev pub frames_rule : Book → List Kind → (ℕ → ℕ) → ℕ → Option (List ℕ) → Option Rule
frames_rule book kinds loose policy None = Some BadRange
frames_rule book kinds loose policy (Some fs) =
    else_rule (has_twice fs) BadRange
    (else_rule (not (is_policy policy)) BadPolicy
    (else_rule (nat_le 256 (length book.regions)) TooManyRegions
    (else_rule (nat_lt 128 (book.declared + length fs)) NoRoom
    (else_rule (list_any (λ f. not (is_data (kind_of kinds f))) fs) NotData
    (else_rule (list_any (λ f. not (loose f == 0)) fs) StillLoose None)))))

-- a page's frame is given by at, the loose leaves of a frame by loose
unfoldable pub pages_rule : Book → List Kind → (ℕ → ℕ) → (ℕ → Option ℕ) → ℕ → ℕ → ℕ → Option Rule
pages_rule book kinds loose at address size policy =
    if is_bad_range address size then Some BadRange
    else frames_rule book kinds loose policy (frames_from at (address / 4096) (size / 4096))

abbrev pub page_region : Book → ℕ → ℕ → ℕ → List ℕ → RegionRecord
page_region book address size policy fs = record {
  id = book.next;
  policy = policy;
  pooled = false;
  first = address;
  size = size;
  frames = fs;
  place = 0;
  written = replicate size false;
  tail = 0;
}

-- the kinds with these frames guarded
unfoldable pub guarded : List Kind → List ℕ → List Kind
guarded kinds frames =
    map (λ f. if list_any (λ g. g == f) frames then Guarded else kind_of kinds f) (range_with_len 0 (length kinds))
