-- Regions at worked values.
use Rattle.std.proofs.Common.{◌≡◌, ℕ, ◌+◌, ◌*◌, Bool, true, false, List, [], ◌∷◌, None, Some, Option, map, replicate, refl}
use Rattle.std.specs.Prelude.{if◌then◌else◌, ◌==◌}
use Rattle.std.specs.List.{range_with_len}
use Rattle.nk_bits.specs.declared.kind.Kind.TheVariants.{Data, Code, Table, Fixed, Trap, Guarded, Hidden}
use Rattle.nk_bits.specs.declared.rule.Rule.{Rule}
use Rattle.nk_bits.specs.declared.rule.Rule.TheVariants.{BadPolicy, BadRange, BadRegion, NoRoom, NotAllocated, NotData, StillLoose, TooManyRegions}
use Rattle.region_book.specs.RegionCalls.{with_one_more, alloc_rule, pages_rule, frames_from, frames_rule, free_rule, freed, guarded, has_twice, is_bad_range, page_region, pool_region, room}
use Rattle.region_book.specs.RegionRecords.{Book, RegionRecord, byte_place, is_written_in, marked, region_stores}

-- a write-once region of the pool: so many bytes from a place in it on; what no rule looks at is left empty
abbrev allocated : ℕ → ℕ → ℕ → RegionRecord
allocated id place size = record {
  id = id;
  policy = 1;
  pooled = true;
  first = 0xFFFFFF8000010000 + place;
  size = size;
  frames = [];
  place = 0;
  written = [];
  tail = 0;
}

-- a write-once region of one page, which was declared at the address at which the pool begins
abbrev page : ℕ → RegionRecord
page id = record {
  id = id;
  policy = 1;
  pooled = false;
  first = 0xFFFFFF8000010000;
  size = 4096;
  frames = 71 ∷ [];
  place = 0;
  written = [];
  tail = 0;
}

abbrev book_with : List RegionRecord → ℕ → Book
book_with regions declared = record { regions = regions; next = 512; declared = declared }

-- the least multiple of 16 from which on the bytes are free
rooms :
    (room [] 1 ≡ Some 0) ×
    (room [] 65536 ≡ Some 0) ×
    (room (allocated 256 0 1 ∷ []) 1 ≡ Some 16) ×
    (room (allocated 256 0 16 ∷ []) 1 ≡ Some 16) ×
    (room (allocated 256 0 17 ∷ []) 1 ≡ Some 32) ×
    (room (allocated 256 0 1 ∷ []) 65520 ≡ Some 16) ×
    (room (allocated 256 16 1 ∷ []) 16 ≡ Some 0) ×
    (room (allocated 256 16 1 ∷ []) 17 ≡ Some 32)
unfolding room
rooms = (refl, refl, refl, refl, refl, refl, refl, refl)

-- a hole of 32 bytes takes no 33, in whatever order the regions stand; a page that was declared takes none of the pool
holes :
    (room (allocated 256 0 16 ∷ allocated 257 48 16 ∷ []) 32 ≡ Some 16) ×
    (room (allocated 256 0 16 ∷ allocated 257 48 16 ∷ []) 33 ≡ Some 64) ×
    (room (allocated 256 48 16 ∷ allocated 257 0 16 ∷ []) 32 ≡ Some 16) ×
    (room (allocated 256 48 16 ∷ allocated 257 0 16 ∷ []) 33 ≡ Some 64) ×
    (room (page 256 ∷ []) 65536 ≡ Some 0)
unfolding room
holes = (refl, refl, refl, refl, refl)

-- no place fits: behind one byte for 65,521, and in a full pool for a single one
no_rooms :
    (room (allocated 256 0 1 ∷ []) 65521 ≡ None) ×
    (room (allocated 256 0 65536 ∷ []) 1 ≡ None) ×
    (room (allocated 256 0 16384 ∷ allocated 257 16384 32768 ∷ allocated 258 49152 16384 ∷ []) 1 ≡ None)
unfolding room
no_rooms = (refl, refl, refl)

abbrev full : List RegionRecord
full = allocated 256 0 65536 ∷ []

-- 256 regions that fill the pool
abbrev many_full : List RegionRecord
many_full = map (λ k. allocated (256 + k) (256 * k) 256) (range_with_len 0 256)

-- each rule on an allocation alone, at its bounds
allocations :
    (alloc_rule (book_with [] 0) 0 1 ≡ Some BadRange) ×
    (alloc_rule (book_with [] 0) 1 1 ≡ None) ×
    (alloc_rule (book_with [] 0) 65536 4 ≡ None) ×
    (alloc_rule (book_with [] 0) 65537 4 ≡ Some BadRange) ×
    (alloc_rule (book_with [] 0) 16 0 ≡ Some BadPolicy) ×
    (alloc_rule (book_with [] 0) 16 2 ≡ None) ×
    (alloc_rule (book_with [] 0) 16 3 ≡ None) ×
    (alloc_rule (book_with [] 0) 16 5 ≡ Some BadPolicy) ×
    (alloc_rule (book_with (replicate 255 (page 256)) 0) 16 1 ≡ None) ×
    (alloc_rule (book_with (replicate 256 (page 256)) 0) 16 1 ≡ Some TooManyRegions) ×
    (alloc_rule (book_with full 0) 16 1 ≡ Some NoRoom)
unfolding alloc_rule room
allocations = (refl, refl, refl, refl, refl, refl, refl, refl, refl, refl, refl)

-- of two that an allocation breaks, the first: the size, the policy, the number of regions, the room
allocation_orders :
    (alloc_rule (book_with [] 0) 0 5 ≡ Some BadRange) ×
    (alloc_rule (book_with [] 0) 65537 0 ≡ Some BadRange) ×
    (alloc_rule (book_with (replicate 256 (page 256)) 0) 0 1 ≡ Some BadRange) ×
    (alloc_rule (book_with full 0) 65537 1 ≡ Some BadRange) ×
    (alloc_rule (book_with (replicate 256 (page 256)) 0) 16 5 ≡ Some BadPolicy) ×
    (alloc_rule (book_with full 0) 16 0 ≡ Some BadPolicy) ×
    (alloc_rule (book_with many_full 0) 16 1 ≡ Some TooManyRegions)
unfolding alloc_rule room
allocation_orders = (refl, refl, refl, refl, refl, refl, refl)

-- what lives is freed, if it was allocated
frees :
    (free_rule (book_with [] 0) 256 ≡ Some BadRegion) ×
    (free_rule (book_with (allocated 256 0 16 ∷ page 258 ∷ []) 1) 255 ≡ Some BadRegion) ×
    (free_rule (book_with (allocated 256 0 16 ∷ page 258 ∷ []) 1) 257 ≡ Some BadRegion) ×
    (free_rule (book_with (allocated 256 0 16 ∷ page 258 ∷ []) 1) 258 ≡ Some NotAllocated) ×
    (free_rule (book_with (allocated 256 0 16 ∷ page 258 ∷ []) 1) 256 ≡ None) ×
    (freed (book_with (allocated 256 0 16 ∷ allocated 257 16 16 ∷ page 258 ∷ []) 1) 257
    ≡ book_with (allocated 256 0 16 ∷ page 258 ∷ []) 1)
frees = (refl, refl, refl, refl, refl, refl)

-- a range of pages begins at a canonical multiple of 4,096, and has one to sixteen pages
ranges :
    (is_bad_range 0 4096 ≡ false) ×
    (is_bad_range 0x7FFFFFFFF000 4096 ≡ false) ×
    (is_bad_range 0x800000000000 4096 ≡ true) ×
    (is_bad_range 0xFFFF7FFFFFFFF000 4096 ≡ true) ×
    (is_bad_range 0xFFFF800000000000 4096 ≡ false) ×
    (is_bad_range 0xFFFFFFFFFFFFF000 4096 ≡ false) ×
    (is_bad_range 0x1001 4096 ≡ true) ×
    (is_bad_range 0x1800 4096 ≡ true) ×
    (is_bad_range 0x1000 0 ≡ true) ×
    (is_bad_range 0x1000 4095 ≡ true) ×
    (is_bad_range 0x1000 4097 ≡ true) ×
    (is_bad_range 0x1000 6144 ≡ true) ×
    (is_bad_range 0x1000 65536 ≡ false) ×
    (is_bad_range 0x1000 69632 ≡ true)
ranges = (refl, refl, refl, refl, refl, refl, refl, refl, refl, refl, refl, refl, refl, refl)

-- two places of a list with the same frame
twices :
    (has_twice [] ≡ false) ×
    (has_twice (71 ∷ []) ≡ false) ×
    (has_twice (71 ∷ 80 ∷ 72 ∷ []) ≡ false) ×
    (has_twice (71 ∷ 71 ∷ []) ≡ true) ×
    (has_twice (71 ∷ 80 ∷ 71 ∷ []) ≡ true) ×
    (has_twice (80 ∷ 71 ∷ 71 ∷ []) ≡ true)
unfolding has_twice
twices = (refl, refl, refl, refl, refl, refl)

-- the rule that declaring these frames breaks first: frames 0 and 1 are data, frame 1 has a loose leaf, frame 2 is fixed
-- and has one too, and frame 3 is fixed and has none
abbrev declaring : List RegionRecord → ℕ → ℕ → List ℕ → Option Rule
declaring regions declared policy frames =
    frames_rule (book_with regions declared) (Data ∷ Data ∷ Fixed ∷ Fixed ∷ [])
    (λ f. if f == 1 then 1 else if f == 2 then 2 else 0) policy (Some frames)

-- each rule on the frames alone, at its bounds; a page that isn't mapped gives no frames
declarations :
    (frames_rule (book_with [] 0) (Data ∷ []) (λ f. 0) 1 None ≡ Some BadRange) ×
    (declaring [] 0 1 (0 ∷ 0 ∷ []) ≡ Some BadRange) ×
    (declaring [] 0 0 (0 ∷ []) ≡ Some BadPolicy) ×
    (declaring [] 0 5 (0 ∷ []) ≡ Some BadPolicy) ×
    (declaring (replicate 255 (page 256)) 0 1 (0 ∷ []) ≡ None) ×
    (declaring (replicate 256 (page 256)) 0 1 (0 ∷ []) ≡ Some TooManyRegions) ×
    (declaring [] 127 1 (0 ∷ []) ≡ None) ×
    (declaring [] 128 1 (0 ∷ []) ≡ Some NoRoom) ×
    (declaring [] 0 1 (3 ∷ []) ≡ Some NotData) ×
    (declaring [] 0 1 (0 ∷ 3 ∷ []) ≡ Some NotData) ×
    (declaring [] 0 1 (4 ∷ []) ≡ Some NotData) ×
    (declaring [] 0 1 (1 ∷ []) ≡ Some StillLoose) ×
    (declaring [] 0 1 (0 ∷ 1 ∷ []) ≡ Some StillLoose) ×
    (declaring [] 0 4 (0 ∷ []) ≡ None)
unfolding has_twice
declarations = (refl, refl, refl, refl, refl, refl, refl, refl, refl, refl, refl, refl, refl, refl)

-- of two rules that a declaration breaks, the first
declaration_orders :
    (declaring [] 0 5 (0 ∷ 0 ∷ []) ≡ Some BadRange) ×
    (declaring (replicate 256 (page 256)) 0 1 (0 ∷ 0 ∷ []) ≡ Some BadRange) ×
    (declaring [] 127 1 (0 ∷ 0 ∷ []) ≡ Some BadRange) ×
    (declaring [] 0 1 (3 ∷ 3 ∷ []) ≡ Some BadRange) ×
    (declaring [] 0 1 (1 ∷ 1 ∷ []) ≡ Some BadRange) ×
    (declaring (replicate 256 (page 256)) 0 5 (0 ∷ []) ≡ Some BadPolicy) ×
    (declaring [] 128 0 (0 ∷ []) ≡ Some BadPolicy) ×
    (declaring [] 0 5 (3 ∷ []) ≡ Some BadPolicy) ×
    (declaring [] 0 0 (1 ∷ []) ≡ Some BadPolicy) ×
    (declaring (replicate 256 (page 256)) 128 1 (0 ∷ []) ≡ Some TooManyRegions) ×
    (declaring (replicate 256 (page 256)) 0 1 (3 ∷ []) ≡ Some TooManyRegions) ×
    (declaring (replicate 256 (page 256)) 0 1 (1 ∷ []) ≡ Some TooManyRegions) ×
    (declaring [] 127 1 (0 ∷ 3 ∷ []) ≡ Some NoRoom) ×
    (declaring [] 127 1 (0 ∷ 1 ∷ []) ≡ Some NoRoom) ×
    (declaring [] 0 1 (2 ∷ []) ≡ Some NotData) ×
    (declaring [] 0 1 (1 ∷ 3 ∷ []) ≡ Some NotData)
unfolding has_twice
declaration_orders = (refl, refl, refl, refl, refl, refl, refl, refl, refl, refl, refl, refl, refl, refl, refl, refl)

-- pages 5, 6 and 7 lie in the frames 0, 4 and 0, and no other page is mapped
abbrev frame_at : ℕ → Option ℕ
frame_at p = if p == 5 then Some 0 else if p == 6 then Some 4 else if p == 7 then Some 0 else None

abbrev declaring_at : ℕ → ℕ → ℕ → Option Rule
declaring_at = pages_rule (book_with [] 0) (Data ∷ Code ∷ Fixed ∷ Trap ∷ Data ∷ []) (λ f. 0) frame_at

-- each page of the range is mapped, and to a frame of its own
pages :
    (frames_from frame_at 5 2 ≡ Some (0 ∷ 4 ∷ [])) ×
    (frames_from frame_at 4 2 ≡ None) ×
    (declaring_at 0x5000 8192 1 ≡ None) ×
    (declaring_at 0x6000 8192 1 ≡ None) ×
    (declaring_at 0x5000 12288 1 ≡ Some BadRange) ×
    (declaring_at 0x4000 4096 1 ≡ Some BadRange) ×
    (declaring_at 0x7000 8192 5 ≡ Some BadRange) ×
    (declaring_at 0x5001 4096 5 ≡ Some BadRange) ×
    (declaring_at 0x5000 4096 5 ≡ Some BadPolicy)
unfolding pages_rule frames_from has_twice
pages = (refl, refl, refl, refl, refl, refl, refl, refl, refl)

-- frames become guarded, and those behind the last one stay out
guards :
    (guarded (Data ∷ Code ∷ Table 1 ∷ Data ∷ Trap ∷ Hidden ∷ []) (3 ∷ 0 ∷ [])
    ≡ Guarded ∷ Code ∷ Table 1 ∷ Guarded ∷ Trap ∷ Hidden ∷ []) ×
    (guarded (Data ∷ Code ∷ Table 1 ∷ Data ∷ Trap ∷ Hidden ∷ []) (5 ∷ [])
    ≡ Data ∷ Code ∷ Table 1 ∷ Data ∷ Trap ∷ Guarded ∷ []) ×
    (guarded (Data ∷ Code ∷ Table 1 ∷ Data ∷ Trap ∷ Hidden ∷ []) (6 ∷ [])
    ≡ Data ∷ Code ∷ Table 1 ∷ Data ∷ Trap ∷ Hidden ∷ []) ×
    (guarded (Data ∷ Code ∷ Table 1 ∷ Data ∷ Trap ∷ Hidden ∷ []) []
    ≡ Data ∷ Code ∷ Table 1 ∷ Data ∷ Trap ∷ Hidden ∷ [])
unfolding guarded
guards = (refl, refl, refl, refl)

-- a new region of the pool: where it begins and which frames hold it; its bytes count as not written
abbrev new_at : ℕ → ℕ → RegionRecord
new_at place size = pool_region (book_with [] 0) size 2 place

new_regions :
    (new_at 4080 18 ≡ record {
      id = 512;
      policy = 2;
      pooled = true;
      first = 0xFFFFFF8000010FF0;
      size = 18;
      frames = 10 ∷ 11 ∷ [];
      place = 4080;
      written = replicate 18 false;
      tail = 0;
    }) ×
    ((new_at 4080 16).frames ≡ 10 ∷ []) ×
    ((new_at 0 4096).frames ≡ 10 ∷ []) ×
    ((new_at 0 4097).frames ≡ 10 ∷ 11 ∷ []) ×
    ((new_at 4096 1).frames ≡ 11 ∷ []) ×
    ((new_at 4096 1).place ≡ 0) ×
    ((new_at 65520 16).first ≡ 0xFFFFFF800001FFF0) ×
    ((new_at 65520 16).frames ≡ 25 ∷ []) ×
    ((new_at 0 65536).frames
    ≡ 10 ∷ 11 ∷ 12 ∷ 13 ∷ 14 ∷ 15 ∷ 16 ∷ 17 ∷ 18 ∷ 19 ∷ 20 ∷ 21 ∷ 22 ∷ 23 ∷ 24 ∷ 25 ∷ [])
new_regions = (refl, refl, refl, refl, refl, refl, refl, refl, refl)

-- two pages that were declared, in the frames 71 and 80
abbrev two_pages : RegionRecord
two_pages = page_region (book_with [] 0) 0x5000 8192 4 (71 ∷ 80 ∷ [])

-- a region more, with the identifier that was next
addeds :
    (two_pages.id ≡ 512) ×
    (two_pages.first ≡ 0x5000) ×
    (two_pages.pooled ≡ false) ×
    (with_one_more (book_with (page 256 ∷ []) 1) two_pages 2
    ≡ record { regions = page 256 ∷ two_pages ∷ []; next = 513; declared = 3 })
addeds = (refl, refl, refl, refl)

-- where a byte stands: in the pool, whose frames lie side by side, and in frames that don't
places :
    (byte_place (new_at 4080 32) 0 ≡ 0xAFF0) ×
    (byte_place (new_at 4080 32) 15 ≡ 0xAFFF) ×
    (byte_place (new_at 4080 32) 16 ≡ 0xB000) ×
    (byte_place (new_at 4080 32) 31 ≡ 0xB00F) ×
    (byte_place two_pages 0 ≡ 0x47000) ×
    (byte_place two_pages 4095 ≡ 0x47FFF) ×
    (byte_place two_pages 4096 ≡ 0x50000) ×
    (byte_place two_pages 8191 ≡ 0x50FFF) ×
    (region_stores (new_at 4080 32) 15 (7 ∷ 8 ∷ []) ≡ (0xAFFF, 7) ∷ (0xB000, 8) ∷ []) ×
    (region_stores two_pages 4095 (7 ∷ 8 ∷ []) ≡ (0x47FFF, 7) ∷ (0x50000, 8) ∷ [])
unfolding region_stores
places = (refl, refl, refl, refl, refl, refl, refl, refl, refl, refl)

-- four bytes of the pool with a policy, of which these were written
abbrev four : ℕ → List Bool → ℕ → RegionRecord
four policy written tail = record {
  id = 256;
  policy = policy;
  pooled = true;
  first = 0xFFFFFF8000010000;
  size = 4;
  frames = 10 ∷ [];
  place = 0;
  written = written;
  tail = tail;
}

abbrev middle : List Bool
middle = false ∷ true ∷ true ∷ false ∷ []

-- bytes 1 and 2 of four were written
writtens :
    (is_written_in (four 1 middle 0) 0 1 ≡ false) ×
    (is_written_in (four 1 middle 0) 0 2 ≡ true) ×
    (is_written_in (four 1 middle 0) 1 1 ≡ true) ×
    (is_written_in (four 1 middle 0) 2 1 ≡ true) ×
    (is_written_in (four 1 middle 0) 2 2 ≡ true) ×
    (is_written_in (four 1 middle 0) 3 1 ≡ false) ×
    (is_written_in (four 1 middle 0) 0 4 ≡ true) ×
    (is_written_in (four 1 (replicate 4 false) 0) 0 4 ≡ false)
writtens = (refl, refl, refl, refl, refl, refl, refl, refl)

-- a write marks its bytes, and what was written before stays so; the tail moves where the policy is append-only
marks :
    (marked (four 1 (replicate 4 false) 0) 1 2 ≡ four 1 middle 0) ×
    (marked (four 2 (replicate 4 false) 1) 1 2 ≡ four 2 middle 3) ×
    (marked (four 3 (replicate 4 false) 0) 1 2 ≡ four 3 middle 0) ×
    (marked (four 4 (replicate 4 false) 0) 1 2 ≡ four 4 middle 0) ×
    (marked (four 1 middle 0) 3 1 ≡ four 1 (false ∷ true ∷ true ∷ true ∷ []) 0) ×
    (marked (four 4 middle 0) 0 2 ≡ four 4 (true ∷ true ∷ true ∷ false ∷ []) 0) ×
    (marked (four 2 (replicate 4 false) 0) 0 4 ≡ four 2 (replicate 4 true) 4)
marks = (refl, refl, refl, refl, refl, refl, refl)
