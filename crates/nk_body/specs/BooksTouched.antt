-- Which of the nested kernel's books a call may change; the bytes of the others stay. A call that breaks a rule changes
-- none.
use Rattle.std.specs.Prelude.{◌≡◌, ◌<◌, ◌≤◌, ℕ, ◌/◌, Bool, true, false, List, length}
use Rattle.phys_mem.specs.MaskedMemory.{is_book_frame}
use Rattle.phys_mem.specs.Memory.{byte_at}
use Rattle.region_book.specs.RegionRecords.{Book, region_of}
use Rattle.policy_book.specs.PolicyRules.{is_logged}
use Rattle.nk_body.specs.declared.call.Call.{Call}
use Rattle.nk_body.specs.declared.call.Call.TheVariants.{Allocate, DeclarePages, DeclareTable, Free, RemoveTable, Write, WriteEntry}

-- the descriptors of frames: their kinds, and the counts of loose leaves and of links
abbrev pub touches_descriptors : Call → Bool
touches_descriptors (DeclareTable level frame) = true
touches_descriptors (WriteEntry table index value) = true
touches_descriptors (RemoveTable frame) = true
touches_descriptors (DeclarePages address size policy) = true
touches_descriptors _ = false

-- the slots of regions, and the bits of the bytes that were written
abbrev pub touches_regions : Call → Bool
touches_regions (DeclarePages address size policy) = true
touches_regions (Allocate size policy) = true
touches_regions (Free region) = true
touches_regions (Write region offset place count) = true
touches_regions _ = false

-- the log: a write in a region whose policy is write-log
abbrev pub touches_log : Book → Call → Bool
touches_log book (Write region offset place count) = is_logged (region_of book region)
touches_log book _ = false

-- each book that the call doesn't touch keeps its bytes: the descriptors those of their frames, the regions those of slots
-- and bits, and the log all of its own
pub record LeavesBooks (book : Book) (call : Call) (before after : List ℕ) : Type 0 where
  pub descriptors : touches_descriptors call ≡ false → (p : ℕ) → 0x40000 ≤ p
      → is_book_frame (length before / 4096) (p / 4096) ≡ true → byte_at after p ≡ byte_at before p
  pub regions : touches_regions call ≡ false → (p : ℕ) → 0x2A000 ≤ p → p < 0x40000 → byte_at after p ≡ byte_at before p
  pub log : touches_log book call ≡ false → (p : ℕ) → 0x1A000 ≤ p → p < 0x2A000 → byte_at after p ≡ byte_at before p
