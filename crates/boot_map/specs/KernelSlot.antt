-- The linear layout of the kernel slot at the opening of the image b: the frame and the rights of each of its pages, and the
-- tables that lead to them.
use Rattle.std.specs.Prelude.{◌≡◌, ◌⊎◌, ℕ, ◌+◌, ◌-◌, ◌/◌, ◌<◌, Bool, true, false, ◌==◌, ◌&&◌, nat_le, nat_lt, if◌then◌else◌, List, slice_index, Option, Some, None}
use Rattle.std.specs.List.{position}
use Rattle.nk_bits.specs.declared.leaf.Leaf.{Leaf}
use Rattle.nk_bits.specs.declared.leaf.Upper.{Upper}
use Rattle.nk_bits.specs.Paging.{frame_of, grants_writes, is_present, upper_walk}
use Rattle.elf_image.specs.Pages.{is_executable, is_writable, page_count, pages_of}
use Rattle.boot_map.specs.declared.part.Part.{Part}
use Rattle.boot_map.specs.declared.part.Part.TheVariants.{SlotTable, AreaDirectory, AreaTable, ImageDirectory, RangeTable}
use Rattle.nk_bits.specs.KernelLayout.{area_start, area_table, gate_text, handler_slot, idt_and_tss, image_directory, nested_stack, opening_root, pool_frame, trap_stack}
use Rattle.boot_map.specs.Division.{division_of, pages_start}
use Rattle.boot_map.specs.Parts.{part_at}
use Rattle.boot_map.specs.OpeningEntries.{opening_entry, table_level}

-- the slot's first page, which is the nested area's first too
abbrev pub slot_start : ℕ
slot_start = area_start / 4096

-- a leaf of frame f that CPL 0 may read; read and write; read and fetch
abbrev pub readable : ℕ → Leaf
readable f = record { frame = f; rights = record { can_write = false; user = false; exec = false } }

abbrev pub writable : ℕ → Leaf
writable f = record { frame = f; rights = record { can_write = true; user = false; exec = false } }

abbrev pub fetchable : ℕ → Leaf
fetchable f = record { frame = f; rights = record { can_write = false; user = false; exec = true } }

-- the leaf of page n of the nested area: IDT and TSS, gate text, handler slot, trap stack, nested stack, and the pool
abbrev pub area_leaf : ℕ → Option Leaf
area_leaf n =
    if n == 0 then Some (readable idt_and_tss)
    else if n == 1 then Some (fetchable gate_text)
    else if n == 2 then Some (readable handler_slot)
    else if n == 3 then Some (writable trap_stack)
    else if n == 4 then Some (readable nested_stack)
    else if nat_le 16 n && nat_lt n 32 then Some (readable (pool_frame + (n - 16)))
    else None

-- the leaf of page n, by its place among the image's pages, the first of which stands in frame first
abbrev pub image_leaf : List ℕ → ℕ → ℕ → Option ℕ → Option Leaf
image_leaf b first n (Some k) =
    if is_executable b n then Some (fetchable (first + k))
    else if is_writable b n then Some (writable (first + k))
    else Some (readable (first + k))
image_leaf b first n None = None

-- the leaf of a page of the slot: one of the nested area's 32 pages, or of the image's
unfoldable pub slot_leaf : List ℕ → ℕ → ℕ → Option Leaf
slot_leaf b frames page =
    if nat_lt page (slot_start + 32) then area_leaf (page - slot_start)
    else image_leaf b (pages_start (division_of b frames)) page (position (λ m. m == page) (pages_of b))

-- the table that a page's entry of this level, 2 to 4, names at the opening, and the rights common to the entries down to it
unfoldable pub slot_upper : List ℕ → ℕ → ℕ → ℕ → Option Upper
slot_upper b frames page level = upper_walk (opening_entry b frames) frames opening_root page level

-- the part is one of the kernel slot's own tables: its table of level 3, and those of the nested area and of the image
abbrev pub is_slot_table : Part → Bool
is_slot_table SlotTable = true
is_slot_table AreaDirectory = true
is_slot_table AreaTable = true
is_slot_table ImageDirectory = true
is_slot_table (RangeTable k) = true
is_slot_table _ = false

-- these tables hold the kernel slot: they have the opening's entries in its own tables
pub record HoldsSlot (b : List ℕ) (frames : ℕ) (t : ℕ → ℕ → ℕ) : Type 0 where
  pub entries : (f i : ℕ) → f < frames → i < 512
      → is_slot_table (part_at (division_of b frames) f) ≡ true → t f i ≡ opening_entry b frames f i

-- these tables hold the opening's: each page table of the opening has its entries
pub record HoldsOpeningTables (b : List ℕ) (frames : ℕ) (t : ℕ → ℕ → ℕ) : Type 0 where
  pub entries : (f i : ℕ) → f < frames → i < 512
      → 0 < table_level (part_at (division_of b frames) f) → t f i ≡ opening_entry b frames f i

-- the page is one of the image that may be executed, and stands in this frame
pub record IsCodePage (b : List ℕ) (frames page frame : ℕ) : Type 0 where
  pub place : ℕ
  pub within : place < page_count b
  pub page_is : slice_index (pages_of b) place ≡ page
  pub executable : is_executable b page ≡ true
  pub frame_is : frame ≡ pages_start (division_of b frames) + place

-- entry at of the table in this frame is present and names the other frame
pub record IsNamedIn (t : ℕ → ℕ → ℕ) (table frame : ℕ) : Type 0 where
  pub at : ℕ
  pub inside : at < 512
  pub present : is_present (t table at) ≡ true
  pub names : frame_of (t table at) ≡ frame

-- a writable entry of one of the kernel slot's own tables of level 1 names the frame: that table is the nested area's, or one
-- that the image's table of level 2 names
pub record IsWrittenInSlot (frames : ℕ) (t : ℕ → ℕ → ℕ) (frame : ℕ) : Type 0 where
  pub table : ℕ
  pub in_memory : table < frames
  pub slots : (table ≡ area_table) ⊎ IsNamedIn t image_directory table
  pub index : ℕ
  pub inside : index < 512
  pub present : is_present (t table index) ≡ true
  pub names : frame_of (t table index) ≡ frame
  pub written : grants_writes (t table index) ≡ true
