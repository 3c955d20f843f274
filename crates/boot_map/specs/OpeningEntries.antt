-- The entries of the page tables at the opening of the image b: SDM volume 3, 4.5.4.
use Rattle.std.specs.Prelude.{ℕ, ◌+◌, ◌-◌, ◌*◌, ◌^◌, Bool, true, false, ◌==◌, ◌&&◌, nat_le, nat_lt, if◌then◌else◌, List, slice_index, Option, Some, None}
use Rattle.std.specs.List.{position}
use Rattle.elf_image.specs.Pages.{is_executable, is_writable, pages_of}
use Rattle.boot_map.specs.declared.part.Part.{Part}
use Rattle.boot_map.specs.declared.part.Part.TheVariants.{Root, SlotTable, AreaDirectory, AreaTable, ImageDirectory, WriteLog, WrittenBits, RegionBook, Descriptors, RangeTable, ImagePage, MapRoot, MapDirectory, MapTable, Free}
use Rattle.nk_bits.specs.KernelLayout.{area_directory, area_table, gate_text, handler_slot, idt_and_tss, image_directory, nested_stack, pool_frame, slot_table, trap_stack}
use Rattle.boot_map.specs.Division.{Division, division_of, page_in, tables_start, pages_start, map_start, map_tables}
use Rattle.boot_map.specs.Parts.{part_at}

-- an entry that names a table of the next lower level and grants every right: P, R/W, U/S and A are set
unfoldable pub link : ℕ → ℕ
link f = 4096 * f + 0x027

-- a leaf of frame f with these low bits, and with XD, bit 63, as given
unfoldable pub leaf : ℕ → ℕ → Bool → ℕ
leaf f low xd = (if xd then 2 ^ 63 else 0) + 4096 * f + low

-- a leaf that grants reads alone: P, A and XD
abbrev pub read_leaf : ℕ → ℕ
read_leaf f = leaf f 0x021 true

-- a leaf that grants reads and writes: P, R/W, A, D and XD
abbrev pub write_leaf : ℕ → ℕ
write_leaf f = leaf f 0x063 true

-- a leaf that grants reads and fetches: P and A
abbrev pub fetch_leaf : ℕ → ℕ
fetch_leaf f = leaf f 0x021 false

-- entry i of the opening root: the direct map in slot 256, the kernel slot in slot 511
abbrev pub root_entry : Division → ℕ → ℕ
root_entry d i = if i == 256 then link (map_start d) else if i == 511 then link slot_table else 0

-- entry i of the kernel slot's level 3 table: the nested area's 1 GiB first, the image's last but one
abbrev pub slot_entry : ℕ → ℕ
slot_entry i = if i == 0 then link area_directory else if i == 510 then link image_directory else 0

-- entry i of the nested area's level 1 table: five pages of their own, and the pool from 64 KiB on
abbrev pub area_entry : ℕ → ℕ
area_entry i =
    if i == 0 then read_leaf idt_and_tss
    else if i == 1 then fetch_leaf gate_text
    else if i == 2 then read_leaf handler_slot
    else if i == 3 then write_leaf trap_stack
    else if i == 4 then read_leaf nested_stack
    else if nat_le 16 i && nat_lt i 32 then read_leaf (pool_frame + (i - 16))
    else 0

-- the link to the level 1 table of the range with this place among the ranges that the image touches
abbrev pub range_link : Division → Option ℕ → ℕ
range_link d (Some k) = link (tables_start d + k)
range_link d None = 0

-- entry i of the image's level 2 table: the level 1 table of range i, where the image touches it
abbrev pub range_entry : Division → ℕ → ℕ
range_entry d i = range_link d (position (λ r. r == i) d.ranges)

-- a leaf of the frame f that holds a page of the image, by the page's rights
abbrev pub page_leaf : Bool → Bool → ℕ → ℕ
page_leaf executable writable f =
    if executable then fetch_leaf f
    else if writable then write_leaf f
    else read_leaf f

-- the leaf of page n, which has this place among the image's pages
abbrev pub placed_leaf : List ℕ → Division → ℕ → Option ℕ → ℕ
placed_leaf b d n (Some k) = page_leaf (is_executable b n) (is_writable b n) (pages_start d + k)
placed_leaf b d n None = 0

-- entry i of the level 1 table of the range that is number k among those that the image touches
abbrev pub page_entry : List ℕ → Division → ℕ → ℕ → ℕ
page_entry b d k i =
    let n = page_in (slice_index d.ranges k) i in
    placed_leaf b d n (position (λ m. m == n) (pages_of b))

-- entry i of the direct map's level 2 table
abbrev pub map_directory_entry : Division → ℕ → ℕ
map_directory_entry d i = if nat_lt i (map_tables d) then link (map_start d + 2 + i) else 0

-- the direct map's leaf of frame f, by the part that f belongs to: none of a hidden frame; writable for a free frame
-- and for a writable page of the image
abbrev pub mapped_leaf : List ℕ → ℕ → Part → ℕ
mapped_leaf b f WriteLog = 0
mapped_leaf b f WrittenBits = 0
mapped_leaf b f RegionBook = 0
mapped_leaf b f Descriptors = 0
mapped_leaf b f (ImagePage k) =
    if is_writable b (slice_index (pages_of b) k) then write_leaf f else read_leaf f
mapped_leaf b f Free = write_leaf f
mapped_leaf b f _ = read_leaf f

-- the direct map's entry for frame f: none past the end of memory
abbrev pub map_entry : List ℕ → Division → ℕ → ℕ
map_entry b d f = if nat_lt f d.frames then mapped_leaf b f (part_at d f) else 0

-- the level of the page tables that the part's frames are; 0 where they are none
abbrev pub table_level : Part → ℕ
table_level Root = 4
table_level SlotTable = 3
table_level AreaDirectory = 2
table_level AreaTable = 1
table_level ImageDirectory = 2
table_level (RangeTable k) = 1
table_level MapRoot = 3
table_level MapDirectory = 2
table_level (MapTable k) = 1
table_level _ = 0

-- entry i, below 512, of a frame of this part; 0 where the part is no table
abbrev pub entry_of_part : List ℕ → Division → Part → ℕ → ℕ
entry_of_part b d Root i = root_entry d i
entry_of_part b d SlotTable i = slot_entry i
entry_of_part b d AreaDirectory i = if i == 0 then link area_table else 0
entry_of_part b d AreaTable i = area_entry i
entry_of_part b d ImageDirectory i = range_entry d i
entry_of_part b d (RangeTable k) i = page_entry b d k i
entry_of_part b d MapRoot i = if i == 0 then link (map_start d + 1) else 0
entry_of_part b d MapDirectory i = map_directory_entry d i
entry_of_part b d (MapTable k) i = map_entry b d (512 * k + i)
entry_of_part b d _ i = 0

-- entry i of frame f; 0 where the frame is no table, and past a table's 512 entries
unfoldable pub opening_entry : List ℕ → ℕ → ℕ → ℕ → ℕ
opening_entry b frames f i =
    let d = division_of b frames in if nat_lt i 512 then entry_of_part b d (part_at d f) i else 0
