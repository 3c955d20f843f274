-- Which part of memory a frame belongs to at the opening, by the order of the frames.
use Rattle.std.specs.Prelude.{ℕ, ◌+◌, ◌-◌, ◌<◌, ◌==◌, nat_lt, if◌then◌else◌, length}
use Rattle.boot_map.specs.declared.part.Part.{Part}
use Rattle.boot_map.specs.declared.part.Part.TheVariants.{IdtAndTss, GateText, HandlerSlot, TrapStack, NestedStack, Root, SlotTable, AreaDirectory, AreaTable, ImageDirectory, Pool, WriteLog, WrittenBits, RegionBook, Descriptors, RangeTable, ImagePage, MapRoot, MapDirectory, MapTable, Free}
use Rattle.nk_bits.specs.KernelLayout.{area_directory, area_table, gate_text, handler_slot, idt_and_tss, image_directory, nested_stack, opening_root, pool_end, slot_table, trap_stack}
use Rattle.boot_map.specs.Division.{Division, map_tables, tables_start, pages_start, map_start, free_start}

-- the 64 frames that every opening has alike
abbrev pub common_part : ℕ → Part
common_part f =
    if f == idt_and_tss then IdtAndTss
    else if f == gate_text then GateText
    else if f == handler_slot then HandlerSlot
    else if f == trap_stack then TrapStack
    else if f == nested_stack then NestedStack
    else if f == opening_root then Root
    else if f == slot_table then SlotTable
    else if f == area_directory then AreaDirectory
    else if f == area_table then AreaTable
    else if f == image_directory then ImageDirectory
    else if nat_lt f pool_end then Pool
    else if nat_lt f 42 then WriteLog
    else if nat_lt f 60 then WrittenBits
    else RegionBook

-- the frames from 64 on, whose number depends on the image and on the size of memory
abbrev pub sized_part : Division → ℕ → Part
sized_part d f =
    if nat_lt f (tables_start d) then Descriptors
    else if nat_lt f (pages_start d) then RangeTable (f - tables_start d)
    else if nat_lt f (map_start d) then ImagePage (f - pages_start d)
    else if f == map_start d then MapRoot
    else if f == map_start d + 1 then MapDirectory
    else if nat_lt f (free_start d) then MapTable (f - (map_start d + 2))
    else Free

-- the part of frame f
unfoldable pub part_at : Division → ℕ → Part
part_at d f = if nat_lt f 64 then common_part f else sized_part d f

-- the part is one that the division has: an index counts below the number of its kind
abbrev pub IsPartOf : Division → Part → Type 0
IsPartOf d (RangeTable k) = k < length d.ranges
IsPartOf d (ImagePage k) = k < d.pages
IsPartOf d (MapTable k) = k < map_tables d
IsPartOf d _ = Unit {0}
