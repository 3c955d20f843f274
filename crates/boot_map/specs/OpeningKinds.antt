-- The kinds of the frames at the opening of the image b.
use Rattle.std.specs.Prelude.{ℕ, List, map, slice_index, if◌then◌else◌}
use Rattle.std.specs.List.{range_with_len}
use Rattle.nk_bits.specs.declared.kind.Kind.{Kind}
use Rattle.nk_bits.specs.declared.kind.Kind.TheVariants.{Data, Code, Table, Fixed, Trap, Guarded, Hidden}
use Rattle.elf_image.specs.Pages.{is_executable, pages_of}
use Rattle.boot_map.specs.declared.part.Part.{Part}
use Rattle.boot_map.specs.declared.part.Part.TheVariants.{IdtAndTss, GateText, HandlerSlot, TrapStack, NestedStack, Root, SlotTable, AreaDirectory, AreaTable, ImageDirectory, Pool, WriteLog, WrittenBits, RegionBook, Descriptors, RangeTable, ImagePage, MapRoot, MapDirectory, MapTable, Free}
use Rattle.boot_map.specs.Division.{division_of}
use Rattle.boot_map.specs.Parts.{part_at}

-- the kind of the frames of a part; an image page is code where it may be executed
abbrev pub kind_of_part : List ℕ → Part → Kind
kind_of_part b IdtAndTss = Fixed
kind_of_part b GateText = Fixed
kind_of_part b HandlerSlot = Fixed
kind_of_part b TrapStack = Trap
kind_of_part b NestedStack = Fixed
kind_of_part b Root = Table 4
kind_of_part b SlotTable = Fixed
kind_of_part b AreaDirectory = Fixed
kind_of_part b AreaTable = Fixed
kind_of_part b ImageDirectory = Fixed
kind_of_part b Pool = Guarded
kind_of_part b WriteLog = Hidden
kind_of_part b WrittenBits = Hidden
kind_of_part b RegionBook = Hidden
kind_of_part b Descriptors = Hidden
kind_of_part b (RangeTable k) = Fixed
kind_of_part b (ImagePage k) = if is_executable b (slice_index (pages_of b) k) then Code else Data
kind_of_part b MapRoot = Table 3
kind_of_part b MapDirectory = Table 2
kind_of_part b (MapTable k) = Table 1
kind_of_part b Free = Data

-- the kind of frame f, in a memory of so many frames
unfoldable pub kind_at : List ℕ → ℕ → ℕ → Kind
kind_at b frames f = kind_of_part b (part_at (division_of b frames) f)

-- the kinds of all frames
unfoldable pub kinds : List ℕ → ℕ → List Kind
kinds b frames = map (kind_at b frames) (range_with_len 0 frames)
