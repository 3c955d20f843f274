-- The calls on page tables: a table is declared, an entry is written, a table is removed, a root is loaded. Each has its
-- rules, of which the first that is broken is the answer, what it makes of the tables, and what it leaves in memory.
use Rattle.std.specs.Prelude.{ℕ, ◌+◌, ◌*◌, Bool, not, ◌&&◌, ◌||◌, ◌==◌, nat_le, nat_lt, List, length, slice_set, Option, None}
use Rattle.std.specs.List.{list_any, range_with_len}
use Rattle.phys_mem.specs.Memory.{frame_zeroed, stored, stores}
use Rattle.nk_bits.specs.declared.rule.Rule.{Rule}
use Rattle.nk_bits.specs.declared.rule.Rule.TheVariants.{BadFrame, BadIndex, BadLevel, KernelSlot, NotData, NotEmpty, NotRoot, NotTable, StillLinked, StillLoose}
use Rattle.nk_bits.specs.declared.kind.Kind.TheVariants.{Data, Table}
use Rattle.nk_bits.specs.Kinds.{is_data, kind_of, level_of}
use Rattle.nk_bits.specs.Paging.{emptied, is_present, is_slot_entry, replaced, zeroed}
use Rattle.page_desc.specs.FrameDescriptors.{last_value}
use Rattle.page_desc.specs.PageTables.{Tables, is_table, links_of, loose_of}
use Rattle.table_rules.specs.ValueRules.{broken, value_rule}

-- the frame isn't one of memory's
abbrev pub is_outside : Tables → ℕ → Bool
is_outside t frame = not (nat_lt frame (length t.kinds))

-- the level of the table in a frame; 0 where it holds none
abbrev pub level_at : Tables → ℕ → ℕ
level_at t frame = level_of (kind_of t.kinds frame)

-- declaring a table of this level in a frame of data that no loose leaf names
unfoldable pub declare_rule : Tables → ℕ → ℕ → Option Rule
declare_rule t level frame =
    broken (is_outside t frame) BadFrame
    (broken (not (nat_le 1 level && nat_le level 4)) BadLevel
    (broken (not (is_data (kind_of t.kinds frame))) NotData
    (broken (not (loose_of t frame == 0)) StillLoose None)))

-- writing a value in an entry of the table in a frame, but for the kernel slot's
unfoldable pub entry_rule : Tables → ℕ → ℕ → ℕ → Option Rule
entry_rule t frame index value =
    broken (is_outside t frame) BadFrame
    (broken (not (is_table (kind_of t.kinds frame))) NotTable
    (broken (nat_lt 511 index) BadIndex
    (broken (is_slot_entry (level_at t frame) index) KernelSlot
    (value_rule t.kinds (level_at t frame) value))))

-- an entry of the table in a frame is present, beside the kernel slot's
unfoldable pub is_filled : Tables → ℕ → Bool
is_filled t frame = list_any (λ i. is_present (t.entries frame i) && not (is_slot_entry (level_at t frame) i)) (range_with_len 0 512)

-- removing the table in a frame, which nothing names and which is empty
unfoldable pub remove_rule : Tables → ℕ → Option Rule
remove_rule t frame =
    broken (is_outside t frame) BadFrame
    (broken (not (is_table (kind_of t.kinds frame))) NotTable
    (broken (not (links_of t frame == 0) || frame == t.root) StillLinked
    (broken (is_filled t frame) NotEmpty None)))

-- loading the table of level 4 in a frame as the root
unfoldable pub root_rule : Tables → ℕ → Option Rule
root_rule t frame = broken (is_outside t frame) BadFrame (broken (not (level_at t frame == 4)) NotRoot None)

-- the tables after each: a new table is empty but for the kernel slot's entry at level 4, a removed one is data
abbrev pub declared : Tables → ℕ → ℕ → Tables
declared t level frame =
    record t { kinds = slice_set t.kinds frame (Table level); entries = emptied t.entries frame level }

abbrev pub entry_written : Tables → ℕ → ℕ → ℕ → Tables
entry_written t frame index value = record t { entries = replaced t.entries frame index value }

abbrev pub removed : Tables → ℕ → Tables
removed t frame = record t { kinds = slice_set t.kinds frame Data; entries = zeroed t.entries frame }

abbrev pub root_loaded : Tables → ℕ → Tables
root_loaded t frame = record t { root = frame }

-- memory after each: the frame of a new table and of a removed one is zeroed; loading a root changes no byte
abbrev pub memory_declared : List ℕ → ℕ → ℕ → List ℕ
memory_declared m level frame = stored (frame_zeroed m frame) (stores 8 (4096 * frame + 8 * 511) (last_value level))

abbrev pub memory_written : List ℕ → ℕ → ℕ → ℕ → List ℕ
memory_written m frame index value = stored m (stores 8 (4096 * frame + 8 * index) value)

abbrev pub memory_removed : List ℕ → ℕ → List ℕ
memory_removed m frame = frame_zeroed m frame
