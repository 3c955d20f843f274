-- What the nested kernel guards of paging, as plain data: kinds, the entries of page tables, the bytes that never change,
-- and the root; and how memory holds it.
use Rattle.std.specs.Prelude.{◌≡◌, ◌≢◌, ◌⊎◌, ◌<◌, ◌≤◌, ℕ, zero, suc, ◌+◌, ◌*◌, ◌/◌, ◌%◌, Bool, true, false, not, ◌&&◌, ◌||◌, ◌==◌, nat_lt, if◌then◌else◌, List, length}
use Rattle.phys_mem.specs.Memory.{byte_at, entry_in}
use Rattle.nk_bits.specs.declared.kind.Kind.{Kind}
use Rattle.nk_bits.specs.declared.kind.Kind.TheVariants.{Code, Fixed}
use Rattle.nk_bits.specs.Kinds.{kind_of, level_of}
use Rattle.nk_bits.specs.Paging.{frame_of, is_present}
use Rattle.nk_bits.specs.KernelLayout.{area_directory, area_table, handler_slot, image_directory, slot_table}
use Rattle.page_desc.specs.FrameCounts.{IsSlotFixed, links_in, loose_in}
use Rattle.page_desc.specs.FrameDescriptors.{AreCounted, Descriptors}
use Rattle.page_desc.specs.SoundTables.{AreTables}

-- the kind of each frame; by frame and index the entries of the frames that are page tables; by frame and offset the bytes
-- of the frames that are fixed or code, but for the handler slot; and the frame of the root
pub record Tables : Type 0 where
  pub kinds : List Kind
  pub entries : ℕ → ℕ → ℕ
  pub fixed : ℕ → ℕ → ℕ
  pub root : ℕ

-- the frame is a page table
abbrev pub is_table : Kind → Bool
is_table kind = nat_lt 0 (level_of kind)

-- the bytes of the frame never change: they are fixed, or code of the image
abbrev pub is_unchanging : Kind → Bool
is_unchanging Code = true
is_unchanging Fixed = true
is_unchanging _ = false

-- the handler slot: the first eight bytes of frame 2
abbrev pub is_handler_byte : ℕ → ℕ → Bool
is_handler_byte f offset = f == handler_slot && nat_lt offset 8

-- the entries of the frames that are page tables, as memory holds them; 0 for every other frame, and past a table's 512
-- entries
unfoldable pub table_entries : List Kind → List ℕ → ℕ → ℕ → ℕ
table_entries kinds m f i = if is_table (kind_of kinds f) && nat_lt i 512 then entry_in m f i else 0

-- the bytes that never change; 0 for every other frame, past a frame's 4,096 bytes, and in the handler slot
unfoldable pub unchanging_bytes : List Kind → List ℕ → ℕ → ℕ → ℕ
unchanging_bytes kinds m f offset =
    if is_unchanging (kind_of kinds f) && nat_lt offset 4096 && not (is_handler_byte f offset) then byte_at m (4096 * f + offset)
    else 0

-- what kinds, root and memory stand for
abbrev pub tables_in : List Kind → ℕ → List ℕ → Tables
tables_in kinds root m = record {
  kinds = kinds;
  entries = table_entries kinds m;
  fixed = unchanging_bytes kinds m;
  root = root;
}

-- the number that n bytes spell, from a place on, least significant first
unfoldable pub number_by : (ℕ → ℕ) → ℕ → ℕ → ℕ
number_by bytes zero place = 0
number_by bytes (suc n) place = bytes place + 256 * number_by bytes n (place + 1)

-- entry i of any frame: of a page table its entry, of another frame eight of its bytes that never change
unfoldable pub value_in : Tables → ℕ → ℕ → ℕ
value_in t f i = if is_table (kind_of t.kinds f) then t.entries f i else number_by (t.fixed f) 8 (8 * i)

-- how many loose leaves a frame has, and how many links name it, counted anew
abbrev pub loose_of : Tables → ℕ → ℕ
loose_of t frame = loose_in t.kinds (value_in t) frame

abbrev pub links_of : Tables → ℕ → ℕ
links_of t frame = links_in t.kinds (value_in t) frame

-- the byte is part of no page table, and not one that never changes
abbrev pub is_unguarded : List Kind → ℕ → Bool
is_unguarded kinds place =
    let kind = kind_of kinds (place / 4096) in
    not (is_table kind) && (not (is_unchanging kind) || is_handler_byte (place / 4096) (place % 4096))

-- memory holds sound tables under this root: there is a kind for each frame, no table is of a level above 4, every entry
-- of every table is lawful, linked or not, the root is of level 4, and the frames of the kernel slot's own tables and of
-- the handler slot are fixed, which is none of these tables; the slot's table leads to those of level 2 for the area and for
-- the image, and the area's table of level 2 to its table of level 1
pub record HoldsSoundTables (kinds : List Kind) (root : ℕ) (m : List ℕ) : Type 0 where
  pub size : length m ≡ 4096 * length kinds
  pub levels : (f : ℕ) → level_of (kind_of kinds f) ≤ 4
  pub tables : AreTables kinds (entry_in m)
  pub root_level : level_of (kind_of kinds root) ≡ 4
  pub slot : IsSlotFixed kinds (entry_in m)
  pub handler : kind_of kinds handler_slot ≡ Fixed
  pub apart : (i : ℕ) → i < 512 → is_present (entry_in m image_directory i) ≡ true → frame_of (entry_in m image_directory i) ≢ handler_slot
  pub slot_root : kind_of kinds slot_table ≡ Fixed
  pub area_root : kind_of kinds area_directory ≡ Fixed
  pub slot_names : (i : ℕ) → i < 512 → is_present (entry_in m slot_table i) ≡ true
      → (frame_of (entry_in m slot_table i) ≡ area_directory) ⊎ (frame_of (entry_in m slot_table i) ≡ image_directory)
  pub area_names : (i : ℕ) → i < 512 → is_present (entry_in m area_directory i) ≡ true → frame_of (entry_in m area_directory i) ≡ area_table

-- the descriptors are those of memory's tables: these are sound, and the counts that are carried are counted anew
pub record AreDescribed (d : Descriptors) (root : ℕ) (m : List ℕ) : Type 0 where
  pub sound : HoldsSoundTables d.kinds root m
  pub counted : AreCounted d (entry_in m)
