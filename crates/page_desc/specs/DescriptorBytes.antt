-- How memory holds the descriptors: 16 bytes for each frame, those of frames 0 to 255 in frame 64, of the next 256 in the
-- frame behind it, and so on. Byte 0 is the kind and byte 1 the level, two are 0, four are the loose leaves, four the links,
-- and four are 0. All numbers are little-endian. Nobody but the nested kernel sees these bytes.
use Rattle.std.specs.Prelude.{◌≡◌, ◌⊎◌, ◌<◌, ◌≤◌, ℕ, ◌+◌, ◌*◌, ◌/◌, ◌%◌, true, ◌==◌, if◌then◌else◌, List, length, map}
use Rattle.std.specs.List.{range_with_len}
use Rattle.phys_mem.specs.MaskedMemory.{is_book_frame, seen}
use Rattle.phys_mem.specs.Memory.{byte_at, number_at}
use Rattle.nk_bits.specs.declared.kind.Kind.{Kind}
use Rattle.nk_bits.specs.declared.kind.Kind.TheVariants.{Data, Code, Table, Fixed, Trap, Guarded, Hidden}
use Rattle.nk_bits.specs.Kinds.{kind_of, level_of}
use Rattle.page_desc.specs.FrameDescriptors.{Descriptors}
use Rattle.page_desc.specs.PageTables.{AreDescribed, Tables, tables_in}

-- the number of four bytes, from a byte of the frame's descriptor on
unfoldable pub field_in : List ℕ → ℕ → ℕ → ℕ
field_in m at f = number_at m 4 (0x40000 + 16 * f + at)

-- the byte that stands for a kind
abbrev pub code_of : Kind → ℕ
code_of Data = 0
code_of Code = 1
code_of (Table level) = 2
code_of Fixed = 3
code_of Trap = 4
code_of Guarded = 5
code_of Hidden = 6

-- kind and level as a descriptor's first number, and back
abbrev pub word_of : Kind → ℕ
word_of kind = code_of kind + 256 * level_of kind

abbrev pub kind_from : ℕ → ℕ → Kind
kind_from code level =
    if code == 0 then Data
    else if code == 1 then Code
    else if code == 2 then Table level
    else if code == 3 then Fixed
    else if code == 4 then Trap
    else if code == 5 then Guarded
    else Hidden

unfoldable pub kind_by : ℕ → Kind
kind_by word = kind_from (word % 256) (word / 256 % 256)

-- the descriptors that stand in memory, one for each of its frames
unfoldable pub descriptors_in : List ℕ → Descriptors
descriptors_in m = record {
  kinds = map (λ f. kind_by (field_in m 0 f)) (range_with_len 0 (length m / 4096));
  loose = map (field_in m 4) (range_with_len 0 (length m / 4096));
  links = map (field_in m 8) (range_with_len 0 (length m / 4096));
}

abbrev pub kinds_in : List ℕ → List Kind
kinds_in m = (descriptors_in m).kinds

-- memory of so many frames holds a descriptor of this form for each of them, and behind the last one 0 to the frame's end
pub record HoldsDescriptors (frames : ℕ) (m : List ℕ) : Type 0 where
  pub least : 65 ≤ frames
  pub size : length m ≡ 4096 * frames
  pub kinds : (f : ℕ) → f < frames → field_in m 0 f ≡ word_of (kind_by (field_in m 0 f))
  pub unused : (f : ℕ) → f < frames → field_in m 12 f ≡ 0
  pub behind : (p : ℕ) → 0x40000 + 16 * frames ≤ p → is_book_frame frames (p / 4096) ≡ true → byte_at m p ≡ 0

-- two memories of one size differ in no byte but those of descriptors
pub record DiffersInDescriptors (before after : List ℕ) : Type 0 where
  pub size : length after ≡ length before
  pub elsewhere : (p : ℕ) → (p < 0x40000) ⊎ (0x40000 + 16 * (length before / 4096) ≤ p) → byte_at after p ≡ byte_at before p

-- the tables that the descriptors' kinds, a root and the memory that is seen stand for
abbrev pub tables_held : ℕ → List ℕ → Tables
tables_held root m = tables_in (kinds_in m) root (seen m)

-- memory holds descriptors, they are those of the tables that it holds, and the frames of the books are hidden
pub record HoldsTables (frames root : ℕ) (m : List ℕ) : Type 0 where
  pub stored : HoldsDescriptors frames m
  pub described : AreDescribed (descriptors_in m) root (seen m)
  pub hidden : (f : ℕ) → is_book_frame frames f ≡ true → kind_of (kinds_in m) f ≡ Hidden
