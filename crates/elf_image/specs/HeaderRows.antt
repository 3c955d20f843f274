-- The form of an image by its headers alone: what the first 64 bytes of a file say, and then its program header table.
-- A law says that both in turn give the first fault of the whole file.
use Rattle.std.specs.Prelude.{ℕ, ◌+◌, ◌*◌, ◌==◌, not, ◌||◌, if◌then◌else◌, List, map, filter, take, drop, nat_lt, Option, Some, None}
use Rattle.std.specs.List.{range_with_len}
use Rattle.elf_image.specs.declared.fault.FaultKind.TheVariants.{Short, Magic, Class, FileType, Machine, Table}
use Rattle.elf_image.specs.declared.fault.ImageFault.{ImageFault}
use Rattle.elf_image.specs.declared.program_header.ProgramHeader.{ProgramHeader}
use Rattle.elf_image.specs.Elf.{e_entry, e_machine, e_phentsize, e_phnum, e_phoff, e_type, ehdr_size, is_segment, phdr_size, program_header_at}
use Rattle.elf_image.specs.Rows.{has_magic, or_later, row_at, row_if, segment_fault, whole_fault, wrong_class}

-- what the file header says of a file of this size: e_entry, and where the program header table begins and how many
-- entries it has, e_phoff and e_phnum
pub record FileShape : Type 0 where
  pub size : ℕ
  pub entry : ℕ
  pub table : ℕ
  pub count : ℕ

-- the shape of a file of this size that begins with the bytes head
abbrev pub shape_of : ℕ → List ℕ → FileShape
shape_of n head = record { size = n; entry = e_entry head; table = e_phoff head; count = e_phnum head }

-- the place of the field that makes the program header table of a file of this size wrong
abbrev pub wrong_table_of : ℕ → List ℕ → Option ℕ
wrong_table_of n head =
    if not (e_phentsize head == phdr_size) then Some 54
    else if e_phnum head == 0 || nat_lt 64 (e_phnum head) then Some 56
    else if nat_lt n (e_phoff head + phdr_size * e_phnum head) then Some 32
    else None

-- the first row on the file header that stands, for a file of this size that begins with the bytes head
unfoldable pub head_fault : ℕ → List ℕ → Option ImageFault
head_fault n head =
    row_if (nat_lt n ehdr_size) Short n (
    row_if (not (has_magic head)) Magic 0 (
    row_at (wrong_class head) Class (
    row_if (not (e_type head == 2)) FileType 16 (
    row_if (not (e_machine head == 62)) Machine 18 (
    row_at (wrong_table_of n head) Table None)))))

-- the program header table of the file b
abbrev pub table_of : List ℕ → List ℕ
table_of b = take (phdr_size * e_phnum b) (drop (e_phoff b) b)

-- the segments of a program header table with so many entries, in table order
unfoldable pub segments_in : List ℕ → ℕ → List ProgramHeader
segments_in table n = filter is_segment (map (λ i. program_header_at table (phdr_size * i) i) (range_with_len 0 n))

-- the first row on the segments that stands, for a file of this size with this entry
unfoldable pub later_fault : ℕ → ℕ → List ProgramHeader → Option ImageFault
later_fault n entry segs = or_later (segment_fault n segs) (whole_fault entry segs)

-- the same, for a file of this shape with this program header table
abbrev pub table_fault : FileShape → List ℕ → Option ImageFault
table_fault shape table = later_fault shape.size shape.entry (segments_in table shape.count)

-- the headers of a file: its size, its entry, and its segments in table order
pub record FileHeaders : Type 0 where
  pub size : ℕ
  pub entry : ℕ
  pub segments : List ProgramHeader

-- the headers of a file of this shape with this program header table
abbrev pub headers_of : FileShape → List ℕ → FileHeaders
headers_of shape table = record { size = shape.size; entry = shape.entry; segments = segments_in table shape.count }
