-- The fields of an ELF64 file, read from the whole file b, by the names and at the places of the ELF-64 object file
-- format.
use Rattle.std.specs.Prelude.{ℕ, ◌+◌, ◌*◌, ◌==◌, Bool, not, ◌&&◌, List, map, filter, drop, nat_lt, bit_and}
use Rattle.std.specs.List.{range_with_len}
use Rattle.byteorder.specs.Endian.{little_number}
use Rattle.elf_image.specs.declared.program_header.ProgramHeader.{ProgramHeader}

-- the number in the n bytes from this place on, least significant first
unfoldable pub field_at : List ℕ → ℕ → ℕ → ℕ
field_at b n place = little_number n (drop place b)

-- a field of two bytes: Elf64_Half
abbrev pub half : List ℕ → ℕ → ℕ
half b place = field_at b 2 place

-- of four: Elf64_Word
abbrev pub word : List ℕ → ℕ → ℕ
word b place = field_at b 4 place

-- of eight: Elf64_Xword, Elf64_Addr or Elf64_Off
abbrev pub xword : List ℕ → ℕ → ℕ
xword b place = field_at b 8 place

-- the size of the file header, Elf64_Ehdr, in bytes
abbrev pub ehdr_size : ℕ
ehdr_size = 64

-- the fields of the file header
abbrev pub e_type : List ℕ → ℕ
e_type b = half b 16

abbrev pub e_machine : List ℕ → ℕ
e_machine b = half b 18

abbrev pub e_entry : List ℕ → ℕ
e_entry b = xword b 24

abbrev pub e_phoff : List ℕ → ℕ
e_phoff b = xword b 32

abbrev pub e_phentsize : List ℕ → ℕ
e_phentsize b = half b 54

abbrev pub e_phnum : List ℕ → ℕ
e_phnum b = half b 56

-- the size of a program header, Elf64_Phdr, in bytes
abbrev pub phdr_size : ℕ
phdr_size = 56

-- the program header that stands at place p of the file and has this index in the table: p_type, p_flags, p_offset,
-- p_vaddr, p_filesz and p_memsz
unfoldable pub program_header_at : List ℕ → ℕ → ℕ → ProgramHeader
program_header_at b p i = record {
  index = i;
  kind = word b p;
  flags = word b (p + 4);
  offset = xword b (p + 8);
  address = xword b (p + 16);
  file_size = xword b (p + 32);
  memory_size = xword b (p + 40);
}

-- the program header of this index
abbrev pub header_at : List ℕ → ℕ → ProgramHeader
header_at b i = program_header_at b (e_phoff b + phdr_size * i) i

-- the program header table
abbrev pub headers : List ℕ → List ProgramHeader
headers b = map (header_at b) (range_with_len 0 (e_phnum b))

-- the type of a header that is to be loaded
abbrev pub pt_load : ℕ
pt_load = 1

-- a header counts as a segment where it is to be loaded and takes memory
abbrev pub is_segment : ProgramHeader → Bool
is_segment h = h.kind == pt_load && nat_lt 0 h.memory_size

-- the segments, in table order
unfoldable pub segments : List ℕ → List ProgramHeader
segments b = filter is_segment (headers b)

-- the flags of a segment that may be executed, and of one that may be written
abbrev pub pf_x : ℕ
pf_x = 1

abbrev pub pf_w : ℕ
pf_w = 2

-- the header has this flag
abbrev pub has_flag : ProgramHeader → ℕ → Bool
has_flag h flag = not (bit_and h.flags flag == 0)
