-- The headers of a file that is written, field by field, by the names and at the places of the ELF-64 object file format.
use Rattle.std.specs.Prelude.{◌≡◌, ℕ, ◌+◌, ◌-◌, ◌*◌, ◌/◌, ◌%◌, ◌^◌, ◌<◌, ◌≤◌, ◌&&◌, nat_le, nat_lt, if◌then◌else◌, List, [], ◌∷◌, length, slice_index, None}
use Rattle.elf_image.specs.declared.program_header.ProgramHeader.{ProgramHeader}
use Rattle.elf_image.specs.Elf.{e_entry, e_phnum, e_phoff}
use Rattle.elf_image.specs.Rows.{file_fault}

-- a field of a file: its place, how many bytes it has, and its number, which is stored least byte first
pub record Field : Type 0 where
  pub place : ℕ
  pub count : ℕ
  pub number : ℕ

abbrev pub field : ℕ → ℕ → ℕ → Field
field place count number = record { place = place; count = count; number = number }

-- byte k of a number
abbrev pub number_byte : ℕ → ℕ → ℕ
number_byte number k = number / 256 ^ k % 256

-- the byte at a place by the field that holds it; 0 where none does
abbrev pub byte_in_fields : List Field → ℕ → ℕ
byte_in_fields [] at = 0
byte_in_fields (f ∷ later) at =
    if nat_le f.place at && nat_lt at (f.place + f.count) then number_byte f.number (at - f.place)
    else byte_in_fields later at

-- the file header, Elf64_Ehdr, of an executable file for x86-64 with this entry and so many program headers behind it
abbrev pub file_header : ℕ → ℕ → List Field
file_header entry count =
    field 0 4 0x464C457F ∷ field 4 1 2 ∷ field 5 1 1 ∷ field 6 1 1
    ∷ field 16 2 2 ∷ field 18 2 62 ∷ field 20 4 1 ∷ field 24 8 entry
    ∷ field 32 8 64 ∷ field 52 2 64 ∷ field 54 2 56 ∷ field 56 2 count ∷ []

-- a program header, Elf64_Phdr, by places from its first byte on: PT_LOAD with flags, offset, address and its two sizes,
-- aligned to pages
abbrev pub program_header : ℕ → ℕ → ℕ → ℕ → ℕ → List Field
program_header flags offset address file_size memory_size =
    field 0 4 1 ∷ field 4 4 flags ∷ field 8 8 offset ∷ field 16 8 address ∷ field 24 8 address
    ∷ field 32 8 file_size ∷ field 40 8 memory_size ∷ field 48 8 4096 ∷ []

-- the file b begins with such a file header, and has room for the program headers
pub record HasFileHeader (b : List ℕ) (entry count : ℕ) : Type 0 where
  pub some : 0 < count
  pub few : count ≤ 64
  pub long : 64 + 56 * count ≤ length b
  pub address : entry < 2 ^ 64
  pub bytes : (at : ℕ) → at < 64 → slice_index b at ≡ byte_in_fields (file_header entry count) at

-- no row on its file header stands, and it is read as it was written
pub record IsReadAsWritten (b : List ℕ) (entry count : ℕ) : Type 0 where
  pub none : file_fault b ≡ None
  pub entry_read : e_entry b ≡ entry
  pub table_read : e_phoff b ≡ 64
  pub count_read : e_phnum b ≡ count

-- such a program header stands at this place of the file b, and is that of h
pub record HasProgramHeader (b : List ℕ) (place : ℕ) (h : ProgramHeader) : Type 0 where
  pub loaded : h.kind ≡ 1
  pub flags : h.flags < 2 ^ 32
  pub offset : h.offset < 2 ^ 64
  pub address : h.address < 2 ^ 64
  pub file_size : h.file_size < 2 ^ 64
  pub memory_size : h.memory_size < 2 ^ 64
  pub bytes : (k : ℕ) → k < 56 → slice_index b (place + k)
      ≡ byte_in_fields (program_header h.flags h.offset h.address h.file_size h.memory_size) k
