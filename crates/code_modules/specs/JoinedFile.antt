-- The file of a joined image, by the byte at each place.
use Rattle.std.specs.Prelude.{ℕ, ◌+◌, ◌-◌, ◌*◌, ◌/◌, ◌%◌, ◌==◌, ◌&&◌, nat_le, nat_lt, if◌then◌else◌, List, [], ◌∷◌, length, map, slice_get, slice_index, Option, None, Some}
use Rattle.std.specs.List.{range_with_len}
use Rattle.elf_image.specs.WrittenHeaders.{Field, byte_in_fields, file_header, program_header}
use Rattle.code_modules.specs.JoinedParts.{JoinedPart, whole_pages}

-- a part, and the place in the file of its first byte
pub record FilePart : Type 0 where
  pub offset : ℕ
  pub part : JoinedPart

-- where the bytes of so many parts begin: on a page behind the headers
abbrev pub data_start : ℕ → ℕ
data_start count = whole_pages (64 + 56 * count)

-- the offset of a part behind this place: the least one that equals the address modulo 4,096; this place where it has
-- no bytes
abbrev pub offset_from : ℕ → JoinedPart → ℕ
offset_from end part =
    if length part.bytes == 0 then end else end + (part.address % 4096 + 4096 - end % 4096) % 4096

-- the place behind a part
abbrev pub part_end : FilePart → ℕ
part_end p = p.offset + length p.part.bytes

-- the parts, one behind the other, from this place on
abbrev pub placed_from : ℕ → List JoinedPart → List FilePart
placed_from end [] = []
placed_from end (part ∷ later) =
    record { offset = offset_from end part; part = part }
    ∷ placed_from (offset_from end part + length part.bytes) later

abbrev pub placed_parts : List JoinedPart → List FilePart
placed_parts parts = placed_from (data_start (length parts)) parts

-- the place behind the last of them
abbrev pub parts_end : ℕ → List FilePart → ℕ
parts_end end [] = end
parts_end end (p ∷ later) = parts_end (part_end p) later

-- the program header of a part
abbrev pub part_header : FilePart → List Field
part_header p = program_header p.part.flags p.offset p.part.address (length p.part.bytes) p.part.memory_size

-- a byte of the program header that stands there, if one does
abbrev pub header_byte : Option FilePart → ℕ → ℕ
header_byte None at = 0
header_byte (Some p) at = byte_in_fields (part_header p) at

-- the byte at a place by the part that holds it; 0 where none does
abbrev pub byte_in_parts : List FilePart → ℕ → ℕ
byte_in_parts [] at = 0
byte_in_parts (p ∷ later) at =
    if nat_le p.offset at && nat_lt at (part_end p) then slice_index p.part.bytes (at - p.offset)
    else byte_in_parts later at

-- the byte at a place of the file with this entry
unfoldable pub joined_byte : ℕ → List FilePart → ℕ → ℕ
joined_byte entry parts at =
    if nat_lt at 64 then byte_in_fields (file_header entry (length parts)) at
    else if nat_lt at (64 + 56 * length parts)
    then header_byte (slice_get parts ((at - 64) / 56)) ((at - 64) % 56)
    else byte_in_parts parts at

-- the whole file with this entry
unfoldable pub file_of_parts : ℕ → List FilePart → List ℕ
file_of_parts entry parts =
    map (joined_byte entry parts) (range_with_len 0 (parts_end (data_start (length parts)) parts))

abbrev pub file_from : ℕ → List JoinedPart → List ℕ
file_from entry parts = file_of_parts entry (placed_parts parts)
