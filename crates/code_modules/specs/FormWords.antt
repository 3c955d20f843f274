-- What parts must be like for their file to be in form, and its program headers as they are read.
use Rattle.std.specs.Prelude.{◌≡◌, ℕ, ◌+◌, ◌-◌, ◌<◌, ◌≤◌, false, true, if◌then◌else◌, List, [], ◌∷◌, length, slice_index, ⊤, ◌⊎◌}
use Rattle.std.specs.List.{All, list_any, sum_by}
use Rattle.elf_image.specs.declared.program_header.ProgramHeader.{ProgramHeader}
use Rattle.elf_image.specs.Home.{home_end, home_start}
use Rattle.elf_image.specs.Segments.{is_code_at, is_writable_code, loads}
use Rattle.code_modules.specs.JoinAnswers.{part_first, part_last, part_pages}
use Rattle.code_modules.specs.JoinedFile.{FilePart}
use Rattle.code_modules.specs.JoinedParts.{JoinedPart}

-- the program header of a part, with this index in the table
abbrev pub header_from : ℕ → FilePart → ProgramHeader
header_from i p = record {
  index = i;
  kind = 1;
  flags = p.part.flags;
  offset = p.offset;
  address = p.part.address;
  file_size = length p.part.bytes;
  memory_size = p.part.memory_size;
}

-- the program headers of parts, of which the first has this index
abbrev pub numbered : ℕ → List FilePart → List ProgramHeader
numbered i [] = []
numbered i (p ∷ later) = header_from i p ∷ numbered (i + 1) later

-- a part by itself, as if its bytes stood at the file's first place
abbrev pub unplaced : JoinedPart → ProgramHeader
unplaced part = header_from 0 (record { offset = 0; part = part })

-- a part takes memory in the home, has no more bytes, and isn't both writable and executable
pub record IsLoadable (part : JoinedPart) : Type 0 where
  pub flags : part.flags < 8
  pub rights : is_writable_code (unplaced part) ≡ false
  pub takes : 0 < part.memory_size
  pub backed : length part.bytes ≤ part.memory_size
  pub above : home_start ≤ part.address
  pub below : part.address + part.memory_size ≤ home_end

-- all pages of one part are below those of another, or above
abbrev pub LieApart : JoinedPart → JoinedPart → Type 0
LieApart p q = (part_last p < part_first q) ⊎ (part_last q < part_first p)

-- each part and each later one
abbrev pub EachApart : List JoinedPart → Type 0
EachApart [] = ⊤
EachApart (p ∷ later) = All (LieApart p) later × EachApart later

-- a page lies between each part and each later one
abbrev pub EachGap : List JoinedPart → Type 0
EachGap [] = ⊤
EachGap (p ∷ later) = All (λ q. part_last p + 1 < part_first q) later × EachGap later

-- parts whose file with this entry is in form
pub record AreJoinable (entry : ℕ) (parts : List JoinedPart) : Type 0 where
  pub some : 0 < length parts
  pub few : length parts ≤ 64
  pub each : All IsLoadable parts
  pub apart : EachApart parts
  pub code : list_any (λ p. is_code_at entry (unplaced p)) parts ≡ true
  pub pages : sum_by part_pages parts ≤ 8192

-- the byte at an address by the first part whose bytes are there; 0 where none has any
abbrev pub loaded_byte : List JoinedPart → ℕ → ℕ
loaded_byte [] va = 0
loaded_byte (p ∷ later) va =
    if loads (unplaced p) va then slice_index p.bytes (va - p.address) else loaded_byte later va
