-- What a joined image loads: the segments of an image, then modules, each on whole pages, then a directory of them.
use Rattle.std.specs.Prelude.{ℕ, ◌+◌, ◌-◌, ◌*◌, ◌/◌, ◌%◌, Bool, if◌then◌else◌, List, [], ◌∷◌, ◌++◌, length, map, take, drop, slice_index}
use Rattle.std.specs.Int.{to_le_bytes, w64}
use Rattle.std.specs.List.{flat_map}
use Rattle.elf_image.specs.declared.program_header.ProgramHeader.{ProgramHeader}
use Rattle.elf_image.specs.Elf.{segments}
use Rattle.elf_image.specs.Pages.{page_count, pages_of}

-- a module of code: whether a page without translation stands before it, and its bytes
pub record CodeModule : Type 0 where
  pub guard : Bool
  pub bytes : List ℕ

-- what a program header loads: its flags, its address, how many bytes it takes in memory, and those that come first
pub record JoinedPart : Type 0 where
  pub flags : ℕ
  pub address : ℕ
  pub memory_size : ℕ
  pub bytes : List ℕ

-- a segment of the image, the file b: of its flags the three that say what may be done
abbrev pub image_part : List ℕ → ProgramHeader → JoinedPart
image_part b s = record {
  flags = s.flags % 8;
  address = s.address;
  memory_size = s.memory_size;
  bytes = take s.file_size (drop s.offset b);
}

-- the size of the pages that hold so many bytes
abbrev pub whole_pages : ℕ → ℕ
whole_pages size = (size + 4095) / 4096 * 4096

-- the address past the image's highest page
abbrev pub image_end : List ℕ → ℕ
image_end b = 4096 * slice_index (pages_of b) (page_count b - 1) + 4096

-- where a module begins behind this address: a guard page is left out
abbrev pub module_start : ℕ → Bool → ℕ
module_start end guard = if guard then end + 4096 else end

-- a module at an address: it may be read and executed, and takes whole pages
abbrev pub module_part : ℕ → List ℕ → JoinedPart
module_part start bytes = record {
  flags = 5;
  address = start;
  memory_size = whole_pages (length bytes);
  bytes = bytes;
}

-- the modules, one behind the other, from this address on
abbrev pub module_parts : ℕ → List CodeModule → List JoinedPart
module_parts end [] = []
module_parts end (m ∷ later) =
    module_part (module_start end m.guard) m.bytes
    ∷ module_parts (module_start end m.guard + whole_pages (length m.bytes)) later

-- where the directory stands: on the last page of the image's home
abbrev pub directory_address : ℕ
directory_address = 0xFFFFFFFFBFFFF000

-- an entry of the directory: the address and the length of a module
abbrev pub directory_entry : JoinedPart → List ℕ
directory_entry part = to_le_bytes w64 part.address ++ to_le_bytes w64 (length part.bytes)

-- the directory: how many modules there are, and an entry for each
unfoldable pub directory_of : List JoinedPart → List ℕ
directory_of modules = to_le_bytes w64 (length modules) ++ flat_map directory_entry modules

-- it may be read
abbrev pub directory_part : List JoinedPart → JoinedPart
directory_part modules = record {
  flags = 4;
  address = directory_address;
  memory_size = 8 + 16 * length modules;
  bytes = directory_of modules;
}

-- the modules behind the image
abbrev pub modules_behind : List ℕ → List CodeModule → List JoinedPart
modules_behind b modules = module_parts (image_end b) modules

-- all parts, in the order of their program headers
abbrev pub joined_parts : List ℕ → List CodeModule → List JoinedPart
joined_parts b modules =
    map (image_part b) (segments b) ++ (modules_behind b modules ++ directory_part (modules_behind b modules) ∷ [])
