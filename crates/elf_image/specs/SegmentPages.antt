-- The pages of segments, and the places in the file of the bytes that they load, where the file isn't at hand. A law says
-- that those of an image's segments are the image's.
use Rattle.std.specs.Prelude.{ℕ, ◌+◌, ◌-◌, Bool, ◌&&◌, List, slice_index, filter, find, Option, Some, None, option_map}
use Rattle.std.specs.List.{list_any}
use Rattle.elf_image.specs.declared.program_header.ProgramHeader.{ProgramHeader}
use Rattle.elf_image.specs.Elf.{has_flag, pf_w, pf_x}
use Rattle.elf_image.specs.Segments.{covers, loads, touches}
use Rattle.elf_image.specs.Pages.{home_pages}

-- the memory of a segment covers address va
abbrev pub is_in_memory_of : List ProgramHeader → ℕ → Bool
is_in_memory_of segs va = list_any (λ s. covers s va) segs

-- a segment touches page n
abbrev pub is_page_of : List ProgramHeader → ℕ → Bool
is_page_of segs n = list_any (λ s. touches s n) segs

-- one that may be executed
abbrev pub is_executable_of : List ProgramHeader → ℕ → Bool
is_executable_of segs n = list_any (λ s. touches s n && has_flag s pf_x) segs

-- one that may be written
abbrev pub is_writable_of : List ProgramHeader → ℕ → Bool
is_writable_of segs n = list_any (λ s. touches s n && has_flag s pf_w) segs

-- the pages that the segments touch, ascending
unfoldable pub pages_in : List ProgramHeader → List ℕ
pages_in segs = filter (λ n. is_page_of segs n) home_pages

-- the place in the file of the byte that the segment loads to address va
abbrev pub file_place : ℕ → ProgramHeader → ℕ
file_place va s = s.offset + (va - s.address)

-- the place in the file of the byte that is loaded to address va, where a segment loads one
unfoldable pub loaded_place : List ProgramHeader → ℕ → Option ℕ
loaded_place segs va = option_map (λ s. file_place va s) (find (λ s. loads s va) segs)

-- the byte at a place of the file b, and 0 where there is no place
abbrev pub byte_in : List ℕ → Option ℕ → ℕ
byte_in b (Some place) = slice_index b place
byte_in b None = 0
