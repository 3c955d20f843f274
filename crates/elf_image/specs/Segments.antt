-- Where a segment lies in the file, in memory and among the pages. Sums are of numbers without bound.
use Rattle.std.specs.Prelude.{ℕ, ◌+◌, ◌-◌, ◌/◌, ◌%◌, ◌==◌, Bool, not, ◌&&◌, ◌||◌, List, sum_by, nat_lt, nat_le}
use Rattle.std.specs.List.{list_any, range_with_len}
use Rattle.elf_image.specs.declared.program_header.ProgramHeader.{ProgramHeader}
use Rattle.elf_image.specs.Elf.{has_flag, pf_w, pf_x}
use Rattle.elf_image.specs.Home.{home_end, home_start, page_size}

-- its memory range covers this address
abbrev pub covers : ProgramHeader → ℕ → Bool
covers s va = nat_le s.address va && nat_lt va (s.address + s.memory_size)

-- its part of the file covers this address
abbrev pub loads : ProgramHeader → ℕ → Bool
loads s va = nat_le s.address va && nat_lt va (s.address + s.file_size)

-- the page of its first byte, and that of its last
abbrev pub first_page : ProgramHeader → ℕ
first_page s = s.address / page_size

abbrev pub last_page : ProgramHeader → ℕ
last_page s = (s.address + s.memory_size - 1) / page_size

-- it touches page n
abbrev pub touches : ProgramHeader → ℕ → Bool
touches s n = nat_le (first_page s) n && nat_le n (last_page s)

-- how many pages it touches
abbrev pub pages_touched : ProgramHeader → ℕ
pages_touched s = last_page s - first_page s + 1

-- the pages that it touches, ascending
abbrev pub pages_of_segment : ProgramHeader → List ℕ
pages_of_segment s = range_with_len (first_page s) (pages_touched s)

-- how many pages the segments have, each counted by itself
abbrev pub total_pages : List ProgramHeader → ℕ
total_pages segments = sum_by pages_touched segments

-- some page is touched by both
abbrev pub shares_page : ProgramHeader → ProgramHeader → Bool
shares_page s t = nat_le (first_page s) (last_page t) && nat_le (first_page t) (last_page s)

-- its part of the file is longer than its memory, or passes the end of a file of this length
abbrev pub passes_end : ℕ → ProgramHeader → Bool
passes_end file_length s = nat_lt s.memory_size s.file_size || nat_lt file_length (s.offset + s.file_size)

-- it takes bytes from the file, and its address and its offset differ within a page
abbrev pub is_misaligned : ProgramHeader → Bool
is_misaligned s = not (s.file_size == 0) && not (s.address % page_size == s.offset % page_size)

-- it begins before the home, or ends after it
abbrev pub leaves_home : ProgramHeader → Bool
leaves_home s = nat_lt s.address home_start || nat_lt home_end (s.address + s.memory_size)

-- it touches a page of an earlier segment
abbrev pub shares_with_earlier : List ProgramHeader → ProgramHeader → Bool
shares_with_earlier segments s = list_any (λ t. nat_lt t.index s.index && shares_page t s) segments

-- it may be written and executed
abbrev pub is_writable_code : ProgramHeader → Bool
is_writable_code s = has_flag s pf_x && has_flag s pf_w

-- it may be executed, and its memory range covers this address
abbrev pub is_code_at : ℕ → ProgramHeader → Bool
is_code_at va s = has_flag s pf_x && covers s va
