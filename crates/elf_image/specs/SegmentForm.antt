-- What it means that no row stands on the segments of a file of this size with this entry, which are in table order.
use Rattle.std.specs.Prelude.{◌≡◌, ℕ, ◌+◌, ◌<◌, ◌≤◌, true, false, List}
use Rattle.std.specs.List.{All, AllPairs, list_any}
use Rattle.elf_image.specs.declared.program_header.ProgramHeader.{ProgramHeader}
use Rattle.elf_image.specs.Home.{home_end, home_start}
use Rattle.elf_image.specs.Segments.{is_code_at, is_misaligned, is_writable_code, shares_page, total_pages}

-- the segment takes memory in the home, and bytes of a file of this size
pub record IsPlaced (size : ℕ) (s : ProgramHeader) : Type 0 where
  pub takes : 0 < s.memory_size
  pub backed : s.file_size ≤ s.memory_size
  pub inside : s.offset + s.file_size ≤ size
  pub above : home_start ≤ s.address
  pub below : s.address + s.memory_size ≤ home_end

-- each is placed, aligned, and not both writable and executable; no two share a page; the entry lies in the memory of one
-- that may be executed; and they have 8,192 pages at most
pub record AreInForm (size entry : ℕ) (segs : List ProgramHeader) : Type 0 where
  pub placed : All (IsPlaced size) segs
  pub aligned : All (λ s. is_misaligned s ≡ false) segs
  pub rights : All (λ s. is_writable_code s ≡ false) segs
  pub apart : AllPairs (λ s t. shares_page s t ≡ false) segs
  pub code : list_any (is_code_at entry) segs ≡ true
  pub few : total_pages segs ≤ 8192
