-- What an image, the file b, loads: its entry, its pages and their bytes. Page n begins at address 4096 * n.
use Rattle.std.specs.Prelude.{◌≡◌, ℕ, ◌+◌, ◌-◌, ◌*◌, ◌/◌, ◌<◌, ◌≤◌, Bool, true, false, ◌&&◌, List, length, slice_index, filter, find, Option, Some, None}
use Rattle.std.specs.List.{list_any, range_with_len}
use Rattle.elf_image.specs.declared.program_header.ProgramHeader.{ProgramHeader}
use Rattle.elf_image.specs.Elf.{e_entry, has_flag, pf_w, pf_x, segments}
use Rattle.elf_image.specs.Home.{home_end, home_start, page_size}
use Rattle.elf_image.specs.Segments.{covers, touches, loads}

-- the address of the first instruction
unfoldable pub entry_of : List ℕ → ℕ
entry_of b = e_entry b

-- the memory of a segment covers address va
unfoldable pub is_in_memory : List ℕ → ℕ → Bool
is_in_memory b va = list_any (λ s. covers s va) (segments b)

-- page n is one of the image's: a segment touches it
unfoldable pub is_page : List ℕ → ℕ → Bool
is_page b n = list_any (λ s. touches s n) (segments b)

-- page n is one of the image's, and may be executed
unfoldable pub is_executable : List ℕ → ℕ → Bool
is_executable b n = list_any (λ s. touches s n && has_flag s pf_x) (segments b)

-- page n is one of the image's, and may be written
unfoldable pub is_writable : List ℕ → ℕ → Bool
is_writable b n = list_any (λ s. touches s n && has_flag s pf_w) (segments b)

-- n numbers in turn, from a on
unfoldable pub numbers_from : ℕ → ℕ → List ℕ
numbers_from a n = range_with_len a n

-- the pages of the home, ascending
unfoldable pub home_pages : List ℕ
home_pages = numbers_from (home_start / page_size) ((home_end - home_start) / page_size)

-- the image's pages, ascending
unfoldable pub pages_of : List ℕ → List ℕ
pages_of b = filter (is_page b) home_pages

-- how many they are, and how many of them may be executed
abbrev pub page_count : List ℕ → ℕ
page_count b = length (pages_of b)

abbrev pub executable_page_count : List ℕ → ℕ
executable_page_count b = length (filter (is_executable b) (pages_of b))

-- the byte that a segment, if there is one, takes from the file for address va
abbrev pub byte_from : List ℕ → ℕ → Option ProgramHeader → ℕ
byte_from b va (Some s) = slice_index b (s.offset + (va - s.address))
byte_from b va None = 0

-- the byte at address va: the file's where a segment loads it, else 0
unfoldable pub byte_of : List ℕ → ℕ → ℕ
byte_of b va = byte_from b va (find (λ s. loads s va) (segments b))

-- these are the bytes of page n
pub record IsBytesOfPage (b : List ℕ) (n : ℕ) (bytes : List ℕ) : Type 0 where
  pub full : length bytes ≡ page_size
  pub each : (k : ℕ) → k < page_size → slice_index bytes k ≡ byte_of b (page_size * n + k)

-- what holds of an image's pages: they ascend, lie in the home, and are all pages that a segment touches, which are
-- those that hold an address of its memory. A page that may be executed is one of them, and may not be written.
pub record IsPageList (b : List ℕ) (pages : List ℕ) : Type 0 where
  pub ascending : (i j : ℕ) → i < j → j < length pages → slice_index pages i < slice_index pages j
  pub home : (i : ℕ) → i < length pages → (home_start ≤ page_size * slice_index pages i)
      × (page_size * slice_index pages i + page_size ≤ home_end)
  pub touched : (i : ℕ) → i < length pages → is_page b (slice_index pages i) ≡ true
  pub complete : (n : ℕ) → is_page b n ≡ true → (i : ℕ) × (i < length pages) × (slice_index pages i ≡ n)
  pub holds : (n : ℕ) → is_page b n ≡ true → (va : ℕ) × (va / page_size ≡ n) × (is_in_memory b va ≡ true)
  pub held : (va : ℕ) → is_in_memory b va ≡ true → is_page b (va / page_size) ≡ true
  pub executable : (n : ℕ) → is_executable b n ≡ true → is_page b n ≡ true
  pub unwritable : (n : ℕ) → is_executable b n ≡ true → is_writable b n ≡ false
