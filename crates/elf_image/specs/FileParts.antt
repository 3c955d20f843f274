-- What a reader may rely on who has the headers of an image alone, and reads the file page by page.
use Rattle.std.specs.Prelude.{◌≡◌, ℕ, ◌+◌, ◌-◌, ◌*◌, ◌/◌, ◌<◌, ◌≤◌, ◌++◌, true, false, List, length, slice_index, take, drop, replicate, filter, Some, None}
use Rattle.elf_image.specs.declared.image_headers.Segment.{Segment}
use Rattle.elf_image.specs.declared.program_header.ProgramHeader.{ProgramHeader}
use Rattle.elf_image.specs.Elf.{e_entry, e_phnum, ehdr_size, segments}
use Rattle.elf_image.specs.Home.{home_end, home_start, page_size}
use Rattle.elf_image.specs.Rows.{IsForm, file_fault, first_fault, or_later}
use Rattle.elf_image.specs.Pages.{IsBytesOfPage, byte_of, entry_of, executable_page_count, is_executable, is_writable, pages_of}
use Rattle.elf_image.specs.HeaderRows.{FileHeaders, FileShape, head_fault, segments_in, shape_of, table_fault, table_of}
use Rattle.elf_image.specs.SegmentPages.{byte_in, is_executable_of, is_in_memory_of, is_page_of, is_writable_of, pages_in, loaded_place}

-- what holds of the pages of segments in form: they ascend, lie in the home, and are all pages that a segment touches,
-- which are those that hold an address of its memory. One that may be executed is one of them, and may not be written.
pub record ArePages (segs : List ProgramHeader) (pages : List ℕ) : Type 0 where
  pub ascending : (i j : ℕ) → i < j → j < length pages → slice_index pages i < slice_index pages j
  pub home : (i : ℕ) → i < length pages → (home_start ≤ page_size * slice_index pages i)
      × (page_size * slice_index pages i + page_size ≤ home_end)
  pub touched : (i : ℕ) → i < length pages → is_page_of segs (slice_index pages i) ≡ true
  pub complete : (n : ℕ) → is_page_of segs n ≡ true → (i : ℕ) × (i < length pages) × (slice_index pages i ≡ n)
  pub holds : (n : ℕ) → is_page_of segs n ≡ true → (va : ℕ) × (va / page_size ≡ n) × (is_in_memory_of segs va ≡ true)
  pub held : (va : ℕ) → is_in_memory_of segs va ≡ true → is_page_of segs (va / page_size) ≡ true
  pub executable : (n : ℕ) → is_executable_of segs n ≡ true → is_page_of segs n ≡ true
  pub unwritable : (n : ℕ) → is_executable_of segs n ≡ true → is_writable_of segs n ≡ false

-- of the page at address va these bytes come from a file of this size: len bytes from the file's place at on, which lie
-- in the page from its byte skip on. Where none do, all three are 0.
pub record IsPart (size : ℕ) (segs : List ProgramHeader) (va at skip len : ℕ) : Type 0 where
  pub fits : skip + len ≤ page_size
  pub inside : at + len ≤ size
  pub blank : len ≡ 0 → (at ≡ 0) × (skip ≡ 0)
  pub within : (k : ℕ) → skip ≤ k → k < skip + len → loaded_place segs (va + k) ≡ Some (at + (k - skip))
  pub before : (k : ℕ) → k < skip → loaded_place segs (va + k) ≡ None
  pub after : (k : ℕ) → skip + len ≤ k → k < page_size → loaded_place segs (va + k) ≡ None

-- a segment as callers see it
abbrev pub segment_of : ProgramHeader → Segment
segment_of s = record { flags = s.flags; offset = s.offset; va = s.address; file_size = s.file_size; mem_size = s.memory_size }

-- what the headers of the file b say, which are its first 64 bytes and its program header table, is what the file says
pub record IsReadInParts (b : List ℕ) : Type 0 where
  pub head : head_fault (length b) (take ehdr_size b) ≡ file_fault b
  pub shape : shape_of (length b) (take ehdr_size b) ≡ shape_of (length b) b
  pub counting : segments_in (table_of b) (e_phnum b) ≡ segments b
  pub rows : or_later (file_fault b) (table_fault (shape_of (length b) b) (table_of b)) ≡ first_fault b
  pub pages : pages_of b ≡ pages_in (segments b)
  pub executable : (n : ℕ) → is_executable b n ≡ is_executable_of (segments b) n
  pub writable : (n : ℕ) → is_writable b n ≡ is_writable_of (segments b) n
  pub bytes : (va : ℕ) → byte_of b va ≡ byte_in b (loaded_place (segments b) va)

-- no row on the file header of the file b stands, and this is its shape
pub record IsShapeOf (b : List ℕ) (shape : FileShape) : Type 0 where
  pub none : file_fault b ≡ None
  pub is : shape ≡ shape_of (length b) b

-- the file b is in form, and these are its headers
pub record IsImage (b : List ℕ) (h : FileHeaders) : Type 0 where
  pub form : IsForm b
  pub size : h.size ≡ length b
  pub entry : h.entry ≡ e_entry b
  pub listed : h.segments ≡ segments b

-- a page of which len bytes, from its byte skip on, are those of the file b from the file's place at on, and all others 0
abbrev pub page_with : List ℕ → ℕ → ℕ → ℕ → List ℕ
page_with b at skip len = replicate skip 0 ++ (take len (drop at b) ++ replicate (page_size - (skip + len)) 0)

-- what these headers say is what the file b says: its entry, its pages with their rights, how many may be executed, and
-- for each page, made with its part of the file, its bytes
pub record AreTrueOf (b : List ℕ) (h : FileHeaders) : Type 0 where
  pub entry : h.entry ≡ entry_of b
  pub pages : pages_in h.segments ≡ pages_of b
  pub executable : (n : ℕ) → is_executable_of h.segments n ≡ is_executable b n
  pub writable : (n : ℕ) → is_writable_of h.segments n ≡ is_writable b n
  pub count : length (filter (λ n. is_executable_of h.segments n) (pages_in h.segments)) ≡ executable_page_count b
  pub bytes : (n at skip len : ℕ) → IsPart h.size h.segments (page_size * n) at skip len
      → IsBytesOfPage b n (page_with b at skip len)
