-- What the headers of an image keep.
use Rattle.std.specs.Prelude.{◌≡◌, ℕ, ◌+◌, ◌*◌, ◌<◌, ◌≤◌, ◌-◌, ◌/◌, ◌==◌, true, false, if◌then◌else◌, Option, Some, None, option_map, List, filter_map, find, length}
use Rattle.std.specs.List.{All, AllPairs, range_with_len}
use Rattle.std.specs.List.Sorted.{IsNonDecreasingBy, IsPermutation}
use Rattle.elf_image.specs.declared.program_header.ProgramHeader.{ProgramHeader}
use Rattle.elf_image.specs.Elf.{e_phnum, e_phoff, is_segment, phdr_size}
use Rattle.elf_image.specs.Home.{page_size}
use Rattle.elf_image.specs.SegmentForm.{IsPlaced}
use Rattle.elf_image.specs.Segments.{loads}
use Rattle.elf_image.specs.HeaderRows.{FileShape, later_fault}
use Rattle.elf_image.specs.SegmentPages.{file_place, loaded_place}

-- the program header table lies in a file of this size that begins with the bytes head, and has 1 to 64 entries
pub record HasTableIn (size : ℕ) (head : List ℕ) : Type 0 where
  pub some : 0 < e_phnum head
  pub few : e_phnum head ≤ 64
  pub inside : e_phoff head + phdr_size * e_phnum head ≤ size

-- the same of a shape
pub record HasTable (shape : FileShape) : Type 0 where
  pub some : 0 < shape.count
  pub few : shape.count ≤ 64
  pub inside : shape.table + phdr_size * shape.count ≤ shape.size

-- no row stands on the segments of a file of this size with this entry, which are in table order
pub record AreJudged (size entry : ℕ) (segs : List ProgramHeader) : Type 0 where
  pub form : later_fault size entry segs ≡ None
  pub counting : All (λ s. is_segment s ≡ true) segs
  pub ordered : AllPairs (λ s t. s.index < t.index) segs

-- segments with places below 64 in the program header table, in its order
unfoldable pub in_table_order : List ProgramHeader → List ProgramHeader
in_table_order segs = filter_map (λ i. find (λ s. s.index == i) segs) (range_with_len 0 64)

-- and sorted are the same in the order of their addresses
pub record AreLoaded (size entry : ℕ) (segs sorted : List ProgramHeader) : Type 0 where
  pub judged : AreJudged size entry segs
  pub few : length segs ≤ 64
  pub same : IsPermutation segs sorted
  pub ascending : IsNonDecreasingBy (λ s. s.address) sorted

-- what the segment that touches page n, or that there is none, says of the places of the bytes of that page
abbrev pub Supplies : ℕ → List ProgramHeader → ℕ → Option ProgramHeader → Type 0
Supplies size segs n None = (va : ℕ) → va / page_size ≡ n → loaded_place segs va ≡ None
Supplies size segs n (Some s) =
    IsPlaced size s
    × ((va : ℕ) → va / page_size ≡ n → loaded_place segs va ≡ option_map (λ t. file_place va t) (if loads s va then Some s else None))

-- of the page at address va the segment loads len bytes of a file of this size, from the file's place at on, to the page's
-- byte skip and those behind it, and no others
pub record IsFilePart (size : ℕ) (s : ProgramHeader) (va at skip len : ℕ) : Type 0 where
  pub fits : skip + len ≤ page_size
  pub inside : at + len ≤ size
  pub blank : len ≡ 0 → (at ≡ 0) × (skip ≡ 0)
  pub within : (k : ℕ) → skip ≤ k → k < skip + len → (loads s (va + k) ≡ true) × (file_place (va + k) s ≡ at + (k - skip))
  pub before : (k : ℕ) → k < skip → loads s (va + k) ≡ false
  pub after : (k : ℕ) → skip + len ≤ k → k < page_size → loads s (va + k) ≡ false
