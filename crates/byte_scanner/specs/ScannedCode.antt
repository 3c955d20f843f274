-- How far a scanner has come that takes an image's code, the file b, in ascending order.
use Rattle.std.specs.Prelude.{◌≡◌, ℕ, ◌+◌, ◌*◌, ◌/◌, ◌<◌, ◌≤◌, List, length, slice_get, slice_index, None, false}
use Rattle.elf_image.specs.Home.{page_size}
use Rattle.elf_image.specs.Pages.{is_executable, page_count, pages_of}
use Rattle.byte_scanner.specs.ImageCode.{code_at}
use Rattle.byte_scanner.specs.LeastPlace.{NoneBelow}
use Rattle.byte_scanner.specs.PieceRuns.{IsBehind}
use Rattle.byte_scanner.specs.Scanned.{Scanned}

-- no code stands from an address on, up to another one
abbrev pub NoCode : List ℕ → ℕ → ℕ → Type 0
NoCode b from upto = (a : ℕ) → from ≤ a → a < upto → code_at b a ≡ None

-- nor from an address on at all
abbrev pub NoCodeFrom : List ℕ → ℕ → Type 0
NoCodeFrom b from = (a : ℕ) → from ≤ a → code_at b a ≡ None

-- the code from an address on is these bytes
abbrev pub IsCode : List ℕ → ℕ → List ℕ → Type 0
IsCode b at bytes = (k : ℕ) → k < length bytes → code_at b (at + k) ≡ slice_get bytes k

-- all code below an address was given, and holds no protected encoding but one that goes on from there
pub record HasScanned (b : List ℕ) (s : Scanned) (upto : ℕ) : Type 0 where
  pub start : ℕ
  pub run : List ℕ
  pub behind : IsBehind s start run
  pub shows : IsCode b start run
  pub before : NoneBelow (code_at b) start
  pub reached : start + length run ≤ upto
  pub gap : NoCode b (start + length run) upto

-- the same of all pages up to page number i: the others begin at or past the address, and these hold no code from there
pub record HasWalked (b : List ℕ) (s : Scanned) (i : ℕ) : Type 0 where
  pub upto : ℕ
  pub scanned : HasScanned b s upto
  pub ahead : (j : ℕ) → i ≤ j → j < page_count b → upto ≤ page_size * slice_index (pages_of b) j
  pub passed : (a j : ℕ) → upto ≤ a → j < i → a / page_size ≡ slice_index (pages_of b) j
      → is_executable b (a / page_size) ≡ false
