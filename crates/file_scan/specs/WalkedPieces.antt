-- How far the pages of a file are scanned that is read in pieces, and why a step stops whose name may have no file.
use Rattle.std.specs.Prelude.{◌≡◌, ℕ, ◌*◌, ◌<◌, ◌≤◌, List, length, slice_index}
use Rattle.nk_host.specs.FaultCounts.{Rose, RoseTo}
use Rattle.elf_image.specs.FileParts.{IsImage, IsShapeOf}
use Rattle.elf_image.specs.HeaderRows.{FileHeaders, FileShape}
use Rattle.elf_image.specs.Home.{page_size}
use Rattle.elf_image.specs.SegmentPages.{pages_in}
use Rattle.byte_scanner.specs.Scanned.{Scanned}
use Rattle.byte_scanner.specs.ScannedCode.{HasWalked}
use Rattle.file_scan.specs.declared.pieces.Stop.{Stop}
use Rattle.file_scan.specs.declared.pieces.Stop.TheVariants.{Faulty, Longer, Protected, Unread, Want}
use Rattle.file_scan.specs.ScanStops.{HasFault, HasFound}
use Rattle.file_scan.specs.HeldFile.{AreFilesKept, WhereHeld}
use Rattle.file_scan.specs.GoodImages.{longest_file}
use Rattle.file_scan.specs.ShelfChanges.{Change, ShelfState}

-- the file is of this size, which is within the limit
pub record IsOfSize (size : ℕ) (b : List ℕ) : Type 0 where
  pub within : length b ≤ longest_file
  pub is : length b ≡ size

-- the file is within the limit, and this is its shape
pub record HasShape (shape : FileShape) (b : List ℕ) : Type 0 where
  pub within : length b ≤ longest_file
  pub shape_is : IsShapeOf b shape

-- the file is within the limit and in form, and these are its headers
pub record HasHeaders (headers : FileHeaders) (b : List ℕ) : Type 0 where
  pub within : length b ≤ longest_file
  pub image : IsImage b headers

-- each page from number i on begins at or past the scanner's end
abbrev pub IsAhead : List ℕ → Scanned → ℕ → Type 0
IsAhead pages s i = (j : ℕ) → i ≤ j → j < length pages → s.end ≤ page_size * slice_index pages j

-- between two moments of the shelf all pages below number i were scanned, and hold nothing protected
pub record IsWalk (shelf : Change ShelfState) (name : List ℕ) (headers : FileHeaders) (s : Scanned) (i : ℕ) : Type 0 where
  pub kept : AreFilesKept shelf
  pub ahead : IsAhead (pages_in headers.segments) s i
  pub walked : WhereHeld shelf.before.files name (λ b. HasWalked b s i)

-- the scan of the file of a name, if there is one, stopped for this reason
abbrev pub IsStopWhereHeld : Change ShelfState → List ℕ → Stop → Type 0
IsStopWhereHeld shelf name Unread = Rose shelf.before.faults shelf.after.faults name
IsStopWhereHeld shelf name Want = RoseTo shelf.before.wants shelf.after.wants
IsStopWhereHeld shelf name Longer = WhereHeld shelf.before.files name (λ b. longest_file < length b)
IsStopWhereHeld shelf name (Faulty fault) = WhereHeld shelf.before.files name (HasFault fault)
IsStopWhereHeld shelf name (Protected found) =
    (2 ≤ found.count) × (found.count ≤ 3) × WhereHeld shelf.before.files name (HasFound found)
