use Rattle.std.proofs.Common.{◌≡◌, length}
use Rattle.elf_image.specs.Home.{page_size}
use Rattle.file_scan.specs.WalkedPieces.{IsWalk}
use Rattle.file_scan.specs.ShelfChanges.{shelf_change}
use Rattle.file_scan.proofs.page_pieces.scan_pages.Given as goal

-- the pages so far were scanned
abbrev pub invariant-loop-i : goal.invariant-loop-i
invariant-loop-i g l =
    IsWalk (shelf_change g.S.Shelf.files g.S.Shelf.faults g.S.Shelf.wants l.fn.shelf l.shelf) l.name l.headers l.scanner l.i
    × (length l.page ≡ page_size)
