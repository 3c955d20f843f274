use Rattle.file_scan.specs.ShelfChanges.{shelf_change}
use Rattle.file_scan.proofs.HeldFiles.{said_since, still_held}
use Rattle.file_scan.proofs.page_pieces.scan_file.Goals as goal

pub scan_sized-requires : goal.scan_sized-requires
scan_sized-requires g c =
    let shelf = shelf_change g.S.Shelf.files g.S.Shelf.faults g.S.Shelf.wants c.args.shelf.now c.size_of.new.shelf in
    record { size = still_held shelf.before shelf.after shelf.after c.args.name.now _ c.in-Ok.ensures.size c.in-Ok.ensures.kept }

pub returns-clause-says : goal.returns-clause-says
returns-clause-says g c =
    let first = shelf_change g.S.Shelf.files g.S.Shelf.faults g.S.Shelf.wants c.args.shelf.now c.size_of.new.shelf in
    let last = shelf_change g.S.Shelf.files g.S.Shelf.faults g.S.Shelf.wants c.size_of.new.shelf c.scan_sized.new.shelf in
    said_since first.before first.after last.after c.args.name.now _ c.in-Ok.ensures.size c.in-Ok.ensures.kept c.scan_sized.result c.scan_sized.ensures.says
