use Rattle.std.proofs.Common.{Option, subst, sym}
use Rattle.file_scan.specs.HeldFile.{HoldsFile}
use Rattle.file_scan.specs.ShelfChanges.{Files}
use Rattle.file_scan.proofs.PageReads.{admitted_by}
use Rattle.file_scan.proofs.page_pieces.scan_sized.Goals as goal

pub returns-clause-says : goal.returns-clause-says
returns-clause-says g c = λ b held.
    let P : Option Files → Type 0 = λ files. HoldsFile files c.args.name.now b in
    let there = subst P (sym c.in-Ok.ensures.kept.same_files) held in
    let has = c.in-Ok.ensures.headers b held in
    let told = c.image_law.ensures b c.in-Ok.headers has.image in
    admitted_by b c.in-Ok.headers _ _ has told (c.in_default.ensures.clean b there) c.entry.ensures.entry c.executable_pages.ensures.count
