use Rattle.std.proofs.Common.{ℕ, ◌+◌, ◌≡◌, refl, arith, subst}
use Rattle.elf_image.specs.Pages.{page_count}
use Rattle.byte_scanner.specs.ScannedCode.{HasWalked}
use Rattle.file_scan.specs.ShelfChanges.{shelf_change}
use Rattle.file_scan.specs.WalkedPieces.{HasHeaders}
use Rattle.file_scan.proofs.HeldFiles.{kept_on, known_before, known_still, stopped_since}
use Rattle.file_scan.proofs.PageReads.{counted, walk_begun}
use Rattle.file_scan.proofs.page_pieces.scan_pages.Goals as goal

pub loop-i-init : goal.loop-i-init
loop-i-init g c = (walk_begun _ _ _ _ c.new-scanner.ensures.end (λ b. c.page_pieces_law.ensures.begun b _ c.new-scanner.ensures.nothing), refl)

pub scan_page-requires-clause-headers : goal.scan_page-requires-clause-headers
scan_page-requires-clause-headers g c =
    let shelf = shelf_change g.S.Shelf.files g.S.Shelf.faults g.S.Shelf.wants c.args.shelf.now c.loop-i.shelf in
    known_still shelf.before shelf.after shelf.after c.args.name.now c.loop-i.invariant.0.kept (HasHeaders c.args.headers.now) c.requires.headers

pub scan_page-requires-clause-walked : goal.scan_page-requires-clause-walked
scan_page-requires-clause-walked g c =
    let shelf = shelf_change g.S.Shelf.files g.S.Shelf.faults g.S.Shelf.wants c.args.shelf.now c.loop-i.shelf in
    known_still shelf.before shelf.after shelf.after c.args.name.now c.loop-i.invariant.0.kept (λ b. HasWalked b c.loop-i.scanner c.loop-i.i)
    c.loop-i.invariant.0.walked

pub returns-in-Err : goal.returns-in-Err
returns-in-Err g c =
    let first = shelf_change g.S.Shelf.files g.S.Shelf.faults g.S.Shelf.wants c.args.shelf.now c.loop-i.shelf in
    let last = shelf_change g.S.Shelf.files g.S.Shelf.faults g.S.Shelf.wants c.loop-i.shelf c.scan_page.new.shelf in
    let kept = c.loop-i.invariant.0.kept in
    record {
      kept = kept_on first.before first.after last.after c.args.name.now kept c.scan_page.ensures.kept;
      clean = stopped_since first.before first.after last.after c.args.name.now kept c.in-Err.stop c.in-Err.ensures.walked;
    }

pub loop-i-preserved : goal.loop-i-preserved
loop-i-preserved g c =
    let first = shelf_change g.S.Shelf.files g.S.Shelf.faults g.S.Shelf.wants c.args.shelf.now c.loop-i.shelf in
    let last = shelf_change g.S.Shelf.files g.S.Shelf.faults g.S.Shelf.wants c.loop-i.shelf c.scan_page.new.shelf in
    let kept = c.loop-i.invariant.0.kept in (
      record {
        kept = kept_on first.before first.after last.after c.args.name.now kept c.scan_page.ensures.kept;
        ahead = c.in_default.ensures.ahead;
        walked = known_before first.before first.after last.after c.args.name.now kept
            (λ b. HasWalked b c.scan_page.new.scanner (c.loop-i.i + 1)) c.in_default.ensures.walked;
      },
      c.scan_page.ensures.len,
    )

pub returns-clause-clean : goal.returns-clause-clean
returns-clause-clean g c = λ b held.
    let has = c.requires.headers b held in
    let told = c.image_law.ensures b c.args.headers.now has.image in
    let last : c.loop-i.i ≡ page_count b = omega (arith, c.pages-i-end.ensures.count, counted c.args.headers.now b told) in
    let P : ℕ → Type 0 = λ i. HasWalked b c.loop-i.scanner i in
    c.page_pieces_law.ensures.all b c.loop-i.scanner (c.pages_law.ensures b has.image.form) (subst P last (c.loop-i.invariant.0.walked b held))
