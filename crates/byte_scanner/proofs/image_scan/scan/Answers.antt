use Rattle.std.proofs.Common.{◌+◌, ◌<◌, None, Some, sym, ◌∙◌, subst, arith}
use Rattle.elf_image.specs.Pages.{page_count}
use Rattle.byte_scanner.specs.Scanned.{Scanned}
use Rattle.byte_scanner.specs.ScannedCode.{HasWalked}
use Rattle.byte_scanner.proofs.WalkedPages.{all_walked, passed_over, walked_at}
use Rattle.byte_scanner.proofs.image_scan.scan.Goals as goal
use Rattle.byte_scanner.proofs.image_scan.scan.Goals.{then-page+in_default, else-page}

pub returns-in-Some-clause-first : goal.returns-in-Some-clause-first
returns-in-Some-clause-first c =
    let inside : c.loop-i.i < page_count c.args.image.now = omega (arith, c.pages-i-end.ensures.count) in
    sym (walked_at c.args.image.now c.pages-i-end.ensures.list c.loop-i.scanner c.feed.new.self c.loop-i.i c.page-page.result.va c.copy_page.new.into (Some c.in-Some.found)
    c.page-page.ensures.va c.loop-i.invariant inside (sym c.page-page.ensures.exec ∙ c.if-page.true) c.copy_page.ensures c.in-Some.ensures.found)

pub loop-i-preserved : goal.loop-i-preserved
loop-i-preserved c =
    let b = c.args.image.now in
    let P : Scanned → Type 0 = λ s. HasWalked b s (c.loop-i.i + 1) in
    let inside : c.loop-i.i < page_count b = omega (arith, c.pages-i-end.ensures.count) in
    elim c.if-page.branch [
      | then-page+in_default w ↦ subst P (sym w.scanner-is)
          (walked_at b c.pages-i-end.ensures.list c.loop-i.scanner w.feed.new.self c.loop-i.i c.page-page.result.va w.copy_page.new.into None
          c.page-page.ensures.va c.loop-i.invariant inside (sym c.page-page.ensures.exec ∙ w.if-page.true) w.copy_page.ensures w.in_default.ensures.found)
      | else-page w ↦ subst P (sym w.scanner-is)
          (passed_over b c.loop-i.scanner c.loop-i.i c.loop-i.invariant (sym c.page-page.ensures.exec ∙ w.if-page.false))
    ]

pub returns-clause-first : goal.returns-clause-first
returns-clause-first c =
    sym (all_walked c.args.image.now c.pages-i-end.ensures.list c.loop-i.scanner c.loop-i.i (omega (arith, c.pages-i-end.ensures.count)) c.loop-i.invariant)
