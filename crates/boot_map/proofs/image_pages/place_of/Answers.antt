use Rattle.std.proofs.Common.{◌<◌, ◌≢◌, length, get_or, sym, ◌∙◌, arith}
use Rattle.elf_image.specs.Pages.{pages_of}
use Rattle.boot_map.proofs.PlaceLaws.{placed_at, placed_nowhere}
use Rattle.boot_map.proofs.image_pages.place_of.Goals as goal
use Rattle.boot_map.proofs.image_pages.place_of.Goals.{else-place-pages-via-then-place-pages+else-page_number-page, else-place-pages-via-else-place-pages}

pub returns-then-page_number-page-clause-place : goal.returns-then-page_number-page-clause-place
returns-then-page_number-page-clause-place c =
    let small : c.pages_before-place.result < length (pages_of c.args.image.now) = omega (arith, c.if-place-pages.true, c.pages.ensures.count) in
    placed_at (pages_of c.args.image.now) c.args.page c.pages_before-place.result small c.pages_before-place.ensures.before (sym c.page_number.ensures ∙ c.if-page_number-page.true)

pub returns-else-place-pages-clause-place : goal.returns-else-place-pages-clause-place
returns-else-place-pages-clause-place c =
    let xs = pages_of c.args.image.now in
    let k = c.pages_before-place.result in
    let other : k < length xs → get_or xs k 0 ≢ c.args.page = elim c.else-place-pages.branch [
      | else-place-pages-via-then-place-pages+else-page_number-page w ↦ λ h e. w.if-page_number-page.false (w.page_number.ensures ∙ e)
      | else-place-pages-via-else-place-pages w ↦ λ h. absurd (omega (arith, h, w.if-place-pages.false, c.pages.ensures.count))
    ] in
    placed_nowhere xs c.args.page k c.pages_before-place.ensures.list.ascending c.pages_before-place.ensures.before c.pages_before-place.ensures.rest other
