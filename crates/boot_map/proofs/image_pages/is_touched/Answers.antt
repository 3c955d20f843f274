use Rattle.std.proofs.Common.{◌<◌, ◌≤◌, ◌+◌, get_or, subst}
use Rattle.elf_image.specs.Pages.{pages_of}
use Rattle.boot_map.specs.Division.{is_touched}
use Rattle.boot_map.proofs.PlaceLaws.{touched_by_counts}
use Rattle.boot_map.proofs.image_pages.is_touched.Goals as goal

pub returns : goal.returns
unfolding is_touched
returns c =
    let xs = pages_of c.args.image.now in
    let first = c.page_in-first.ensures in
    let low = c.pages_before.ensures in
    let high = c.pages_before-2.ensures in
    touched_by_counts c.args.image.now c.args.range 512 c.pages_before.result c.pages_before-2.result low.list
    (λ i h. subst (λ n. get_or xs i 0 < n) first (low.before i h)) (λ i h g. subst (λ n. n ≤ get_or xs i 0) first (low.rest i h g))
    (λ i h. subst (λ n. get_or xs i 0 < n + 512) first (high.before i h)) (λ i h g. subst (λ n. n + 512 ≤ get_or xs i 0) first (high.rest i h g))
    high.within
