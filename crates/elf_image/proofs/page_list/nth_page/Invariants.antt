use Rattle.std.proofs.Common.{◌≡◌, ◌+◌, ◌<◌, take, drop}
use Rattle.std.specs.Prelude.{sum_by}
use Rattle.elf_image.specs.Segments.{pages_touched}
use Rattle.elf_image.proofs.page_list.nth_page.Given as goal

abbrev pub invariant-loop-segment : goal.invariant-loop-segment
invariant-loop-segment l =
    (sum_by pages_touched (take l.segment-index l.segments) + l.left ≡ l.fn.i)
    × (l.left < sum_by pages_touched (drop l.segment-index l.segments))
