use Rattle.std.proofs.Common.{◌<◌, ◌+◌, get_or, arith, ap, ◌∙◌}
use Rattle.elf_image.specs.declared.program_header.ProgramHeader.{ProgramHeader}
use Rattle.elf_image.specs.Segments.{pages_touched}
use Rattle.elf_image.proofs.SegmentLaws.{nth_in_turn}
use Rattle.elf_image.proofs.page_list.nth_page.Goals as goal

pub returns-then-left-pages : goal.returns-then-left-pages
returns-then-left-pages c =
    let blank : ProgramHeader = record { index = 0; kind = 0; flags = 0; offset = 0; address = 0; file_size = 0; memory_size = 0 } in
    let short : c.loop-segment.left < pages_touched (get_or c.args.segments.now c.loop-segment.segment-index blank) = omega (arith, c.if-left-pages.true, c.pages_touched-pages.ensures.pages) in
    ap (λ n. n + c.loop-segment.left) c.first_page.ensures.page
    ∙ nth_in_turn c.args.segments.now c.loop-segment.segment-index c.loop-segment.left c.args.i blank c.loop-segment-test.true short c.loop-segment.invariant.0
