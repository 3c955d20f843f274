use Rattle.std.proofs.Common.{length, ap, ◌∙◌, subst, arith}
use Rattle.elf_image.specs.FileParts.{ArePages}
use Rattle.elf_image.specs.HeaderRows.{FileHeaders}
use Rattle.elf_image.specs.SegmentPages.{pages_in}
use Rattle.elf_image.specs.Segments.{total_pages}
use Rattle.elf_image.proofs.PageLaws.{are_pages, count_is, few_pages, some_page}
use Rattle.elf_image.proofs.image_headers.Headers.pages.Goals as goal

pub overflow_cast-result : goal.overflow_cast-result
overflow_cast-result c = omega (arith, c.total_pages.ensures, ap total_pages c.as_slice.ensures.value, few_pages _ _ _ _ c.self.invariant)

pub returns-clause-count : goal.returns-clause-count
returns-clause-count c =
    c.total_pages.ensures ∙ ap total_pages c.as_slice.ensures.value ∙ count_is _ _ _ _ c.self.invariant
    ∙ ap (λ (h : FileHeaders). length (pages_in h.segments)) c.self.view_is

pub returns-clause-some : goal.returns-clause-some
returns-clause-some c = omega (arith, c.total_pages.ensures, ap total_pages c.as_slice.ensures.value, some_page _ _ _ _ c.self.invariant)

pub returns-clause-few : goal.returns-clause-few
returns-clause-few c = omega (arith, c.total_pages.ensures, ap total_pages c.as_slice.ensures.value, few_pages _ _ _ _ c.self.invariant)

pub returns-clause-list : goal.returns-clause-list
returns-clause-list c =
    let P : FileHeaders → Type 0 = λ h. ArePages h.segments (pages_in h.segments) in
    subst P c.self.view_is (are_pages _ _ _ _ c.self.invariant)
