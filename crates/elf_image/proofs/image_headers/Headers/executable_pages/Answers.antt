use Rattle.std.proofs.Common.{ℕ, List, length, ap, ◌∙◌, arith}
use Rattle.std.specs.Prelude.{filter, sum_by}
use Rattle.elf_image.specs.declared.program_header.ProgramHeader.{ProgramHeader}
use Rattle.elf_image.specs.Elf.{has_flag, pf_x}
use Rattle.elf_image.specs.HeaderRows.{FileHeaders}
use Rattle.elf_image.specs.SegmentPages.{is_executable_of, pages_in}
use Rattle.elf_image.specs.Segments.{pages_touched}
use Rattle.elf_image.proofs.PageLaws.{executable_bounds, executable_count}
use Rattle.elf_image.proofs.image_headers.Headers.executable_pages.Goals as goal

-- the pages of the segments that may be executed
code_pages : List ProgramHeader → ℕ
code_pages segs = sum_by pages_touched (filter (λ s. has_flag s pf_x) segs)

pub overflow_cast-result : goal.overflow_cast-result
unfolding code_pages
overflow_cast-result c = omega (arith, executable_bounds _ _ _ _ c.self.invariant c.executable_pages.result (c.executable_pages.ensures ∙ ap code_pages c.as_slice.ensures.value))

pub returns-clause-count : goal.returns-clause-count
unfolding code_pages
returns-clause-count c =
    c.executable_pages.ensures ∙ ap code_pages c.as_slice.ensures.value ∙ executable_count _ _ _ _ c.self.invariant
    ∙ ap (λ (h : FileHeaders). length (filter (λ n. is_executable_of h.segments n) (pages_in h.segments))) c.self.view_is

pub returns-clause-some : goal.returns-clause-some
unfolding code_pages
returns-clause-some c = (executable_bounds _ _ _ _ c.self.invariant c.executable_pages.result (c.executable_pages.ensures ∙ ap code_pages c.as_slice.ensures.value)).0

pub returns-clause-few : goal.returns-clause-few
unfolding code_pages
returns-clause-few c = (executable_bounds _ _ _ _ c.self.invariant c.executable_pages.result (c.executable_pages.ensures ∙ ap code_pages c.as_slice.ensures.value)).1
