use Rattle.std.proofs.Common.{◌*◌, ℕ, List, slice_index, ap, ◌∙◌, arith}
use Rattle.elf_image.specs.Home.{page_size}
use Rattle.elf_image.specs.Pages.{is_executable, is_writable, page_count, pages_of}
use Rattle.elf_image.specs.SegmentPages.{is_executable_of, is_writable_of}
use Rattle.elf_image.proofs.ImageLaws.{image_count, image_executable, image_pages, image_writable}
use Rattle.elf_image.proofs.image_file.Image.page.Goals as goal

pub page-requires : goal.page-requires
page-requires c = omega (arith, c.requires, image_count _ _ c.self.invariant, ap page_count c.self.view_is)

pub returns-clause-va : goal.returns-clause-va
returns-clause-va c =
    c.page.ensures.va
    ∙ ap (λ (ps : List ℕ). page_size * slice_index ps c.args.i) (image_pages _ _ c.self.invariant ∙ ap pages_of c.self.view_is)

pub returns-clause-can_write : goal.returns-clause-can_write
returns-clause-can_write c =
    c.page.ensures.can_write
    ∙ ap (λ (ps : List ℕ). is_writable_of c.self.inside.headers.segments (slice_index ps c.args.i)) (image_pages _ _ c.self.invariant ∙ ap pages_of c.self.view_is)
    ∙ image_writable _ _ c.self.invariant (slice_index (pages_of c.args.self.now) c.args.i)
    ∙ ap (λ (b : List ℕ). is_writable b (slice_index (pages_of c.args.self.now) c.args.i)) c.self.view_is

pub returns-clause-exec : goal.returns-clause-exec
returns-clause-exec c =
    c.page.ensures.exec
    ∙ ap (λ (ps : List ℕ). is_executable_of c.self.inside.headers.segments (slice_index ps c.args.i)) (image_pages _ _ c.self.invariant ∙ ap pages_of c.self.view_is)
    ∙ image_executable _ _ c.self.invariant (slice_index (pages_of c.args.self.now) c.args.i)
    ∙ ap (λ (b : List ℕ). is_executable b (slice_index (pages_of c.args.self.now) c.args.i)) c.self.view_is
