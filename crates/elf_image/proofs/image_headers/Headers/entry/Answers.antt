use Rattle.std.proofs.Common.{◌/◌, ap, sym, ◌∙◌}
use Rattle.elf_image.specs.HeaderRows.{FileHeaders}
use Rattle.elf_image.specs.Home.{page_size}
use Rattle.elf_image.specs.SegmentPages.{is_executable_of}
use Rattle.elf_image.proofs.PageLaws.{entry_page}
use Rattle.elf_image.proofs.image_headers.Headers.entry.Goals as goal

pub returns-clause-entry : goal.returns-clause-entry
returns-clause-entry c = ap (λ (h : FileHeaders). h.entry) c.self.view_is

pub returns-clause-code : goal.returns-clause-code
returns-clause-code c =
    ap (λ (h : FileHeaders). is_executable_of h.segments (c.self.inside.entry / page_size)) (sym c.self.view_is)
    ∙ entry_page _ _ _ _ c.self.invariant
