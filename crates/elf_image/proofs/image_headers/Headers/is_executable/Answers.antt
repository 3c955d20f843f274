use Rattle.std.proofs.Common.{◌&&◌, List, ap, sym, ◌∙◌}
use Rattle.std.specs.List.{list_any}
use Rattle.elf_image.specs.declared.program_header.ProgramHeader.{ProgramHeader}
use Rattle.elf_image.specs.Elf.{has_flag, pf_x}
use Rattle.elf_image.specs.HeaderRows.{FileHeaders}
use Rattle.elf_image.specs.SegmentPages.{is_executable_of}
use Rattle.elf_image.specs.Segments.{touches}
use Rattle.elf_image.proofs.PageLaws.{executable_by}
use Rattle.elf_image.proofs.image_headers.Headers.is_executable.Goals as goal

pub returns : goal.returns
returns c =
    c.is_executable.ensures
    ∙ ap (λ (segs : List ProgramHeader). list_any (λ s. touches s c.args.page && has_flag s pf_x) segs) c.as_slice.ensures.value
    ∙ sym (executable_by _ _ _ _ c.self.invariant c.args.page)
    ∙ ap (λ (h : FileHeaders). is_executable_of h.segments c.args.page) c.self.view_is
