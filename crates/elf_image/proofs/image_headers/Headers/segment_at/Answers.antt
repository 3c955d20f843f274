use Rattle.std.proofs.Common.{List, ap, sym, ◌∙◌, subst}
use Rattle.std.specs.Prelude.{find}
use Rattle.elf_image.specs.declared.program_header.ProgramHeader.{ProgramHeader}
use Rattle.elf_image.specs.HeaderRows.{FileHeaders}
use Rattle.elf_image.specs.Loaded.{Supplies}
use Rattle.elf_image.specs.Segments.{touches}
use Rattle.elf_image.proofs.PageLaws.{supplies}
use Rattle.elf_image.proofs.image_headers.Headers.segment_at.Goals as goal

pub returns : goal.returns
returns c =
    let P : FileHeaders → Type 0 = λ h. Supplies h.size h.segments c.args.page c.touching.result in
    let found = c.touching.ensures ∙ ap (λ (segs : List ProgramHeader). find (λ s. touches s c.args.page) segs) c.as_slice.ensures.value in
    subst P c.self.view_is (supplies _ _ _ _ c.self.invariant c.args.page c.touching.result (sym found))
