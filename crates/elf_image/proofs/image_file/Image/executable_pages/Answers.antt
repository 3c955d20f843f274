use Rattle.std.proofs.Common.{ap, ◌∙◌}
use Rattle.elf_image.specs.Pages.{executable_page_count}
use Rattle.elf_image.proofs.ImageLaws.{image_executable_count}
use Rattle.elf_image.proofs.image_file.Image.executable_pages.Goals as goal

pub returns-clause-count : goal.returns-clause-count
returns-clause-count c = c.executable_pages.ensures.count ∙ image_executable_count _ _ c.self.invariant ∙ ap executable_page_count c.self.view_is
