use Rattle.elf_image.proofs.ImageLaws.{file_pages}
use Rattle.elf_image.proofs.laws.pages_law.Goals as goal

pub returns : goal.returns
returns c = file_pages
