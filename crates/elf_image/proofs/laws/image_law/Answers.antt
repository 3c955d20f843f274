use Rattle.elf_image.proofs.ImageLaws.{told_by}
use Rattle.elf_image.proofs.laws.image_law.Goals as goal

pub returns : goal.returns
returns c = told_by
