use Rattle.elf_image.proofs.PartLaws.{read_in_parts}
use Rattle.elf_image.proofs.laws.parts_law.Goals as goal

pub returns : goal.returns
returns c = read_in_parts
