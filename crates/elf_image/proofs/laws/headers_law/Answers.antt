use Rattle.elf_image.proofs.ImageLaws.{head_judged, table_judged}
use Rattle.elf_image.proofs.laws.headers_law.Goals as goal

pub returns : goal.returns
returns c = record { head = head_judged; table = λ b table shape answer shaped is. table_judged b table shape shaped is answer }
