use Rattle.elf_image.proofs.WrittenFields.{file_read, program_read}
use Rattle.elf_image.proofs.laws.written_law.Goals as goal

pub returns : goal.returns
returns c = record { file = file_read; program = λ b place i h it. program_read b place h it i }
