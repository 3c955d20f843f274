use Rattle.elf_image.proofs.SegmentRows.{form_holds, rows_pass}
use Rattle.elf_image.proofs.laws.form_law.Goals as goal

pub returns : goal.returns
returns c = record { rows = rows_pass; form = form_holds }
