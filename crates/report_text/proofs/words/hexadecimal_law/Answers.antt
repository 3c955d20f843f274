use Rattle.report_text.proofs.Hexadecimal.{hex_16_of_bytes}
use Rattle.report_text.proofs.words.hexadecimal_law.Goals as goal

pub returns : goal.returns
returns c = hex_16_of_bytes
