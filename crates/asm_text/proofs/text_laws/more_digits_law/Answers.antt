use Rattle.asm_text.proofs.HexDigits.{hex_step}
use Rattle.asm_text.proofs.text_laws.more_digits_law.Goals as goal

pub returns : goal.returns
returns c = hex_step
