use Rattle.asm_text.proofs.HexDigits.{hex_one}
use Rattle.asm_text.proofs.text_laws.one_digit_law.Goals as goal

pub returns : goal.returns
returns c = hex_one
