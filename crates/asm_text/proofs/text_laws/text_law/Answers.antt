use Rattle.asm_text.proofs.ReadTexts.{text_one}
use Rattle.asm_text.proofs.SpelledTexts.{spelled_has_text}
use Rattle.asm_text.proofs.text_laws.text_law.Goals as goal

pub returns : goal.returns
returns c = record { one = text_one; spelled = spelled_has_text c.spelling_law.ensures }
