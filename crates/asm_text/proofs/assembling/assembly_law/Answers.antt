use Rattle.asm_text.proofs.LineCodes.{line_law}
use Rattle.asm_text.proofs.TextCodes.{text_says}
use Rattle.asm_text.proofs.assembling.assembly_law.Goals as goal

pub returns : goal.returns
returns c = record {
  line = line_law c.decoding_law.ensures c.text_law.ensures;
  text = text_says (line_law c.decoding_law.ensures c.text_law.ensures);
}
