use Rattle.std.proofs.Common.{◌∙◌}
use Rattle.asm_text.proofs.ReadTexts.{read_back_is}
use Rattle.asm_text.proofs.text_laws.read_back.Goals as goal

pub returns : goal.returns
returns c =
    read_back_is c.text_law.ensures c.args.instr.now c.as_bytes.result.now c.read.result c.requires
    (c.as_bytes.ensures.value ∙ (c.as_str.ensures.value ∙ c.print.ensures)) c.read.ensures.some c.read.ensures.none
