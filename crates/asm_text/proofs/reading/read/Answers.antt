use Rattle.std.proofs.Common.{sym, ◌∙◌}
use Rattle.asm_text.proofs.ReadTexts.{read_none}
use Rattle.asm_text.proofs.reading.read.Goals as goal

pub returns-else-is_text-clause-none : goal.returns-else-is_text-clause-none
returns-else-is_text-clause-none c =
    read_none c.args.text.now c.parse-instr.result c.parse-instr.ensures.value
    (sym c.is_text.ensures ∙ c.if-is_text.false)
