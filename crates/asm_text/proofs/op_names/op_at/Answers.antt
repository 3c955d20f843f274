use Rattle.asm_text.proofs.NameTests.{listed_has_condition}
use Rattle.asm_text.proofs.op_names.op_at.Goals as goal

pub returns-clause-formed : goal.returns-clause-formed
returns-clause-formed c = listed_has_condition c.args.place c.requires
