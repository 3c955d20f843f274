use Rattle.std.proofs.Common.{sym, ◌∙◌}
use Rattle.code_modules.proofs.NameText.{name_text}
use Rattle.code_modules.proofs.list_line.listed.Goals as goal

pub returns-in-Err : goal.returns-in-Err
returns-in-Err c = absurd (c.in-Err.ensures.cases.0 (name_text c.args.name.now (sym c.is_module_name.ensures ∙ c.if-not-is_module_name.false)))
