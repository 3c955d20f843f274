use Rattle.std.proofs.lemmas.List.Elements.{All-set}
use Rattle.cpu_step.specs.DecodingMemo.{IsRight}
use Rattle.cpu_step.proofs.memo.replace_answer.Goals as goal

pub returns-clause-right : goal.returns-clause-right
returns-clause-right c = All-set IsRight c.args.answers.now.items c.args.slot c.kept_answer.result c.kept_answer.ensures.right c.requires.right
