use Rattle.std.proofs.Common.{All, subst, sym}
use Rattle.std.proofs.lemmas.List.Elements.{All-replicate}
use Rattle.cpu_step.specs.DecodingMemo.{IsRight}
use Rattle.cpu_step.proofs.memo.answers.Goals as goal

pub returns-in-Ok-clause-right : goal.returns-in-Ok-clause-right
returns-in-Ok-clause-right c =
    subst (All IsRight) (sym (c.in-Ok.ensures.items_if_clones_equal (λ y same. same)))
    (All-replicate IsRight 4096 c.kept_answer-kept.result c.kept_answer-kept.ensures.right)
