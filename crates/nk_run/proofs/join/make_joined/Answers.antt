use Rattle.std.proofs.Common.{map, refl}
use Rattle.code_modules.specs.JoinAnswers.{modules_with}
use Rattle.nk_run.proofs.JoinRows.{file_says, join_row_says, refused_says}
use Rattle.nk_run.proofs.join.make_joined.Goals as goal

pub returns-in-Err-clause-made : goal.returns-in-Err-clause-made
returns-in-Err-clause-made g c = join_row_says _ c.requires _ _ _ c.in-Err.ensures.held

pub returns-in-Ok-join_held-clause-made : goal.returns-in-Ok-join_held-clause-made
returns-in-Ok-join_held-clause-made g c =
    file_says c.args.request.now c.requires _ c.in-Ok.held.listed.image
    (modules_with (map (λ it. it.guard) c.in-Ok.held.listed.list) (map (λ m. m.items) c.in-Ok.held.modules.items))
    c.in-Ok.ensures.held.1 _ c.in-Ok-join_held.ensures

pub returns-clause-made : goal.returns-clause-made
returns-clause-made g c =
    refused_says c.args.request.now c.requires _ c.in-Ok.held.listed.image
    (modules_with (map (λ it. it.guard) c.in-Ok.held.listed.list) (map (λ m. m.items) c.in-Ok.held.modules.items))
    c.in-Ok.ensures.held.1 _ _ _ refl c.in-Err-join_held.ensures
