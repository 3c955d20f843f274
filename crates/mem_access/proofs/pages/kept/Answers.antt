use Rattle.std.proofs.Common.{◌*◌, ◌<◌, IfSome, subst, sym}
use Rattle.mem_access.proofs.pages.kept.Goals as goal

pub returns-clause-frame : goal.returns-clause-frame
returns-clause-frame c =
    λ size named. subst (λ found. IfSome found (λ it. 4096 * it.frame < size)) (sym c.kept.ensures.found)
    (c.translation_law.ensures.kept_within c.args.tlb.now c.args.level c.page.result size named)
