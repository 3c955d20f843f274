use Rattle.page_walk.specs.AccessPlans.{gathered}
use Rattle.exec_quick.proofs.Cuts.{cut_again}
use Rattle.exec_quick.proofs.registers.compare.Goals as goal

pub returns-clause-made : goal.returns-clause-made
unfolding gathered
returns-clause-made c _ =
    rw (c.compare.ensures, c.first_register-to.ensures.source, c.source-from.ensures.source, ← c.source-from.ensures.value, cut_again)
