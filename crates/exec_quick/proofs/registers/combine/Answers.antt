use Rattle.page_walk.specs.AccessPlans.{gathered}
use Rattle.exec_quick.proofs.Cuts.{cut_again}
use Rattle.exec_quick.proofs.registers.combine.Goals as goal

pub returns-clause-made : goal.returns-clause-made
unfolding gathered
returns-clause-made c _ =
    let from = rw c.source_width-bits.ensures.width at c.source-from.ensures.source in
    let value = rw c.source_width-bits.ensures.width at c.source-from.ensures.value in
    rw (
      c.put_result.ensures.put,
      c.combine-value.ensures.value,
      c.combine-value.ensures.flags,
      c.first_register-to.ensures.span,
      c.first_register-to.ensures.source,
      from,
      ← value,
      cut_again,
    )
