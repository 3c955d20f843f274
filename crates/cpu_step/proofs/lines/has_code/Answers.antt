use Rattle.std.proofs.Common.{arith, inl, inr, refl}
use Rattle.std.proofs.lemmas.Bool.{cases_lt}
use Rattle.cpu_step.proofs.lines.has_code.Goals as goal

pub loop-at-preserved : goal.loop-at-preserved
loop-at-preserved c =
    let inv = c.loop-at.invariant in (
      omega (arith, inv.0, inv.1, c.loop-at-test.true, c.requires.whole),
      omega (arith, inv.1),
      λ k below. elim (cases_lt k c.loop-at.at) [
        | inl before ↦ inv.2 k before
        | inr from ↦ c.if-not-has_word.ensures.same refl k from below
      ],
    )
