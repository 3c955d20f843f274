use Rattle.std.proofs.Common.{arith}
use Rattle.text_lines.proofs.NumberLemmas.{fits, one_more, too_large, whole}
use Rattle.text_lines.proofs.number.value.Goals as goal

pub returns-in_default : goal.returns-in_default
returns-in_default c =
    too_large c.args.radix c.args.word.now c.loop-digit.digit-index c.loop-digit.value
    c.loop-digit-test.true (omega arith) c.loop-digit.invariant.0 c.in_default.ensures

pub loop-digit-preserved : goal.loop-digit-preserved
loop-digit-preserved c = (
  one_more c.args.radix c.args.word.now c.loop-digit.digit-index c.loop-digit.value c.in-Some.more
      c.loop-digit-test.true c.loop-digit.invariant.0 c.in-Some.ensures,
  fits _ _ c.in-Some.ensures,
)

pub returns : goal.returns
returns c =
    whole c.args.radix c.args.word.now c.loop-digit.digit-index c.loop-digit.value
    c.loop-digit-test.false c.loop-digit.invariant.1 c.loop-digit.invariant.0
