use Rattle.std.proofs.Common.{arith, length-take}
use Rattle.nk_host.proofs.InReads.{given_more}
use Rattle.nk_host.proofs.whole.read_whole.Goals as goal

pub returns-in_err-count-clause-one_past : goal.returns-in_err-count-clause-one_past
returns-in_err-count-clause-one_past g c = given_more _ _ _ _ _ _ c.loop-bytes.invariant.consumed c.read_more.ensures.at_most
    (omega (arith, length-take c.wanted_of-wanted.result c.loop-bytes.block))

pub returns-then-len-most-clause-one_past : goal.returns-then-len-most-clause-one_past
returns-then-len-most-clause-one_past g c = given_more _ _ _ _ _ _ c.loop-bytes.invariant.consumed c.read_more.ensures.at_most
    (omega (arith, length-take c.wanted_of-wanted.result c.loop-bytes.block))
