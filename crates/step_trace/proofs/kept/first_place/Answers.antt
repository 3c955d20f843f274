use Rattle.std.proofs.Common.{sym, ◌∙◌, arith}
use Rattle.step_trace.proofs.KeptParts.{no_pair, pair_behind, pair_found}
use Rattle.step_trace.proofs.kept.first_place.Goals as goal

pub returns-then-same_pair : goal.returns-then-same_pair
returns-then-same_pair c =
    pair_found c.args.pair.now c.args.pairs.now c.loop-i.i _ c.loop-i-test.true
    (sym c.same_pair.ensures ∙ c.if-same_pair.true)

pub loop-i-preserved : goal.loop-i-preserved
loop-i-preserved c =
    c.loop-i.invariant
    ∙ pair_behind c.args.pair.now c.args.pairs.now c.loop-i.i _ c.loop-i-test.true
    (sym c.same_pair.ensures ∙ c.if-same_pair.false)

pub returns : goal.returns
returns c = no_pair c.args.pair.now c.args.pairs.now c.loop-i.i (omega (arith, c.loop-i-test.false)) c.loop-i.invariant
