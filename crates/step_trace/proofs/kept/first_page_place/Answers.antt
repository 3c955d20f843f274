use Rattle.std.proofs.Common.{sym, ◌∙◌, arith}
use Rattle.step_trace.proofs.KeptParts.{no_page, page_behind, page_found}
use Rattle.step_trace.proofs.kept.first_page_place.Goals as goal

pub returns-then-is_of : goal.returns-then-is_of
returns-then-is_of c =
    page_found c.args.page c.args.pairs.now c.loop-i.i _ c.loop-i-test.true (sym c.is_of.ensures ∙ c.if-is_of.true)

pub loop-i-preserved : goal.loop-i-preserved
loop-i-preserved c =
    c.loop-i.invariant
    ∙ page_behind c.args.page c.args.pairs.now c.loop-i.i _ c.loop-i-test.true
    (sym c.is_of.ensures ∙ c.if-is_of.false)

pub returns : goal.returns
returns c = no_page c.args.page c.args.pairs.now c.loop-i.i (omega (arith, c.loop-i-test.false)) c.loop-i.invariant
