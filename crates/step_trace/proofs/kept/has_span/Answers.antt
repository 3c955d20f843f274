use Rattle.std.proofs.Common.{sym, ◌∙◌, arith}
use Rattle.step_trace.proofs.KeptParts.{no_span, span_at, span_behind}
use Rattle.step_trace.proofs.kept.has_span.Goals as goal

pub returns-then-same_span : goal.returns-then-same_span
returns-then-same_span c =
    sym (span_at c.args.entry.now c.args.upper.now c.loop-i.i _ c.loop-i-test.true
    (sym c.same_span.ensures ∙ c.if-same_span.true))

pub loop-i-preserved : goal.loop-i-preserved
loop-i-preserved c =
    c.loop-i.invariant
    ∙ span_behind c.args.entry.now c.args.upper.now c.loop-i.i _ c.loop-i-test.true
    (sym c.same_span.ensures ∙ c.if-same_span.false)

pub returns : goal.returns
returns c =
    sym (no_span c.args.entry.now c.args.upper.now c.loop-i.i (omega (arith, c.loop-i-test.false)) c.loop-i.invariant)
