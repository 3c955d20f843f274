use Rattle.std.proofs.Common.{sym, ◌∙◌, arith}
use Rattle.step_trace.proofs.KeptParts.{entry_at, entry_behind, no_entry}
use Rattle.step_trace.proofs.kept.has_entry.Goals as goal

pub returns-then-same_entry : goal.returns-then-same_entry
returns-then-same_entry c =
    sym (entry_at c.args.entry.now c.args.upper.now c.loop-i.i _ c.loop-i-test.true
    (sym c.same_entry.ensures ∙ c.if-same_entry.true))

pub loop-i-preserved : goal.loop-i-preserved
loop-i-preserved c =
    c.loop-i.invariant
    ∙ entry_behind c.args.entry.now c.args.upper.now c.loop-i.i _ c.loop-i-test.true
    (sym c.same_entry.ensures ∙ c.if-same_entry.false)

pub returns : goal.returns
returns c =
    sym (no_entry c.args.entry.now c.args.upper.now c.loop-i.i (omega (arith, c.loop-i-test.false)) c.loop-i.invariant)
