use Rattle.std.proofs.Common.{sym, ◌∙◌}
use Rattle.step_trace.proofs.KeptParts.{pair_found}
use Rattle.step_trace.proofs.kept.stands_at.Goals as goal

pub returns-then-place-pairs : goal.returns-then-place-pairs
returns-then-place-pairs c same =
    pair_found c.args.pair.now c.args.pairs.now c.args.place _ c.if-place-pairs.true (sym c.same_pair.ensures ∙ same)
