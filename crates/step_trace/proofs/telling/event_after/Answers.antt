use Rattle.std.proofs.Common.{ap, arith, sym}
use Rattle.std.proofs.lemmas.Option.{slice_get_past}
use Rattle.step_trace.specs.ToldSteps.{what_in}
use Rattle.step_trace.proofs.telling.event_after.Goals as goal

pub returns-then-taken-len : goal.returns-then-taken-len
returns-then-taken-len c = ap what_in (sym c.event.ensures.event)

pub returns-else-taken-len : goal.returns-else-taken-len
returns-else-taken-len c =
    ap what_in (sym (slice_get_past c.args.plan.now c.args.taken (omega (arith, c.len.ensures.length))))
