use Rattle.std.proofs.Common.{sym}
use Rattle.step_trace.proofs.PassedRests.{told_on}
use Rattle.step_trace.proofs.TraceRests.{cut_behind, until_behind}
use Rattle.step_trace.proofs.passing.tell_over.Goals as goal

pub returns-in-Err-clause-passed : goal.returns-in-Err-clause-passed
returns-in-Err-clause-passed g c h from here copy head =
    cut_behind g.O.Sink.taken g.O.Sink.faults c.args.shown.now c.args.steps c.args.plan.now c.stop.result c.stop.ensures
    from.goes from.follows (c.in-Err.ensures.told c.args.plan.now h here copy from.is head)

pub returns-in-Ok-clause-passed : goal.returns-in-Ok-clause-passed
returns-in-Ok-clause-passed g c h from here copy head =
    until_behind g.O.Sink.taken g.O.Sink.faults c.args.shown.now c.args.steps c.args.plan.now from.goes from.follows
    (c.in-Ok.ensures.told c.args.plan.now h here copy from.is head) (sym c.if-is_at.ensures) c.end.ensures

pub returns-clause-passed : goal.returns-clause-passed
returns-clause-passed g c h from here copy head =
    told_on from g.O.Sink.taken g.O.Sink.faults (sym c.if-is_at.ensures)
    (c.in-Ok.ensures.told c.args.plan.now h here copy from.is head)
