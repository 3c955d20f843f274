use Rattle.std.proofs.Common.{sym}
use Rattle.step_trace.specs.RestsOfTraces.{held_of}
use Rattle.step_trace.proofs.TraceRests.{ends_here}
use Rattle.step_trace.proofs.passing.pass_on.Goals as goal

pub returns-in-Some-clause-passed : goal.returns-in-Some-clause-passed
returns-in-Some-clause-passed g c =
    ends_here g.O.Sink.taken g.O.Sink.faults c.args.shown.now c.args.steps c.args.plan.now {h = held_of c.args.machine} c.in-Some.why
    (sym c.in-Some.ensures) c.end.ensures
