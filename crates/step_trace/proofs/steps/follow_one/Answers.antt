use Rattle.std.proofs.Common.{sym, arith}
use Rattle.gate_state.specs.MachineOf.{whole_of}
use Rattle.step_trace.specs.RestsOfTraces.{held_of}
use Rattle.step_trace.specs.Traces.{ending_before}
use Rattle.step_trace.proofs.TraceRests.{cut_here, ends_here, goes_below}
use Rattle.step_trace.proofs.steps.follow_one.Goals as goal

pub returns-in-Some : goal.returns-in-Some
returns-in-Some g c =
    ends_here g.O.Sink.taken g.O.Sink.faults c.args.shown.now c.args.steps c.args.plan.now {h = held_of c.args.machine} c.in-Some.why
    (sym c.in-Some.ensures) c.end.ensures

pub begin_line-requires : goal.begin_line-requires
begin_line-requires g c = record { kept = c.requires.kept }

pub follow_step-requires-clause-turns : goal.follow_step-requires-clause-turns
follow_step-requires-clause-turns g c =
    let below = goes_below c.args.shown.now c.args.steps c.args.plan.now (whole_of c.args.machine).state (sym c.in_default.ensures) in
    omega (arith, below, c.requires.steps)

pub follow_step-requires-clause-here : goal.follow_step-requires-clause-here
follow_step-requires-clause-here g c = c.in-Ok.ensures.here

pub follow_step-requires-clause-head : goal.follow_step-requires-clause-head
follow_step-requires-clause-head g c = c.in-Ok.ensures.head

pub follow_step-requires-clause-copy : goal.follow_step-requires-clause-copy
follow_step-requires-clause-copy g c = c.requires.copy

pub returns-in-Ok : goal.returns-in-Ok
returns-in-Ok g c = c.follow_step.ensures c.args.steps (sym c.in_default.ensures)

pub returns-in-Err : goal.returns-in-Err
returns-in-Err g c =
    cut_here g.O.Sink.taken g.O.Sink.faults c.args.shown.now c.args.steps c.args.plan.now c.args.sink.now
    (ending_before c.args.shown.now c.args.steps c.args.plan.now (whole_of c.args.machine).state) (held_of c.args.machine)
    c.stop.result c.stop.ensures
