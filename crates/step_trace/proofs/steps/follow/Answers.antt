use Rattle.std.proofs.Common.{ap, ◌∙◌}
use Rattle.cpu_step.specs.Processor.{Processor}
use Rattle.gate_state.specs.MachineOf.{whole_of}
use Rattle.step_trace.specs.RestsOfTraces.{held_of}
use Rattle.step_trace.specs.Traces.{ending_before}
use Rattle.step_trace.proofs.TraceRests.{cut_here, follow_begins, follow_ends, follow_on}
use Rattle.step_trace.proofs.steps.follow.Goals as goal

pub returns-in_default : goal.returns-in_default
returns-in_default g c =
    cut_here g.O.Sink.taken g.O.Sink.faults c.args.shown.now c.args.steps c.args.plan.now c.args.sink.now
    (ending_before c.args.shown.now c.args.steps c.args.plan.now (whole_of c.args.machine).state) (held_of c.args.machine)
    c.stop.result c.stop.ensures

pub loop-put-init : goal.loop-put-init
loop-put-init g c = record {
  following = follow_begins g.O.Sink.taken g.O.Sink.faults c.args.shown.now c.args.steps c.args.plan.now c.args.sink.now (held_of c.args.machine);
  kept = c.in-Ok.ensures ∙ ap (λ (p : Processor). p.tlb) c.processor.ensures.processor;
  copy = c.requires.copy;
}

pub follow_one-requires-clause-steps : goal.follow_one-requires-clause-steps
follow_one-requires-clause-steps g c = c.requires.steps

pub follow_one-requires-clause-kept : goal.follow_one-requires-clause-kept
follow_one-requires-clause-kept g c = c.loop-put.invariant.kept

pub follow_one-requires-clause-copy : goal.follow_one-requires-clause-copy
follow_one-requires-clause-copy g c = c.loop-put.invariant.copy

pub returns-in-Ended : goal.returns-in-Ended
returns-in-Ended g c =
    follow_ends g.O.Sink.taken g.O.Sink.faults c.args.shown.now c.args.steps c.args.plan.now c.loop-put.invariant.following
    c.in-Ended.ensures

pub loop-put-smaller : goal.loop-put-smaller
loop-put-smaller g c = c.in-Goes.ensures.0.nearer

pub loop-put-preserved : goal.loop-put-preserved
loop-put-preserved g c = record {
  following = follow_on g.O.Sink.taken g.O.Sink.faults c.args.shown.now c.args.steps c.args.plan.now c.loop-put.invariant.following
      c.in-Goes.ensures.0;
  kept = c.in-Goes.ensures.1.0;
  copy = c.in-Goes.ensures.1.1;
}
