use Rattle.std.proofs.Common.{◌*◌, ap, sym, ◌∙◌}
use Rattle.gate_state.specs.MachineStates.{Opening}
use Rattle.step_trace.specs.RestsOfTraces.{held_of}
use Rattle.step_trace.proofs.PassedRests.{follow_taken}
use Rattle.step_trace.proofs.TraceRests.{follow_begins, follow_ends}
use Rattle.step_trace.proofs.passing.follow_shown.Goals as goal

pub loop-put-init : goal.loop-put-init
loop-put-init g c = record {
  following = follow_begins g.O.Sink.taken g.O.Sink.faults c.args.shown.now c.args.steps c.args.plan.now c.args.sink.now (held_of c.args.machine);
  size = c.requires.size ∙ c.standing_law.ensures.size;
}

pub returns-in-Ended : goal.returns-in-Ended
returns-in-Ended g c =
    follow_ends g.O.Sink.taken g.O.Sink.faults c.args.shown.now c.args.steps c.args.plan.now c.loop-put.invariant.following
    c.in-Ended.ensures.passed

pub loop-put-preserved : goal.loop-put-preserved
loop-put-preserved g c = record {
  following = follow_taken g.O.Sink.taken g.O.Sink.faults c.args.shown.now c.args.steps c.args.plan.now c.loop-put.invariant.following
      c.in-Goes.ensures.passed;
  size = c.pass_on.ensures.size ∙ (c.loop-put.invariant.size ∙ ap (λ (o : Opening). 4096 * o.frames) (sym c.in-Goes.ensures.passed.opening));
}
