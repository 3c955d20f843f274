use Rattle.std.proofs.Common.{◌≡◌, ◌*◌, length}
use Rattle.gate_state.specs.MachineOf.{whole_of}
use Rattle.step_trace.specs.RestsOfTraces.{held_of}
use Rattle.step_trace.specs.StepsLeft.{steps_left}
use Rattle.step_trace.proofs.TraceRests.{IsFollowing}
use Rattle.step_trace.proofs.passing.follow_shown.Given as goal

abbrev pub invariant-loop-put : goal.invariant-loop-put
invariant-loop-put g l = record {
  following : IsFollowing g.O.Sink.taken g.O.Sink.faults l.initial.sink l.sink l.shown l.steps l.plan (held_of l.initial.machine)
      (held_of l.machine);
  size : length l.copy ≡ 4096 * (whole_of l.machine).opening.frames;
}

abbrev pub decreases-loop-put : goal.decreases-loop-put
decreases-loop-put g l = steps_left l.steps l.plan (whole_of l.machine)
