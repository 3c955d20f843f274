use Rattle.std.proofs.Common.{◌≡◌}
use Rattle.gate_state.specs.MachineOf.{whole_of}
use Rattle.step_trace.specs.StepsLeft.{steps_left}
use Rattle.step_trace.proofs.FirstStates.{IsOnWay}
use Rattle.step_trace.proofs.reach.go_to.Given as goal

abbrev pub invariant-loop-machine : goal.invariant-loop-machine
invariant-loop-machine l = record {
  way : IsOnWay l.limit l.plan (whole_of l.initial.machine).state (whole_of l.machine).state;
  opening : (whole_of l.machine).opening ≡ (whole_of l.initial.machine).opening;
}

abbrev pub decreases-loop-machine : goal.decreases-loop-machine
decreases-loop-machine l = steps_left l.limit l.plan (whole_of l.machine)
