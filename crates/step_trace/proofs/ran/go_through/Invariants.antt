use Rattle.gate_state.specs.MachineOf.{whole_of}
use Rattle.step_trace.specs.RanSteps.{AreNoted}
use Rattle.step_trace.specs.StepsLeft.{steps_left}
use Rattle.step_trace.proofs.FirstStates.{IsOnWay}
use Rattle.step_trace.proofs.ran.go_through.Given as goal

abbrev pub invariant-loop-machine : goal.invariant-loop-machine
invariant-loop-machine l = record {
  way : IsOnWay l.turns l.plan (whole_of l.initial.machine).state (whole_of l.machine).state;
  noted : AreNoted l.image way.steps l.plan (whole_of l.initial.machine).state l.ran.keys;
}

abbrev pub decreases-loop-machine : goal.decreases-loop-machine
decreases-loop-machine l = steps_left l.turns l.plan (whole_of l.machine)
