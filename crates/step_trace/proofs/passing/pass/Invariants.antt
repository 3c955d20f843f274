use Rattle.std.proofs.Common.{◌-◌}
use Rattle.gate_state.specs.MachineOf.{whole_of}
use Rattle.step_trace.specs.PassedSteps.{ArePassed}
use Rattle.step_trace.proofs.passing.pass.Given as goal

abbrev pub invariant-loop-why : goal.invariant-loop-why
invariant-loop-why l = record {
  passed : ArePassed l.shown l.steps l.plan (whole_of l.initial.machine) (whole_of l.machine);
}

abbrev pub decreases-loop-why : goal.decreases-loop-why
decreases-loop-why l = l.steps - (whole_of l.machine).state.turns
