use Rattle.gate_state.specs.MachineOf.{whole_of}
use Rattle.step_trace.proofs.PassedTurns.{both_passed, none_passed}
use Rattle.step_trace.proofs.passing.pass.Goals as goal

pub loop-why-init : goal.loop-why-init
loop-why-init c = record { passed = none_passed (whole_of c.args.machine) }

pub returns-then-turns-clause-passed : goal.returns-then-turns-clause-passed
returns-then-turns-clause-passed c = both_passed c.loop-why.invariant.passed c.pass_some-next.ensures.passed

pub loop-why-preserved : goal.loop-why-preserved
loop-why-preserved c = record { passed = both_passed c.loop-why.invariant.passed c.pass_some-next.ensures.passed }
