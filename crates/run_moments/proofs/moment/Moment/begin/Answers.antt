use Rattle.gate_state.specs.MachineOf.{whole_of}
use Rattle.run_moments.proofs.Ways.{moment_begun}
use Rattle.run_moments.proofs.moment.Moment.begin.Goals as goal

pub invariant_of-result : goal.invariant_of-result
invariant_of-result c =
    moment_begun c.args.run.now (whole_of c.in-Some.machine) c.in-Some.ensures.opening c.in-Some.ensures.state
