use Rattle.std.proofs.Common.{◌∙◌}
use Rattle.gate_state.specs.MachineOf.{whole_of}
use Rattle.gate_state.specs.MachineSteps.{move_of}
use Rattle.step_trace.specs.RanSteps.{begun_of}
use Rattle.step_trace.proofs.AddressesNoted.{begun_is}
use Rattle.step_trace.proofs.ran.step_on.Goals as goal

pub returns-clause-begun : goal.returns-clause-begun
returns-clause-begun c =
    c.begun_of-begun.ensures ∙ ((λ i. begun_of (c.step-next.ensures.step i) (c.begins_at-begins.ensures i))
    ∙ begun_is (move_of c.args.plan.now (whole_of c.args.machine).state) (whole_of c.args.machine).state)
