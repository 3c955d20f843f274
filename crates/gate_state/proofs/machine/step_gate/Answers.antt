use Rattle.std.proofs.Common.{sym, ap, ◌∙◌}
use Rattle.gate_state.specs.declared.seen.Step.TheVariants as step
use Rattle.gate_state.specs.WholeMachine.{known_of}
use Rattle.gate_state.proofs.StepLemmas.{next_alone, seen_alone}
use Rattle.gate_state.proofs.machine.step_gate.Goals as goal

pub returns-clause-next : goal.returns-clause-next
returns-clause-next c =
    c.step_touching-next.ensures.next ∙ sym (next_alone c.args.plan.now (known_of c.args.machine) c.step_touching-next.ensures.no_body)

pub returns-clause-step : goal.returns-clause-step
returns-clause-step c =
    ap step.Seen c.step_touching-next.ensures.seen
    ∙ seen_alone c.args.plan.now c.args.machine.state c.step_touching-next.ensures.no_body c.step_touching-next.ensures.left
