use Rattle.std.proofs.Common.{ap, inr, ◌∙◌}
use Rattle.gate_state.specs.declared.moves.Move.{Move}
use Rattle.gate_state.specs.declared.seen.Step.TheVariants as step
use Rattle.gate_state.specs.MachineSteps.{step_by}
use Rattle.gate_state.specs.WholeMachine.{known_of}
use Rattle.gate_state.specs.StepsTouched.{touched_by_move}
use Rattle.gate_state.proofs.ShownTouched.{shown_at_body}
use Rattle.gate_state.proofs.StepLemmas.{serves, stepped_is}
use Rattle.gate_state.proofs.machine.step_nested.Goals as goal

pub returns-clause-next : goal.returns-clause-next
returns-clause-next c =
    c.serve_touching-next.ensures.next
    ∙ stepped_is c.args.plan.now (known_of c.args.machine) _ (serves c.args.plan.now c.args.machine.state c.serve_touching-next.ensures.body)

pub returns-clause-step : goal.returns-clause-step
returns-clause-step c =
    ap step.Called c.serve_touching-next.ensures.called
    ∙ ap (λ (m : Move). step_by m c.args.machine.state) (serves c.args.plan.now c.args.machine.state c.serve_touching-next.ensures.body)

pub returns-clause-touched : goal.returns-clause-touched
returns-clause-touched c = c.serve_touching-next.ensures.touched

pub returns-clause-told : goal.returns-clause-told
returns-clause-told c =
    c.serve_touching-next.ensures.told
    ∙ ap (λ (m : Move). touched_by_move m c.args.machine.state c.args.machine.real)
    (serves c.args.plan.now c.args.machine.state c.serve_touching-next.ensures.body)

pub returns-clause-shown : goal.returns-clause-shown
returns-clause-shown c =
    inr (c.serve_touching-next.ensures.told
    ∙ shown_at_body c.args.machine.state c.args.machine.real c.serve_touching-next.ensures.body)
