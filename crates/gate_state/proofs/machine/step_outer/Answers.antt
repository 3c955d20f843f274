use Rattle.std.proofs.Common.{sym, ap, ◌∙◌}
use Rattle.gate_state.specs.declared.seen.Step.TheVariants as step
use Rattle.gate_state.specs.MachineSteps.{move_of}
use Rattle.gate_state.specs.WholeMachine.{known_of}
use Rattle.gate_state.proofs.StepLemmas.{next_alone, rests_as_it_is, rests_unseen, rests_untouched, seen_alone}
use Rattle.gate_state.proofs.machine.step_outer.Goals as goal

pub returns-then-done-clause-next : goal.returns-then-done-clause-next
returns-then-done-clause-next c = rests_as_it_is c.args.plan.now (known_of c.args.machine) (sym c.done.ensures.done ∙ c.if-done.true)

pub returns-then-done-clause-step : goal.returns-then-done-clause-step
returns-then-done-clause-step c =
    rests_unseen (move_of c.args.plan.now c.args.machine.state) c.args.machine.state (sym c.done.ensures.done ∙ c.if-done.true)

pub returns-then-done-clause-told : goal.returns-then-done-clause-told
returns-then-done-clause-told c =
    rests_untouched (move_of c.args.plan.now c.args.machine.state) c.args.machine.state c.args.machine.real
    (sym c.done.ensures.done ∙ c.if-done.true)

pub returns-clause-next : goal.returns-clause-next
returns-clause-next c =
    c.step_touching-next.ensures.next ∙ sym (next_alone c.args.plan.now (known_of c.args.machine) c.step_touching-next.ensures.no_body)

pub returns-clause-step : goal.returns-clause-step
returns-clause-step c =
    ap step.Seen c.step_touching-next.ensures.seen
    ∙ seen_alone c.args.plan.now c.args.machine.state c.step_touching-next.ensures.no_body (sym c.done.ensures.done ∙ c.if-done.false)
