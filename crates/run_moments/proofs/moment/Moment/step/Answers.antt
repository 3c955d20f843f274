use Rattle.std.proofs.Common.{◌≡◌, ◌<◌, false, List, sym, subst, arith}
use Rattle.irq_plan.specs.declared.event.Event.{Event}
use Rattle.gate_state.specs.MachineOf.{whole_of}
use Rattle.gate_state.specs.MachineStates.{MachineState}
use Rattle.gate_state.specs.WholeMachine.{stepped_whole}
use Rattle.run_moments.specs.Moments.{IsMoment, MomentOf, RunParts, is_over}
use Rattle.run_moments.proofs.Ways.{moment_stepped, turns_left}
use Rattle.run_moments.proofs.moment.Moment.step.Goals as goal

pub step-machine-requires : goal.step-machine-requires
step-machine-requires c =
    let run : RunParts = c.self.inside.run.now in
    let here : IsMoment run c.self.inside.steps (whole_of c.self.inside.machine) = c.self.invariant in
    let going : is_over run c.self.inside.steps ≡ false =
    subst (λ (it : MomentOf). is_over it.run it.steps ≡ false) (sym c.self.view_is) c.requires.going in
    let left : (whole_of c.self.inside.machine).state.turns < run.turns =
    subst (λ (s : MachineState). s.turns < run.turns) (sym here.state_is) (turns_left run c.self.inside.steps going) in
    record { turns = omega (arith, left, c.plan.ensures.turns) }

pub overflow_add-moment : goal.overflow_add-moment
overflow_add-moment c =
    let here : IsMoment c.self.inside.run.now c.self.inside.steps (whole_of c.self.inside.machine) = c.self.invariant in
    omega (arith, here.count, here.within, here.events, c.plan.ensures.events, c.plan.ensures.turns)

pub invariant_of-moment : goal.invariant_of-moment
invariant_of-moment c =
    let run : RunParts = c.self.inside.run.now in
    let going : is_over run c.self.inside.steps ≡ false =
    subst (λ (it : MomentOf). is_over it.run it.steps ≡ false) (sym c.self.view_is) c.requires.going in
    subst (λ n. IsMoment run n (whole_of c.step-machine.result.0)) (omega arith)
    (moment_stepped c.moves_law.ensures run c.self.inside.steps (whole_of c.self.inside.machine)
    (whole_of c.step-machine.result.0) c.self.invariant going
    (subst (λ (plan : List Event). whole_of c.step-machine.result.0 ≡ stepped_whole plan (whole_of c.self.inside.machine))
    c.plan.ensures.plan c.step-machine.ensures.next))
