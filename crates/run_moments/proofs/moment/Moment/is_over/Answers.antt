use Rattle.std.proofs.Common.{◌≡◌, List, ap, subst, ◌∙◌, le-leb}
use Rattle.std.proofs.lemmas.Bool.{lt-leb}
use Rattle.irq_plan.specs.declared.event.Event.{Event}
use Rattle.gate_state.specs.MachineOf.{whole_of}
use Rattle.gate_state.specs.MachineSteps.{move_of}
use Rattle.gate_state.specs.WholeMachine.{is_rest}
use Rattle.run_moments.specs.Moments.{IsMoment, MomentOf, RunParts}
use Rattle.run_moments.proofs.Ways.{over_by_rest, over_by_turns}
use Rattle.run_moments.proofs.moment.Moment.is_over.Goals as goal

pub returns-then-turns : goal.returns-then-turns
returns-then-turns c =
    let m : MomentOf = c.args.self.now in
    let here : IsMoment m.run m.steps (whole_of c.self.inside.machine) =
    subst (λ (it : MomentOf). IsMoment it.run it.steps (whole_of c.self.inside.machine)) c.self.view_is c.self.invariant in
    let same : c.self.inside.run.now ≡ m.run = ap (λ (it : MomentOf). it.run) c.self.view_is in
    le-leb c.turns-2.result c.turns.result c.if-turns.true
    ∙ over_by_turns m.run m.steps (whole_of c.self.inside.machine) here c.turns.result c.turns-2.result c.turns.ensures
    (c.turns-2.ensures.turns ∙ ap (λ (run : RunParts). run.turns) same) (le-leb c.turns-2.result c.turns.result c.if-turns.true)

pub returns-else-turns : goal.returns-else-turns
returns-else-turns c =
    let m : MomentOf = c.args.self.now in
    let here : IsMoment m.run m.steps (whole_of c.self.inside.machine) =
    subst (λ (it : MomentOf). IsMoment it.run it.steps (whole_of c.self.inside.machine)) c.self.view_is c.self.invariant in
    let same : c.self.inside.run.now ≡ m.run = ap (λ (it : MomentOf). it.run) c.self.view_is in
    over_by_rest m.run m.steps (whole_of c.self.inside.machine) here c.turns.result c.turns-2.result c.done.result c.turns.ensures
    (c.turns-2.ensures.turns ∙ ap (λ (run : RunParts). run.turns) same) (lt-leb c.turns-2.result c.turns.result c.if-turns.false)
    (c.done.ensures.done
    ∙ ap (λ (plan : List Event). is_rest (move_of plan (whole_of c.self.inside.machine).state))
    (c.plan.ensures.plan ∙ ap (λ (run : RunParts). run.plan) same))
