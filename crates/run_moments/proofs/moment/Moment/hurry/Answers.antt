use Rattle.std.proofs.Common.{◌≤◌, ◌+◌, ◌-◌, ℕ, List, sym, subst, arith}
use Rattle.irq_plan.specs.declared.event.Event.{Event}
use Rattle.gate_state.specs.MachineOf.{whole_of}
use Rattle.gate_state.specs.MachineStates.{MachineState}
use Rattle.gate_state.specs.QuietSteps.{IsHurried}
use Rattle.run_moments.specs.Moments.{MomentOf, RunParts, state_at}
use Rattle.run_moments.specs.AdvancedMoments.{AreQuietBetween}
use Rattle.run_moments.proofs.Ways.{IsHurriedTo, moment_hurried}
use Rattle.run_moments.proofs.moment.Moment.hurry.Goals as goal

pub overflow_add-result : goal.overflow_add-result
overflow_add-result c =
    let run : RunParts = c.self.inside.run.now in
    let k : ℕ = c.self.inside.steps in
    let to : ℕ = k + (c.turns.result - c.turns-turns.result) in
    let most : c.args.limit ≤ run.turns =
    subst (λ (it : MomentOf). c.args.limit ≤ it.run.turns) (sym c.self.view_is) c.requires.limit in
    let before : (whole_of c.self.inside.machine).state.turns ≤ c.args.limit =
    subst (λ (s : MachineState). s.turns ≤ c.args.limit) (sym c.self.invariant.state_is)
    (subst (λ (it : MomentOf). (state_at it.run it.steps).turns ≤ c.args.limit) (sym c.self.view_is) c.requires.before) in
    let hurried : IsHurried run.plan c.args.limit (whole_of c.self.inside.machine) (whole_of c.hurry-machine.result) =
    subst (λ (plan : List Event). IsHurried plan c.args.limit (whole_of c.self.inside.machine) (whole_of c.hurry-machine.result))
    c.plan.ensures.plan c.hurry-machine.ensures.hurried in
    let led : IsHurriedTo run k to (whole_of c.hurry-machine.result) =
    moment_hurried c.moves_law.ensures run k c.args.limit to (whole_of c.self.inside.machine)
    (whole_of c.hurry-machine.result) c.self.invariant most before hurried
    (omega (arith, c.turns.ensures, c.turns-turns.ensures)) in
    omega (arith, led.moment.count, led.moment.within, led.moment.events, c.plan.ensures.events, c.plan.ensures.turns)

pub invariant_of-result : goal.invariant_of-result
invariant_of-result c =
    let run : RunParts = c.self.inside.run.now in
    let k : ℕ = c.self.inside.steps in
    let to : ℕ = k + (c.turns.result - c.turns-turns.result) in
    let most : c.args.limit ≤ run.turns =
    subst (λ (it : MomentOf). c.args.limit ≤ it.run.turns) (sym c.self.view_is) c.requires.limit in
    let before : (whole_of c.self.inside.machine).state.turns ≤ c.args.limit =
    subst (λ (s : MachineState). s.turns ≤ c.args.limit) (sym c.self.invariant.state_is)
    (subst (λ (it : MomentOf). (state_at it.run it.steps).turns ≤ c.args.limit) (sym c.self.view_is) c.requires.before) in
    let hurried : IsHurried run.plan c.args.limit (whole_of c.self.inside.machine) (whole_of c.hurry-machine.result) =
    subst (λ (plan : List Event). IsHurried plan c.args.limit (whole_of c.self.inside.machine) (whole_of c.hurry-machine.result))
    c.plan.ensures.plan c.hurry-machine.ensures.hurried in
    let led : IsHurriedTo run k to (whole_of c.hurry-machine.result) =
    moment_hurried c.moves_law.ensures run k c.args.limit to (whole_of c.self.inside.machine)
    (whole_of c.hurry-machine.result) c.self.invariant most before hurried
    (omega (arith, c.turns.ensures, c.turns-turns.ensures)) in
    led.moment

pub returns-clause-quiet : goal.returns-clause-quiet
returns-clause-quiet c =
    let run : RunParts = c.self.inside.run.now in
    let k : ℕ = c.self.inside.steps in
    let to : ℕ = k + (c.turns.result - c.turns-turns.result) in
    let most : c.args.limit ≤ run.turns =
    subst (λ (it : MomentOf). c.args.limit ≤ it.run.turns) (sym c.self.view_is) c.requires.limit in
    let before : (whole_of c.self.inside.machine).state.turns ≤ c.args.limit =
    subst (λ (s : MachineState). s.turns ≤ c.args.limit) (sym c.self.invariant.state_is)
    (subst (λ (it : MomentOf). (state_at it.run it.steps).turns ≤ c.args.limit) (sym c.self.view_is) c.requires.before) in
    let hurried : IsHurried run.plan c.args.limit (whole_of c.self.inside.machine) (whole_of c.hurry-machine.result) =
    subst (λ (plan : List Event). IsHurried plan c.args.limit (whole_of c.self.inside.machine) (whole_of c.hurry-machine.result))
    c.plan.ensures.plan c.hurry-machine.ensures.hurried in
    let led : IsHurriedTo run k to (whole_of c.hurry-machine.result) =
    moment_hurried c.moves_law.ensures run k c.args.limit to (whole_of c.self.inside.machine)
    (whole_of c.hurry-machine.result) c.self.invariant most before hurried
    (omega (arith, c.turns.ensures, c.turns-turns.ensures)) in
    subst (λ (it : MomentOf). AreQuietBetween it.run it.steps to) c.self.view_is led.quiet
