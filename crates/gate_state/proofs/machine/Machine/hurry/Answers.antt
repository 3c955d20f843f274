use Rattle.std.proofs.Common.{ℕ, List, refl, sym, subst, arith}
use Rattle.irq_plan.specs.declared.event.Event.{Event}
use Rattle.gate_state.specs.declared.machine.Machine.{Machine}
use Rattle.gate_state.specs.MachineOf.{whole_of}
use Rattle.gate_state.specs.QuietSteps.{IsHurried}
use Rattle.gate_state.specs.WholeMachine.{WholeState, known_of}
use Rattle.gate_state.proofs.machine.Machine.hurry.Goals as goal

-- no step is taken
stays : (plan : List Event) (limit : ℕ) (w : WholeState) → IsHurried plan limit w w
stays plan limit w = record {
  steps = 0;
  quiet = refl;
  turns = omega arith;
  taken = refl;
  opening = refl;
  source = refl;
  within = λ few. few;
}

pub returns-in-Nested-clause-hurried : goal.returns-in-Nested-clause-hurried
returns-in-Nested-clause-hurried c =
    subst (λ (m : Machine). IsHurried c.args.plan.now c.args.limit (whole_of m) (known_of c.in-Nested.machine)) (sym c.in-Nested.is)
    (stays c.args.plan.now c.args.limit (known_of c.in-Nested.machine))
