use Rattle.std.proofs.Common.{◌≡◌, length, refl, sym}
use Rattle.gate_state.specs.MachineOf.{real_of, whole_of}
use Rattle.step_trace.specs.PassedSteps.{IsStepFrom}
use Rattle.step_trace.specs.RestsOfTraces.{held_of}
use Rattle.step_trace.specs.Traces.{ending_before}
use Rattle.step_trace.proofs.PassedRests.{copy_for, step_from}
use Rattle.step_trace.proofs.TraceRests.{cut_here, same_size}
use Rattle.step_trace.proofs.passing.step_over.Given.{Over}
use Rattle.step_trace.proofs.passing.step_over.Goals.{After-standing_law-2}
use Rattle.step_trace.proofs.passing.step_over.Goals as goal

-- the step that is taken
has_from : (g : Over) (c : After-standing_law-2 g)
    → IsStepFrom c.args.shown.now c.args.steps c.args.plan.now (held_of c.args.machine) c.step_touching-next.result.1
    (held_of c.step_touching-next.result.0)
has_from g c =
    step_from c.args.shown.now c.args.steps c.args.plan.now (held_of c.args.machine) (held_of c.step_touching-next.result.0)
    c.step_touching-next.result.1 c.requires.goes c.step_touching-next.ensures.next c.standing_law-2.ensures.real
    c.step_touching-next.ensures.step (c.moves_law.ensures c.args.plan.now (whole_of c.args.machine).state)

-- memory keeps its size
has_size : (g : Over) (c : After-standing_law-2 g)
    → length (real_of c.args.machine) ≡ length (real_of c.step_touching-next.result.0)
has_size g c =
    same_size c.args.plan.now (whole_of c.args.machine) (whole_of c.step_touching-next.result.0) (real_of c.args.machine)
    (real_of c.args.machine) (real_of c.step_touching-next.result.0) refl c.standing_law.ensures.size
    c.step_touching-next.ensures.next c.standing_law-2.ensures.size

pub returns-in_default-clause-passed : goal.returns-in_default-clause-passed
returns-in_default-clause-passed g c =
    cut_here g.O.Sink.taken g.O.Sink.faults c.args.shown.now c.args.steps c.args.plan.now c.args.sink.now
    (ending_before c.args.shown.now c.args.steps c.args.plan.now (whole_of c.args.machine).state) (held_of c.args.machine)
    c.stop.result c.stop.ensures

pub returns-then-are_kinds-clause-passed : goal.returns-then-are_kinds-clause-passed
returns-then-are_kinds-clause-passed g c =
    let at = (goal.at.returns-then-are_kinds-clause-passed g c).After-standing_law-2 in
    c.tell_over.ensures.passed (held_of c.args.machine) (has_from g at) c.in-Ok.ensures.here
    (copy_for c.args.shown.now (held_of c.args.machine) (held_of c.step_touching-next.result.0) c.step_touching-next.result.1
    c.step_touching-next.result.2 c.look_before.new.copy c.requires.passes (sym c.if-are_kinds.ensures) (has_size g at)
    c.step_touching-next.ensures.touched c.step_touching-next.ensures.shown c.in-Ok.ensures.copy)
    c.in-Ok.ensures.head

pub returns-clause-passed : goal.returns-clause-passed
returns-clause-passed g c =
    c.pass_behind.ensures (held_of c.args.machine) (record {
      it = c.step_touching-next.result.1;
      from = has_from g (goal.at.returns-clause-passed g c).After-standing_law-2;
      silent = sym c.if-are_kinds.ensures;
    })
