use Rattle.std.proofs.Common.{sym, subst, List, ℕ}
use Rattle.gate_state.specs.StepsTouched.{KeepsOutside}
use Rattle.gate_state.specs.MachineOf.{real_of, whole_of}
use Rattle.gate_state.specs.WholeMachine.{HeldState}
use Rattle.step_trace.specs.CopiesOfMemory.{IsCopyFor}
use Rattle.step_trace.specs.RestsOfTraces.{held_of}
use Rattle.step_trace.proofs.TraceRests.{cut_behind, next_held, same_copy, same_size, step_taken, until_behind}
use Rattle.step_trace.proofs.steps.follow_step.Given.{Over}
use Rattle.step_trace.proofs.steps.follow_step.Goals.{After-tell}
use Rattle.step_trace.proofs.steps.follow_step.Goals as goal

pub step_touching-next-requires : goal.step_touching-next-requires
step_touching-next-requires g c = record { turns = c.requires.turns }

pub tell-requires : goal.tell-requires
tell-requires g c = record {
  size = same_size c.args.plan.now (whole_of c.args.machine) (whole_of c.step_touching-next.result.0) c.args.copy.now (real_of c.args.machine)
      (real_of c.step_touching-next.result.0) c.requires.copy c.memory_law.ensures.size c.step_touching-next.ensures.next
      c.memory_law-2.ensures.size;
}

-- the copy does for telling the step
has_before : (g : Over) (c : After-tell g) → IsCopyFor c.step_touching-next.result.2 c.args.copy.now (real_of c.args.machine) (real_of c.step_touching-next.result.0)
has_before g c =
    same_copy c.args.plan.now (whole_of c.args.machine) (whole_of c.step_touching-next.result.0) c.step_touching-next.result.2
    c.args.copy.now (real_of c.args.machine) (real_of c.step_touching-next.result.0) c.requires.copy c.memory_law.ensures.size
    c.step_touching-next.ensures.next c.memory_law-2.ensures.size c.step_touching-next.ensures.touched

pub returns-in-Err : goal.returns-in-Err
returns-in-Err g c = λ steps goes.
    let h : HeldState = held_of c.args.machine in
    let next : HeldState = held_of c.step_touching-next.result.0 in
    cut_behind g.O.Sink.taken g.O.Sink.faults c.args.shown.now steps c.args.plan.now c.stop.result c.stop.ensures goes
    (next_held c.args.plan.now h next c.step_touching-next.ensures.next c.memory_law-2.ensures.seen)
    (c.in-Err.ensures.told c.args.plan.now h c.requires.here (has_before g (goal.at.returns-in-Err g c).After-tell) c.step_touching-next.ensures.step c.requires.head)

pub returns-in-Ok : goal.returns-in-Ok
returns-in-Ok g c = λ steps goes.
    let h : HeldState = held_of c.args.machine in
    let next : HeldState = held_of c.step_touching-next.result.0 in
    until_behind g.O.Sink.taken g.O.Sink.faults c.args.shown.now steps c.args.plan.now goes
    (next_held c.args.plan.now h next c.step_touching-next.ensures.next c.memory_law-2.ensures.seen)
    (c.in-Ok.ensures.told c.args.plan.now h c.requires.here (has_before g (goal.at.returns-in-Ok g c).After-tell) c.step_touching-next.ensures.step c.requires.head)
    (sym c.if-is_at.ensures) c.end.ensures

pub returns-in-Ok-2 : goal.returns-in-Ok-2
returns-in-Ok-2 g c = λ steps goes.
    let h : HeldState = held_of c.args.machine in
    let next : HeldState = held_of c.step_touching-next.result.0 in (
      step_taken g.O.Sink.taken g.O.Sink.faults c.args.shown.now steps c.args.plan.now goes
          (next_held c.args.plan.now h next c.step_touching-next.ensures.next c.memory_law-2.ensures.seen)
          (c.moves_law.ensures c.args.plan.now (whole_of c.args.machine).state) (sym c.if-is_at.ensures)
          (c.in-Ok.ensures.told c.args.plan.now h c.requires.here (has_before g (goal.at.returns-in-Ok-2 g c).After-tell) c.step_touching-next.ensures.step c.requires.head),
      (
        c.in-Ok.ensures.kept,
        c.in-Ok.ensures.copy (subst (λ (m : List ℕ). KeepsOutside c.step_touching-next.result.2 m (real_of c.step_touching-next.result.0)) (sym c.requires.copy)
            c.step_touching-next.ensures.touched),
      ),
    )
