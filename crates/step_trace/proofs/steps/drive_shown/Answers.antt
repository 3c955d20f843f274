use Rattle.std.proofs.Common.{◌≡◌, ℕ, ◌*◌, length, ap, sym, subst, ◌∙◌, arith}
use Rattle.gate_state.specs.MachineOf.{real_of, whole_of}
use Rattle.gate_state.specs.MachineStates.{Opening}
use Rattle.step_trace.specs.RestsOfTraces.{held_of}
use Rattle.step_trace.specs.Traces.{IsFirstReached}
use Rattle.step_trace.proofs.TraceRests.{opening_cut, trace_taken}
use Rattle.step_trace.proofs.steps.drive_shown.Given.{Over}
use Rattle.step_trace.proofs.steps.drive_shown.Goals.{After-memory_law}
use Rattle.step_trace.proofs.steps.drive_shown.Goals as goal

pub go_to-machine-requires : goal.go_to-machine-requires
go_to-machine-requires g c = record { limit = omega (arith, c.requires.steps, c.min.ensures) }

-- the copy has memory's size
held_size : (g : Over) (c : After-memory_law g) → length c.args.copy.now ≡ length (real_of c.go_to-machine.result)
held_size g c =
    c.requires.copy ∙ (ap (λ (o : Opening). 4096 * o.frames) (sym c.go_to-machine.ensures.opening) ∙ sym c.memory_law.ensures.size)

pub follow_shown-requires-clause-size : goal.follow_shown-requires-clause-size
follow_shown-requires-clause-size g c = held_size g (goal.at.follow_shown-requires-clause-size g c).After-memory_law

pub settle-requires : goal.settle-requires
settle-requires g c = record {
  size = held_size g (goal.at.settle-requires g c).After-memory_law ∙ ap length (sym c.memory.ensures.real);
}

pub follow-requires-clause-steps : goal.follow-requires-clause-steps
follow-requires-clause-steps g c = c.requires.steps

pub follow-requires-clause-copy : goal.follow-requires-clause-copy
follow-requires-clause-copy g c = c.settle.ensures.copy ∙ c.memory.ensures.real

pub returns-then-passes : goal.returns-then-passes
returns-then-passes g c =
    trace_taken g.O.Sink.taken g.O.Sink.faults c.args.shown.now c.args.steps c.args.plan.now (whole_of c.args.machine).state
    (held_of c.go_to-machine.result)
    (subst (λ (n : ℕ). IsFirstReached n c.args.plan.now (whole_of c.args.machine).state (whole_of c.go_to-machine.result).state)
    c.min.ensures c.go_to-machine.ensures.reached)
    c.memory_law.ensures.seen
    c.in_default.ensures c.follow_shown.ensures

pub returns-in-Err : goal.returns-in-Err
returns-in-Err g c =
    opening_cut g.O.Sink.taken g.O.Sink.faults c.args.shown.now c.args.steps c.args.plan.now (whole_of c.args.machine).state
    (held_of c.go_to-machine.result)
    c.stop.result c.stop.ensures
    (subst (λ (n : ℕ). IsFirstReached n c.args.plan.now (whole_of c.args.machine).state (whole_of c.go_to-machine.result).state)
    c.min.ensures c.go_to-machine.ensures.reached)
    c.memory_law.ensures.seen
    c.in-Err.ensures

pub returns : goal.returns
returns g c =
    trace_taken g.O.Sink.taken g.O.Sink.faults c.args.shown.now c.args.steps c.args.plan.now (whole_of c.args.machine).state
    (held_of c.go_to-machine.result)
    (subst (λ (n : ℕ). IsFirstReached n c.args.plan.now (whole_of c.args.machine).state (whole_of c.go_to-machine.result).state)
    c.min.ensures c.go_to-machine.ensures.reached)
    c.memory_law.ensures.seen
    c.in_default.ensures c.follow.ensures
