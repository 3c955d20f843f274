use Rattle.std.proofs.Common.{◌⊎◌, subst}
use Rattle.gate_state.specs.MachineStates.{MachineState}
use Rattle.nk_run.specs.Witness.{sink_change}
use Rattle.nktrace.specs.TracedRuns.{IsNoMemoryPut, IsTracePut}
use Rattle.nktrace.proofs.run.show_run.Goals as goal

pub returns-in-Some : goal.returns-in-Some
returns-in-Some g c =
    let sink = sink_change g.O.Sink.taken g.O.Sink.faults c.args.sink.now c.show_machine.new.sink in
    subst (λ (first : MachineState).
    IsTracePut c.args.shown.now c.args.ready.steps c.args.ready.plan first sink c.show_machine.result
    ⊎ IsNoMemoryPut sink c.show_machine.result)
    c.in-Some.ensures.state c.show_machine.ensures
