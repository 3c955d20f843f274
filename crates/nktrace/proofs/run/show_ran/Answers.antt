use Rattle.std.proofs.Common.{◌⊎◌, inl, subst}
use Rattle.gate_state.specs.MachineStates.{MachineState}
use Rattle.nk_run.specs.Witness.{sink_change}
use Rattle.nktrace.specs.TracedRuns.{IsNoMemoryPut, IsRanPut}
use Rattle.nktrace.proofs.Rises.{ran_put}
use Rattle.nktrace.proofs.run.show_ran.Goals as goal

pub returns-in-Some : goal.returns-in-Some
returns-in-Some g c =
    let sink = sink_change g.O.Sink.taken g.O.Sink.faults c.args.sink.now c.put_ran.new.sink in
    subst (λ (first : MachineState).
    IsRanPut c.args.ready.opened.image c.args.ready.steps c.args.ready.plan first sink c.told_status.result
    ⊎ IsNoMemoryPut sink c.told_status.result)
    c.in-Some.ensures.state
    (inl (ran_put g.O.Sink.taken g.O.Sink.faults _ _ _ _ _ _ c.put_ran.result _ c.put_ran.ensures c.told_status.ensures))
