use Rattle.gate_state.specs.MachineOf.{whole_of}
use Rattle.gate_state.specs.MachineStates.{Opening}
use Rattle.nk_run.specs.RunStates.{run_text}
use Rattle.nk_run.proofs.Runs.{IsGoing, left}
use Rattle.nk_run.proofs.drive.drive.Given as goal

abbrev pub invariant-loop-ended : goal.invariant-loop-ended
invariant-loop-ended g l =
    let o : Opening = record { image = l.opened.image; frames = l.opened.layout.frames } in
    IsGoing g.O.Sink.taken g.O.Sink.faults l.initial.sink l.sink
    (run_text o l.steps l.plan (whole_of l.initial.machine).state) o l.steps l.plan (whole_of l.machine)

abbrev pub decreases-loop-ended : goal.decreases-loop-ended
decreases-loop-ended g l = left l.steps l.plan (whole_of l.machine).state
