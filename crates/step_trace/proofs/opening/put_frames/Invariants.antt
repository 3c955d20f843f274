-- The frames so far were taken.
use Rattle.std.proofs.Common.{Ok}
use Rattle.std.specs.Prelude.{⊤}
use Rattle.step_trace.specs.StepTexts.{frames_text}
use Rattle.step_trace.specs.TracesPut.{IsTaken}
use Rattle.step_trace.proofs.opening.put_frames.Given as goal

abbrev pub invariant-loop-frame : goal.invariant-loop-frame
invariant-loop-frame g l =
    IsTaken {A = ⊤} g.O.Sink.taken g.O.Sink.faults l.initial.sink l.sink (frames_text l.frame 0 l.mem) (Ok tt)
