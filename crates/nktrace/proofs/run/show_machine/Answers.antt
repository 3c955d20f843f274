use Rattle.std.proofs.Common.{inl, inr}
use Rattle.nktrace.proofs.Rises.{trace_put}
use Rattle.nktrace.proofs.run.show_machine.Goals as goal

pub returns-in-Ok : goal.returns-in-Ok
returns-in-Ok g c = inl (trace_put g.O.Sink.taken g.O.Sink.faults _ _ _ _ _ _ c.drive_shown.result _ c.drive_shown.ensures c.told_status.ensures)

pub returns-in-Err : goal.returns-in-Err
returns-in-Err g c = inr c.no_memory.ensures
