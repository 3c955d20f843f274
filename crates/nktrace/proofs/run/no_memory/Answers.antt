use Rattle.nk_run.specs.Lines.{no_memory_line}
use Rattle.nktrace.proofs.Rises.{want_put}
use Rattle.nktrace.proofs.run.no_memory.Goals as goal

pub returns : goal.returns
unfolding no_memory_line
returns g c = want_put g.O.Sink.taken g.O.Sink.faults _ _ c.put_all.result _ c.put_all.ensures.put c.unless_cut.ensures
