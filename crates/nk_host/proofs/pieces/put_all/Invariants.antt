use Rattle.std.proofs.Common.{◌≤◌, length}
use Rattle.nk_host.proofs.Passed.{WentOut}
use Rattle.nk_host.proofs.pieces.put_all.Given as goal

abbrev pub invariant-loop-rest : goal.invariant-loop-rest
invariant-loop-rest g l = record {
  out : WentOut l.bytes l.rest (g.O.Sink.taken l.initial.sink) (g.O.Sink.taken l.sink);
  counted : g.O.Sink.faults l.initial.sink ≤ g.O.Sink.faults l.sink;
}

abbrev pub decreases-loop-rest : goal.decreases-loop-rest
decreases-loop-rest g l = length l.rest
