use Rattle.std.proofs.Common.{◌≤◌, take}
use Rattle.nk_host.specs.PiecesOut.{MovedOn}
use Rattle.nk_host.proofs.pieces.Pieces.push_all.Given as goal

abbrev pub invariant-loop-byte : goal.invariant-loop-byte
invariant-loop-byte g l = record {
  moved : MovedOn (g.O.Sink.taken l.initial.sink) (g.O.Sink.taken l.sink) l.initial.self l.self (take l.byte-index l.bytes);
  counted : g.O.Sink.faults l.initial.sink ≤ g.O.Sink.faults l.sink;
}
