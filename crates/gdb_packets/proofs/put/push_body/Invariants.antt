use Rattle.std.proofs.Common.{◌≤◌, take}
use Rattle.nk_host.specs.PiecesOut.{MovedOn}
use Rattle.gdb_packets.specs.Packets.{escaped}
use Rattle.gdb_packets.proofs.put.push_body.Given as goal

abbrev pub invariant-loop-byte : goal.invariant-loop-byte
invariant-loop-byte g l = record {
  moved :
      MovedOn (g.O.Sink.taken l.initial.sink) (g.O.Sink.taken l.sink) l.initial.pieces l.pieces (escaped (take l.byte-index l.body));
  counted : g.O.Sink.faults l.initial.sink ≤ g.O.Sink.faults l.sink;
}
