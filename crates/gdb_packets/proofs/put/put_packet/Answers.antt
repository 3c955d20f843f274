use Rattle.std.proofs.Common.{List, ℕ, subst}
use Rattle.nk_host.specs.PiecesOut.{MovedOn}
use Rattle.gdb_packets.specs.Packets.{packet_of}
use Rattle.gdb_packets.proofs.Sent.{went_out}
use Rattle.gdb_packets.proofs.put.put_packet.Goals as goal

pub returns-in-Ok : goal.returns-in-Ok
returns-in-Ok g c =
    let moved = c.in-Ok.ensures.moved in
    went_out c.pieces_law.ensures g.O.Sink.taken g.O.Sink.faults c.args.sink.now c.push_packet.new.sink c.finish.new.sink
    c.push_packet.new.pieces c.finish.new.self (packet_of c.args.body.now) c.finish.result
    (subst (λ (held : List ℕ). MovedOn (g.O.Sink.taken c.args.sink.now) (g.O.Sink.taken c.push_packet.new.sink) held
    c.push_packet.new.pieces (packet_of c.args.body.now)) c.new-pieces.ensures moved)
    c.in-Ok.ensures.never_falls
    (record {
      never_falls = c.finish.ensures.never_falls;
      failed = c.finish.ensures.failed;
      moved = c.finish.ensures.moved;
      cut = c.finish.ensures.cut;
    })
    c.finish.ensures.none
