use Rattle.gdb_packets.proofs.Sent.{packet_cut, packet_taken}
use Rattle.gdb_packets.proofs.put.push_packet.Goals as goal

pub returns-in-Ok : goal.returns-in-Ok
returns-in-Ok g c =
    packet_taken c.pieces_law.ensures g.O.Sink.taken g.O.Sink.faults _ _ _ _ _ _ _ _ c.in-Ok.ensures.moved
    c.in-Ok.ensures.never_falls c.push_rest.ensures

pub returns-in-Err : goal.returns-in-Err
returns-in-Err g c = packet_cut c.pieces_law.ensures g.O.Sink.taken g.O.Sink.faults _ _ _ _ _ _ c.in-Err.ensures
