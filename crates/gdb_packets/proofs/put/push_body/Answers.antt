use Rattle.std.proofs.Common.{arith}
use Rattle.gdb_packets.proofs.Sent.{body_cut, byte_sent, none_sent}
use Rattle.gdb_packets.proofs.put.push_body.Goals as goal

pub loop-byte-init : goal.loop-byte-init
loop-byte-init g c = record {
  moved = none_sent c.pieces_law.ensures _ _;
  counted = omega arith;
}

pub returns-in-Err : goal.returns-in-Err
returns-in-Err g c =
    body_cut c.pieces_law.ensures g.O.Sink.taken g.O.Sink.faults _ _ _ _ _ _ _ _ _ _ c.loop-byte-test.true
    c.loop-byte.invariant.moved c.loop-byte.invariant.counted c.in-Err.ensures

pub loop-byte-preserved : goal.loop-byte-preserved
loop-byte-preserved g c = record {
  moved =
      byte_sent c.pieces_law.ensures _ _ _ _ _ _ _ _ _ c.loop-byte-test.true
      c.loop-byte.invariant.moved c.in_default.ensures.moved;
  counted = omega (arith, c.loop-byte.invariant.counted, c.in_default.ensures.never_falls);
}
