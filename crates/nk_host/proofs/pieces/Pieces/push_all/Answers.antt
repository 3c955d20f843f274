use Rattle.std.proofs.Common.{arith}
use Rattle.nk_host.proofs.MovedOut.{cut_byte, moved_byte}
use Rattle.nk_host.proofs.pieces.Pieces.push_all.Goals as goal

pub loop-byte-preserved : goal.loop-byte-preserved
loop-byte-preserved g c = record {
  moved = moved_byte _ _ _ _ _ _ _ _ _ c.loop-byte-test.true c.loop-byte.invariant.moved c.in_default.ensures.moved;
  counted = omega arith;
}

pub returns-in-Err-clause-cut : goal.returns-in-Err-clause-cut
returns-in-Err-clause-cut g c =
    cut_byte _ _ _ _ _ _ _ _ c.loop-byte-test.true c.loop-byte.invariant.moved c.in-Err.ensures.cut
