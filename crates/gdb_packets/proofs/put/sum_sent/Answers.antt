use Rattle.gdb_packets.proofs.Sent.{no_sum, sum_more}
use Rattle.gdb_packets.proofs.put.sum_sent.Goals as goal

pub loop-byte-init : goal.loop-byte-init
loop-byte-init c = no_sum

pub loop-byte-preserved : goal.loop-byte-preserved
loop-byte-preserved c = sum_more _ _ _ _ _ c.loop-byte-test.true c.loop-byte.invariant c.with_sent-sum.ensures
