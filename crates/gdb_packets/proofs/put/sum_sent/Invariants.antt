use Rattle.std.proofs.Common.{◌≡◌, take}
use Rattle.gdb_packets.specs.Packets.{escaped, body_sum}
use Rattle.gdb_packets.proofs.put.sum_sent.Given as goal

abbrev pub invariant-loop-byte : goal.invariant-loop-byte
invariant-loop-byte l = l.sum ≡ body_sum (escaped (take l.byte-index l.body))
