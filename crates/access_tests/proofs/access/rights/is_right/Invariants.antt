use Rattle.std.proofs.Common.{◌≡◌, length}
use Rattle.access_tests.proofs.access.rights.is_right.Given as goal

abbrev pub invariant-loop-leaf : goal.invariant-loop-leaf
invariant-loop-leaf l = length l.mem ≡ 65536
