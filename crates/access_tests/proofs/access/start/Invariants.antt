use Rattle.std.proofs.Common.{◌≡◌, length}
use Rattle.access_tests.proofs.access.start.Given as goal

abbrev pub invariant-loop-frame : goal.invariant-loop-frame
invariant-loop-frame l = length l.mem ≡ 65536
