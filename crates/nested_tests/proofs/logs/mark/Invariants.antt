use Rattle.std.proofs.Common.{◌≡◌, ◌≤◌, length}
use Rattle.nested_tests.proofs.logs.mark.Given as goal

abbrev pub invariant-loop-at : goal.invariant-loop-at
invariant-loop-at l = record { most : l.at ≤ 0x2A001; same : length l.mem ≡ length l.fn.mem }
