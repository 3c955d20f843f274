use Rattle.std.proofs.Common.{◌≡◌, length}
use Rattle.access_tests.proofs.access.changes.map_all_to_the_table.Given as goal

abbrev pub invariant-loop-entry : goal.invariant-loop-entry
invariant-loop-entry l = length l.mem ≡ 65536
