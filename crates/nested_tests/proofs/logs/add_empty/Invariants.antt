use Rattle.write_log.specs.LogBytes.{HoldsLog}
use Rattle.nested_tests.proofs.logs.add_empty.Given as goal

abbrev pub invariant-loop-i : goal.invariant-loop-i
invariant-loop-i l = HoldsLog l.log l.mem
