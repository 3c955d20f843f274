use Rattle.nk_body.specs.NestedRecord.{HoldsBooks}
use Rattle.nk_body_tests.proofs.tests.filled.Given as goal

abbrev pub invariant-loop-k : goal.invariant-loop-k
invariant-loop-k l = HoldsBooks l.it.kernel l.it.mem
