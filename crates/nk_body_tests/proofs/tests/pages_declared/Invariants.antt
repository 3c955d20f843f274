use Rattle.nk_body.specs.NestedRecord.{HoldsBooks}
use Rattle.nk_body_tests.proofs.tests.pages_declared.Given as goal

abbrev pub invariant-loop-frame : goal.invariant-loop-frame
invariant-loop-frame l = HoldsBooks l.it.kernel l.it.mem

abbrev pub invariant-loop-k : goal.invariant-loop-k
invariant-loop-k l = HoldsBooks l.it.kernel l.it.mem
