use Rattle.nk_body.specs.NestedRecord.{HoldsBooks}
use Rattle.nk_body_tests.proofs.tests.play.Given as goal

abbrev pub invariant-loop-index : goal.invariant-loop-index
invariant-loop-index l = HoldsBooks l.kernel l.mem
