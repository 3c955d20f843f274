use Rattle.nk_body.specs.NestedRecord.{HoldsBooks}
use Rattle.nk_body_tests.proofs.tests.rule_order.is_answered_at_both_limits.Given as goal

abbrev pub invariant-loop-k : goal.invariant-loop-k
invariant-loop-k l = HoldsBooks l.it.kernel l.it.mem
