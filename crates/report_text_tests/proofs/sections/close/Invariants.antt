use Rattle.nk_body.specs.NestedRecord.{HoldsBooks}
use Rattle.report_text_tests.proofs.sections.close.Given as goal

abbrev pub invariant-loop-call : goal.invariant-loop-call
invariant-loop-call l = HoldsBooks l.kernel l.mem
