use Rattle.nk_body.specs.NestedRecord.{HoldsBooks}
use Rattle.gate_state_tests.proofs.tests.descriptors.run.Given as goal

abbrev pub invariant-loop : goal.invariant-loop
invariant-loop l = HoldsBooks l.beside.kernel l.beside.mem
