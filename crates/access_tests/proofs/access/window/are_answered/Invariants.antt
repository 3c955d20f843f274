use Rattle.std.proofs.Common.{length}
use Rattle.mem_access.specs.Windows.{IsWindow}
use Rattle.access_tests.proofs.access.window.are_answered.Given as goal

abbrev pub invariant-loop-question : goal.invariant-loop-question
invariant-loop-question l = IsWindow (length l.mem) l.control 3 l.tlb l.window
