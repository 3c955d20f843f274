use Rattle.std.proofs.Common.{◌≡◌, length}
use Rattle.cpu_step.specs.Processor.{IsSound}
use Rattle.cpu_step_tests.proofs.tests.cases.first_failing_of.Given as goal

abbrev pub invariant-loop-index : goal.invariant-loop-index
invariant-loop-index l = IsSound 40960 l.cpu × (length l.mem ≡ 40960)
