use Rattle.std.proofs.Common.{◌≡◌, length}
use Rattle.cpu_step_tests.proofs.tests.machine.store_run.Given as goal

abbrev pub invariant-loop-word : goal.invariant-loop-word
invariant-loop-word l = length l.mem ≡ 40960
