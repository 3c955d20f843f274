use Rattle.std.proofs.Common.{◌≡◌}
use Rattle.gate_state.specs.MachineOf.{whole_of}
use Rattle.nk_run.proofs.CountedRuns.{IsCounting}
use Rattle.nk_run.proofs.Runs.{left}
use Rattle.nk_run.proofs.count.count.Given as goal

abbrev pub invariant-loop-ended : goal.invariant-loop-ended
invariant-loop-ended g l =
    (l.sink ≡ l.initial.sink) × IsCounting 2000000 l.plan (whole_of l.initial.machine).state (whole_of l.machine).state l.tally

abbrev pub decreases-loop-ended : goal.decreases-loop-ended
decreases-loop-ended g l = left 2000000 l.plan (whole_of l.machine).state
