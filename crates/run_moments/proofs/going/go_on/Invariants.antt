use Rattle.std.proofs.Common.{◌≡◌, ◌+◌, ◌-◌, ◌≤◌, length}
use Rattle.run_moments.proofs.going.go_on.Given as goal

abbrev pub invariant-loop-moment : goal.invariant-loop-moment
invariant-loop-moment l = record {
  run : l.moment.run ≡ l.initial.moment.run;
  within : l.moment.steps ≤ l.steps;
}

abbrev pub decreases-loop-moment : goal.decreases-loop-moment
decreases-loop-moment l = (l.initial.moment.run.turns + length l.initial.moment.run.plan) - l.moment.steps
