use Rattle.std.proofs.Common.{◌≡◌, ℕ, ◌+◌, ◌-◌, ◌<◌, length}
use Rattle.run_moments.specs.Moments.{state_at}
use Rattle.run_moments.proofs.going.go_through.Given as goal

abbrev pub invariant-loop-moment : goal.invariant-loop-moment
invariant-loop-moment l = record {
  run : l.moment.run ≡ l.initial.moment.run;
  first : (k : ℕ) → k < l.moment.steps → (state_at l.initial.moment.run k).turns < l.turns;
}

abbrev pub decreases-loop-moment : goal.decreases-loop-moment
decreases-loop-moment l = (l.initial.moment.run.turns + length l.initial.moment.run.plan) - l.moment.steps
