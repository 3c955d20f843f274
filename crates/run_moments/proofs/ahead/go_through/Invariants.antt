use Rattle.std.proofs.Common.{◌≡◌, ◌+◌, ◌-◌, length}
use Rattle.run_moments.specs.Moments.{state_at}
use Rattle.run_moments.specs.StopsMet.{all_seen}
use Rattle.run_moments.proofs.StopsFound.{IsOnWay}
use Rattle.run_moments.proofs.ahead.go_through.Given as goal

abbrev pub invariant-loop-why : goal.invariant-loop-why
invariant-loop-why l = record {
  run : l.moment.run ≡ l.initial.moment.run;
  way : IsOnWay l.stops l.initial.moment.run l.initial.moment.steps l.moment.steps;
  kept : l.kept ≡ all_seen l.stops.watches.items (state_at l.initial.moment.run l.moment.steps);
}

abbrev pub decreases-loop-why : goal.decreases-loop-why
decreases-loop-why l = (l.initial.moment.run.turns + length l.initial.moment.run.plan) - l.moment.steps
