use Rattle.std.proofs.Common.{◌≡◌, ◌-◌, ◌<◌, ◌≤◌}
use Rattle.run_moments.specs.Moments.{state_at}
use Rattle.run_moments.specs.Stops.{IsStopBefore}
use Rattle.run_moments.specs.StopsMet.{all_seen}
use Rattle.run_moments.proofs.behind.last_stop.Given as goal

abbrev pub invariant-loop-moment : goal.invariant-loop-moment
invariant-loop-moment l = record {
  run : l.moment.run ≡ l.initial.moment.run;
  within : l.moment.steps ≤ l.before;
  last : 0 < l.moment.steps → IsStopBefore l.stops l.initial.moment.run l.moment.steps l.last.at l.last.why;
  kept : l.kept.items ≡ all_seen l.stops.watches.items (state_at l.initial.moment.run l.moment.steps);
}

abbrev pub decreases-loop-moment : goal.decreases-loop-moment
decreases-loop-moment l = l.before - l.moment.steps
