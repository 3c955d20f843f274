use Rattle.std.proofs.Common.{◌≡◌, ◌≤◌}
use Rattle.write_log.specs.LogBytes.{record_place}
use Rattle.write_log.proofs.log.Log.spot.Given as goal

abbrev pub invariant-loop-number : goal.invariant-loop-number
invariant-loop-number l = record { most : l.number ≤ l.i; place : l.spot.place ≡ record_place l.mem l.number }
