-- What stands in the line, and what is still to come, are the whole.
use Rattle.std.proofs.Common.{◌≡◌, ◌-◌, ◌++◌, drop, take}
use Rattle.hex.specs.Hex.{encode_lower}
use Rattle.step_trace.proofs.opening.put_places.Given as goal

abbrev pub invariant-loop-place : goal.invariant-loop-place
invariant-loop-place l = l.line.items ++ encode_lower (take (l.end - l.place) (drop l.place l.mem))
    ≡ l.initial.line.items ++ encode_lower (take (l.end - l.first) (drop l.first l.mem))
