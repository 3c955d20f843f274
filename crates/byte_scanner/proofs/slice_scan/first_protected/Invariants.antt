use Rattle.std.proofs.Common.{◌-◌, ◌≤◌, length, slice_get}
use Rattle.byte_scanner.specs.LeastPlace.{NoneBelow}
use Rattle.byte_scanner.proofs.slice_scan.first_protected.Given as goal

abbrev pub invariant-loop-place : goal.invariant-loop-place
invariant-loop-place l = record {
  within : l.from ≤ length l.bytes;
  clean : NoneBelow (slice_get l.bytes) l.from;
}

abbrev pub decreases-loop-place : goal.decreases-loop-place
decreases-loop-place l = length l.bytes - l.from
