use Rattle.std.proofs.Common.{◌≡◌, map}
use Rattle.std.specs.List.{range_with_len}
use Rattle.boot_map.specs.OpeningKinds.{kind_at}
use Rattle.nk_body.proofs.kernel.opening_kinds.Given as goal

abbrev pub invariant-loop-frame : goal.invariant-loop-frame
invariant-loop-frame l = l.kinds.items ≡ map (kind_at l.image l.layout.frames) (range_with_len 0 l.frame)
