use Rattle.std.proofs.Common.{◌≡◌, ◌≤◌}
use Rattle.std.specs.Prelude.{filter}
use Rattle.std.specs.List.{range_with_len}
use Rattle.arrayvec.specs.ArrayVec.{array_vec_len}
use Rattle.boot_map.specs.Division.{is_touched}
use Rattle.boot_map.proofs.image_pages.touched_ranges.Given as goal

abbrev pub invariant-loop-range : goal.invariant-loop-range
invariant-loop-range l =
    (l.touched.items ≡ filter (is_touched l.image) (range_with_len 0 l.range)) × (array_vec_len l.touched ≤ l.range)
