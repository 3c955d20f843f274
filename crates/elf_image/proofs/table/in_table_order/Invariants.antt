use Rattle.std.proofs.Common.{◌≡◌, ◌==◌, ◌≤◌}
use Rattle.std.specs.Prelude.{filter_map, find}
use Rattle.std.specs.List.{range_with_len}
use Rattle.arrayvec.specs.ArrayVec.{array_vec_len}
use Rattle.elf_image.proofs.table.in_table_order.Given as goal

abbrev pub invariant-loop-index : goal.invariant-loop-index
invariant-loop-index l =
    (l.found.items ≡ filter_map (λ i. find (λ s. s.index == i) l.segments) (range_with_len 0 l.index))
    × (array_vec_len l.found ≤ l.index)
