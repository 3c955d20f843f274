use Rattle.std.proofs.Common.{◌≡◌, ◌*◌, ◌≤◌}
use Rattle.std.specs.Prelude.{map, filter}
use Rattle.std.specs.List.{range_with_len}
use Rattle.arrayvec.specs.ArrayVec.{array_vec_len}
use Rattle.elf_image.specs.Elf.{is_segment, phdr_size, program_header_at}
use Rattle.elf_image.proofs.table.read_segments.Given as goal

abbrev pub invariant-loop-index : goal.invariant-loop-index
invariant-loop-index l =
    (l.found.items ≡ filter is_segment (map (λ i. program_header_at l.table (phdr_size * i) i) (range_with_len 0 l.index)))
    × (array_vec_len l.found ≤ l.index)
