use Rattle.std.proofs.Common.{◌+◌, ◌*◌, ◌≤◌, ◌∙◌, length, arith}
use Rattle.boot_map.specs.OpeningEntries.{entry_of_part}
use Rattle.boot_map.proofs.FillLaws.{entry_more}
use Rattle.boot_map.proofs.opening.fill_table.Goals as goal

pub loop-index-preserved : goal.loop-index-preserved
loop-index-preserved c =
    let fits : 8 * c.loop-index.index + 8 ≤ length c.loop-index.bytes = omega arith in
    entry_more (entry_of_part c.args.image.now c.args.layout.now c.args.part) c.loop-index.index _ c.entry_of_part.result c.loop-index.bytes c.copy_from_slice.new.self fits c.entry_of_part.ensures
    (c.copy_from_slice.ensures.after ∙ c.to_le_bytes-entry.ensures) (omega arith) c.loop-index.invariant
