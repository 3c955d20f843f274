use Rattle.std.proofs.Common.{◌≡◌, ◌<◌, ℕ}
use Rattle.page_desc.specs.DescriptorBytes.{field_in}
use Rattle.page_desc.specs.FieldChanges.{DiffersInField}
use Rattle.page_desc.proofs.counting.clear_links.Given as goal

abbrev pub invariant-loop-frame : goal.invariant-loop-frame
invariant-loop-frame l = record {
  each : (other : ℕ) → other < l.frame → field_in l.mem 8 other ≡ 0;
  differs : DiffersInField l.count 8 l.initial.mem l.mem;
}
