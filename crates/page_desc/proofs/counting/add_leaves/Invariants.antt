use Rattle.std.proofs.Common.{◌≡◌, ◌<◌, ◌≤◌, ℕ, ◌+◌, ◌^◌}
use Rattle.phys_mem.specs.Memory.{entry_in}
use Rattle.page_desc.specs.DescriptorBytes.{field_in}
use Rattle.page_desc.specs.FieldChanges.{DiffersInField}
use Rattle.page_desc.specs.FrameCounts.{is_loose_leaf, count_if, sum_below}
use Rattle.page_desc.proofs.counting.add_leaves.Given as goal

abbrev pub invariant-loop-index : goal.invariant-loop-index
invariant-loop-index l = record {
  small : l.index ≤ 512;
  room : (other : ℕ) → other < l.count → field_in l.mem 4 other ≤ 2 ^ 31 + l.index;
  each : (other : ℕ) → other < l.count → field_in l.mem 4 other
      ≡ field_in l.initial.mem 4 other + sum_below l.index (λ i. count_if (is_loose_leaf other (entry_in l.initial.mem l.frame i)));
  differs : DiffersInField l.count 4 l.initial.mem l.mem;
}
