use Rattle.std.proofs.Common.{◌≡◌, ◌<◌, ℕ}
use Rattle.phys_mem.specs.Memory.{entry_in}
use Rattle.page_desc.specs.DescriptorBytes.{field_in}
use Rattle.page_desc.specs.FieldChanges.{DiffersInField}
use Rattle.page_desc.specs.FrameCounts.{count_in, holds_links, is_link_to}
use Rattle.page_desc.proofs.counting.count_links.Given as goal

abbrev pub invariant-loop-frame : goal.invariant-loop-frame
invariant-loop-frame l = record {
  each : (other : ℕ) → other < l.count → field_in l.mem 8 other
      ≡ count_in l.frame 512 (holds_links l.kinds) (is_link_to other) (entry_in l.initial.mem);
  differs : DiffersInField l.count 8 l.initial.mem l.mem;
}
