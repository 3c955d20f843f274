use Rattle.std.proofs.Common.{◌≡◌, ◌≤◌, filter, length, take}
use Rattle.page_desc.specs.DescriptorBytes.{kinds_in}
use Rattle.page_desc.specs.PageTables.{is_table}
use Rattle.nk_run.proofs.count.count_tables.Given as goal

abbrev pub invariant-loop-frame : goal.invariant-loop-frame
invariant-loop-frame l = (l.count ≡ length (filter is_table (take l.frame (kinds_in l.mem)))) × (l.count ≤ l.frame)
