-- The stores that are left give what all give.
use Rattle.std.proofs.Common.{◌≡◌, ◌-◌, length, replicate}
use Rattle.phys_mem.specs.Memory.{stored}
use Rattle.region_book.specs.RegionRows.{row_stores}
use Rattle.region_book.proofs.stores.put_zeros.Given as goal

abbrev pub invariant-loop-offset : goal.invariant-loop-offset
invariant-loop-offset l = record {
  left : stored l.mem (row_stores l.row l.offset (replicate (l.row.size - l.offset) 0)) ≡ stored l.fn.mem
      (row_stores l.row 0 (replicate l.row.size 0));
  same : length l.mem ≡ length l.fn.mem;
}
