-- The stores that are left give what all give.
use Rattle.std.proofs.Common.{◌≡◌, ◌+◌, drop, length}
use Rattle.phys_mem.specs.Memory.{stored}
use Rattle.region_book.specs.RegionRows.{row_stores}
use Rattle.region_book.proofs.stores.put.Given as goal

abbrev pub invariant-loop-i : goal.invariant-loop-i
invariant-loop-i l = record {
  left : stored l.mem (row_stores l.row (l.offset + l.i) (drop l.i l.bytes)) ≡ stored l.fn.mem
      (row_stores l.row l.offset l.bytes);
  same : length l.mem ≡ length l.fn.mem;
}
