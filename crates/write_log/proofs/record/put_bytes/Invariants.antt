-- The bytes that are left give what all give.
use Rattle.std.proofs.Common.{◌≡◌, ◌+◌, drop, length}
use Rattle.phys_mem.specs.Memory.{stored}
use Rattle.write_log.specs.RecordStores.{byte_stores}
use Rattle.write_log.proofs.record.put_bytes.Given as goal

abbrev pub invariant-loop-i : goal.invariant-loop-i
invariant-loop-i l = record {
  left : stored l.mem (byte_stores (l.at + l.i) (drop l.i l.bytes)) ≡ stored l.fn.mem (byte_stores l.at l.bytes);
  same : length l.mem ≡ length l.fn.mem;
}
