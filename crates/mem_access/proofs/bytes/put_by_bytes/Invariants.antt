use Rattle.std.proofs.Common.{◌≡◌, ◌+◌, ◌-◌, length}
use Rattle.phys_mem.specs.Memory.{stores, stored}
use Rattle.mem_access.proofs.bytes.put_by_bytes.Given as goal

abbrev pub invariant-loop-offset : goal.invariant-loop-offset
invariant-loop-offset l = record {
  to_do : stored l.mem (stores (l.count - l.offset) (l.at + l.offset) l.rest) ≡ stored l.initial.mem (stores l.count l.at l.value);
  same_length : length l.mem ≡ length l.initial.mem;
}
