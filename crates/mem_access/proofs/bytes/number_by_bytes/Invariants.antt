use Rattle.std.proofs.Common.{◌≡◌, ◌+◌, ◌-◌, ◌^◌, ◌<◌}
use Rattle.phys_mem.specs.Memory.{number_at}
use Rattle.mem_access.proofs.bytes.number_by_bytes.Given as goal

abbrev pub invariant-loop-offset : goal.invariant-loop-offset
invariant-loop-offset l = record {
  value : l.value ≡ number_at l.mem (l.count - l.offset) (l.at + l.offset);
  bound : l.value < 256 ^ (l.count - l.offset);
}
