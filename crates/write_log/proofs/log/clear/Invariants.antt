use Rattle.std.proofs.Common.{◌≡◌, ◌<◌, ◌≤◌, ◌*◌, ℕ}
use Rattle.phys_mem.specs.Memory.{byte_at}
use Rattle.write_log.specs.LogBytes.{DiffersInLog}
use Rattle.write_log.proofs.log.clear.Given as goal

abbrev pub invariant-loop-frame : goal.invariant-loop-frame
invariant-loop-frame l = record {
  bounds : (26 ≤ l.frame) × (l.frame ≤ 42);
  zero : (p : ℕ) → 0x1A000 ≤ p → p < 4096 * l.frame → byte_at l.mem p ≡ 0;
  elsewhere : DiffersInLog l.fn.mem l.mem;
}
