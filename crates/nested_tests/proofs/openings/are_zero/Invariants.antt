use Rattle.std.proofs.Common.{◌≡◌, ◌<◌, ◌≤◌, ℕ}
use Rattle.phys_mem.specs.Memory.{byte_at}
use Rattle.nested_tests.proofs.openings.are_zero.Given as goal

abbrev pub invariant-loop-at : goal.invariant-loop-at
invariant-loop-at l = record {
  bounds : (0x40000 ≤ l.at) × (l.at ≤ 0x41000);
  zero : (p : ℕ) → 0x40000 ≤ p → p < l.at → byte_at l.memory p ≡ 0;
}
