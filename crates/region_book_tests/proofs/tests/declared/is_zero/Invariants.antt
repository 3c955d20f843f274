use Rattle.std.proofs.Common.{◌≡◌, ◌+◌, ◌*◌, ◌<◌, ◌≤◌, ℕ}
use Rattle.phys_mem.specs.Memory.{byte_at}
use Rattle.region_book_tests.proofs.tests.declared.is_zero.Given as goal

abbrev pub invariant-loop-byte : goal.invariant-loop-byte
invariant-loop-byte l = record {
  small : l.byte ≤ 4096;
  zero : (p : ℕ) → 4096 * l.frame ≤ p → p < 4096 * l.frame + l.byte → byte_at l.mem p ≡ 0;
}
