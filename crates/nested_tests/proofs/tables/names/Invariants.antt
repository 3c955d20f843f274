use Rattle.std.proofs.Common.{◌≡◌, ◌<◌, ◌≤◌, ℕ, true}
use Rattle.nk_bits.specs.Paging.{frame_of, is_present}
use Rattle.phys_mem.specs.Memory.{entry_in}
use Rattle.nested_tests.proofs.tables.names.Given as goal

abbrev pub invariant-loop-index : goal.invariant-loop-index
invariant-loop-index l = record {
  small : l.index ≤ 512;
  named : (i : ℕ) → i < l.index → is_present (entry_in l.mem l.table i) ≡ true → frame_of (entry_in l.mem l.table i) ≡ l.target;
}
