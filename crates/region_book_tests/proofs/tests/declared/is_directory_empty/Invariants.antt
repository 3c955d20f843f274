use Rattle.std.proofs.Common.{◌≡◌, ◌<◌, ◌≤◌, ℕ, false}
use Rattle.phys_mem.specs.Memory.{entry_in}
use Rattle.nk_bits.specs.Paging.{is_present}
use Rattle.region_book_tests.proofs.tests.declared.is_directory_empty.Given as goal

abbrev pub invariant-loop-index : goal.invariant-loop-index
invariant-loop-index l = record {
  small : l.index ≤ 512;
  empty : (i : ℕ) → i < l.index → is_present (entry_in l.mem 9 i) ≡ false;
}
