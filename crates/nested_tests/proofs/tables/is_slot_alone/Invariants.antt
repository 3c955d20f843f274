use Rattle.std.proofs.Common.{◌≡◌, ◌<◌, ◌≤◌, ℕ, false}
use Rattle.nk_bits.specs.Paging.{is_present}
use Rattle.phys_mem.specs.Memory.{entry_in}
use Rattle.nested_tests.proofs.tables.is_slot_alone.Given as goal

abbrev pub invariant-loop-index : goal.invariant-loop-index
invariant-loop-index l = record {
  small : l.index ≤ 511;
  none : (i : ℕ) → i < l.index → is_present (entry_in l.mem 5 i) ≡ false;
}
