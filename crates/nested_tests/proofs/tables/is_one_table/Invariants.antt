use Rattle.std.proofs.Common.{◌≡◌, ◌≢◌, ◌<◌, ◌≤◌, ℕ}
use Rattle.nk_bits.specs.Kinds.{kind_of, level_of}
use Rattle.nested_tests.proofs.tables.is_one_table.Given as goal

abbrev pub invariant-loop-frame : goal.invariant-loop-frame
invariant-loop-frame l = record {
  small : l.frame ≤ 80;
  none : (f : ℕ) → f < l.frame → f ≢ 5 → level_of (kind_of l.kinds f) ≡ 0;
}
