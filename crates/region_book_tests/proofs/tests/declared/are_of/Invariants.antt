use Rattle.std.proofs.Common.{◌≡◌, ◌<◌, ◌≤◌, ℕ}
use Rattle.nk_bits.specs.Kinds.{kind_of}
use Rattle.region_book_tests.proofs.tests.declared.are_of.Given as goal

abbrev pub invariant-loop-frame : goal.invariant-loop-frame
invariant-loop-frame l = record {
  bounds : (l.first ≤ l.frame) × (l.frame ≤ l.end);
  same : (f : ℕ) → l.first ≤ f → f < l.frame → kind_of l.kinds f ≡ l.kind;
}
