use Rattle.std.proofs.Common.{◌≡◌, ◌<◌, ◌≤◌, ℕ}
use Rattle.nk_bits.specs.declared.kind.Kind.TheVariants.{Hidden}
use Rattle.nk_bits.specs.Kinds.{kind_of}
use Rattle.nested_tests.proofs.openings.are_books_hidden.Given as goal

abbrev pub invariant-loop-frame : goal.invariant-loop-frame
invariant-loop-frame l = record {
  bounds : (26 ≤ l.frame) × (l.frame ≤ 65);
  hidden : (f : ℕ) → 26 ≤ f → f < l.frame → kind_of l.kinds f ≡ Hidden;
}
