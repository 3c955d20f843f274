use Rattle.std.proofs.Common.{◌≡◌, ◌<◌, ◌≤◌, ℕ, false}
use Rattle.nk_bits.specs.Kinds.{is_data, kind_of}
use Rattle.page_desc.specs.DescriptorBytes.{kinds_in}
use Rattle.region_book_tests.proofs.tests.declared.is_pool_apart.Given as goal

abbrev pub invariant-loop-frame : goal.invariant-loop-frame
invariant-loop-frame l = record {
  bounds : (10 ≤ l.frame) × (l.frame ≤ 26);
  apart : (f : ℕ) → 10 ≤ f → f < l.frame → is_data (kind_of (kinds_in l.mem) f) ≡ false;
}
