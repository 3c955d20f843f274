use Rattle.std.proofs.Common.{◌≡◌, ◌<◌, ℕ}
use Rattle.nk_bits.specs.Kinds.{kind_of}
use Rattle.page_desc.specs.DescriptorBytes.{field_in, kind_by, word_of}
use Rattle.page_desc.specs.FieldChanges.{DiffersInField}
use Rattle.page_desc.proofs.counting.put_kinds.Given as goal

abbrev pub invariant-loop-frame : goal.invariant-loop-frame
invariant-loop-frame l = record {
  words : (f : ℕ) → f < l.frame → field_in l.mem 0 f ≡ word_of (kind_of l.kinds f);
  kinds : (f : ℕ) → f < l.frame → kind_by (field_in l.mem 0 f) ≡ kind_of l.kinds f;
  differs : DiffersInField l.count 0 l.initial.mem l.mem;
}
