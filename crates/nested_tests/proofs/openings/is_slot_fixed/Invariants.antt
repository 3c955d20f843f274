use Rattle.std.proofs.Common.{◌≡◌, ◌<◌, ◌≤◌, ℕ, true}
use Rattle.phys_mem.specs.Memory.{entry_in}
use Rattle.nk_bits.specs.declared.kind.Kind.TheVariants.{Fixed}
use Rattle.nk_bits.specs.Kinds.{kind_of}
use Rattle.nk_bits.specs.Paging.{frame_of, is_present}
use Rattle.nested_tests.proofs.openings.is_slot_fixed.Given as goal

abbrev pub invariant-loop-index : goal.invariant-loop-index
invariant-loop-index l = record {
  small : l.index ≤ 512;
  named : (i : ℕ) → i < l.index → is_present (entry_in l.memory 9 i) ≡ true
      → kind_of l.kinds (frame_of (entry_in l.memory 9 i)) ≡ Fixed;
}
