-- A frame that a writable entry of the kernel slot's own tables of level 1 names has a loose leaf.
use Rattle.std.proofs.Common.{◌≡◌, ◌⊎◌, ℕ, zero, suc, ◌+◌, ◌<◌, ◌≤◌, Bool, true, List, length, sym, ap, ◌∙◌, arith, inl, inr}
use Rattle.std.specs.Prelude.{◌==◌}
use Rattle.std.specs.List.{list_any, range_with_len}
use Rattle.std.proofs.lemmas.Bool.{and_from, cases_eq, eq-eqb, false≢true, or_left, or_right}
use Rattle.nk_bits.specs.declared.kind.Kind.{Kind}
use Rattle.nk_bits.specs.Kinds.{kind_of, level_of}
use Rattle.nk_bits.specs.Paging.{frame_of, is_present}
use Rattle.nk_bits.specs.KernelLayout.{area_table, image_directory}
use Rattle.boot_map.specs.KernelSlot.{IsNamedIn, IsWrittenInSlot}
use Rattle.page_desc.specs.FrameCounts.{holds_leaves, is_link_to, is_slot_leaf_table, loose_in}
use Rattle.gate_state.proofs.LowerLaws.{LowerLaws}

-- a test that one of the numbers from a on passes
any_passes : (p : ℕ → Bool) (a n k : ℕ) → a ≤ k → k < a + n → p k ≡ true → list_any p (range_with_len a n) ≡ true
any_passes p a zero k low high is = absurd (omega (arith, low, high))
any_passes p a (suc n) k low high is = elim (cases_eq k a) [
  | inl here ↦ or_left (p a) _ (ap p (sym here) ∙ is)
  | inr later ↦ or_right (p a) _ (any_passes p (a + 1) n k (omega (arith, low, later)) (omega (arith, high)) is)
]

-- the slot's table of level 1 is one by what names it
named_table : (t : ℕ → ℕ → ℕ) (table : ℕ) → (table ≡ area_table) ⊎ IsNamedIn t image_directory table
    → is_slot_leaf_table t table ≡ true
unfolding is_slot_leaf_table
named_table t table (inl area) = or_left (table == 8) _ (eq-eqb table 8 area)
named_table t table (inr named) =
    or_right (table == 8) _
    (any_passes (λ i. is_link_to table (t 9 i)) 0 512 named.at (omega arith) named.inside
    (and_from (is_present (t 9 named.at)) (frame_of (t 9 named.at) == table) named.present (eq-eqb _ _ named.names)))

holds_them : (ks : List Kind) (t : ℕ → ℕ → ℕ) (table : ℕ) → is_slot_leaf_table t table ≡ true → holds_leaves ks t table ≡ true
unfolding holds_leaves
holds_them ks t table is = or_right (level_of (kind_of ks table) == 1) _ is

pub written_loose : (laws : LowerLaws) (ks : List Kind) (t : ℕ → ℕ → ℕ) (frame frames : ℕ) → length ks ≡ frames
    → IsWrittenInSlot frames t frame → 1 ≤ loose_in ks t frame
written_loose laws ks t frame frames count it = elim (cases_eq (loose_in ks t frame) 0) [
  | inl none ↦
      let unwritten = laws.count.no_loose_leaf ks t frame it.table it.index none (omega (arith, count, it.in_memory)) it.inside
      (holds_them ks t it.table (named_table t it.table it.slots)) it.present it.names in
      absurd (false≢true (sym unwritten.0 ∙ it.written))
  | inr some ↦ omega (arith, some)
]
