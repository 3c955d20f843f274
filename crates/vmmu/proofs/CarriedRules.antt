-- The rules by the counts that the descriptors carry, and by memory, are those of what memory stands for.
use Rattle.std.proofs.Common.{◌≡◌, ℕ, zero, suc, ◌+◌, ◌<◌, Bool, true, false, not, ◌&&◌, ◌||◌, ◌==◌, List, length, slice_index, Option, None, arith, refl, sym, ap, ◌∙◌}
use Rattle.std.specs.Prelude.{nat_le, nat_lt}
use Rattle.std.specs.List.{list_any, range_with_len}
use Rattle.std.proofs.lemmas.Bool.{ltb-true, not-false}
use Rattle.nk_bits.specs.declared.rule.Rule.{Rule}
use Rattle.nk_bits.specs.declared.rule.Rule.TheVariants.{BadFrame, BadLevel, NotData, NotEmpty, NotTable, StillLinked, StillLoose}
use Rattle.nk_bits.specs.Kinds.{is_data, kind_of, level_of}
use Rattle.nk_bits.specs.Paging.{is_present, is_slot_entry}
use Rattle.phys_mem.specs.Memory.{entry_in}
use Rattle.page_desc.specs.FrameDescriptors.{Descriptors}
use Rattle.page_desc.specs.PageTableLaws.{PageTablesLaws}
use Rattle.page_desc.specs.PageTables.{AreDescribed, is_table, tables_in}
use Rattle.table_rules.specs.ValueRules.{broken}
use Rattle.vmmu.specs.TableCalls.{declare_rule, is_filled, remove_rule}
use Rattle.vmmu.proofs.ChangedFrames.{entries_at}

-- later rules count only where the first isn't broken
broken_same : (is_broken : Bool) (rule : Rule) (x y : Option Rule) → (is_broken ≡ false → x ≡ y)
    → broken is_broken rule x ≡ broken is_broken rule y
broken_same true rule x y same = refl
broken_same false rule x y same = same refl

-- two tests that agree on a range
any_same : (n a : ℕ) (p q : ℕ → Bool) → ((i : ℕ) → i < a + n → p i ≡ q i)
    → list_any p (range_with_len a n) ≡ list_any q (range_with_len a n)
any_same zero a p q same = refl
any_same (suc n) a p q same =
    let first : p a ≡ q a = same a (omega arith) in
    let rest : list_any p (range_with_len (a + 1) n) ≡ list_any q (range_with_len (a + 1) n) =
    any_same n (a + 1) p q (λ i small. same i (omega (arith, small))) in
    λ j. first j || rest j

-- an entry of memory is present in this frame, beside the kernel slot's of a table of this level
abbrev pub fills : List ℕ → ℕ → ℕ → Bool
fills m level frame = list_any (λ i. is_present (entry_in m frame i) && not (is_slot_entry level i)) (range_with_len 0 512)

module _ (laws : PageTablesLaws) (d : Descriptors) (root : ℕ) (m : List ℕ) (books : AreDescribed d root m) where
  pub declare_carried : (level frame : ℕ) →
      broken (not (nat_lt frame (length d.kinds))) BadFrame
      (broken (not (nat_le 1 level && nat_le level 4)) BadLevel
      (broken (not (is_data (kind_of d.kinds frame))) NotData
      (broken (not (slice_index d.loose frame == 0)) StillLoose None)))
      ≡ declare_rule (tables_in d.kinds root m) level frame
  unfolding declare_rule
  declare_carried level frame =
      broken_same _ BadFrame _ _ (λ stands.
      let inside : frame < length d.kinds = ltb-true _ _ (not-false _ stands) in
      ap (λ n. broken (not (nat_le 1 level && nat_le level 4)) BadLevel (broken (not (is_data (kind_of d.kinds frame))) NotData (broken (not (n == 0)) StillLoose None)))
      (books.counted.loose frame inside ∙ sym (laws.loose d.kinds root m frame books.sound)))

  -- entries are read from a memory that has the same ones in tables
  module _ (l : List ℕ) (same : (f i : ℕ) → i < 512 → is_table (kind_of d.kinds f) ≡ true → entry_in l f i ≡ entry_in m f i) where
    filled_carried : (frame : ℕ) → is_table (kind_of d.kinds frame) ≡ true
        → fills l (level_of (kind_of d.kinds frame)) frame ≡ is_filled (tables_in d.kinds root m) frame
    unfolding is_filled
    filled_carried frame table =
        any_same 512 0 _ _
        (λ i small. ap (λ e. is_present e && not (is_slot_entry (level_of (kind_of d.kinds frame)) i))
        (same frame i (omega (arith, small)) table ∙ sym (entries_at d.kinds m frame i table (omega (arith, small)))))

    pub remove_carried : (frame : ℕ) →
        broken (not (nat_lt frame (length d.kinds))) BadFrame
        (broken (not (is_table (kind_of d.kinds frame))) NotTable
        (broken (not (slice_index d.links frame == 0) || frame == root) StillLinked
        (broken (fills l (level_of (kind_of d.kinds frame)) frame) NotEmpty None)))
        ≡ remove_rule (tables_in d.kinds root m) frame
    unfolding remove_rule
    remove_carried frame =
        broken_same _ BadFrame _ _ (λ stands.
        let inside : frame < length d.kinds = ltb-true _ _ (not-false _ stands) in
        let count = books.counted.links frame inside ∙ sym (laws.links d.kinds root m frame books.sound) in
        broken_same _ NotTable _ _ (λ is.
        (λ j. broken (not (count j == 0) || frame == root) StillLinked (broken (filled_carried frame (not-false _ is) j) NotEmpty None))))
