-- Counts and tables after changes that aren't so, each named by the sentence that it guards.
use Rattle.std.proofs.Common.{◌≡◌, ◌≢◌, ◌==◌, ◌&&◌, ◌/◌, ◌<◌, ◌≤◌, ℕ, true, false, List, length, ap, arith}
use Rattle.std.specs.Prelude.{slice_set}
use Rattle.phys_mem.specs.MaskedMemory.{is_book_frame}
use Rattle.phys_mem.specs.Memory.{byte_at, entry_in}
use Rattle.nk_bits.specs.declared.kind.Kind.{Kind}
use Rattle.nk_bits.specs.declared.kind.Kind.TheVariants.{Data, Fixed, Guarded, Table}
use Rattle.nk_bits.specs.EntryForms.{has_table_form}
use Rattle.nk_bits.specs.Kinds.{kind_of, level_of}
use Rattle.nk_bits.specs.Paging.{emptied, frame_of, is_present, is_slot_entry, replaced, slot_value, walk, zeroed}
use Rattle.page_desc.specs.CountLaws.{CountLaws, DescriptorLaws}
use Rattle.page_desc.specs.DescriptorBytes.{DiffersInDescriptors, HoldsDescriptors}
use Rattle.page_desc.specs.FrameCounts.{IsSlotFixed, count_if, holds_links, is_link_level, is_link_to, is_loose_leaf, links_in, loose_in, may_hold_table}
use Rattle.page_desc.specs.FrameDescriptors.{AreCounted, Descriptors}
use Rattle.page_desc.specs.PageTableLaws.{PageTablesLaws, RecordWalkLaws}
use Rattle.page_desc.specs.PageTables.{HoldsSoundTables, is_table, tables_in, value_in}
use Rattle.page_desc.specs.SoundLaws.{SoundLaws}
use Rattle.page_desc.specs.SoundTables.{AreTables}
use Rattle.page_desc.specs.StoredLaws.{StoredLaws}

module _ (kinds : List Kind) (t : ℕ → ℕ → ℕ) (laws : CountLaws) where
  -- one frame has more than 512 leaves, or links
  leaf_513 : (frame : ℕ) → length kinds ≡ 1 → loose_in kinds t frame ≡ 513 → ⊥
  leaf_513 frame one is = let most = (laws.most kinds t frame).0 in omega (arith, most, one, is)

  link_513 : (frame : ℕ) → length kinds ≡ 1 → links_in kinds t frame ≡ 513 → ⊥
  link_513 frame one is = let most = (laws.most kinds t frame).1 in omega (arith, most, one, is)

  -- an entry names a frame that has no link
  link_of_none : (frame f : ℕ) → links_in kinds t frame ≡ 0 → f < length kinds → holds_links kinds f ≡ true
      → is_present (t f 511) ≡ true → frame_of (t f 511) ≡ frame → ⊥
  link_of_none frame f none inside holds present =
      laws.no_link kinds t frame f 511 none inside (omega arith) holds present

  -- a frame is Fixed no longer, with the same entries in frame 9, or another frame's kind
  fixed_lost : (u : ℕ → ℕ → ℕ) → IsSlotFixed kinds t → ((i : ℕ) → i < 512 → u 9 i ≡ t 9 i)
      → (IsSlotFixed kinds u → ⊥) → ⊥
  fixed_lost u fixed same lost = lost (laws.fixed_tables kinds t u fixed same)

  fixed_kind_lost : (a : ℕ) → IsSlotFixed kinds t → kind_of kinds a ≢ Fixed
      → (IsSlotFixed (slice_set kinds a Guarded) t → ⊥) → ⊥
  fixed_kind_lost a fixed other lost = lost (laws.fixed_kinds kinds t a Guarded fixed other)

  -- a kind of a frame without entries counts
  kind_counts : (a frame : ℕ) (kind : Kind) → ((i : ℕ) → i < 512 → is_present (t a i) ≡ false)
      → loose_in (slice_set kinds a kind) t frame ≢ loose_in kinds t frame → ⊥
  kind_counts a frame kind absent other = other (laws.any_kind kinds t a frame kind absent).0

  module _ (fixed : IsSlotFixed kinds t) where
    -- a leaf is put where none stood, or a link, and the count stays
    uncounted_leaf : (a b c frame : ℕ) → 1 ≤ level_of (kind_of kinds a) → b < 512
        → (level_of (kind_of kinds a) == 1 && is_loose_leaf frame (t a b)) ≡ false
        → (level_of (kind_of kinds a) == 1 && is_loose_leaf frame c) ≡ true
        → loose_in kinds (replaced t a b c) frame ≡ loose_in kinds t frame → ⊥
    uncounted_leaf a b c frame table below old new same =
        let law = laws.loose_replaced kinds t a b c frame fixed table below in
        omega (arith, ap count_if old, ap count_if new, law, same)

    uncounted_link : (a b c frame : ℕ) → 1 ≤ level_of (kind_of kinds a) → b < 512
        → (is_link_level (level_of (kind_of kinds a)) && is_link_to frame (t a b)) ≡ false
        → (is_link_level (level_of (kind_of kinds a)) && is_link_to frame c) ≡ true
        → links_in kinds (replaced t a b c) frame ≡ links_in kinds t frame → ⊥
    uncounted_link a b c frame table below old new same =
        let law = laws.links_replaced kinds t a b c frame fixed table below in
        omega (arith, ap count_if old, ap count_if new, law, same)

    -- an entry elsewhere than in a table counts
    entry_elsewhere_counts : (u : ℕ → ℕ → ℕ) (frame : ℕ)
        → ((f i : ℕ) → i < 512 → may_hold_table (kind_of kinds f) ≡ true → u f i ≡ t f i)
        → links_in kinds u frame ≢ links_in kinds t frame → ⊥
    entry_elsewhere_counts u frame same other = other (laws.elsewhere kinds t u frame fixed same).1

    -- the kernel slot's entry of a new table of level 4 counts for nothing, or stays counted once the table is none
    slot_entry_uncounted : (a : ℕ) → kind_of kinds a ≡ Data
        → links_in (slice_set kinds a (Table 4)) (emptied t a 4) 6 ≡ links_in kinds t 6 → ⊥
    slot_entry_uncounted a is same =
        let law = (laws.new_table kinds t a 4 6 fixed is (omega arith)).1 in omega (arith, law, same)

    slot_entry_stays : (a : ℕ) → (level_of (kind_of kinds a) == 4 && true) ≡ true → 1 ≤ level_of (kind_of kinds a)
        → level_of (kind_of kinds a) ≤ 4
        → ((i : ℕ) → i < 512 → is_slot_entry (level_of (kind_of kinds a)) i ≡ false → is_present (t a i) ≡ false)
        → (level_of (kind_of kinds a) ≡ 4 → t a 511 ≡ slot_value)
        → links_in (slice_set kinds a Data) (zeroed t a) 6 ≡ links_in kinds t 6 → ⊥
    slot_entry_stays a fourth table high absent slot same =
        let law = (laws.old_table kinds t a 6 fixed table high absent slot).1 in
        omega (arith, ap count_if fourth, law, same)

-- a kind of a frame without entries makes the counts wrong
miscounted_kind : (laws : DescriptorLaws) (d : Descriptors) (t : ℕ → ℕ → ℕ) (a : ℕ) (kind : Kind) → AreCounted d t
    → ((i : ℕ) → i < 512 → is_present (t a i) ≡ false)
    → (AreCounted (record d { kinds = slice_set d.kinds a kind }) t → ⊥) → ⊥
miscounted_kind laws d t a kind counted absent other = other (laws.any_kind d t a kind counted absent)

-- a table's entry isn't what stands in memory, and the walk another
module _ (kinds : List Kind) (root : ℕ) (m : List ℕ) where
  another_entry : (laws : PageTablesLaws) (f i : ℕ) → i < 512 → is_table (kind_of kinds f) ≡ true
      → value_in (tables_in kinds root m) f i ≢ entry_in m f i → ⊥
  another_entry laws f i below table other = other (laws.of_table kinds root m f i below table)

  another_fixed_entry : (laws : PageTablesLaws) (i : ℕ) → i < 512 → kind_of kinds 9 ≡ Fixed
      → value_in (tables_in kinds root m) 9 i ≢ entry_in m 9 i → ⊥
  another_fixed_entry laws i below fixed other =
      other (laws.of_fixed kinds root m 9 i below fixed (λ is. omega (arith, is)))

  another_walk : (laws : RecordWalkLaws) (page : ℕ) → HoldsSoundTables kinds root m
      → walk (value_in (tables_in kinds root m)) (length kinds) root page ≢ walk (entry_in m) (length kinds) root page
      → ⊥
  another_walk laws page holds other = other (laws.same kinds root page m holds)

-- the kernel slot's value is out of form, and tables aren't sound once a guarded frame is data
slot_out_of_form : (laws : SoundLaws) → has_table_form slot_value ≡ false → ⊥
slot_out_of_form laws other = let form = laws.slot_form in cc

unsound_without_guard : (laws : SoundLaws) (kinds : List Kind) (t : ℕ → ℕ → ℕ) (a : ℕ) → AreTables kinds t
    → kind_of kinds a ≡ Guarded → (AreTables (slice_set kinds a Data) t → ⊥) → ⊥
unsound_without_guard laws kinds t a tables guarded other = other (laws.unguarded kinds t a tables guarded)

-- a byte of no book differs
another_byte_elsewhere : (laws : StoredLaws) (frames : ℕ) (m n : List ℕ) (p : ℕ) → HoldsDescriptors frames m
    → DiffersInDescriptors m n → is_book_frame frames (p / 4096) ≡ false → byte_at n p ≢ byte_at m p → ⊥
another_byte_elsewhere laws frames m n p held differs apart other =
    other (laws.others frames m n p held differs apart)
