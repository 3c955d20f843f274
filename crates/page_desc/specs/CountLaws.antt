-- Counts of leaves and links after each change of tables and kinds.
use Rattle.std.specs.Prelude.{◌≡◌, ◌≢◌, ℕ, ◌+◌, ◌*◌, ◌<◌, ◌≤◌, true, false, ◌&&◌, ◌==◌, List, length, slice_set}
use Rattle.nk_bits.specs.declared.kind.Kind.{Kind}
use Rattle.nk_bits.specs.declared.kind.Kind.TheVariants.{Data, Fixed, Table}
use Rattle.nk_bits.specs.Kinds.{kind_of, level_of}
use Rattle.nk_bits.specs.Paging.{emptied, frame_of, is_present, is_slot_entry, is_user, grants_writes, replaced, slot_value, zeroed}
use Rattle.page_desc.specs.FrameCounts.{IsSlotFixed, holds_leaves, holds_links, is_link_level, is_link_to, is_loose_leaf, links_in, loose_in, may_hold_table, count_if}
use Rattle.page_desc.specs.FrameDescriptors.{AreCounted, Descriptors, IsReplaceable, IsReplaced, last_value}

-- the counts made anew
pub record CountLaws : Type 0 where
  pub loose_replaced : (kinds : List Kind) (t : ℕ → ℕ → ℕ) (a b c frame : ℕ) → IsSlotFixed kinds t
      → 1 ≤ level_of (kind_of kinds a) → b < 512
      → loose_in kinds (replaced t a b c) frame
      + count_if (level_of (kind_of kinds a) == 1 && is_loose_leaf frame (t a b))
      ≡ loose_in kinds t frame + count_if (level_of (kind_of kinds a) == 1 && is_loose_leaf frame c)
  pub links_replaced : (kinds : List Kind) (t : ℕ → ℕ → ℕ) (a b c frame : ℕ) → IsSlotFixed kinds t
      → 1 ≤ level_of (kind_of kinds a) → b < 512
      → links_in kinds (replaced t a b c) frame
      + count_if (is_link_level (level_of (kind_of kinds a)) && is_link_to frame (t a b))
      ≡ links_in kinds t frame + count_if (is_link_level (level_of (kind_of kinds a)) && is_link_to frame c)
  pub elsewhere : (kinds : List Kind) (t u : ℕ → ℕ → ℕ) (frame : ℕ) → IsSlotFixed kinds t
      → ((f i : ℕ) → i < 512 → may_hold_table (kind_of kinds f) ≡ true → u f i ≡ t f i)
      → (loose_in kinds u frame ≡ loose_in kinds t frame) × (links_in kinds u frame ≡ links_in kinds t frame)
  pub any_kind : (kinds : List Kind) (t : ℕ → ℕ → ℕ) (a frame : ℕ) (kind : Kind)
      → ((i : ℕ) → i < 512 → is_present (t a i) ≡ false)
      → (loose_in (slice_set kinds a kind) t frame ≡ loose_in kinds t frame)
      × (links_in (slice_set kinds a kind) t frame ≡ links_in kinds t frame)
  pub new_table : (kinds : List Kind) (t : ℕ → ℕ → ℕ) (a level frame : ℕ) → IsSlotFixed kinds t
      → kind_of kinds a ≡ Data → level ≤ 4
      → (loose_in (slice_set kinds a (Table level)) (emptied t a level) frame ≡ loose_in kinds t frame)
      × (links_in (slice_set kinds a (Table level)) (emptied t a level) frame
      ≡ links_in kinds t frame + count_if (level == 4 && frame == 6))
  pub old_table : (kinds : List Kind) (t : ℕ → ℕ → ℕ) (a frame : ℕ) → IsSlotFixed kinds t
      → 1 ≤ level_of (kind_of kinds a) → level_of (kind_of kinds a) ≤ 4
      → ((i : ℕ) → i < 512 → is_slot_entry (level_of (kind_of kinds a)) i ≡ false → is_present (t a i) ≡ false)
      → (level_of (kind_of kinds a) ≡ 4 → t a 511 ≡ slot_value)
      → (loose_in (slice_set kinds a Data) (zeroed t a) frame ≡ loose_in kinds t frame)
      × (links_in (slice_set kinds a Data) (zeroed t a) frame + count_if (level_of (kind_of kinds a) == 4 && frame == 6)
      ≡ links_in kinds t frame)
  pub no_loose_leaf : (kinds : List Kind) (t : ℕ → ℕ → ℕ) (frame f i : ℕ) → loose_in kinds t frame ≡ 0
      → f < length kinds → i < 512 → holds_leaves kinds t f ≡ true → is_present (t f i) ≡ true
      → frame_of (t f i) ≡ frame
      → (grants_writes (t f i) ≡ false) × (is_user (t f i) ≡ false)
  pub no_link : (kinds : List Kind) (t : ℕ → ℕ → ℕ) (frame f i : ℕ) → links_in kinds t frame ≡ 0
      → f < length kinds → i < 512 → holds_links kinds f ≡ true → is_present (t f i) ≡ true → frame_of (t f i) ≢ frame
  pub most : (kinds : List Kind) (t : ℕ → ℕ → ℕ) (frame : ℕ)
      → (loose_in kinds t frame ≤ 512 * length kinds) × (links_in kinds t frame ≤ 512 * length kinds)
  pub fixed_tables : (kinds : List Kind) (t u : ℕ → ℕ → ℕ) → IsSlotFixed kinds t
      → ((i : ℕ) → i < 512 → u 9 i ≡ t 9 i) → IsSlotFixed kinds u
  pub fixed_kinds : (kinds : List Kind) (t : ℕ → ℕ → ℕ) (a : ℕ) (kind : Kind) → IsSlotFixed kinds t
      → kind_of kinds a ≢ Fixed → IsSlotFixed (slice_set kinds a kind) t

-- the counts that are carried from one change to the next
pub record DescriptorLaws : Type 0 where
  pub replaceable : (d : Descriptors) (t : ℕ → ℕ → ℕ) (a b c : ℕ) → AreCounted d t → IsSlotFixed d.kinds t
      → length d.kinds ≤ 65536 → 1 ≤ level_of (kind_of d.kinds a) → b < 512
      → IsReplaceable (level_of (kind_of d.kinds a)) (t a b) c d
  pub absent_replaceable : (d : Descriptors) (t : ℕ → ℕ → ℕ) (a level e c : ℕ) (kind : Kind) → AreCounted d t
      → length d.kinds ≤ 65536 → is_present e ≡ false
      → IsReplaceable level e c (record d { kinds = slice_set d.kinds a kind })
  pub replaced : (before after : Descriptors) (t : ℕ → ℕ → ℕ) (a b c : ℕ) → AreCounted before t
      → IsSlotFixed before.kinds t → 1 ≤ level_of (kind_of before.kinds a) → b < 512
      → IsReplaced (level_of (kind_of before.kinds a)) (t a b) c before after → AreCounted after (replaced t a b c)
  pub same : (d : Descriptors) (t u : ℕ → ℕ → ℕ) → AreCounted d t
      → ((f i : ℕ) → i < 512 → u f i ≡ t f i) → AreCounted d u
  pub elsewhere : (d : Descriptors) (t u : ℕ → ℕ → ℕ) → AreCounted d t → IsSlotFixed d.kinds t
      → ((f i : ℕ) → i < 512 → may_hold_table (kind_of d.kinds f) ≡ true → u f i ≡ t f i) → AreCounted d u
  pub any_kind : (d : Descriptors) (t : ℕ → ℕ → ℕ) (a : ℕ) (kind : Kind) → AreCounted d t
      → ((i : ℕ) → i < 512 → is_present (t a i) ≡ false)
      → AreCounted (record d { kinds = slice_set d.kinds a kind }) t
  pub new_table : (before after : Descriptors) (t : ℕ → ℕ → ℕ) (a level : ℕ) → AreCounted before t
      → IsSlotFixed before.kinds t → kind_of before.kinds a ≡ Data → level ≤ 4
      → IsReplaced level 0 (last_value level) (record before { kinds = slice_set before.kinds a (Table level) }) after
      → AreCounted after (emptied t a level)
  pub old_table : (before after : Descriptors) (t : ℕ → ℕ → ℕ) (a : ℕ) → AreCounted before t
      → IsSlotFixed before.kinds t → 1 ≤ level_of (kind_of before.kinds a) → level_of (kind_of before.kinds a) ≤ 4
      → ((i : ℕ) → i < 512 → is_slot_entry (level_of (kind_of before.kinds a)) i ≡ false → is_present (t a i) ≡ false)
      → (level_of (kind_of before.kinds a) ≡ 4 → t a 511 ≡ slot_value)
      → IsReplaced (level_of (kind_of before.kinds a)) (t a 511) 0 before after
      → AreCounted (record after { kinds = slice_set after.kinds a Data }) (zeroed t a)
