-- The counts over tables in memory stay while descriptors are put, row by row and as a whole.
use Rattle.std.proofs.Common.{◌≡◌, ℕ, true, ◌||◌, ◌==◌, List, length, arith, refl, ap, inl, inr}
use Rattle.phys_mem.specs.Memory.{entry_in}
use Rattle.nk_bits.specs.declared.kind.Kind.{Kind}
use Rattle.nk_bits.specs.Kinds.{kind_of, level_of}
use Rattle.page_desc.specs.FieldChanges.{DiffersInField, IsReadable}
use Rattle.page_desc.specs.FrameCounts.{IsSlotFixed, holds_leaves, holds_links, is_link_to, is_loose_leaf, links_in, loose_in, may_hold_table, count_if, sum_below}
use Rattle.page_desc.proofs.CountLaws.{both_same, link_low, links_elsewhere, loose_elsewhere, table_holds}
use Rattle.page_desc.proofs.Counts.{row}
use Rattle.page_desc.proofs.FieldPasses.{directory_left, table_left}
use Rattle.page_desc.proofs.SlotLeafTables.{holds_where, slot_same}
use Rattle.page_desc.proofs.Sums.{sum_same}

-- a frame that holds leaves or links may hold a table
pub leaves_may : (kinds : List Kind) (t : ℕ → ℕ → ℕ) (f : ℕ) → IsSlotFixed kinds t → holds_leaves kinds t f ≡ true
    → may_hold_table (kind_of kinds f) ≡ true
leaves_may kinds t f fixed holds =
    elim (holds_where kinds t f fixed holds) [
      | inl is ↦ ap may_hold_table is
      | inr level ↦ table_holds (kind_of kinds f) (omega (arith, level))
    ]

pub links_may : (kinds : List Kind) (f : ℕ) → holds_links kinds f ≡ true → may_hold_table (kind_of kinds f) ≡ true
unfolding holds_links
links_may kinds f holds = table_holds (kind_of kinds f) (link_low (level_of (kind_of kinds f)) holds)

module _ (kinds : List Kind) (frames at : ℕ) (m n : List ℕ) (all : frames ≡ length kinds) (readable : IsReadable kinds m)
    (change : DiffersInField frames at m n) where
  leaves_left : (f : ℕ) → holds_leaves kinds (entry_in n) f ≡ holds_leaves kinds (entry_in m) f
  unfolding holds_leaves
  leaves_left f =
      ap (λ b. level_of (kind_of kinds f) == 1 || b)
      (slot_same (entry_in n) (entry_in m) f (directory_left kinds frames at m n all readable change))

  -- the entries of frame 9 that name a frame
  pub marks_left : (f : ℕ) → sum_below 512 (λ i. count_if (is_link_to f (entry_in n 9 i))) ≡ sum_below 512 (λ i. count_if (is_link_to f (entry_in m 9 i)))
  marks_left f =
      sum_same 512 (λ i. count_if (is_link_to f (entry_in n 9 i))) (λ i. count_if (is_link_to f (entry_in m 9 i)))
      (λ i small. ap (λ e. count_if (is_link_to f e)) (directory_left kinds frames at m n all readable change i small))

  -- the entries of a frame that count
  pub loose_row : (f other : ℕ) → row 512 (holds_leaves kinds (entry_in n)) (is_loose_leaf other) (entry_in n) f ≡ row 512 (holds_leaves kinds (entry_in m)) (is_loose_leaf other) (entry_in m) f
  loose_row f other =
      sum_same 512 _ _ (λ i small. ap count_if (both_same (holds_leaves kinds (entry_in m) f) (holds_leaves kinds (entry_in n) f) _ _ (leaves_left f)
      (λ holds. ap (is_loose_leaf other) (table_left kinds frames at m n all readable change f i small (leaves_may kinds (entry_in m) f readable.slot holds)))))

  pub links_row : (f other : ℕ) → row 512 (holds_links kinds) (is_link_to other) (entry_in n) f ≡ row 512 (holds_links kinds) (is_link_to other) (entry_in m) f
  links_row f other =
      sum_same 512 _ _ (λ i small. ap count_if (both_same (holds_links kinds f) (holds_links kinds f) _ _ refl
      (λ holds. ap (is_link_to other) (table_left kinds frames at m n all readable change f i small (links_may kinds f holds)))))

  -- all that counts
  pub loose_left : (frame : ℕ) → loose_in kinds (entry_in n) frame ≡ loose_in kinds (entry_in m) frame
  loose_left = loose_elsewhere kinds (entry_in m) (entry_in n) readable.slot (table_left kinds frames at m n all readable change)

  pub links_left : (frame : ℕ) → links_in kinds (entry_in n) frame ≡ links_in kinds (entry_in m) frame
  links_left = links_elsewhere kinds (entry_in m) (entry_in n) readable.slot (table_left kinds frames at m n all readable change)
