-- Counts over tables that agree in frame 9 and in each frame that is counted, which need not be every frame that may
-- hold a table.
use Rattle.std.proofs.Common.{◌≡◌, ◌≢◌, ◌⊎◌, ℕ, ◌<◌, true, ◌||◌, ◌==◌, List, length, arith, refl, ap, ◌∙◌, inl, inr}
use Rattle.std.proofs.lemmas.Bool.{and_parts, eqb-true, or_cases}
use Rattle.nk_bits.specs.declared.kind.Kind.{Kind}
use Rattle.nk_bits.specs.declared.kind.Kind.TheVariants.{Fixed}
use Rattle.nk_bits.specs.Kinds.{kind_of, level_of}
use Rattle.nk_bits.specs.Paging.{frame_of, is_present}
use Rattle.page_desc.specs.FrameCounts.{IsSlotFixed, holds_leaves, holds_links, is_link_level, is_link_to, is_loose_leaf, is_slot_leaf_table, links_in, loose_in}
use Rattle.page_desc.proofs.CountLaws.{both_same}
use Rattle.page_desc.proofs.Counts.{count_same}
use Rattle.page_desc.proofs.SlotLeafTables.{any_witness, slot_fixed, slot_same}

module _ (kinds : List Kind) (t u : ℕ → ℕ → ℕ) (slot : (i : ℕ) → i < 512 → u 9 i ≡ t 9 i) where
  leaves_where : (f : ℕ) → holds_leaves kinds u f ≡ holds_leaves kinds t f
  unfolding holds_leaves
  leaves_where f = ap (λ b. level_of (kind_of kinds f) == 1 || b) (slot_same u t f slot)

  pub loose_where : ((f i : ℕ) → i < 512 → holds_leaves kinds t f ≡ true → u f i ≡ t f i) → (frame : ℕ)
      → loose_in kinds u frame ≡ loose_in kinds t frame
  unfolding loose_in
  loose_where agree frame =
      count_same (length kinds) 512 (holds_leaves kinds u) (holds_leaves kinds t) (is_loose_leaf frame) u t
      (λ f i inside small.
      both_same (holds_leaves kinds t f) (holds_leaves kinds u f) _ _ (leaves_where f)
      (λ holds. ap (is_loose_leaf frame) (agree f i small holds)))

pub links_where : (kinds : List Kind) (t u : ℕ → ℕ → ℕ)
    → ((f i : ℕ) → i < 512 → is_link_level (level_of (kind_of kinds f)) ≡ true → u f i ≡ t f i) → (frame : ℕ)
    → links_in kinds u frame ≡ links_in kinds t frame
unfolding links_in holds_links
links_where kinds t u agree frame =
    count_same (length kinds) 512 (holds_links kinds) (holds_links kinds) (is_link_to frame) u t
    (λ f i inside small.
    both_same (holds_links kinds f) (holds_links kinds f) _ _ refl
    (λ holds. ap (is_link_to frame) (agree f i small holds)))

-- where the kernel slot's tables lie apart from frame 2, frame 2 is none of them
pub slot_apart : (t : ℕ → ℕ → ℕ) (frame : ℕ)
    → ((i : ℕ) → i < 512 → is_present (t 9 i) ≡ true → frame_of (t 9 i) ≢ 2)
    → is_slot_leaf_table t frame ≡ true → frame ≢ 2
unfolding is_slot_leaf_table
slot_apart t frame apart is =
    elim (or_cases (frame == 8) _ is) [
      | inl table ↦ (λ two. absurd (omega (arith, two, eqb-true frame 8 table)))
      | inr some ↦
          let found = any_witness 512 0 (λ i. is_link_to frame (t 9 i)) some in
          let parts = and_parts (is_present (t 9 found.0)) (frame_of (t 9 found.0) == frame) found.2 in
          (λ two. apart found.0 (omega (arith, found.1)) parts.0 (eqb-true (frame_of (t 9 found.0)) frame parts.1 ∙ two))
    ]

-- so a frame that holds leaves is a table of level 1, or Fixed and another one
pub holds_apart : (kinds : List Kind) (t : ℕ → ℕ → ℕ) (frame : ℕ) → IsSlotFixed kinds t
    → ((i : ℕ) → i < 512 → is_present (t 9 i) ≡ true → frame_of (t 9 i) ≢ 2) → holds_leaves kinds t frame ≡ true
    → (level_of (kind_of kinds frame) ≡ 1) ⊎ ((kind_of kinds frame ≡ Fixed) × (frame ≢ 2))
unfolding holds_leaves
holds_apart kinds t frame fixed apart holds =
    elim (or_cases (level_of (kind_of kinds frame) == 1) _ holds) [
      | inl level ↦ inl (eqb-true _ 1 level)
      | inr slot ↦ inr (slot_fixed kinds t frame fixed slot, slot_apart t frame apart slot)
    ]
