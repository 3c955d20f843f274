-- Which frames hold the kernel slot's tables of level 1, and that they are Fixed.
use Rattle.std.proofs.Common.{◌≡◌, ◌≢◌, ◌⊎◌, ℕ, zero, suc, ◌+◌, ◌<◌, Bool, true, false, ◌||◌, ◌==◌, List, arith, refl, sym, ap, ◌∙◌, inl, inr}
use Rattle.std.specs.List.{list_any, range_with_len}
use Rattle.std.proofs.lemmas.Bool.{and_parts, eqb-true, or_cases, false≢true, false_from_ne_true}
use Rattle.nk_bits.specs.declared.kind.Kind.{Kind}
use Rattle.nk_bits.specs.declared.kind.Kind.TheVariants.{Fixed}
use Rattle.nk_bits.specs.Kinds.{kind_of, level_of}
use Rattle.nk_bits.specs.Paging.{frame_of, is_present}
use Rattle.page_desc.specs.FrameCounts.{IsSlotFixed, holds_leaves, is_link_to, is_slot_leaf_table}

-- two tests that agree on a range
pub any_same : (n a : ℕ) (p q : ℕ → Bool) → ((i : ℕ) → i < a + n → p i ≡ q i)
    → list_any p (range_with_len a n) ≡ list_any q (range_with_len a n)
any_same zero a p q same = refl
any_same (suc n) a p q same =
    let first : p a ≡ q a = same a (omega arith) in
    let rest : list_any p (range_with_len (a + 1) n) ≡ list_any q (range_with_len (a + 1) n) =
    any_same n (a + 1) p q (λ i small. same i (omega (arith, small))) in
    λ j. first j || rest j

-- a number of the range that passes
pub any_witness : (n a : ℕ) (p : ℕ → Bool) → list_any p (range_with_len a n) ≡ true
    → (i : ℕ) × (i < a + n) × (p i ≡ true)
any_witness zero a p some = absurd (false≢true some)
any_witness (suc n) a p some =
    elim (or_cases (p a) _ some) [
      | inl here ↦ (a, omega arith, here)
      | inr later ↦ let found = any_witness n (a + 1) p later in (found.0, omega (arith, found.1), found.2)
    ]

-- tables that agree in frame 9 have the same ones
pub slot_same : (t u : ℕ → ℕ → ℕ) (frame : ℕ) → ((i : ℕ) → i < 512 → t 9 i ≡ u 9 i)
    → is_slot_leaf_table t frame ≡ is_slot_leaf_table u frame
unfolding is_slot_leaf_table
slot_same t u frame same =
    ap (λ b. frame == 8 || b) (any_same 512 0 _ _ (λ i small. ap (is_link_to frame) (same i (omega (arith, small)))))

-- each is Fixed
pub slot_fixed : (kinds : List Kind) (t : ℕ → ℕ → ℕ) (frame : ℕ) → IsSlotFixed kinds t
    → is_slot_leaf_table t frame ≡ true → kind_of kinds frame ≡ Fixed
unfolding is_slot_leaf_table
slot_fixed kinds t frame fixed is =
    elim (or_cases (frame == 8) _ is) [
      | inl table ↦ ap (kind_of kinds) (eqb-true frame 8 table) ∙ fixed.table
      | inr some ↦
          let found = any_witness 512 0 (λ i. is_link_to frame (t 9 i)) some in
          let parts = and_parts (is_present (t 9 found.0)) (frame_of (t 9 found.0) == frame) found.2 in
          ap (kind_of kinds) (sym (eqb-true (frame_of (t 9 found.0)) frame parts.1))
          ∙ fixed.named found.0 (omega (arith, found.1)) parts.0
    ]

-- so a frame that isn't Fixed holds leaves by its kind alone
pub leaves_by_kind : (kinds : List Kind) (t : ℕ → ℕ → ℕ) (frame : ℕ) → IsSlotFixed kinds t → kind_of kinds frame ≢ Fixed
    → holds_leaves kinds t frame ≡ (level_of (kind_of kinds frame) == 1)
unfolding holds_leaves
leaves_by_kind kinds t frame fixed apart =
    ap (λ b. level_of (kind_of kinds frame) == 1 || b) (false_from_ne_true (is_slot_leaf_table t frame) (λ is. apart (slot_fixed kinds t frame fixed is)))
    ∙ or_none (level_of (kind_of kinds frame) == 1)
  where
    or_none : (b : Bool) → (b || false) ≡ b
    or_none true = refl
    or_none false = refl

-- and a frame that holds leaves or links, or names the slot's, is Fixed or a table
pub holds_where : (kinds : List Kind) (t : ℕ → ℕ → ℕ) (frame : ℕ) → IsSlotFixed kinds t
    → holds_leaves kinds t frame ≡ true → (kind_of kinds frame ≡ Fixed) ⊎ (level_of (kind_of kinds frame) ≡ 1)
unfolding holds_leaves
holds_where kinds t frame fixed holds =
    elim (or_cases (level_of (kind_of kinds frame) == 1) _ holds) [
      | inl level ↦ inr (eqb-true _ 1 level)
      | inr slot ↦ inl (slot_fixed kinds t frame fixed slot)
    ]
