-- The counts after an entry of a table is replaced, and where tables differ in frames that hold none.
use Rattle.std.proofs.Common.{◌≡◌, ◌≢◌, ℕ, ◌+◌, ◌<◌, ◌≤◌, Bool, true, false, ◌&&◌, ◌||◌, ◌==◌, List, length, arith, refl, sym, ap, ◌∙◌, inl, inr}
use Rattle.std.proofs.lemmas.Grind.{common_steps}
use Rattle.nk_bits.specs.declared.kind.Kind.{Kind}
use Rattle.nk_bits.specs.declared.kind.Kind.TheVariants.{Data, Code, Table, Fixed, Trap, Guarded, Hidden}
use Rattle.nk_bits.specs.Kinds.{kind_of, level_of}
use Rattle.nk_bits.specs.Paging.{replaced}
use Rattle.page_desc.specs.FrameCounts.{IsSlotFixed, holds_leaves, holds_links, is_link_level, is_link_to, is_loose_leaf, is_slot_leaf_table, links_in, loose_in, may_hold_table, count_if}
use Rattle.page_desc.proofs.Counts.{count_changed, count_same}
use Rattle.page_desc.proofs.SlotLeafTables.{holds_where, leaves_by_kind, slot_same}

-- a table by its kind isn't Fixed, and may hold a table
pub table_apart : (kind : Kind) → 1 ≤ level_of kind → kind ≢ Fixed
table_apart kind level is = absurd (omega (arith, level, ap level_of is))

pub table_holds : (kind : Kind) → 1 ≤ level_of kind → may_hold_table kind ≡ true
table_holds (Table level) low = refl
table_holds Fixed low = refl
table_holds Data low = absurd (omega arith)
table_holds Code low = absurd (omega arith)
table_holds Trap low = absurd (omega arith)
table_holds Guarded low = absurd (omega arith)
table_holds Hidden low = absurd (omega arith)

pub link_low : (level : ℕ) → is_link_level level ≡ true → 1 ≤ level
link_low level is = grind arith

-- a conjunction whose second part counts where the first passes
pub both_same : (b c x y : Bool) → c ≡ b → (b ≡ true → y ≡ x) → (c && y) ≡ (b && x)
both_same true c x y same rest = (λ j. same j && rest refl j)
both_same false c x y same rest = (λ j. same j && y)

-- tables of the same entries have the same counts
module _ (kinds : List Kind) (t u : ℕ → ℕ → ℕ) (same : (f i : ℕ) → i < 512 → u f i ≡ t f i) where
  leaves_alike : (f : ℕ) → holds_leaves kinds u f ≡ holds_leaves kinds t f
  unfolding holds_leaves
  leaves_alike f = ap (λ b. level_of (kind_of kinds f) == 1 || b) (slot_same u t f (λ i small. same 9 i small))

  pub loose_same : (frame : ℕ) → loose_in kinds u frame ≡ loose_in kinds t frame
  unfolding loose_in
  loose_same frame =
      count_same (length kinds) 512 (holds_leaves kinds u) (holds_leaves kinds t) (is_loose_leaf frame) u t
      (λ f i inside small. both_same (holds_leaves kinds t f) (holds_leaves kinds u f) _ _ (leaves_alike f) (λ holds. ap (is_loose_leaf frame) (same f i small)))

  pub links_same : (frame : ℕ) → links_in kinds u frame ≡ links_in kinds t frame
  unfolding links_in
  links_same frame =
      count_same (length kinds) 512 (holds_links kinds) (holds_links kinds) (is_link_to frame) u t
      (λ f i inside small. both_same (holds_links kinds f) (holds_links kinds f) _ _ refl (λ holds. ap (is_link_to frame) (same f i small)))

-- so do tables that agree in each frame that may hold one
module _ (kinds : List Kind) (t u : ℕ → ℕ → ℕ) (fixed : IsSlotFixed kinds t)
    (agree : (f i : ℕ) → i < 512 → may_hold_table (kind_of kinds f) ≡ true → u f i ≡ t f i) where
  same_slot : (f : ℕ) → is_slot_leaf_table u f ≡ is_slot_leaf_table t f
  same_slot f = slot_same u t f (λ i small. agree 9 i small (ap may_hold_table fixed.directory))

  same_leaves : (f : ℕ) → holds_leaves kinds u f ≡ holds_leaves kinds t f
  unfolding holds_leaves
  same_leaves f = ap (λ b. level_of (kind_of kinds f) == 1 || b) (same_slot f)

  pub loose_elsewhere : (frame : ℕ) → loose_in kinds u frame ≡ loose_in kinds t frame
  unfolding loose_in
  loose_elsewhere frame =
      count_same (length kinds) 512 (holds_leaves kinds u) (holds_leaves kinds t) (is_loose_leaf frame) u t
      (λ f i inside small. both_same (holds_leaves kinds t f) (holds_leaves kinds u f) _ _ (same_leaves f)
      (λ holds. ap (is_loose_leaf frame) (agree f i small (elim (holds_where kinds t f fixed holds) [
        | inl is ↦ ap may_hold_table is
        | inr level ↦ table_holds (kind_of kinds f) (omega (arith, level))
      ]))))

  pub links_elsewhere : (frame : ℕ) → links_in kinds u frame ≡ links_in kinds t frame
  unfolding links_in holds_links
  links_elsewhere frame =
      count_same (length kinds) 512 (holds_links kinds) (holds_links kinds) (is_link_to frame) u t
      (λ f i inside small. both_same (holds_links kinds f) (holds_links kinds f) _ _ refl
      (λ holds. ap (is_link_to frame) (agree f i small (table_holds (kind_of kinds f) (link_low (level_of (kind_of kinds f)) holds)))))

-- an entry replaced in a table of some level
pub replaced_here : (t : ℕ → ℕ → ℕ) (a b c : ℕ) → replaced t a b c a b ≡ c
unfolding replaced
replaced_here t a b c = grind (arith, common_steps)

pub replaced_elsewhere : (t : ℕ → ℕ → ℕ) (a b c f i : ℕ) → (f ≡ a → i ≡ b → ⊥) → replaced t a b c f i ≡ t f i
unfolding replaced
replaced_elsewhere t a b c f i other = grind (arith, common_steps)

module _ (kinds : List Kind) (t : ℕ → ℕ → ℕ) (a b c : ℕ) (fixed : IsSlotFixed kinds t)
    (table : 1 ≤ level_of (kind_of kinds a)) (inside : a < length kinds) (small : b < 512) where
  apart_from_slot : a ≢ 9
  apart_from_slot is =
      absurd (omega (arith, table, ap level_of fixed.directory, ap (λ f. level_of (kind_of kinds f)) is))

  replaced_leaves : (f : ℕ) → holds_leaves kinds (replaced t a b c) f ≡ holds_leaves kinds t f
  unfolding holds_leaves
  replaced_leaves f =
      ap (λ s. level_of (kind_of kinds f) == 1 || s) (slot_same (replaced t a b c) t f (λ i part. replaced_elsewhere t a b c 9 i (λ e _. apart_from_slot (sym e))))

  pub loose_replaced : (frame : ℕ) →
      loose_in kinds (replaced t a b c) frame + count_if (level_of (kind_of kinds a) == 1 && is_loose_leaf frame (t a b))
      ≡ loose_in kinds t frame + count_if (level_of (kind_of kinds a) == 1 && is_loose_leaf frame c)
  unfolding loose_in
  loose_replaced frame =
      let by_level : holds_leaves kinds t a ≡ (level_of (kind_of kinds a) == 1) =
      leaves_by_kind kinds t a fixed (table_apart (kind_of kinds a) table) in
      let all =
      count_changed (length kinds) 512 a b (holds_leaves kinds t) (holds_leaves kinds (replaced t a b c)) (is_loose_leaf frame) t (replaced t a b c) inside small
      (λ f i below part other. both_same (holds_leaves kinds t f) _ _ _ (replaced_leaves f) (λ holds. ap (is_loose_leaf frame) (replaced_elsewhere t a b c f i other))) in
      let old : count_if (holds_leaves kinds t a && is_loose_leaf frame (t a b)) ≡ count_if (level_of (kind_of kinds a) == 1 && is_loose_leaf frame (t a b)) =
      ap (λ s. count_if (s && is_loose_leaf frame (t a b))) by_level in
      let new : count_if (holds_leaves kinds (replaced t a b c) a && is_loose_leaf frame (replaced t a b c a b)) ≡ count_if (level_of (kind_of kinds a) == 1 && is_loose_leaf frame c) =
      ap (λ s. count_if (s && is_loose_leaf frame (replaced t a b c a b))) (replaced_leaves a ∙ by_level)
      ∙ ap (λ e. count_if (level_of (kind_of kinds a) == 1 && is_loose_leaf frame e)) (replaced_here t a b c) in
      omega (arith, all, old, new)

  pub links_replaced : (frame : ℕ) →
      links_in kinds (replaced t a b c) frame + count_if (is_link_level (level_of (kind_of kinds a)) && is_link_to frame (t a b))
      ≡ links_in kinds t frame + count_if (is_link_level (level_of (kind_of kinds a)) && is_link_to frame c)
  unfolding links_in holds_links
  links_replaced frame =
      let all =
      count_changed (length kinds) 512 a b (holds_links kinds) (holds_links kinds) (is_link_to frame) t (replaced t a b c) inside small
      (λ f i below part other. both_same (holds_links kinds f) _ _ _ refl (λ holds. ap (is_link_to frame) (replaced_elsewhere t a b c f i other))) in
      let new : count_if (holds_links kinds a && is_link_to frame (replaced t a b c a b)) ≡ count_if (holds_links kinds a && is_link_to frame c) =
      ap (λ e. count_if (holds_links kinds a && is_link_to frame e)) (replaced_here t a b c) in
      omega (arith, all, new)
