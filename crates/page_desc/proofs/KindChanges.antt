-- The counts after the kind of a frame changes: where the frame has no present entry, and where its entries change too.
use Rattle.std.proofs.Common.{◌≡◌, ◌≢◌, ℕ, ◌+◌, ◌<◌, false, ◌&&◌, ◌||◌, ◌==◌, List, length, set, arith, refl, sym, ap, ◌∙◌, inl, inr, get_or-set_same, get_or-set_other}
use Rattle.std.proofs.lemmas.List.{length-set}
use Rattle.std.proofs.lemmas.Bool.{and_left, and_right, cases_eq}
use Rattle.nk_bits.specs.declared.kind.Kind.{Kind}
use Rattle.nk_bits.specs.declared.kind.Kind.TheVariants.{Fixed, Hidden}
use Rattle.nk_bits.specs.Kinds.{kind_of, level_of}
use Rattle.nk_bits.specs.Paging.{frame_of, is_present}
use Rattle.page_desc.specs.FrameCounts.{IsSlotFixed, count_in, holds_leaves, holds_links, is_link_level, is_link_to, is_loose_leaf, is_slot_leaf_table, links_in, loose_in, count_if}
use Rattle.page_desc.proofs.Counts.{count_changed, count_same}
use Rattle.page_desc.proofs.SlotLeafTables.{leaves_by_kind, slot_same}
use Rattle.page_desc.proofs.CountLaws.{both_same}

-- the kind that was set, and every other
pub kind_here : (kinds : List Kind) (a : ℕ) (kind : Kind) → a < length kinds → kind_of (set kinds a kind) a ≡ kind
kind_here kinds a kind inside = get_or-set_same kinds a kind Hidden inside

pub kind_elsewhere : (kinds : List Kind) (a f : ℕ) (kind : Kind) → f ≢ a
    → kind_of (set kinds a kind) f ≡ kind_of kinds f
kind_elsewhere kinds a f kind apart = get_or-set_other kinds a f kind Hidden apart

-- what isn't present counts for nothing
pub loose_absent : (frame e : ℕ) → is_present e ≡ false → is_loose_leaf frame e ≡ false
loose_absent frame e absent = and_left _ _ (and_left _ _ absent)

pub link_absent : (frame e : ℕ) → is_present e ≡ false → is_link_to frame e ≡ false
link_absent frame e absent = and_left _ _ absent

pub absent_zero : is_present 0 ≡ false
unfolding is_present
absent_zero = refl

-- a frame with no present entry may be of any kind
module _ (kinds : List Kind) (t : ℕ → ℕ → ℕ) (a : ℕ) (kind : Kind)
    (empty : (i : ℕ) → i < 512 → is_present (t a i) ≡ false) where
  set_leaves : (f : ℕ) → f ≢ a → holds_leaves (set kinds a kind) t f ≡ holds_leaves kinds t f
  unfolding holds_leaves
  set_leaves f apart = ap (λ k. level_of k == 1 || is_slot_leaf_table t f) (kind_elsewhere kinds a f kind apart)

  set_links : (f : ℕ) → f ≢ a → holds_links (set kinds a kind) f ≡ holds_links kinds f
  unfolding holds_links
  set_links f apart = ap (λ k. is_link_level (level_of k)) (kind_elsewhere kinds a f kind apart)

  pub loose_any_kind : (frame : ℕ) → loose_in (set kinds a kind) t frame ≡ loose_in kinds t frame
  unfolding loose_in
  loose_any_kind frame =
      ap (λ n. count_in n 512 (holds_leaves (set kinds a kind) t) (is_loose_leaf frame) t) (length-set kinds a kind)
      ∙ count_same (length kinds) 512 (holds_leaves (set kinds a kind) t) (holds_leaves kinds t) (is_loose_leaf frame) t t
      (λ f i inside small. elim (cases_eq f a) [
        | inl is ↦
            let absent : is_loose_leaf frame (t f i) ≡ false =
            loose_absent frame (t f i) (ap (λ g. is_present (t g i)) is ∙ empty i small) in
            and_right (holds_leaves (set kinds a kind) t f) (is_loose_leaf frame (t f i)) absent
            ∙ sym (and_right (holds_leaves kinds t f) (is_loose_leaf frame (t f i)) absent)
        | inr apart ↦ both_same (holds_leaves kinds t f) _ _ _ (set_leaves f apart) (λ holds. refl)
      ])

  pub links_any_kind : (frame : ℕ) → links_in (set kinds a kind) t frame ≡ links_in kinds t frame
  unfolding links_in
  links_any_kind frame =
      ap (λ n. count_in n 512 (holds_links (set kinds a kind)) (is_link_to frame) t) (length-set kinds a kind)
      ∙ count_same (length kinds) 512 (holds_links (set kinds a kind)) (holds_links kinds) (is_link_to frame) t t
      (λ f i inside small. elim (cases_eq f a) [
        | inl is ↦
            let absent : is_link_to frame (t f i) ≡ false =
            link_absent frame (t f i) (ap (λ g. is_present (t g i)) is ∙ empty i small) in
            and_right (holds_links (set kinds a kind) f) (is_link_to frame (t f i)) absent
            ∙ sym (and_right (holds_links kinds f) (is_link_to frame (t f i)) absent)
        | inr apart ↦ both_same (holds_links kinds f) _ _ _ (set_links f apart) (λ holds. refl)
      ])

-- the kernel slot's tables stay Fixed where frame 9 keeps its entries, and where another frame's kind changes
pub fixed_tables : (kinds : List Kind) (t u : ℕ → ℕ → ℕ) → IsSlotFixed kinds t → ((i : ℕ) → i < 512 → u 9 i ≡ t 9 i)
    → IsSlotFixed kinds u
fixed_tables kinds t u fixed same = record {
  table = fixed.table;
  directory = fixed.directory;
  named = λ i small present. ap (λ e. kind_of kinds (frame_of e)) (same i small)
      ∙ fixed.named i small (ap is_present (sym (same i small)) ∙ present);
}

pub fixed_kinds : (kinds : List Kind) (t : ℕ → ℕ → ℕ) (a : ℕ) (kind : Kind) → IsSlotFixed kinds t
    → kind_of kinds a ≢ Fixed → IsSlotFixed (set kinds a kind) t
fixed_kinds kinds t a kind fixed was = record {
  table = stays 8 fixed.table;
  directory = stays 9 fixed.directory;
  named = λ i small present. stays (frame_of (t 9 i)) (fixed.named i small present);
}
  where
    stays : (f : ℕ) → kind_of kinds f ≡ Fixed → kind_of (set kinds a kind) f ≡ Fixed
    stays f is = kind_elsewhere kinds a f kind (λ e. was (ap (kind_of kinds) (sym e) ∙ is)) ∙ is

-- a frame whose kind and entries both change, neither kind being Fixed; every other frame keeps its own
module _ (kinds : List Kind) (t u : ℕ → ℕ → ℕ) (a : ℕ) (kind : Kind) (fixed : IsSlotFixed kinds t)
    (inside : a < length kinds) (was : kind_of kinds a ≢ Fixed) (becomes : kind ≢ Fixed)
    (same : (f i : ℕ) → f ≢ a → u f i ≡ t f i) where
  apart_from_directory : 9 ≢ a
  apart_from_directory is = was (ap (kind_of kinds) (sym is) ∙ fixed.directory)

  moved_slot : (f : ℕ) → is_slot_leaf_table u f ≡ is_slot_leaf_table t f
  moved_slot f = slot_same u t f (λ i small. same 9 i apart_from_directory)

  moved_fixed : IsSlotFixed (set kinds a kind) u
  moved_fixed = fixed_kinds kinds u a kind (fixed_tables kinds t u fixed (λ i small. same 9 i apart_from_directory)) was

  moved_leaves : (f : ℕ) → f ≢ a → holds_leaves (set kinds a kind) u f ≡ holds_leaves kinds t f
  unfolding holds_leaves
  moved_leaves f apart = (λ j. level_of (kind_elsewhere kinds a f kind apart j) == 1 || moved_slot f j)

  moved_links : (f : ℕ) → f ≢ a → holds_links (set kinds a kind) f ≡ holds_links kinds f
  unfolding holds_links
  moved_links f apart = ap (λ k. is_link_level (level_of k)) (kind_elsewhere kinds a f kind apart)

  leaves_before : holds_leaves kinds t a ≡ (level_of (kind_of kinds a) == 1)
  leaves_before = leaves_by_kind kinds t a fixed was

  leaves_after : holds_leaves (set kinds a kind) u a ≡ (level_of kind == 1)
  leaves_after =
      leaves_by_kind (set kinds a kind) u a moved_fixed (λ is. becomes (sym (kind_here kinds a kind inside) ∙ is))
      ∙ ap (λ k. level_of k == 1) (kind_here kinds a kind inside)

  links_after : holds_links (set kinds a kind) a ≡ is_link_level (level_of kind)
  unfolding holds_links
  links_after = ap (λ k. is_link_level (level_of k)) (kind_here kinds a kind inside)

  -- no leaf of the frame counts before or after
  pub loose_moved : (frame : ℕ)
      → ((i : ℕ) → i < 512 → ((level_of (kind_of kinds a) == 1) && is_loose_leaf frame (t a i)) ≡ false)
      → ((i : ℕ) → i < 512 → ((level_of kind == 1) && is_loose_leaf frame (u a i)) ≡ false)
      → loose_in (set kinds a kind) u frame ≡ loose_in kinds t frame
  unfolding loose_in
  loose_moved frame none_before none_after =
      ap (λ n. count_in n 512 (holds_leaves (set kinds a kind) u) (is_loose_leaf frame) u) (length-set kinds a kind)
      ∙ count_same (length kinds) 512 (holds_leaves (set kinds a kind) u) (holds_leaves kinds t) (is_loose_leaf frame) u t
      (λ f i below small. elim (cases_eq f a) [
        | inl is ↦
            ap (λ g. holds_leaves (set kinds a kind) u g && is_loose_leaf frame (u g i)) is
            ∙ ap (λ b. b && is_loose_leaf frame (u a i)) leaves_after ∙ none_after i small
            ∙ sym (ap (λ g. holds_leaves kinds t g && is_loose_leaf frame (t g i)) is ∙ ap (λ b. b && is_loose_leaf frame (t a i)) leaves_before ∙ none_before i small)
        | inr apart ↦ both_same (holds_leaves kinds t f) _ _ _ (moved_leaves f apart) (λ holds. ap (is_loose_leaf frame) (same f i apart))
      ])

  -- no link of the frame counts before or after, but for its last
  pub links_moved : (frame : ℕ)
      → ((i : ℕ) → i < 511 → (is_link_level (level_of (kind_of kinds a)) && is_link_to frame (t a i)) ≡ false)
      → ((i : ℕ) → i < 511 → (is_link_level (level_of kind) && is_link_to frame (u a i)) ≡ false)
      → links_in (set kinds a kind) u frame + count_if (is_link_level (level_of (kind_of kinds a)) && is_link_to frame (t a 511))
      ≡ links_in kinds t frame + count_if (is_link_level (level_of kind) && is_link_to frame (u a 511))
  unfolding links_in holds_links
  links_moved frame none_before none_after =
      let size =
      ap (λ n. count_in n 512 (holds_links (set kinds a kind)) (is_link_to frame) u) (length-set kinds a kind) in
      let all =
      count_changed (length kinds) 512 a 511 (holds_links kinds) (holds_links (set kinds a kind)) (is_link_to frame) t u inside (omega arith)
      (λ f i below small other. elim (cases_eq f a) [
        | inl is ↦
            let first : i < 511 = omega (arith, small, other is) in
            ap (λ g. holds_links (set kinds a kind) g && is_link_to frame (u g i)) is
            ∙ ap (λ b. b && is_link_to frame (u a i)) links_after ∙ none_after i first
            ∙ sym (ap (λ g. holds_links kinds g && is_link_to frame (t g i)) is ∙ none_before i first)
        | inr apart ↦ both_same (holds_links kinds f) _ _ _ (moved_links f apart) (λ holds. ap (is_link_to frame) (same f i apart))
      ]) in
      let last : count_if (holds_links (set kinds a kind) a && is_link_to frame (u a 511)) ≡ count_if (is_link_level (level_of kind) && is_link_to frame (u a 511)) =
      ap (λ b. count_if (b && is_link_to frame (u a 511))) links_after in
      omega (arith, size, all, last)
