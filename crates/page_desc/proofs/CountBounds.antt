-- What a count of 0 says of each entry, that an entry that counts was counted, and how large counts can be.
use Rattle.std.proofs.Common.{◌≡◌, ◌≢◌, ℕ, ◌*◌, ◌<◌, ◌≤◌, true, false, List, length, arith, refl, ap}
use Rattle.std.proofs.lemmas.Bool.{and_from, eq-eqb, false_from_ne_true, or_left, or_right}
use Rattle.nk_bits.specs.declared.kind.Kind.{Kind}
use Rattle.nk_bits.specs.Paging.{frame_of, is_present, is_user, grants_writes}
use Rattle.page_desc.specs.FrameCounts.{holds_leaves, holds_links, is_link_to, is_loose, is_loose_leaf, links_in, loose_in}
use Rattle.page_desc.proofs.Counts.{count_least, count_most}

module _ (kinds : List Kind) (t : ℕ → ℕ → ℕ) where
  pub loose_least : (f i : ℕ) → f < length kinds → i < 512 → holds_leaves kinds t f ≡ true → is_loose (t f i) ≡ true
      → 1 ≤ loose_in kinds t (frame_of (t f i))
  unfolding loose_in
  loose_least f i inside small holds loose =
      count_least (length kinds) 512 f i (holds_leaves kinds t) (is_loose_leaf (frame_of (t f i))) t inside small
      (and_from _ _ holds (and_from _ _ loose (eq-eqb (frame_of (t f i)) (frame_of (t f i)) refl)))

  pub links_least : (f i : ℕ) → f < length kinds → i < 512 → holds_links kinds f ≡ true → is_present (t f i) ≡ true
      → 1 ≤ links_in kinds t (frame_of (t f i))
  unfolding links_in
  links_least f i inside small holds present =
      count_least (length kinds) 512 f i (holds_links kinds) (is_link_to (frame_of (t f i))) t inside small
      (and_from _ _ holds (and_from _ _ present (eq-eqb (frame_of (t f i)) (frame_of (t f i)) refl)))

  not_loose : (frame f i : ℕ) → loose_in kinds t frame ≡ 0 → f < length kinds → i < 512 → holds_leaves kinds t f ≡ true
      → frame_of (t f i) ≡ frame → is_loose (t f i) ≡ true → ⊥
  not_loose frame f i none inside small holds names loose =
      absurd (omega (arith, none, loose_least f i inside small holds loose, ap (loose_in kinds t) names))

  -- a frame with no loose leaf: each of its leaves, in each table that is counted, is neither writable nor user
  pub loose_none : (frame f i : ℕ) → loose_in kinds t frame ≡ 0 → f < length kinds → i < 512
      → holds_leaves kinds t f ≡ true → is_present (t f i) ≡ true → frame_of (t f i) ≡ frame
      → (grants_writes (t f i) ≡ false) × (is_user (t f i) ≡ false)
  loose_none frame f i none inside small holds present names = (
    false_from_ne_true _ (λ writes. not_loose frame f i none inside small holds names (and_from _ _ present (or_left _ _ writes))),
    false_from_ne_true _ (λ users. not_loose frame f i none inside small holds names (and_from _ _ present (or_right _ _ users))),
  )

  -- a frame with no link: no present entry names it, in each table that is counted
  pub links_none : (frame f i : ℕ) → links_in kinds t frame ≡ 0 → f < length kinds → i < 512
      → holds_links kinds f ≡ true → is_present (t f i) ≡ true → frame_of (t f i) ≢ frame
  links_none frame f i none inside small holds present names =
      absurd (omega (arith, none, links_least f i inside small holds present, ap (links_in kinds t) names))

  pub loose_most : (frame : ℕ) → loose_in kinds t frame ≤ 512 * length kinds
  unfolding loose_in
  loose_most frame = count_most (length kinds) 512 (holds_leaves kinds t) (is_loose_leaf frame) t

  pub links_most : (frame : ℕ) → links_in kinds t frame ≤ 512 * length kinds
  unfolding links_in
  links_most frame = count_most (length kinds) 512 (holds_links kinds) (is_link_to frame) t
