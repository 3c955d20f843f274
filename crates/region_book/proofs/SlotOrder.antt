-- An order of slots, each once, of which those in front of a count are in use: one more, and one less, which goes behind
-- them.
use Rattle.std.proofs.Common.{◌≡◌, ℕ, ◌+◌, ◌-◌, ◌<◌, ◌≤◌, false, if◌then◌else◌, ◌==◌, List, length, take, arith, refl, sym, ap, ◌∙◌, subst, inl, inr, slice_index, slice_index_or}
use Rattle.std.specs.Prelude.{nat_lt}
use Rattle.std.specs.List.{list_any, remove}
use Rattle.std.proofs.lemmas.Bool.{cases_lt, cases_order, eq-eqb, le-ltb, lt-ltb, ne_eqb}
use Rattle.std.proofs.lemmas.Grind.{get_or_default_zero, same_number_lists}
use Rattle.std.proofs.lemmas.List.{get_or-take, length-take-le}
use Rattle.std.proofs.lemmas.List.Edits.{get_or-remove_above, get_or-remove_below, length-remove}
use Rattle.std.proofs.lemmas.List.Folds.{list_any_none}
use Rattle.region_book.specs.RegionRecords.{IsEachOnce}

-- each once, by places
pub same_place : (xs : List ℕ) (a b : ℕ) → IsEachOnce xs → a < length xs → b < length xs
    → slice_index xs a ≡ slice_index xs b → a ≡ b
same_place xs a b once first second same =
    elim (cases_order a b) [
      | inl is ↦ is
      | inr apart ↦ elim apart [
        | inl low ↦ absurd (once a b 0 low second same)
        | inr high ↦ absurd (once b a 0 high first (sym same))
      ]
    ]

pub once_by_place : (xs : List ℕ)
    → ((a b : ℕ) → a < length xs → b < length xs → slice_index xs a ≡ slice_index xs b → a ≡ b) → IsEachOnce xs
once_by_place xs by_place a b d low high same =
    let first : a < length xs = omega (arith, low, high) in
    let is : a ≡ b =
    by_place a b first high (sym (get_or_default_zero xs a d first) ∙ same ∙ get_or_default_zero xs b d high) in
    omega (arith, is, low)

-- the slot behind those in use is none of them
pub next_is_fresh : (xs : List ℕ) (n s : ℕ) → n < length xs → IsEachOnce xs → slice_index xs n ≡ s
    → list_any (λ t. t == s) (take n xs) ≡ false
next_is_fresh xs n s short once is =
    list_any_none (λ t. t == s) (take n xs) (λ k d below.
    let inside : k < n = omega (arith, below, length-take-le n xs (omega (arith, short))) in
    ne_eqb (slice_index_or (take n xs) k d) s (λ same.
    let place : k ≡ n =
    same_place xs k n once (omega (arith, inside, short)) short
    (sym (get_or_default_zero xs k d (omega (arith, inside, short))) ∙ sym (get_or-take n xs k d inside) ∙ same ∙ sym is) in
    omega (arith, place, inside)))

-- an element went behind those up to a place
pub record IsMovedBack (old new : List ℕ) (from to : ℕ) : Type 0 where
  pub size : length new ≡ length old
  pub before : (k : ℕ) → k < from → slice_index new k ≡ slice_index old k
  pub moved : (k : ℕ) → from ≤ k → k < to → slice_index new k ≡ slice_index old (k + 1)
  pub here : slice_index new to ≡ slice_index old from
  pub behind : (k : ℕ) → to < k → slice_index new k ≡ slice_index old k

module _ (old new : List ℕ) (from to : ℕ) (order : from ≤ to) (inside : to < length old)
    (moved : IsMovedBack old new from to) where
  -- the place to which the element at a place went
  abbrev went : ℕ → ℕ
  went s = if nat_lt s from then s else (if s == from then to else (if nat_lt to s then s else s - 1))

  -- where an element came from
  abbrev CameFrom : ℕ → Type 0
  CameFrom k = (s : ℕ) × (s < length old) × (slice_index new k ≡ slice_index old s) × (went s ≡ k)

  came_before : (k : ℕ) → k < length old → k < from → CameFrom k
  came_before k within low = (
    k,
    within,
    moved.before k low,
    ap (λ b. if b then k else (if k == from then to else (if nat_lt to k then k else k - 1))) (lt-ltb k from low),
  )

  came_behind : (k : ℕ) → k < length old → to < k → CameFrom k
  came_behind k within high = (
    k,
    within,
    moved.behind k high,
    ap (λ b. if b then k else (if k == from then to else (if nat_lt to k then k else k - 1))) (le-ltb k from (omega (arith, order, high)))
        ∙ ap (λ b. if b then to else (if nat_lt to k then k else k - 1)) (ne_eqb k from (λ is. omega (arith, is, order, high)))
        ∙ ap (λ b. if b then k else k - 1) (lt-ltb to k high),
  )

  came_here : CameFrom to
  came_here = (
    from,
    omega (arith, order, inside),
    moved.here,
    ap (λ b. if b then from else (if from == from then to else (if nat_lt to from then from else from - 1))) (le-ltb from from (omega arith))
        ∙ ap (λ b. if b then to else (if nat_lt to from then from else from - 1)) (eq-eqb from from refl),
  )

  came_moved : (k : ℕ) → from ≤ k → k < to → CameFrom k
  came_moved k low high = (
    k + 1,
    omega (arith, high, inside),
    moved.moved k low high,
    ap (λ b. if b then k + 1 else (if k + 1 == from then to else (if nat_lt to (k + 1) then k + 1 else k + 1 - 1))) (le-ltb (k + 1) from (omega (arith, low)))
        ∙ ap (λ b. if b then to else (if nat_lt to (k + 1) then k + 1 else k + 1 - 1)) (ne_eqb (k + 1) from (λ is. omega (arith, is, low)))
        ∙ ap (λ b. if b then k + 1 else k + 1 - 1) (le-ltb to (k + 1) (omega (arith, high)))
        ∙ omega arith,
  )

  came : (k : ℕ) → k < length old → CameFrom k
  came k within =
      elim (cases_lt k from) [
        | inl low ↦ came_before k within low
        | inr not_low ↦ elim (cases_order k to) [
          | inl is ↦ subst CameFrom (sym is) came_here
          | inr apart ↦ elim apart [
            | inl below ↦ came_moved k not_low below
            | inr above ↦ came_behind k within above
          ]
        ]
      ]

  -- each still stands once
  pub once_moved : IsEachOnce old → IsEachOnce new
  once_moved once =
      once_by_place new (λ a b first second same.
      let one = came a (omega (arith, first, moved.size)) in
      let other = came b (omega (arith, second, moved.size)) in
      let source : one.0 ≡ other.0 =
      same_place old one.0 other.0 once one.1 other.1 (sym one.2 ∙ same ∙ other.2) in
      sym one.3 ∙ ap went source ∙ other.3)

  -- those in front of its place are the others up to there
  pub front_moved : take to new ≡ remove (take (to + 1) old) from
  front_moved =
      let short : to ≤ length new = omega (arith, inside, moved.size) in
      let whole : length (take (to + 1) old) ≡ to + 1 = length-take-le (to + 1) old (omega (arith, inside)) in
      let within : from < length (take (to + 1) old) = omega (arith, whole, order) in
      same_number_lists (take to new) (remove (take (to + 1) old) from)
      (omega (arith, length-take-le to new short, whole, length-remove (take (to + 1) old) from within))
      (λ k below.
      let high : k < to = omega (arith, below, length-take-le to new short) in
      get_or-take to new k 0 high
      ∙ elim (cases_lt k from) [
        | inl low ↦
            moved.before k low ∙ sym (get_or-remove_below (take (to + 1) old) from 0 k low within
            ∙ get_or-take (to + 1) old k 0 (omega (arith, high)))
        | inr not_low ↦
            moved.moved k not_low high ∙ sym (get_or-remove_above (take (to + 1) old) from 0 k not_low within
            ∙ get_or-take (to + 1) old (k + 1) 0 (omega (arith, high)))
      ])
