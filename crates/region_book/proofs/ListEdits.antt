-- Lists of which one element is replaced or some are left out: pairs, keys, and what a map makes of them.
use Rattle.std.proofs.Common.{◌≡◌, ◌≢◌, ℕ, zero, suc, ◌+◌, ◌<◌, ◌≤◌, Bool, true, false, ◌==◌, List, [], ◌∷◌, length, map, set, arith, refl, sym, ap, ◌∙◌, subst, inl, inr, slice_index_or, replicate, get_or-set_same, get_or-set_other}
use Rattle.std.specs.Prelude.{All, AllPairs, cond, filter, if◌then◌else◌}
use Rattle.std.specs.List.{range_with_len, sum_by}
use Rattle.std.proofs.lemmas.Bool.{cases_eq, cases_order, eq-eqb, ne_eqb}
use Rattle.std.proofs.lemmas.List.{get_or-map, length-map, length-set, map-set, same_lists}
use Rattle.std.proofs.lemmas.List.Sums.{sum_by-cons}

-- pairs stay related where the new element is related as the old one was
pub pairs_set : {X : Type 0} (R : X → X → Type 0) (xs : List X) (i : ℕ) (x y : X) → i < length xs →
    ((d : X) → slice_index_or xs i d ≡ x) → AllPairs R xs →
    ((z : X) → R x z → R y z) → ((z : X) → R z x → R z y) → AllPairs R (set xs i y)
pairs_set R xs i x y within is pairs left right a b d low high =
    let short : b < length xs = omega (arith, high, length-set xs i y) in
    let was : R (slice_index_or xs a d) (slice_index_or xs b d) = pairs a b d low short in
    elim (cases_eq a i) [
      | inl a_is ↦
          let apart : b ≢ i = λ e. absurd (omega (arith, e, a_is, low)) in
          subst (λ u. R u (slice_index_or (set xs i y) b d))
          (sym (ap (λ k. slice_index_or (set xs i y) k d) a_is ∙ get_or-set_same xs i y d within))
          (subst (R y) (sym (get_or-set_other xs i b y d apart))
          (left (slice_index_or xs b d) (subst (λ u. R u (slice_index_or xs b d))
          (ap (λ k. slice_index_or xs k d) a_is ∙ is d) was)))
      | inr a_apart ↦
          subst (λ u. R u (slice_index_or (set xs i y) b d)) (sym (get_or-set_other xs i a y d a_apart))
          (elim (cases_eq b i) [
            | inl b_is ↦
                subst (R (slice_index_or xs a d))
                (sym (ap (λ k. slice_index_or (set xs i y) k d) b_is ∙ get_or-set_same xs i y d within))
                (right (slice_index_or xs a d) (subst (R (slice_index_or xs a d))
                (ap (λ k. slice_index_or xs k d) b_is ∙ is d) was))
            | inr b_apart ↦ subst (R (slice_index_or xs a d)) (sym (get_or-set_other xs i b y d b_apart)) was
          ])
    ]

-- keys that rise are each that of one place
module _ {X : Type 0} (key : X → ℕ) (xs : List X) (rising : AllPairs (λ one other. key one < key other) xs) where
  pub place_of_key : (i j : ℕ) (d : X) → i < length xs → j < length xs →
      key (slice_index_or xs i d) ≡ key (slice_index_or xs j d) → i ≡ j
  place_of_key i j d i_within j_within same =
      elim (cases_order i j) [
        | inl is ↦ is
        | inr apart ↦ elim apart [
          | inl low ↦ absurd (omega (arith, rising i j d low j_within, same))
          | inr high ↦ absurd (omega (arith, rising j i d high i_within, same))
        ]
      ]

  -- the element of a key is replaced by its place
  pub replaced_by_key : (i id : ℕ) (x y : X) → i < length xs → ((d : X) → slice_index_or xs i d ≡ x) → key x ≡ id →
      map (λ z. if key z == id then y else z) xs ≡ set xs i y
  replaced_by_key i id x y within is key_is =
      same_lists (map (λ z. if key z == id then y else z) xs) (set xs i y)
      (length-map xs (λ z. if key z == id then y else z) ∙ sym (length-set xs i y))
      (λ k d below.
      let short : k < length xs = omega (arith, below, length-map xs (λ z. if key z == id then y else z)) in
      get_or-map (λ z. if key z == id then y else z) xs k d d short
      ∙ elim (cases_eq k i) [
        | inl here ↦
            ap (λ b. if b then y else slice_index_or xs k d)
            (eq-eqb (key (slice_index_or xs k d)) id (ap key (ap (λ j. slice_index_or xs j d) here ∙ is d) ∙ key_is))
            ∙ sym (ap (λ j. slice_index_or (set xs i y) j d) here ∙ get_or-set_same xs i y d within)
        | inr apart ↦
            ap (λ b. if b then y else slice_index_or xs k d) (ne_eqb (key (slice_index_or xs k d)) id
            (λ e. apart (place_of_key k i d short within (e ∙ sym (ap key (is d) ∙ key_is)))))
            ∙ sym (get_or-set_other xs i k y d apart)
      ])

-- a map over a list of which one element was replaced, where it agrees with another map at all others
pub map_set_agree : {X Y : Type 0} (f g : X → Y) (xs : List X) (i : ℕ) (x : X) (y : Y) → i < length xs → f x ≡ y →
    ((k : ℕ) (d : X) → k < length xs → k ≢ i → f (slice_index_or xs k d) ≡ g (slice_index_or xs k d)) →
    map f (set xs i x) ≡ set (map g xs) i y
map_set_agree f g xs i x y within here agree =
    map-set f xs i x
    ∙ same_lists (set (map f xs) i (f x)) (set (map g xs) i y)
    (length-set (map f xs) i (f x) ∙ length-map xs f ∙ sym (length-map xs g) ∙ sym (length-set (map g xs) i y))
    (λ k e below.
    let short : k < length xs = omega (arith, below, length-set (map f xs) i (f x), length-map xs f) in
    elim (cases_eq k i) [
      | inl is ↦
          ap (λ j. slice_index_or (set (map f xs) i (f x)) j e) is
          ∙ get_or-set_same (map f xs) i (f x) e (omega (arith, within, length-map xs f)) ∙ here
          ∙ sym (ap (λ j. slice_index_or (set (map g xs) i y) j e) is
          ∙ get_or-set_same (map g xs) i y e (omega (arith, within, length-map xs g)))
      | inr apart ↦
          get_or-set_other (map f xs) i k (f x) e apart ∙ get_or-map f xs k x e short ∙ agree k x short apart
          ∙ sym (get_or-set_other (map g xs) i k y e apart ∙ get_or-map g xs k x e short)
    ])

-- two maps that agree at each element
pub map_agree : {X Y : Type 0} (f g : X → Y) (xs : List X) → All (λ x. f x ≡ g x) xs → map f xs ≡ map g xs
map_agree f g [] same = refl
map_agree f g (x ∷ xs) same = ap (λ y. y ∷ map f xs) (same 0 x (omega arith))
    ∙ ap (λ ys. g x ∷ ys) (map_agree f g xs (λ k d below. same (suc k) d (omega arith)))

-- two functions that agree along a run, and one that has one value there
pub map_run_agree : {Y : Type 0} (f g : ℕ → Y) (a n : ℕ) → ((k : ℕ) → a ≤ k → k < a + n → f k ≡ g k) →
    map f (range_with_len a n) ≡ map g (range_with_len a n)
map_run_agree f g a zero same = refl
map_run_agree f g a (suc n) same =
    ap (λ y. y ∷ map f (range_with_len (a + 1) n)) (same a (omega arith) (omega arith))
    ∙ ap (λ ys. g a ∷ ys) (map_run_agree f g (a + 1) n (λ k low high. same k (omega arith) (omega arith)))

pub map_run_same : {Y : Type 0} (f : ℕ → Y) (y : Y) (a n : ℕ) → ((k : ℕ) → a ≤ k → k < a + n → f k ≡ y) →
    map f (range_with_len a n) ≡ replicate n y
map_run_same f y a zero same = refl
map_run_same f y a (suc n) same =
    ap (λ z. z ∷ map f (range_with_len (a + 1) n)) (same a (omega arith) (omega arith))
    ∙ ap (λ ys. y ∷ ys) (map_run_same f y (a + 1) n (λ k low high. same k (omega arith) (omega arith)))

-- a map over the elements that pass a test
pub map_filter : {X Y : Type 0} (p : Y → Bool) (f : X → Y) (xs : List X) →
    map f (filter (λ x. p (f x)) xs) ≡ filter p (map f xs)
map_filter p f [] = refl
map_filter p f (x ∷ xs) = go (p (f x)) (map_filter p f xs)
  where
    go : (here : Bool) → map f (filter (λ x. p (f x)) xs) ≡ filter p (map f xs) →
        map f (cond here (x ∷ filter (λ x. p (f x)) xs) (filter (λ x. p (f x)) xs)) ≡ cond here
        (f x ∷ filter p (map f xs)) (filter p (map f xs))
    go true later = ap (λ ys. f x ∷ ys) later
    go false later = later

-- a sum stays where all that are left out have none
pub sum_filter : {X : Type 0} (p : X → Bool) (f : X → ℕ) (xs : List X) → All (λ x. p x ≡ false → f x ≡ 0) xs →
    sum_by f (filter p xs) ≡ sum_by f xs
sum_filter p f [] none = refl
sum_filter p f (x ∷ xs) none =
    go (p x) (none 0 x (omega arith)) (sum_filter p f xs (λ k d below. none (suc k) d (omega arith)))
  where
    go : (here : Bool) → (here ≡ false → f x ≡ 0) → sum_by f (filter p xs) ≡ sum_by f xs →
        sum_by f (cond here (x ∷ filter p xs) (filter p xs)) ≡ sum_by f (x ∷ xs)
    go true zero_is later = omega (arith, sum_by-cons f x (filter p xs), sum_by-cons f x xs, later)
    go false zero_is later = omega (arith, sum_by-cons f x xs, later, zero_is refl)
