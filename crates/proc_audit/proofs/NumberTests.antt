-- Tests over the numbers below a bound: whether one passes, and how many can be told apart.
use Rattle.std.proofs.Common.{◌≡◌, ◌≢◌, ◌⊎◌, inl, inr, ℕ, zero, suc, ◌+◌, ◌<◌, ◌≤◌, Bool, true, false, ◌||◌, eqb, [], ◌∷◌, ◌++◌, map, length, arith, refl, ap, subst, ◌∙◌, sym, add-zero, zero-add, below_more}
use Rattle.std.proofs.Math.Bool.{or-false}
use Rattle.std.specs.List.{IsDistinct, list_any, range_with_len}
use Rattle.std.proofs.lemmas.Bool.{cases_Bool, cases_lt, true≢false, eqb-true, false_from_ne_true, ne_eqb, or_cases}
use Rattle.std.proofs.lemmas.List.Folds.{list_any-append, list_any_at}
use Rattle.std.proofs.lemmas.List.FromFn.{get_or-map-range_with_len, get_or-range_with_len, length-map-range_with_len, length-range_with_len}
use Rattle.std.proofs.lemmas.Map.Keys.{IsDistinct-from_apart}
use Rattle.std.proofs.lemmas.Map.Steps.{length-le_from_distinct_below}

-- a number below n passes
abbrev pub any_below : (ℕ → Bool) → ℕ → Bool
any_below p n = list_any p (range_with_len 0 n)

-- one that passes settles it
pub any_at : (p : ℕ → Bool) (n k : ℕ) → k < n → p k ≡ true → any_below p n ≡ true
any_at p n k below passes =
    list_any_at p (range_with_len 0 n) k 0 (omega (arith, length-range_with_len 0 n))
    (ap p (get_or-range_with_len 0 n k 0 below ∙ zero-add k) ∙ passes)

-- the number that passes
place_from : (p : ℕ → Bool) (a n : ℕ) → list_any p (range_with_len a n) ≡ true → (k : ℕ) × (a ≤ k) × (k < a + n) × (p k ≡ true)
place_from p a zero any = cc
place_from p a (suc n) any =
    elim (or_cases (p a) (list_any p (range_with_len (a + 1) n)) any) [
      | inl here ↦ (a, omega arith, omega arith, here)
      | inr there ↦
          let found : (k : ℕ) × (a + 1 ≤ k) × (k < a + 1 + n) × (p k ≡ true) = place_from p (a + 1) n there in
          (found.0, omega arith, omega arith, found.3)
    ]

pub place_below : (p : ℕ → Bool) (n : ℕ) → any_below p n ≡ true → (k : ℕ) × (k < n) × (p k ≡ true)
place_below p n any =
    let found : (k : ℕ) × (0 ≤ k) × (k < 0 + n) × (p k ≡ true) = place_from p 0 n any in
    (found.0, omega arith, found.3)

-- none that passes
pub none_below : (p : ℕ → Bool) (n : ℕ) → ((k : ℕ) → k < n → p k ≡ false) → any_below p n ≡ false
none_below p n none =
    false_from_ne_true (any_below p n)
    (λ any. let found : (k : ℕ) × (k < n) × (p k ≡ true) = place_below p n any in
    true≢false (sym found.2 ∙ none found.0 found.1))

-- a number more
range_more : (a n : ℕ) → range_with_len a (suc n) ≡ range_with_len a n ++ (a + n) ∷ []
range_more a zero = rw add-zero
range_more a (suc n) =
    let e : a + 1 + n ≡ a + suc n = omega arith in
    let P : ℕ → Type 0 = λ k. range_with_len (a + 1) (suc n) ≡ range_with_len (a + 1) n ++ k ∷ [] in
    ap (λ xs. a ∷ xs) (subst P e (range_more (a + 1) n))

pub any_more : (p : ℕ → Bool) (n : ℕ) → any_below p (suc n) ≡ (any_below p n || p n)
any_more p n =
    ap (list_any p) (range_more 0 n) ∙ list_any-append p (range_with_len 0 n) ((0 + n) ∷ [])
    ∙ ap (λ b. any_below p n || b) (or-false (p (0 + n)) ∙ ap p (zero-add n))

-- where none passes from a number on, those below it decide
pub any_stays : (p : ℕ → Bool) (n more : ℕ) → n ≤ more → ((k : ℕ) → n ≤ k → p k ≡ false) → any_below p more ≡ any_below p n
any_stays p n zero le none =
    let e : zero ≡ n = omega arith in ap (any_below p) e
any_stays p n (suc more) le none =
    elim (cases_lt more n) [
      | inl below ↦ let e : suc more ≡ n = omega arith in ap (any_below p) e
      | inr from ↦
          any_more p more ∙ ap (λ b. any_below p more || b) (none more from) ∙ or-false (any_below p more)
          ∙ any_stays p n more from none
    ]

-- the least number that passes
least_or_none : (p : ℕ → Bool) (n : ℕ)
    → ((k : ℕ) × (p k ≡ true) × ((j : ℕ) → j < k → p j ≡ false)) ⊎ ((j : ℕ) → j < n → p j ≡ false)
least_or_none p zero = inr (λ j below. absurd (omega arith))
least_or_none p (suc n) =
    elim (least_or_none p n) [
      | inl found ↦ inl found
      | inr none ↦
          elim (cases_Bool (p n)) [
            | inl passes ↦ inl (n, passes, none)
            | inr fails ↦ inr (λ j below. below_more (λ k. p k ≡ false) n none fails j (omega arith))
          ]
    ]

pub least_below : (p : ℕ → Bool) (n : ℕ) → p n ≡ true → (k : ℕ) × (p k ≡ true) × ((j : ℕ) → j < k → p j ≡ false)
least_below p n passes =
    elim (least_or_none p (suc n)) [
      | inl found ↦ found
      | inr none ↦ absurd (true≢false (sym passes ∙ none n (omega arith)))
    ]

any_map : (f : ℕ → ℕ) (p : ℕ → Bool) (a n : ℕ) → list_any p (map f (range_with_len a n)) ≡ list_any (λ k. p (f k)) (range_with_len a n)
any_map f p a zero = refl
any_map f p a (suc n) = ap (λ b. p (f a) || b) (any_map f p (a + 1) n)

-- numbers below a count of which no two are the same are at most as many
pub pigeonhole : (f : ℕ → ℕ) (n count : ℕ) → ((i : ℕ) → i < n → f i < count)
    → ((i j : ℕ) → i < j → j < n → f i ≢ f j) → n ≤ count
pigeonhole f n count small apart =
    let distinct : IsDistinct eqb (map f (range_with_len 0 n)) =
    IsDistinct-from_apart eqb (map f (range_with_len 0 n))
    (λ i j d before inside.
    let size : length (map f (range_with_len 0 n)) ≡ n = length-map-range_with_len f 0 n in
    let at_j : j < n = omega arith in
    let at_i : i < n = omega arith in
    rw (get_or-map-range_with_len f 0 n i i d at_i (zero-add i), get_or-map-range_with_len f 0 n j j d at_j (zero-add j))
    (ne_eqb (f i) (f j) (apart i j before at_j))) in
    let size : length (map f (range_with_len 0 n)) ≤ count =
    length-le_from_distinct_below (map f (range_with_len 0 n)) count distinct
    (λ q there.
    let found : (k : ℕ) × (k < n) × (eqb q (f k) ≡ true) = place_below (λ k. eqb q (f k)) n (sym (any_map f (eqb q) 0 n) ∙ there) in
    omega (arith, small found.0 found.1, eqb-true q (f found.0) found.2)) in
    omega (arith, length-map-range_with_len f 0 n)
