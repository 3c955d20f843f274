-- Counts over all tables: with one entry changed, where none or some entry passes, the most that they can be.
use Rattle.std.proofs.Common.{◌≡◌, ℕ, ◌+◌, ◌*◌, ◌<◌, ◌≤◌, Bool, true, false, ◌&&◌, arith, refl, ap}
use Rattle.std.proofs.lemmas.Bool.{false_from_ne_true}
use Rattle.page_desc.specs.FrameCounts.{count_in, count_if, sum_below}
use Rattle.page_desc.proofs.Sums.{sum_changed, sum_least, sum_most, sum_same, sum_more}

pub one_most : (b : Bool) → count_if b ≤ 1
one_most true = omega arith
one_most false = omega arith

-- a row of a table that is counted, and of one that isn't
abbrev pub row : ℕ → (ℕ → Bool) → (ℕ → Bool) → (ℕ → ℕ → ℕ) → ℕ → ℕ
row m is_counted test t f = sum_below m (λ i. count_if (is_counted f && test (t f i)))

-- one more table
pub count_more : (n m : ℕ) (is_counted test : ℕ → Bool) (t : ℕ → ℕ → ℕ)
    → count_in (n + 1) m is_counted test t ≡ count_in n m is_counted test t + row m is_counted test t n
unfolding count_in
count_more n m is_counted test t = sum_more n (row m is_counted test t)

-- no table
pub count_start : (m : ℕ) (is_counted test : ℕ → Bool) (t : ℕ → ℕ → ℕ) → count_in 0 m is_counted test t ≡ 0
unfolding count_in sum_below
count_start m is_counted test t = refl

-- the same entries pass
pub count_same : (n m : ℕ) (counted other : ℕ → Bool) (test : ℕ → Bool) (t u : ℕ → ℕ → ℕ)
    → ((f i : ℕ) → f < n → i < m → (counted f && test (t f i)) ≡ (other f && test (u f i)))
    → count_in n m counted test t ≡ count_in n m other test u
unfolding count_in
count_same n m counted other test t u same =
    sum_same n (row m counted test t) (row m other test u) (λ f inside. sum_same m _ _ (λ i small. ap count_if (same f i inside small)))

-- all but one entry pass alike
pub count_changed : (n m a b : ℕ) (counted other : ℕ → Bool) (test : ℕ → Bool) (t u : ℕ → ℕ → ℕ) → a < n → b < m
    → ((f i : ℕ) → f < n → i < m → (f ≡ a → i ≡ b → ⊥) → (other f && test (u f i)) ≡ (counted f && test (t f i)))
    → count_in n m other test u + count_if (counted a && test (t a b)) ≡ count_in n m counted test t + count_if (other a && test (u a b))
unfolding count_in
count_changed n m a b counted other test t u inside small same =
    let rows = sum_changed n a (row m counted test t) (row m other test u) inside
    (λ f below apart. sum_same m _ _ (λ i part. ap count_if (same f i below part (λ e _. apart e)))) in
    let entries =
    sum_changed m b (λ i. count_if (counted a && test (t a i))) (λ i. count_if (other a && test (u a i))) small
    (λ i part apart. ap count_if (same a i inside part (λ _ e. apart e))) in
    omega (arith, rows, entries)

-- an entry that passes is counted
pub count_least : (n m f i : ℕ) (counted : ℕ → Bool) (test : ℕ → Bool) (t : ℕ → ℕ → ℕ) → f < n → i < m
    → (counted f && test (t f i)) ≡ true
    → 1 ≤ count_in n m counted test t
unfolding count_in
count_least n m f i counted test t inside small passes =
    let rows = sum_least n f (row m counted test t) inside in
    let entries = sum_least m i (λ j. count_if (counted f && test (t f j))) small in
    let one : count_if (counted f && test (t f i)) ≡ 1 = ap count_if passes in
    omega (arith, rows, entries, one)

-- where the count is 0 none passes
pub count_none : (n m f i : ℕ) (counted : ℕ → Bool) (test : ℕ → Bool) (t : ℕ → ℕ → ℕ) → count_in n m counted test t ≡ 0
    → f < n → i < m
    → (counted f && test (t f i)) ≡ false
count_none n m f i counted test t none inside small =
    false_from_ne_true _ (λ passes. absurd (omega (arith, none, count_least n m f i counted test t inside small passes)))

-- each entry counts at most once
pub count_most : (n m : ℕ) (counted : ℕ → Bool) (test : ℕ → Bool) (t : ℕ → ℕ → ℕ) → count_in n m counted test t ≤ m * n
unfolding count_in
count_most n m counted test t =
    sum_most n m (row m counted test t) (λ f inside.
    let entries : row m counted test t f ≤ 1 * m =
    sum_most m 1 (λ i. count_if (counted f && test (t f i))) (λ i small. one_most (counted f && test (t f i))) in
    omega (arith, entries))
