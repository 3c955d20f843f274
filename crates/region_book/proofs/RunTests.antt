-- Tests over lists and over runs: one test that follows from another, lists of which some elements are left out, and a
-- place that lies in one run or in another.
use Rattle.std.proofs.Common.{◌≡◌, ◌⊎◌, ℕ, zero, suc, ◌+◌, ◌<◌, ◌≤◌, Bool, true, false, not, ◌&&◌, ◌||◌, ◌==◌, nat_le, nat_lt, List, [], ◌∷◌, length, arith, refl, sym, ap, ◌∙◌, inl, inr, slice_index_or}
use Rattle.std.specs.Prelude.{All, AllPairs, cond, filter}
use Rattle.std.specs.List.{list_any, remove}
use Rattle.std.proofs.lemmas.Bool.{and_from, and_left, and_parts, and_right, eq-eqb, le-leb, le-ltb, leb-true, lt-leb, lt-ltb, ltb-true, ne_eqb}
use Rattle.std.proofs.lemmas.List.Elements.{All-cons}
use Rattle.region_book.specs.RegionRows.{in_run}

or_true : (b : Bool) → (b || true) ≡ true
or_true true = refl
or_true false = refl

-- what passes one test passes another
pub any_more : {X : Type 0} (p q : X → Bool) (xs : List X) → All (λ x. p x ≡ true → q x ≡ true) xs →
    list_any p xs ≡ true → list_any q xs ≡ true
any_more p q [] step is = is
any_more p q (x ∷ xs) step is =
    go (p x) refl is (any_more p q xs (λ k d below. step (suc k) d (omega arith)))
  where
    go : (here : Bool) → p x ≡ here → (here || list_any p xs) ≡ true → (list_any p xs ≡ true → list_any q xs ≡ true) →
        (q x || list_any q xs) ≡ true
    go true here any later = ap (λ b. b || list_any q xs) (step 0 x (omega arith) here)
    go false here any later = ap (λ b. q x || b) (later any) ∙ or_true (q x)

-- a test over those that are left
pub any_filtered : {X : Type 0} (p q : X → Bool) (xs : List X) →
    list_any q (filter p xs) ≡ list_any (λ x. p x && q x) xs
any_filtered p q [] = refl
any_filtered p q (x ∷ xs) = go (p x) (any_filtered p q xs)
  where
    go : (here : Bool) → list_any q (filter p xs) ≡ list_any (λ x. p x && q x) xs →
        list_any q (cond here (x ∷ filter p xs) (filter p xs)) ≡ ((here && q x) || list_any (λ x. p x && q x) xs)
    go true later = ap (λ b. q x || b) later
    go false later = later

-- what holds of each that passes holds of all that are left
pub all_kept : {X : Type 0} (p : X → Bool) (P : X → Type 0) (xs : List X) → All (λ x. p x ≡ true → P x) xs →
    All P (filter p xs)
all_kept p P [] each = λ k d below. absurd (omega arith)
all_kept p P (x ∷ xs) each =
    go (p x) refl (all_kept p P xs (λ k d below. each (suc k) d (omega arith)))
  where
    go : (here : Bool) → p x ≡ here → All P (filter p xs) → All P (cond here (x ∷ filter p xs) (filter p xs))
    go true here later = All-cons P x (filter p xs) (each 0 x (omega arith) here) later
    go false here later = later

-- all are left where each passes
filter_all : {X : Type 0} (p : X → Bool) (xs : List X) → All (λ x. p x ≡ true) xs → filter p xs ≡ xs
filter_all p [] each = refl
filter_all p (x ∷ xs) each =
    ap (λ b. cond b (x ∷ filter p xs) (filter p xs)) (each 0 x (omega arith))
    ∙ ap (λ ys. x ∷ ys) (filter_all p xs (λ k d below. each (suc k) d (omega arith)))

-- the one element of a key is left out
pub removed_by_key : {X : Type 0} (key : X → ℕ) (xs : List X) (i id : ℕ) → AllPairs (λ a b. key a < key b) xs →
    i < length xs → ((d : X) → key (slice_index_or xs i d) ≡ id) →
    remove xs i ≡ filter (λ x. not (key x == id)) xs
removed_by_key key [] i id rising within is = absurd (omega arith)
removed_by_key key (x ∷ xs) zero id rising within is =
    sym (ap (λ b. cond (not b) (x ∷ filter (λ x. not (key x == id)) xs) (filter (λ x. not (key x == id)) xs))
    (eq-eqb (key x) id (is x))
    ∙ filter_all (λ x. not (key x == id)) xs
    (λ k d below. ap not (ne_eqb (key (slice_index_or xs k d)) id
    (λ same. let later : key x < key (slice_index_or xs k d) = rising 0 (suc k) d (omega arith) (omega arith) in
    omega (arith, later, same, is x)))))
removed_by_key key (x ∷ xs) (suc i) id rising within is =
    ap (λ ys. x ∷ ys) (removed_by_key key xs i id
    (λ a b d low below. rising (suc a) (suc b) d (omega arith) (omega arith)) (omega arith) is)
    ∙ sym (ap (λ b. cond (not b) (x ∷ filter (λ x. not (key x == id)) xs) (filter (λ x. not (key x == id)) xs))
    (ne_eqb (key x) id
    (λ same. let later : key x < key (slice_index_or xs i x) = rising 0 (suc i) x (omega arith) (omega arith) in
    omega (arith, later, same, is x))))

-- Runs.

pub inner_run : (first size offset count k : ℕ) → offset + count ≤ size → in_run (first + offset) count k ≡ true →
    in_run first size k ≡ true
inner_run first size offset count k fits is =
    let parts = and_parts (nat_le (first + offset) k) (nat_lt k (first + offset + count)) is in
    and_from (nat_le first k) (nat_lt k (first + size))
    (le-leb first k (omega (arith, leb-true (first + offset) k parts.0)))
    (lt-ltb k (first + size) (omega (arith, ltb-true k (first + offset + count) parts.1, fits)))

-- a place of one run isn't in another that lies apart
pub outside_run : (a n b l k : ℕ) → (a + n ≤ b) ⊎ (b + l ≤ a) → b ≤ k → k < b + l → in_run a n k ≡ false
outside_run a n b l k apart low high = elim apart [
  | inl before ↦ and_right (nat_le a k) (nat_lt k (a + n)) (le-ltb k (a + n) (omega (arith, before, low)))
  | inr after ↦ and_left (nat_le a k) (nat_lt k (a + n)) (lt-leb a k (omega (arith, after, high)))
]

pub runs_apart : (a n b l k : ℕ) → (a + n ≤ b) ⊎ (b + l ≤ a) → in_run b l k ≡ true → in_run a n k ≡ false
runs_apart a n b l k apart is =
    let parts = and_parts (nat_le b k) (nat_lt k (b + l)) is in
    outside_run a n b l k apart (leb-true b k parts.0) (ltb-true k (b + l) parts.1)
