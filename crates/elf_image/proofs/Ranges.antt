-- Ranges of numbers, and what a test keeps of one.
use Rattle.std.proofs.Common.{◌≡◌, ℕ, ◌+◌, ◌<◌, ◌≤◌, Bool, true, false, List, [], ◌∷◌, ◌++◌, length, get_or, refl, ap, ◌∙◌, arith, inl, inr, zero, suc, add-zero, zero-add}
use Rattle.std.proofs.lemmas.Bool.{cases_Bool, cases_eq, cond_both}
use Rattle.std.proofs.lemmas.List.Elements.{All-nil, All-cons, All-weaker}
use Rattle.std.specs.Prelude.{filter}
use Rattle.std.specs.List.{All, AllPairs, range_with_len}
use Rattle.elf_image.proofs.FormLaws.{AllPairs-cons}

-- a range in two parts
pub range-append : (a m n : ℕ) → range_with_len a (m + n) ≡ range_with_len a m ++ range_with_len (a + m) n
range-append a zero n = rw (zero-add, add-zero) refl
range-append a (suc m) n =
    let e : suc m + n ≡ suc (m + n) = omega arith in
    let s : a + suc m ≡ a + 1 + m = omega arith in
    rw (e, s) (ap (λ (r : List ℕ). a ∷ r) (range-append (a + 1) m n))

-- two tests that agree on a range keep the same of it
pub filter_range-agree : (p q : ℕ → Bool) (a m : ℕ) → ((n : ℕ) → a ≤ n → n < a + m → p n ≡ q n) → filter p (range_with_len a m) ≡ filter q (range_with_len a m)
filter_range-agree p q a zero h = refl
filter_range-agree p q a (suc m) h =
    let here : p a ≡ q a = h a (omega arith) (omega arith) in
    let rest = filter_range-agree p q (a + 1) m (λ n low high. h n (omega arith) (omega arith)) in
    rw (here, rest) refl

filter_all : (xs : List ℕ) → filter (λ _. true) xs ≡ xs
filter_all [] = refl
filter_all (x ∷ xs) = ap (λ (r : List ℕ). x ∷ r) (filter_all xs)

filter_none : (xs : List ℕ) → filter (λ _. false) xs ≡ []
filter_none [] = refl
filter_none (x ∷ xs) = filter_none xs

pub filter_range_all : (p : ℕ → Bool) (a m : ℕ) → ((n : ℕ) → a ≤ n → n < a + m → p n ≡ true) → filter p (range_with_len a m) ≡ range_with_len a m
filter_range_all p a m h = filter_range-agree p (λ _. true) a m h ∙ filter_all (range_with_len a m)

pub filter_range_none : (p : ℕ → Bool) (a m : ℕ) → ((n : ℕ) → a ≤ n → n < a + m → p n ≡ false) → filter p (range_with_len a m) ≡ []
filter_range_none p a m h = filter_range-agree p (λ _. false) a m h ∙ filter_none (range_with_len a m)

-- what is kept lies in the range
kept_above : (p : ℕ → Bool) (a m : ℕ) → All (λ n. a ≤ n) (filter p (range_with_len a m))
kept_above p a zero = All-nil (λ n. a ≤ n)
kept_above p a (suc m) =
    let rest = All-weaker (λ n. a + 1 ≤ n) (λ n. a ≤ n) (λ n h. omega arith) _ (kept_above p (a + 1) m) in
    let P : List ℕ → Type 0 = λ xs. All (λ n. a ≤ n) xs in
    cond_both (p a) _ _ P (λ _. All-cons (λ n. a ≤ n) a _ (omega arith) rest) (λ _. rest)

pub kept_within : (p : ℕ → Bool) (a m : ℕ) → All (λ n. (a ≤ n) × (n < a + m)) (filter p (range_with_len a m))
kept_within p a zero = All-nil (λ n. (a ≤ n) × (n < a + zero))
kept_within p a (suc m) =
    let rest = All-weaker (λ n. (a + 1 ≤ n) × (n < a + 1 + m)) (λ n. (a ≤ n) × (n < a + suc m)) (λ n h. (omega (arith, h.0), omega (arith, h.1))) _ (kept_within p (a + 1) m) in
    let P : List ℕ → Type 0 = λ xs. All (λ n. (a ≤ n) × (n < a + suc m)) xs in
    cond_both (p a) _ _ P (λ _. All-cons (λ n. (a ≤ n) × (n < a + suc m)) a _ (omega arith, omega arith) rest) (λ _. rest)

-- and it ascends
pub kept_ascending : (p : ℕ → Bool) (a m : ℕ) → AllPairs (λ i j. i < j) (filter p (range_with_len a m))
kept_ascending p a zero = λ i j d low high. absurd (omega arith)
kept_ascending p a (suc m) =
    let rest = kept_ascending p (a + 1) m in
    let P : List ℕ → Type 0 = λ xs. AllPairs (λ i j. i < j) xs in
    cond_both (p a) _ _ P
    (λ _. AllPairs-cons (λ i j. i < j) a _ (All-weaker (λ n. a + 1 ≤ n) (λ n. a < n) (λ n h. omega arith) _ (kept_above p (a + 1) m)) rest)
    (λ _. rest)

-- each number of the range that passes is kept
pub kept_all : (p : ℕ → Bool) (a m n : ℕ) → p n ≡ true → a ≤ n → n < a + m → (i : ℕ) × (i < length (filter p (range_with_len a m))) × (get_or (filter p (range_with_len a m)) i 0 ≡ n)
kept_all p a zero n h low high = absurd (omega arith)
kept_all p a (suc m) n h low high =
    elim (cases_eq a n) [
      | inl e ↦
          let here : p a ≡ true = ap p e ∙ h in
          rw here (0, omega arith, e)
      | inr ne ↦
          let rest = kept_all p (a + 1) m n h (omega arith) (omega arith) in
          elim (cases_Bool (p a)) [
            | inl here ↦ rw here (suc rest.0, omega (arith, rest.1), rest.2)
            | inr here ↦ rw here rest
          ]
    ]
