-- Sums over the numbers below n: of the same terms, of terms that are 0, with one term changed, and their bounds.
use Rattle.std.proofs.Common.{◌≡◌, ◌≢◌, ℕ, zero, suc, ◌+◌, ◌*◌, ◌<◌, ◌≤◌, arith, inl, inr, refl, sym, add-one}
use Rattle.std.proofs.lemmas.Bool.{cases_eq}
use Rattle.page_desc.specs.FrameCounts.{sum_below}

-- no term, and one more
pub sum_start : (g : ℕ → ℕ) → sum_below 0 g ≡ 0
unfolding sum_below
sum_start g = refl

pub sum_more : (n : ℕ) (g : ℕ → ℕ) → sum_below (n + 1) g ≡ sum_below n g + g n
unfolding sum_below
sum_more n g = rw add-one refl

pub sum_same : (n : ℕ) (g h : ℕ → ℕ) → ((i : ℕ) → i < n → g i ≡ h i) → sum_below n g ≡ sum_below n h
unfolding sum_below
sum_same zero g h same = refl
sum_same (suc n) g h same =
    let rest : sum_below n g ≡ sum_below n h = sum_same n g h (λ i small. same i (omega (arith, small))) in
    let last : g n ≡ h n = same n (omega arith) in
    omega (arith, rest, last)

pub sum_zero : (n : ℕ) (g : ℕ → ℕ) → ((i : ℕ) → i < n → g i ≡ 0) → sum_below n g ≡ 0
unfolding sum_below
sum_zero zero g none = refl
sum_zero (suc n) g none =
    let rest : sum_below n g ≡ 0 = sum_zero n g (λ i small. none i (omega (arith, small))) in
    let last : g n ≡ 0 = none n (omega arith) in
    omega (arith, rest, last)

-- one term changed
pub sum_changed : (n b : ℕ) (g h : ℕ → ℕ) → b < n → ((i : ℕ) → i < n → i ≢ b → h i ≡ g i)
    → sum_below n h + g b ≡ sum_below n g + h b
unfolding sum_below
sum_changed zero b g h small same = absurd (omega (arith, small))
sum_changed (suc n) b g h small same =
    elim (cases_eq b n) [
      | inl last ↦
          let rest : sum_below n h ≡ sum_below n g =
          sum_same n h g (λ i below. same i (omega (arith, below)) (λ e. absurd (omega (arith, e, last, below)))) in
          let first : g b ≡ g n = (λ j. g (last j)) in
          let second : h b ≡ h n = (λ j. h (last j)) in
          omega (arith, rest, first, second)
      | inr apart ↦
          let rest : sum_below n h + g b ≡ sum_below n g + h b =
          sum_changed n b g h (omega (arith, apart, small)) (λ i below. same i (omega (arith, below))) in
          let last : h n ≡ g n = same n (omega arith) (λ e. apart (sym e)) in
          omega (arith, rest, last)
    ]

-- each term is part of the sum
pub sum_least : (n i : ℕ) (g : ℕ → ℕ) → i < n → g i ≤ sum_below n g
unfolding sum_below
sum_least zero i g small = absurd (omega (arith, small))
sum_least (suc n) i g small =
    elim (cases_eq i n) [
      | inl last ↦ let here : g i ≡ g n = (λ j. g (last j)) in omega (arith, here)
      | inr apart ↦ let rest : g i ≤ sum_below n g = sum_least n i g (omega (arith, apart, small)) in omega (arith, rest)
    ]

pub sum_most : (n most : ℕ) (g : ℕ → ℕ) → ((i : ℕ) → i < n → g i ≤ most) → sum_below n g ≤ most * n
unfolding sum_below
sum_most zero most g each = omega arith
sum_most (suc n) most g each =
    let rest : sum_below n g ≤ most * n = sum_most n most g (λ i small. each i (omega (arith, small))) in
    let last : g n ≤ most = each n (omega arith) in
    omega (arith, rest, last)
