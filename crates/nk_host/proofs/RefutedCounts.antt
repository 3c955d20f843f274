-- What is no rise of a count, and what is one, at concrete counts: a premise that says that none rose is met by these.
use Rattle.std.proofs.Common.{◌≡◌, ℕ, ◌-◌, ◌^◌, ◌≤◌, List, [], ◌∷◌, Some, refl, arith}
use Rattle.nk_host.specs.FaultCounts.{NeverFalls, OnlyAt, Rose, RoseTo, raised}
use Rattle.nk_host.specs.Told.{IfTold}

-- a count is raised by one, and stays at its type's end
raised_counts :
    (raised 0 ≡ 1) ×
    (raised 5 ≡ 6) ×
    (raised (2 ^ 64 - 2) ≡ 2 ^ 64 - 1) ×
    (raised (2 ^ 64 - 1) ≡ 2 ^ 64 - 1)
raised_counts = (refl, refl, refl, refl)

-- a count that stayed didn't rise, nor did one that fell, nor one that stays right below its type's end
stayed : RoseTo 5 5 → ⊥
stayed it = let rose : 6 ≤ 5 = it in omega (arith, rose)

fell : RoseTo 5 4 → ⊥
fell it = let rose : 6 ≤ 4 = it in omega (arith, rose)

stayed_below_the_end : RoseTo (2 ^ 64 - 2) (2 ^ 64 - 2) → ⊥
stayed_below_the_end it = let rose : 2 ^ 64 - 1 ≤ 2 ^ 64 - 2 = it in omega (arith, rose)

-- one that is one more rose, and so did one by more; at the type's end a count counts as risen
rises : (RoseTo 5 6) × (RoseTo 5 7) × (RoseTo 0 1) × (RoseTo (2 ^ 64 - 1) (2 ^ 64 - 1))
rises = (omega arith, omega arith, omega arith, omega arith)

-- of counts by names the name at hand counts alone
named_stayed : (others : List ℕ → ℕ) (name : List ℕ) → others name ≡ 5 → Rose (λ _. 5) others name → ⊥
named_stayed others name stays it = omega (arith, stays, it)

-- counts that fall for some name
fallen : NeverFalls (λ _. 5) (λ _. 4) → ⊥
fallen it = let stands : 5 ≤ 4 = it [] in omega (arith, stands)

-- a count that rose for another name that is held
another_rose : OnlyAt (λ _. Some []) (λ _. 5) (λ _. 6) (1 ∷ []) → ⊥
another_rose it = let same : 6 ≡ 5 = it [] refl (λ e. cc) in omega (arith, same)

-- what is told is said of what is told
told : IfTold {A = ℕ} (Some 5) (λ n. n ≡ 6) → ⊥
told it = let same : 5 ≡ 6 = it in omega (arith, same)
