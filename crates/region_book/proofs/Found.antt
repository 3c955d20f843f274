-- The first element that passes a test, by its place.
use Rattle.std.proofs.Common.{◌≡◌, ℕ, zero, suc, ◌<◌, Bool, true, false, List, [], ◌∷◌, length, arith, refl, sym, ap, ◌∙◌, subst, slice_index_or, inl, inr}
use Rattle.std.specs.Prelude.{All, Option, Some, None, cond, IfNone, IfSome, nat_lt}
use Rattle.std.specs.List.{find, list_any, position, position_or_len}
use Rattle.std.proofs.lemmas.Bool.{cases_Bool, ltb-true, ltb-false, or_parts}
use Rattle.std.proofs.lemmas.Option.{same_Some}
use Rattle.std.proofs.lemmas.List.Elements.{All-cons}
use Rattle.std.proofs.lemmas.List.Sums.{fails_before_first, passes_at_first}

module _ {X : Type 0} (p : X → Bool) where
  pub find_at : (xs : List X) (i : ℕ) (d : X) → i < length xs → ((k : ℕ) → k < i → p (slice_index_or xs k d) ≡ false) →
      p (slice_index_or xs i d) ≡ true →
      find p xs ≡ Some (slice_index_or xs i d)
  find_at [] i d within before here = absurd (omega arith)
  find_at (x ∷ xs) zero d within before here = ap (λ b. cond b (Some x) (find p xs)) here
  find_at (x ∷ xs) (suc i) d within before here =
      ap (λ b. cond b (Some x) (find p xs)) (before 0 (omega arith))
      ∙ find_at xs i d (omega arith) (λ k below. before (suc k) (omega arith)) here

  pub find_none : (xs : List X) → ((k : ℕ) (d : X) → k < length xs → p (slice_index_or xs k d) ≡ false) →
      find p xs ≡ None
  find_none [] none = refl
  find_none (x ∷ xs) none = ap (λ b. cond b (Some x) (find p xs)) (none 0 x (omega arith))
      ∙ find_none xs (λ k d below. none (suc k) d (omega arith))

  pub position_none : (xs : List X) → IfNone (position p xs) (find p xs ≡ None)
  position_none xs =
      elim (cases_Bool (nat_lt (position_or_len p xs) (length xs))) [
        | inl some ↦ rw some tt
        | inr none ↦ rw none (find_none xs
            (λ k d below. fails_before_first p xs k d
            (omega (arith, ltb-false (position_or_len p xs) (length xs) none))))
      ]

  pub position_some : (xs : List X) →
      IfSome (position p xs) (λ i. (i < length xs) × ((d : X) → find p xs ≡ Some (slice_index_or xs i d)))
  position_some xs =
      elim (cases_Bool (nat_lt (position_or_len p xs) (length xs))) [
        | inl some ↦
            let within : position_or_len p xs < length xs = ltb-true (position_or_len p xs) (length xs) some in
            rw some (
              within,
              λ d. find_at xs (position_or_len p xs) d within
                  (λ k below. fails_before_first p xs k d below) (passes_at_first p xs d within),
            )
        | inr none ↦ rw none tt
      ]

-- what holds of each element holds of the one that is found
pub found_holds : {X : Type 0} (p : X → Bool) (P : X → Type 0) (xs : List X) (x : X) → find p xs ≡ Some x → All P xs →
    P x
found_holds p P [] x found all = let no : None ≡ Some x = found in cc
found_holds p P (y ∷ xs) x found all =
    go (p y) found (λ later. found_holds p P xs x later (λ k d below. all (suc k) d (omega arith)))
  where
    go : (here : Bool) → cond here (Some y) (find p xs) ≡ Some x → (find p xs ≡ Some x → P x) → P x
    go true is later = subst P (same_Some y x is) (all 0 y (omega arith))
    go false is later = later is

-- where the element stands that is found
pub found_place : {X : Type 0} (p : X → Bool) (xs : List X) (x : X) → find p xs ≡ Some x →
    (i : ℕ) × (i < length xs) × ((d : X) → slice_index_or xs i d ≡ x) × (p x ≡ true)
found_place {X = X} p [] x found = let no : None ≡ Some x = found in cc
found_place {X = X} p (y ∷ xs) x found = go (p y) refl found (λ later. found_place p xs x later)
  where
    go : (here : Bool) → p y ≡ here → cond here (Some y) (find p xs) ≡ Some x →
        (find p xs ≡ Some x → (i : ℕ) × (i < length xs) × ((d : X) → slice_index_or xs i d ≡ x) × (p x ≡ true)) →
        (i : ℕ) × (i < length (y ∷ xs)) × ((d : X) → slice_index_or (y ∷ xs) i d ≡ x) × (p x ≡ true)
    go true here is later = (0, omega arith, λ d. same_Some y x is, ap p (sym (same_Some y x is)) ∙ here)
    go false here is later = let at = later is in (suc at.0, omega (arith, at.1), λ d. at.2 d, at.3)

-- a test that no element passes
pub none_any : {X : Type 0} (p : X → Bool) (xs : List X) → list_any p xs ≡ false → All (λ x. p x ≡ false) xs
none_any p [] none = λ k d below. absurd (omega arith)
none_any p (x ∷ xs) none =
    All-cons (λ x. p x ≡ false) x xs (or_parts (p x) (list_any p xs) none).0
    (none_any p xs (or_parts (p x) (list_any p xs) none).1)

-- what `IfSome` says of the value that is there
pub for_some : {X : Type 0} (o : Option X) (x : X) (P : X → Type 0) → o ≡ Some x → P x → IfSome o P
for_some o x P is holds = subst (λ o. IfSome o P) (sym is) holds

pub of_some : {X : Type 0} (o : Option X) (x : X) (P : X → Type 0) → o ≡ Some x → IfSome o P → P x
of_some o x P is holds = subst (λ o. IfSome o P) is holds
