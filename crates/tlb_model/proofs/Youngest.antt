-- Lists that lose their oldest elements.
use Rattle.std.proofs.Common.{◌≡◌, ℕ, ◌+◌, ◌-◌, ◌<◌, ◌≤◌, List, [], ◌∷◌, ◌++◌, length, drop, arith, sym, ap, subst, ◌∙◌}
use Rattle.std.specs.Prelude.{AllPairs, slice_index_or}
use Rattle.std.proofs.lemmas.List.{length-append, length-drop, drop-append-le, get_or-drop}

module _ {A : Type 0} where
  -- no more is left than fits
  pub fits : (most : ℕ) (xs : List A) → length (drop (length xs - most) xs) ≤ most
  fits most xs = omega (arith, length-drop (length xs - most) xs)

  -- a list that was cut to leave room for an element, and then the element, is the youngest of both
  pub made : (most : ℕ) (xs : List A) (x : A) → length xs ≤ most → 0 < most →
      drop (length xs + 1 - most) xs ++ x ∷ [] ≡ drop (length (xs ++ x ∷ []) - most) (xs ++ x ∷ [])
  made most xs x fits some =
      let over : length xs + 1 - most ≡ length (xs ++ x ∷ []) - most = omega (arith, length-append xs (x ∷ [])) in
      sym (drop-append-le (length xs + 1 - most) xs (x ∷ []) (omega arith)) ∙ ap (λ n. drop n (xs ++ x ∷ [])) over

  -- what holds of each two goes on holding
  pub pairs_left : (R : A → A → Type 0) (n : ℕ) (xs : List A) → AllPairs R xs → AllPairs R (drop n xs)
  pairs_left R n xs all =
      λ i j d below fits. subst (λ one. R one (slice_index_or (drop n xs) j d)) (sym (get_or-drop n xs i d))
      (subst (R (slice_index_or xs (n + i) d)) (sym (get_or-drop n xs j d)) (all (n + i) (n + j) d (omega (arith, below)) (omega (arith, fits, length-drop n xs))))
