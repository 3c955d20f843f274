-- What holds of each two elements at different places of a list, and of its permutations.
use Rattle.std.proofs.Common.{◌≡◌, ◌≢◌, ℕ, ◌<◌, Bool, true, false, List, [], ◌∷◌, length, get_or, Some, refl, sym, ap, ◌∙◌, arith, inl, inr, suc}
use Rattle.std.proofs.lemmas.Bool.{cases_eq, cases_Bool, cond-true, cond-false, false≢true}
use Rattle.std.proofs.lemmas.List.Edits.{swapped_from_swap, length-swap}
use Rattle.std.proofs.lemmas.List.Folds.{list_any_at}
use Rattle.std.proofs.lemmas.List.Sorted.{IsPermutation-keeps}
use Rattle.std.specs.Prelude.{find, swap}
use Rattle.std.specs.List.{Contains, list_any}
use Rattle.std.specs.List.Sorted.{IsPermutation}

abbrev pub EachPair : {X : Type 0} → (X → X → Type 0) → List X → Type 0
EachPair {X = X} R xs = (i j : ℕ) (d : X) → i < length xs → j < length xs → i ≢ j → R (get_or xs i d) (get_or xs j d)

-- where place i of a list comes from when places a and b are swapped
data ComesFrom (a b i k : ℕ) : Type 0 where
  first : i ≡ a → k ≡ b → ComesFrom a b i k
  second : i ≢ a → i ≡ b → k ≡ a → ComesFrom a b i k
  other : i ≢ a → i ≢ b → k ≡ i → ComesFrom a b i k

source : (a b i : ℕ) → (k : ℕ) × ComesFrom a b i k
source a b i =
    elim (cases_eq i a) [
      | inl e ↦ (b, first e refl)
      | inr n ↦ elim (cases_eq i b) [ inl e ↦ (a, second n e refl) | inr m ↦ (i, other n m refl) ]
    ]

sources_apart : (a b i j k l : ℕ) → i ≢ j → ComesFrom a b i k → ComesFrom a b j l → k ≢ l
sources_apart a b i j k l apart (first e f) (first g h) = absurd (omega arith)
sources_apart a b i j k l apart (first e f) (second g h m) = λ same. omega arith
sources_apart a b i j k l apart (first e f) (other g h m) = λ same. omega arith
sources_apart a b i j k l apart (second e f g) (first h m) = λ same. omega arith
sources_apart a b i j k l apart (second e f g) (second h m n) = absurd (omega arith)
sources_apart a b i j k l apart (second e f g) (other h m n) = λ same. omega arith
sources_apart a b i j k l apart (other e f g) (first h m) = λ same. omega arith
sources_apart a b i j k l apart (other e f g) (second h m n) = λ same. omega arith
sources_apart a b i j k l apart (other e f g) (other h m n) = λ same. omega arith

source_below : (n a b i k : ℕ) → a < n → b < n → i < n → ComesFrom a b i k → k < n
source_below n a b i k ha hb hi (first e f) = omega arith
source_below n a b i k ha hb hi (second e f g) = omega arith
source_below n a b i k ha hb hi (other e f g) = omega arith

swap_at : {X : Type 0} (xs : List X) (a b i k : ℕ) (d : X) → a < length xs → b < length xs → ComesFrom a b i k → get_or (swap xs a b) i d ≡ get_or xs k d
swap_at xs a b i k d ha hb (first e f) =
    ap (λ (m : ℕ). get_or (swap xs a b) m d) e ∙ (swapped_from_swap xs (swap xs a b) a b d ha hb refl).0 ∙ ap (λ (m : ℕ). get_or xs m d) (sym f)
swap_at xs a b i k d ha hb (second e f g) =
    ap (λ (m : ℕ). get_or (swap xs a b) m d) f ∙ (swapped_from_swap xs (swap xs a b) a b d ha hb refl).1 ∙ ap (λ (m : ℕ). get_or xs m d) (sym g)
swap_at xs a b i k d ha hb (other e f g) =
    (swapped_from_swap xs (swap xs a b) a b d ha hb refl).2 i e f ∙ ap (λ (m : ℕ). get_or xs m d) (sym g)

swapped_pairs : {X : Type 0} (R : X → X → Type 0) (xs : List X) (a b : ℕ) → a < length xs → b < length xs → EachPair R xs → EachPair R (swap xs a b)
swapped_pairs R xs a b ha hb pairs i j d hi hj apart =
    let long = length-swap xs a b in
    let from = source a b i in
    let upto = source a b j in
    let low : from.0 < length xs = source_below (length xs) a b i from.0 ha hb (omega arith) from.1 in
    let high : upto.0 < length xs = source_below (length xs) a b j upto.0 ha hb (omega arith) upto.1 in
    rw (swap_at xs a b i from.0 d ha hb from.1, swap_at xs a b j upto.0 d ha hb upto.1)
    (pairs from.0 upto.0 d low high (sources_apart a b i j from.0 upto.0 apart from.1 upto.1))

-- a permutation keeps what holds of each two elements
pub EachPair-permutation : {X : Type 0} (R : X → X → Type 0) (xs ys : List X) → IsPermutation xs ys → EachPair R xs → EachPair R ys
EachPair-permutation R xs ys same pairs =
    IsPermutation-keeps xs (λ l. EachPair R l) pairs (λ l i j hi hj h. swapped_pairs R l i j hi hj h) ys same

-- at most one element passes
abbrev pub AtMostOne : {X : Type 0} → (X → Bool) → List X → Type 0
AtMostOne {X = X} p xs = EachPair (λ x y. p x ≡ true → p y ≡ false) xs

-- an element that passes, and the first that does
pub found_at : {X : Type 0} (p : X → Bool) (xs : List X) (d : X) → list_any p xs ≡ true → (k : ℕ) × (k < length xs) × (p (get_or xs k d) ≡ true) × (find p xs ≡ Some (get_or xs k d))
found_at p [] d h = absurd (false≢true h)
found_at p (x ∷ xs) d h =
    elim (cases_Bool (p x)) [
      | inl e ↦ (0, omega arith, e, cond-true (p x) (Some x) (find p xs) e)
      | inr e ↦
          let later : list_any p xs ≡ true = rw e at h in
          let rest = found_at p xs d later in
          (suc rest.0, omega (arith, rest.1), rest.2, cond-false (p x) (Some x) (find p xs) e ∙ rest.3)
    ]

-- where at most one passes, one that does is the one that is found
pub found_alone : {X : Type 0} (p : X → Bool) (xs : List X) → AtMostOne p xs → (x : X) → Contains xs x → p x ≡ true → find p xs ≡ Some x
found_alone p xs lone x held passes =
    let here : p (get_or xs held.0 x) ≡ true = ap p held.2 ∙ passes in
    let first = found_at p xs x (list_any_at p xs held.0 x held.1 here) in
    elim (cases_eq first.0 held.0) [
      | inl e ↦ first.3 ∙ ap (λ (k : ℕ). Some (get_or xs k x)) e ∙ ap (λ y. Some y) held.2
      | inr n ↦ absurd (false≢true (sym (lone first.0 held.0 x first.1 held.1 n first.2) ∙ here))
    ]

-- the element that is found passes, and is one of the list
pub found_is : {X : Type 0} (p : X → Bool) (xs : List X) (x : X) → find p xs ≡ Some x → Contains xs x × (p x ≡ true)
found_is p [] x h = absurd (cc h)
found_is p (y ∷ xs) x h =
    elim (cases_Bool (p y)) [
      | inl e ↦
          let same : y ≡ x = cc (sym (cond-true (p y) (Some y) (find p xs) e) ∙ h) in
          ((0, omega arith, same), ap p (sym same) ∙ e)
      | inr e ↦
          let rest = found_is p xs x (sym (cond-false (p y) (Some y) (find p xs) e) ∙ h) in
          ((suc rest.0.0, omega (arith, rest.0.1), rest.0.2), rest.1)
    ]
