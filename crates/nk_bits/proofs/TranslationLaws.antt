-- The pairs kept: what a look-up finds after a drop and a fill, and what goes on holding of each.
use Rattle.std.proofs.Common.{◌≡◌, ◌≢◌, ℕ, ◌-◌, ◌<◌, ◌≤◌, Bool, true, false, not, ◌==◌, [], ◌∷◌, ◌++◌, length, drop, All, arith, refl, sym, ap, subst, cond, inl, inr, ◌∙◌}
use Rattle.std.specs.Prelude.{IfSome, Some, None, if◌then◌else◌}
use Rattle.std.proofs.lemmas.List.{length-append, drop-append-le}
use Rattle.std.proofs.lemmas.List.Elements.{All-head, All-tail, All-filter, All-append, All-drop, All-cons, All-nil, filter_passes}
use Rattle.std.proofs.lemmas.Bool.{eqb-true, eq-eqb, false≢true}
use Rattle.std.proofs.lemmas.Bool.Decides.{eqb_tells}
use Rattle.nk_bits.specs.declared.leaf.Leaf.{Leaf}
use Rattle.nk_bits.specs.Translations.{Pairs, capacity, look, dropped, youngest, filled}

capacity_positive : 0 < capacity
unfolding capacity
capacity_positive = omega arith

-- what holds of each pair goes on holding after a drop and after a fill
pub All-dropped : (P : ℕ × Leaf → Type 0) (pairs : Pairs) (page : ℕ) → All P pairs → All P (dropped pairs page)
All-dropped P pairs page all = All-filter (λ pair. not (pair.0 == page)) P pairs all

pub All-filled : (P : ℕ × Leaf → Type 0) (pairs : Pairs) (page : ℕ) (leaf : Leaf) → All P pairs → P (page, leaf) → All P (filled pairs page leaf)
unfolding filled
All-filled P pairs page leaf all new =
    All-drop P _ (dropped pairs page ++ (page, leaf) ∷ [])
    (All-append P (dropped pairs page) ((page, leaf) ∷ []) (All-dropped P pairs page all) (All-cons P (page, leaf) [] new (All-nil P)))

-- what a look-up finds is a pair of the list
pub look_has : (P : ℕ × Leaf → Type 0) (pairs : Pairs) (page : ℕ) → All P pairs → IfSome (look pairs page) (λ leaf. P (page, leaf))
look_has P [] page all = tt
look_has P (pair ∷ pairs) page all = go (pair.0 == page) refl (look_has P pairs page (All-tail P pair pairs all))
  where
    go : (here : Bool) → (pair.0 == page) ≡ here → IfSome (look pairs page) (λ leaf. P (page, leaf)) → IfSome (if here then Some pair.1 else look pairs page) (λ leaf. P (page, leaf))
    go true is later = subst (λ x. P (x, pair.1)) (eqb-true pair.0 page is) (All-head P pair pairs all)
    go false is later = later

-- the test of two numbers that differ
eqb-apart : (a b : ℕ) → a ≢ b → (a == b) ≡ false
eqb-apart a b differ = elim (eqb_tells a b) [ inl same ↦ absurd (differ same.1) | inr apart ↦ apart.0 ]

-- nothing is found where no pair is the page's
look_none : (pairs : Pairs) (page : ℕ) → All (λ pair. not (pair.0 == page) ≡ true) pairs → look pairs page ≡ None
look_none [] page all = refl
look_none (pair ∷ pairs) page all =
    go (pair.0 == page) (All-head (λ pair. not (pair.0 == page) ≡ true) pair pairs all) (look_none pairs page (All-tail (λ pair. not (pair.0 == page) ≡ true) pair pairs all))
  where
    go : (here : Bool) → not here ≡ true → look pairs page ≡ None → (if here then Some pair.1 else look pairs page) ≡ None
    go true is later = absurd (false≢true is)
    go false is later = later

-- no pair of a page is left after a drop, and every other page's stays
pub look_dropped : (pairs : Pairs) (page : ℕ) → look (dropped pairs page) page ≡ None
look_dropped pairs page = look_none (dropped pairs page) page (filter_passes (λ pair. not (pair.0 == page)) pairs)

pub look_dropped_other : (pairs : Pairs) (page other : ℕ) → other ≢ page → look (dropped pairs page) other ≡ look pairs other
look_dropped_other [] page other differ = refl
look_dropped_other (pair ∷ pairs) page other differ = go (pair.0 == page) refl (look_dropped_other pairs page other differ)
  where
    go : (here : Bool) → (pair.0 == page) ≡ here → look (dropped pairs page) other ≡ look pairs other →
        look (cond (not here) (pair ∷ dropped pairs page) (dropped pairs page)) other ≡ (if pair.0 == other then Some pair.1 else look pairs other)
    go true is later =
        let apart : (pair.0 == other) ≡ false = eqb-apart pair.0 other (λ e. differ (sym e ∙ eqb-true pair.0 page is)) in
        later ∙ ap (λ b. if b then Some pair.1 else look pairs other) (sym apart)
    go false is later = ap (λ r. if pair.0 == other then Some pair.1 else r) later

-- the pair at the end of a list is found where no other is the page's
look_last : (pairs : Pairs) (page : ℕ) (leaf : Leaf) → All (λ pair. not (pair.0 == page) ≡ true) pairs → look (pairs ++ (page, leaf) ∷ []) page ≡ Some leaf
look_last [] page leaf all = ap (λ b. if b then Some leaf else None) (eq-eqb page page refl)
look_last (pair ∷ pairs) page leaf all =
    go (pair.0 == page) (All-head (λ pair. not (pair.0 == page) ≡ true) pair pairs all) (look_last pairs page leaf (All-tail (λ pair. not (pair.0 == page) ≡ true) pair pairs all))
  where
    go : (here : Bool) → not here ≡ true → look (pairs ++ (page, leaf) ∷ []) page ≡ Some leaf → (if here then Some pair.1 else look (pairs ++ (page, leaf) ∷ []) page) ≡ Some leaf
    go true is later = absurd (false≢true is)
    go false is later = later

-- a leaf just filled is found
pub look_filled : (pairs : Pairs) (page : ℕ) (leaf : Leaf) → look (filled pairs page leaf) page ≡ Some leaf
unfolding filled
look_filled pairs page leaf = found capacity (dropped pairs page) capacity_positive (filter_passes (λ pair. not (pair.0 == page)) pairs)
  where
    found : (most : ℕ) (kept : Pairs) → 0 < most → All (λ pair. not (pair.0 == page) ≡ true) kept → look (youngest most (kept ++ (page, leaf) ∷ [])) page ≡ Some leaf
    found most kept some apart =
        let over : length (kept ++ (page, leaf) ∷ []) - most ≤ length kept = omega (arith, length-append kept ((page, leaf) ∷ []), some) in
        ap (λ xs. look xs page) (drop-append-le (length (kept ++ (page, leaf) ∷ []) - most) kept ((page, leaf) ∷ []) over)
        ∙ look_last (drop (length (kept ++ (page, leaf) ∷ []) - most) kept) page leaf (All-drop (λ pair. not (pair.0 == page) ≡ true) _ kept apart)
