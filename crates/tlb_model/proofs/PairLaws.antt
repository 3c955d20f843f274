-- No more translations are kept than there is room for, and no page has two.
use Rattle.std.proofs.Common.{◌≡◌, ◌≢◌, ℕ, ◌≤◌, true, not, ◌==◌, List, [], ◌∷◌, ◌++◌, length, sym, ap, ◌∙◌}
use Rattle.std.proofs.lemmas.List.Elements.{filter_passes, All-weaker}
use Rattle.std.proofs.lemmas.Bool.{eq-eqb, false≢true}
use Rattle.std.proofs.lemmas.List.Quantifiers.{all_pairs_push}
use Rattle.std.proofs.lemmas.List.Kept.{AllPairs-filter}
use Rattle.nk_bits.specs.declared.leaf.Leaf.{Leaf}
use Rattle.nk_bits.specs.Translations.{capacity, dropped, filled, HasDistinctPages}
use Rattle.tlb_model.proofs.Youngest.{fits, pairs_left}

-- no more is kept than fits
pub length-filled : (tlb : List (ℕ × Leaf)) (page : ℕ) (leaf : Leaf) → length (filled tlb page leaf) ≤ capacity
unfolding filled
length-filled tlb page leaf = fits capacity (dropped tlb page ++ (page, leaf) ∷ [])

-- pages go on being distinct after a drop and after a fill
pub distinct_dropped : (tlb : List (ℕ × Leaf)) (page : ℕ) → HasDistinctPages tlb → HasDistinctPages (dropped tlb page)
distinct_dropped tlb page distinct = AllPairs-filter (λ one other. one.0 ≢ other.0) (λ pair. not (pair.0 == page)) tlb distinct

pub distinct_filled : (tlb : List (ℕ × Leaf)) (page : ℕ) (leaf : Leaf) → HasDistinctPages (dropped tlb page) → HasDistinctPages (filled tlb page leaf)
unfolding filled
distinct_filled tlb page leaf distinct =
    pairs_left (λ one other. one.0 ≢ other.0) _ (dropped tlb page ++ (page, leaf) ∷ [])
    (all_pairs_push (λ one other. one.0 ≢ other.0) (dropped tlb page) (page, leaf) distinct
    (All-weaker (λ pair. not (pair.0 == page) ≡ true) (λ pair. pair.0 ≢ page) (λ pair passes e. absurd (false≢true (sym (ap not (eq-eqb pair.0 page e)) ∙ passes))) (dropped tlb page) (filter_passes (λ pair. not (pair.0 == page)) tlb)))
