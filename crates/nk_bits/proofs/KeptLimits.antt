-- No more is kept than the processor keeps, and nothing twice, over each change.
use Rattle.std.proofs.Common.{◌≡◌, ◌≢◌, ℕ, ◌+◌, ◌-◌, ◌≤◌, Bool, true, false, not, ◌&&◌, ◌==◌, List, [], ◌∷◌, ◌++◌, length, drop, arith, refl, sym, ap, subst, ◌∙◌}
use Rattle.std.specs.Prelude.{AllPairs, Option, None, Some, filter, slice_index_or}
use Rattle.std.proofs.lemmas.Bool.{eq-eqb, false≢true}
use Rattle.std.proofs.lemmas.List.{length-drop, get_or-drop}
use Rattle.std.proofs.lemmas.List.Elements.{All-weaker, filter_passes}
use Rattle.std.proofs.lemmas.List.Filters.{length-filter_both}
use Rattle.std.proofs.lemmas.List.Kept.{AllPairs-filter}
use Rattle.std.proofs.lemmas.List.Quantifiers.{all_pairs_push}
use Rattle.nk_bits.specs.declared.leaf.Leaf.{Leaf}
use Rattle.nk_bits.specs.declared.leaf.Upper.{Upper}
use Rattle.nk_bits.specs.UpperEntries.{HasDistinctEntries, KeptEntry, is_for, serves_page, span_of, upper_capacity, with_entry, without}
use Rattle.nk_bits.specs.Translations.{HasDistinctPages, Pairs, Translations, capacity, dropped, entry_forgotten, entry_kept, faulted, filled, flushed, forgotten, invalidated, with_leaf}
use Rattle.nk_bits.specs.Claims.{IsLimited}

module _ {A : Type 0} where
  -- a filter leaves no more
  few_left : (p : A → Bool) (xs : List A) → length (filter p xs) ≤ length xs
  few_left p xs = omega (arith, length-filter_both p (λ x. not (p x)) (λ x. refl) xs)

  -- the youngest are no more than fit
  fits : (most : ℕ) (xs : List A) → length (drop (length xs - most) xs) ≤ most
  fits most xs = omega (arith, length-drop (length xs - most) xs)

  -- what holds of each two goes on holding of the youngest
  pairs_left : (R : A → A → Type 0) (n : ℕ) (xs : List A) → AllPairs R xs → AllPairs R (drop n xs)
  pairs_left R n xs all =
      λ i j d below fits. subst (λ one. R one (slice_index_or (drop n xs) j d)) (sym (get_or-drop n xs i d))
      (subst (R (slice_index_or xs (n + i) d)) (sym (get_or-drop n xs j d)) (all (n + i) (n + j) d (omega (arith, below)) (omega (arith, fits, length-drop n xs))))

  no_pairs : (R : A → A → Type 0) → AllPairs R []
  no_pairs R = λ i j d below fits. absurd (omega (arith, fits))

-- pairs
few_dropped : (pairs : Pairs) (page : ℕ) → length pairs ≤ 1024 → length (dropped pairs page) ≤ 1024
few_dropped pairs page few = omega (arith, few, few_left (λ pair. not (pair.0 == page)) pairs)

distinct_dropped : (pairs : Pairs) (page : ℕ) → HasDistinctPages pairs → HasDistinctPages (dropped pairs page)
distinct_dropped pairs page distinct = AllPairs-filter (λ one other. one.0 ≢ other.0) (λ pair. not (pair.0 == page)) pairs distinct

few_filled : (pairs : Pairs) (page : ℕ) (leaf : Leaf) → length (filled pairs page leaf) ≤ 1024
unfolding filled capacity
few_filled pairs page leaf = fits 1024 (dropped pairs page ++ (page, leaf) ∷ [])

distinct_filled : (pairs : Pairs) (page : ℕ) (leaf : Leaf) → HasDistinctPages pairs → HasDistinctPages (filled pairs page leaf)
unfolding filled
distinct_filled pairs page leaf distinct =
    pairs_left (λ one other. one.0 ≢ other.0) _ (dropped pairs page ++ (page, leaf) ∷ [])
    (all_pairs_push (λ one other. one.0 ≢ other.0) (dropped pairs page) (page, leaf) (distinct_dropped pairs page distinct)
    (All-weaker (λ pair. not (pair.0 == page) ≡ true) (λ pair. pair.0 ≢ page)
    (λ pair passes e. absurd (false≢true (sym (ap not (eq-eqb pair.0 page e)) ∙ passes))) (dropped pairs page)
    (filter_passes (λ pair. not (pair.0 == page)) pairs)))

-- upper entries
distinct_left : (test : KeptEntry → Bool) (upper : List KeptEntry) → HasDistinctEntries upper → HasDistinctEntries (filter test upper)
distinct_left test upper distinct = AllPairs-filter (λ one other. one.0 ≡ other.0 → one.1 ≢ other.1) test upper distinct

few_with_entry : (upper : List KeptEntry) (level page : ℕ) (it : Upper) → length (with_entry upper level page it) ≤ 64
unfolding with_entry upper_capacity
few_with_entry upper level page it = fits 64 (without upper level page ++ (level, span_of level page, it) ∷ [])

distinct_with_entry : (upper : List KeptEntry) (level page : ℕ) (it : Upper) → HasDistinctEntries upper → HasDistinctEntries (with_entry upper level page it)
unfolding with_entry
distinct_with_entry upper level page it distinct =
    pairs_left (λ one other. one.0 ≡ other.0 → one.1 ≢ other.1) _ (without upper level page ++ (level, span_of level page, it) ∷ [])
    (all_pairs_push (λ one other. one.0 ≡ other.0 → one.1 ≢ other.1) (without upper level page) (level, span_of level page, it)
    (distinct_left (λ entry. not (is_for level page entry)) upper distinct)
    (All-weaker (λ entry. not (is_for level page entry) ≡ true) (λ entry. entry.0 ≡ level → entry.1 ≢ span_of level page) apart (without upper level page)
    (filter_passes (λ entry. not (is_for level page entry)) upper)))
  where
    apart : (entry : KeptEntry) → not (is_for level page entry) ≡ true → entry.0 ≡ level → entry.1 ≢ span_of level page
    apart entry passes same_level same_bits =
        absurd (false≢true (sym (ap not (ap (λ here. here && (entry.1 == span_of level page)) (eq-eqb entry.0 level same_level) ∙ eq-eqb entry.1 (span_of level page) same_bits)) ∙ passes))

-- each change
pub flushed_limited : IsLimited flushed
flushed_limited = record {
  pairs = omega arith;
  pages = no_pairs (λ one other. one.0 ≢ other.0);
  uppers = omega arith;
  entries = no_pairs (λ one other. one.0 ≡ other.0 → one.1 ≢ other.1);
}

pub faulted_limited : (tlb : Translations) (page : ℕ) → IsLimited tlb → IsLimited (faulted tlb page)
faulted_limited tlb page it = record {
  pairs = few_dropped tlb.pairs page it.pairs;
  pages = distinct_dropped tlb.pairs page it.pages;
  uppers = let fewer = few_left (λ entry. not (serves_page page entry)) tlb.upper in let few = it.uppers in omega (arith, few, fewer);
  entries = distinct_left (λ entry. not (serves_page page entry)) tlb.upper it.entries;
}

pub invalidated_limited : (tlb : Translations) (page : ℕ) → IsLimited tlb → IsLimited (invalidated tlb page)
invalidated_limited tlb page it = record {
  pairs = few_dropped tlb.pairs page it.pairs;
  pages = distinct_dropped tlb.pairs page it.pages;
  uppers = omega arith;
  entries = no_pairs (λ one other. one.0 ≡ other.0 → one.1 ≢ other.1);
}

pub forgotten_limited : (tlb : Translations) (page : ℕ) → IsLimited tlb → IsLimited (forgotten tlb page)
forgotten_limited tlb page it = record {
  pairs = few_dropped tlb.pairs page it.pairs;
  pages = distinct_dropped tlb.pairs page it.pages;
  uppers = it.uppers;
  entries = it.entries;
}

pub with_leaf_limited : (tlb : Translations) (page : ℕ) (leaf : Leaf) → IsLimited tlb → IsLimited (with_leaf tlb page leaf)
with_leaf_limited tlb page leaf it = record {
  pairs = few_filled tlb.pairs page leaf;
  pages = distinct_filled tlb.pairs page leaf it.pages;
  uppers = it.uppers;
  entries = it.entries;
}

pub entry_forgotten_limited : (tlb : Translations) (level page : ℕ) → IsLimited tlb → IsLimited (entry_forgotten tlb level page)
entry_forgotten_limited tlb level page it = record {
  pairs = it.pairs;
  pages = it.pages;
  uppers = let fewer = few_left (λ entry. not (is_for level page entry)) tlb.upper in let few = it.uppers in omega (arith, few, fewer);
  entries = distinct_left (λ entry. not (is_for level page entry)) tlb.upper it.entries;
}

pub entry_kept_limited : (tlb : Translations) (level page : ℕ) (found : Option Upper) → IsLimited tlb → IsLimited (entry_kept tlb level page found)
entry_kept_limited tlb level page None it = it
entry_kept_limited tlb level page (Some upper) it = record {
  pairs = it.pairs;
  pages = it.pages;
  uppers = few_with_entry tlb.upper level page upper;
  entries = distinct_with_entry tlb.upper level page upper it.entries;
}
