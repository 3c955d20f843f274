-- The frames of a range of pages, with one page more at its end, or with a page that isn't mapped.
use Rattle.std.proofs.Common.{◌≡◌, ◌<◌, ℕ, zero, suc, ◌+◌, List, [], ◌∷◌, ◌++◌, Option, None, Some, All, rules, arith, refl, ap, ◌∙◌}
use Rattle.std.proofs.lemmas.List.Elements.{All-append}
use Rattle.region_book.specs.RegionCalls.{frames_from, pages_joined}

-- so many frames with one more at the end, where all are there
abbrev pub joined_end : Option (List ℕ) → Option ℕ → Option (List ℕ)
joined_end (Some fs) (Some f) = Some (fs ++ f ∷ [])
joined_end _ _ = None

end_of_one : (o : Option ℕ) → pages_joined o (Some []) ≡ joined_end (Some []) o
end_of_one None = refl
end_of_one (Some f) = refl

end_behind : (o : Option ℕ) (r : Option (List ℕ)) (p : Option ℕ) → pages_joined o (joined_end r p) ≡ joined_end (pages_joined o r) p
end_behind None None None = refl
end_behind None None (Some p) = refl
end_behind None (Some r) None = refl
end_behind None (Some r) (Some p) = refl
end_behind (Some o) None None = refl
end_behind (Some o) None (Some p) = refl
end_behind (Some o) (Some r) None = refl
end_behind (Some o) (Some r) (Some p) = refl

joined_none : (o : Option ℕ) → pages_joined o None ≡ None
joined_none None = refl
joined_none (Some f) = refl

none_joined : (r : Option (List ℕ)) → pages_joined None r ≡ None
none_joined None = refl
none_joined (Some fs) = refl

one_more : (at : ℕ → Option ℕ) (page n : ℕ) → frames_from at page (suc n) ≡ joined_end (frames_from at page n) (at (page + n))
unfolding frames_from
one_more at page zero = end_of_one (at page) ∙ ap (λ p. joined_end (Some []) (at p)) (omega arith)
one_more at page (suc n) =
    ap (pages_joined (at page)) (one_more at (page + 1) n)
    ∙ end_behind (at page) (frames_from at (page + 1) n) (at (page + 1 + n))
    ∙ ap (λ p. joined_end (pages_joined (at page) (frames_from at (page + 1) n)) (at p)) (omega arith)

-- one page more is mapped
pub range_more : (at : ℕ → Option ℕ) (page n f : ℕ) (fs : List ℕ) → frames_from at page n ≡ Some fs → at (page + n) ≡ Some f
    → frames_from at page (n + 1) ≡ Some (fs ++ f ∷ [])
range_more at page n f fs before here =
    ap (frames_from at page) (omega arith) ∙ one_more at page n ∙ ap (λ r. joined_end r (at (page + n))) before ∙ ap (joined_end (Some fs)) here

-- no page is in an empty range
pub range_empty : (at : ℕ → Option ℕ) (page : ℕ) → frames_from at page 0 ≡ Some []
unfolding frames_from
range_empty at page = refl

-- a page of the range isn't mapped
pub range_broken : (at : ℕ → Option ℕ) (page n i : ℕ) → i < n → at (page + i) ≡ None → frames_from at page n ≡ None
unfolding frames_from
range_broken at page zero i inside here = absurd (omega arith)
range_broken at page (suc n) zero inside here =
    ap (λ o. pages_joined o (frames_from at (page + 1) n)) (ap at (omega arith) ∙ here) ∙ none_joined (frames_from at (page + 1) n)
range_broken at page (suc n) (suc i) inside here =
    ap (pages_joined (at page)) (range_broken at (page + 1) n i (omega arith) (ap at (omega arith) ∙ here)) ∙ joined_none (at page)

-- one frame more is below the bound
pub all_more : (bound : ℕ) (fs : List ℕ) (f : ℕ) → All (λ g. g < bound) fs → f < bound → All (λ g. g < bound) (fs ++ f ∷ [])
all_more bound fs f before here = All-append (λ g. g < bound) fs (f ∷ []) before (search rules)
