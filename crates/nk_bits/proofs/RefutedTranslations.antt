-- Translations that don't live, and translations that don't pass a test, each named by the sentence that it guards.
use Rattle.std.proofs.Common.{◌≡◌, ◌≢◌, ℕ, true, false, List, [], ◌∷◌, None, Some, Ok, arith, inl, inr, length, refl, sym, ◌∙◌}
use Rattle.std.specs.Prelude.{slice_get}
use Rattle.std.proofs.lemmas.Bool.{false≢true}
use Rattle.std.proofs.lemmas.List.Elements.{All-head}
use Rattle.nk_bits.specs.declared.leaf.Leaf.{Leaf}
use Rattle.nk_bits.specs.declared.leaf.Upper.{Upper}
use Rattle.nk_bits.specs.Claims.{AllPass, Claim, IsLimited}
use Rattle.nk_bits.specs.Paging.{is_canonical_page, walk, walk_below}
use Rattle.nk_bits.specs.Translations.{IsBelowKept, IsLive, Translations, look}
use Rattle.nk_bits.specs.UpperEntries.{KeptEntry, serves_page}

-- below no kept entry: none is kept, none serves the page, and what is found below each is another leaf
module _ (t : ℕ → ℕ → ℕ) (frames : ℕ) (upper : List KeptEntry) (page : ℕ) (leaf : Leaf) where
  no_entry : IsBelowKept t frames [] page leaf → ⊥
  no_entry it = let none = it.kept in cc

  unserved : ((place : ℕ) (entry : KeptEntry) → slice_get upper place ≡ Some entry → serves_page page entry ≡ false)
      → IsBelowKept t frames upper page leaf → ⊥
  unserved none it = false≢true (sym (none it.place it.entry it.kept) ∙ it.for_page)

  another_leaf : ((entry : KeptEntry) → walk_below t frames page entry.0 entry.2 ≢ Ok leaf)
      → IsBelowKept t frames upper page leaf → ⊥
  another_leaf other it = other it.entry it.found

-- a page that isn't canonical has no live translation but one that is kept, and a page of which nothing is kept none but
-- the walk's
module _ (t : ℕ → ℕ → ℕ) (frames root : ℕ) (tlb : Translations) (page : ℕ) (leaf : Leaf) where
  outside : look tlb.pairs page ≡ None → is_canonical_page page ≡ false → IsLive t frames root tlb page leaf → ⊥
  outside none other (inl kept) = cc
  outside none other (inr given) = false≢true (sym other ∙ given.0)

  unwalked : look tlb.pairs page ≡ None → walk t frames root page ≢ Ok leaf → (IsBelowKept t frames tlb.upper page leaf → ⊥)
      → IsLive t frames root tlb page leaf → ⊥
  unwalked none other below (inl kept) = cc
  unwalked none other below (inr (canonical, inl walked)) = other walked
  unwalked none other below (inr (canonical, inr found)) = below found

-- a test that the first pair, or the first entry, doesn't pass
module _ (test : Claim) where
  failing_pair : (pair : ℕ × Leaf) (pairs : List (ℕ × Leaf)) (upper : List KeptEntry) → test.pair pair ≡ false
      → AllPass test (record { pairs = pair ∷ pairs; upper = upper }) → ⊥
  failing_pair pair pairs upper fails it =
      false≢true (sym fails ∙ All-head (λ (p : ℕ × Leaf). test.pair p ≡ true) pair pairs it.pairs)

  failing_entry : (entry : KeptEntry) (pairs : List (ℕ × Leaf)) (upper : List KeptEntry) → test.upper entry ≡ false
      → AllPass test (record { pairs = pairs; upper = entry ∷ upper }) → ⊥
  failing_entry entry pairs upper fails it =
      false≢true (sym fails ∙ All-head (λ (e : KeptEntry). test.upper e ≡ true) entry upper it.upper)

-- more than the processor keeps
module _ (tlb : Translations) (it : IsLimited tlb) where
  pair_1025 : length tlb.pairs ≡ 1025 → ⊥
  pair_1025 is = let few = it.pairs in omega (arith, is, few)

  entry_65 : length tlb.upper ≡ 65 → ⊥
  entry_65 is = let few = it.uppers in omega (arith, is, few)

-- or twice
page_twice : (page : ℕ) (one other : Leaf) (upper : List KeptEntry)
    → IsLimited (record { pairs = (page, one) ∷ (page, other) ∷ []; upper = upper }) → ⊥
page_twice page one other upper it = it.pages 0 1 (page, one) (omega arith) (omega arith) refl

entry_twice : (level bits : ℕ) (one other : Upper) (pairs : List (ℕ × Leaf))
    → IsLimited (record { pairs = pairs; upper = (level, bits, one) ∷ (level, bits, other) ∷ [] }) → ⊥
entry_twice level bits one other pairs it = it.entries 0 1 (level, bits, one) (omega arith) (omega arith) refl refl

-- and a claim of limits isn't passed so
limits_passed : (test : Claim) (tlb : Translations) → test.limited ≡ true → length tlb.pairs ≡ 1025 → AllPass test tlb → ⊥
limits_passed test tlb claimed is all = pair_1025 tlb (all.limits claimed) is
