-- What is found of what is kept, and what goes on holding of it over each change.
use Rattle.std.specs.Prelude.{◌≡◌, ◌≢◌, ℕ, ◌*◌, ◌/◌, ◌<◌, true, IfOk, IfSome, Option, Some, None}
use Rattle.nk_bits.specs.declared.leaf.Leaf.{Leaf}
use Rattle.nk_bits.specs.declared.leaf.Upper.{Upper}
use Rattle.nk_bits.specs.Paging.{page_of, is_canonical, walk, walk_below}
use Rattle.nk_bits.specs.UpperEntries.{KeptEntry, span_of, serves_page, kept_for, walk_by}
use Rattle.nk_bits.specs.Translations.{Pairs, Translations, NamesFramesIn, look, dropped, filled, flushed, faulted, invalidated, forgotten, entry_forgotten, entry_kept, with_leaf, translation, tlb_after}
use Rattle.nk_bits.specs.Claims.{Claim, AllPass, lies_in}
use Rattle.nk_bits.specs.Accesses.{View, IsWalked}

-- a look-up after a drop and after a fill
pub record TranslationLaws : Type 0 where
  pub dropped_other : (pairs : Pairs) (page other : ℕ) → other ≢ page
      → look (dropped pairs page) other ≡ look pairs other
  pub dropped : (pairs : Pairs) (page : ℕ) → look (dropped pairs page) page ≡ None
  pub filled : (pairs : Pairs) (page : ℕ) (leaf : Leaf) → look (filled pairs page leaf) page ≡ Some leaf
  pub look_within : (tlb : Translations) (page size : ℕ) → NamesFramesIn size tlb
      → IfSome (look tlb.pairs page) (λ leaf. 4096 * leaf.frame < size)
  pub kept_within : (tlb : Translations) (level page size : ℕ) → NamesFramesIn size tlb
      → IfSome (kept_for tlb.upper level page) (λ it. 4096 * it.frame < size)

-- what is kept goes on passing a claim, and what is found passes it
pub record KeptLaws : Type 0 where
  pub flushed : (test : Claim) → AllPass test flushed
  pub faulted : (test : Claim) (tlb : Translations) (page : ℕ) → AllPass test tlb
      → AllPass test (faulted tlb page)
  pub invalidated : (test : Claim) (tlb : Translations) (page : ℕ) → AllPass test tlb
      → AllPass test (invalidated tlb page)
  pub forgotten : (test : Claim) (tlb : Translations) (page : ℕ) → AllPass test tlb
      → AllPass test (forgotten tlb page)
  pub entry_forgotten : (test : Claim) (tlb : Translations) (level page : ℕ) → AllPass test tlb
      → AllPass test (entry_forgotten tlb level page)
  pub entry_kept : (test : Claim) (tlb : Translations) (level page : ℕ) (found : Option Upper) → AllPass test tlb
      → IfSome found (λ it. test.upper (level, span_of level page, it) ≡ true)
      → AllPass test (entry_kept tlb level page found)
  pub filled : (test : Claim) (tlb : Translations) (page : ℕ) (leaf : Leaf) → AllPass test tlb
      → test.pair (page, leaf) ≡ true → AllPass test (with_leaf tlb page leaf)
  pub found : (view : View) (test : Claim) (tlb : Translations) (va : ℕ) → IsWalked view test → AllPass test tlb
      → is_canonical va ≡ true → IfOk (walk_by view.entries view.frames view.root tlb.upper (page_of va))
      (λ leaf. test.pair (page_of va, leaf) ≡ true)
  pub translated : (view : View) (test : Claim) (tlb : Translations) (va : ℕ) → IsWalked view test
      → AllPass test tlb → is_canonical va ≡ true
      → IfSome (translation view.entries view.frames view.root tlb (page_of va))
      (λ leaf. test.pair (page_of va, leaf) ≡ true)
  pub after : (view : View) (test : Claim) (tlb : Translations) (va : ℕ) → IsWalked view test → AllPass test tlb
      → is_canonical va ≡ true → AllPass test (tlb_after view.entries view.frames view.root tlb (page_of va))
  pub kept_passes : (test : Claim) (tlb : Translations) (level page : ℕ) → AllPass test tlb
      → IfSome (kept_for tlb.upper level page) (λ it. test.upper (level, span_of level page, it) ≡ true)
  pub walk_by_same : (t u : ℕ → ℕ → ℕ) (frames root other page : ℕ) (test : Claim) (tlb : Translations)
      → AllPass test tlb → ((entry : KeptEntry) → test.upper entry ≡ true → serves_page page entry ≡ true
      → walk_below t frames page entry.0 entry.2 ≡ walk_below u frames page entry.0 entry.2)
      → walk t frames root page ≡ walk u frames other page
      → walk_by t frames root tlb.upper page ≡ walk_by u frames other tlb.upper page
  pub lies : (size : ℕ) (tlb : Translations) → NamesFramesIn size tlb → AllPass (lies_in size) tlb
  pub named : (size : ℕ) (tlb : Translations) → AllPass (lies_in size) tlb → NamesFramesIn size tlb
  pub lies_walked : (view : View) (size : ℕ) → view.frames ≡ size / 4096 → IsWalked view (lies_in size)

-- frames that are named stay in memory
pub record NamedLaws : Type 0 where
  pub flushed : (size : ℕ) → NamesFramesIn size flushed
  pub faulted : (size : ℕ) (tlb : Translations) (page : ℕ) → NamesFramesIn size tlb
      → NamesFramesIn size (faulted tlb page)
  pub invalidated : (size : ℕ) (tlb : Translations) (page : ℕ) → NamesFramesIn size tlb
      → NamesFramesIn size (invalidated tlb page)
  pub forgotten : (size : ℕ) (tlb : Translations) (page : ℕ) → NamesFramesIn size tlb
      → NamesFramesIn size (forgotten tlb page)
  pub entry_forgotten : (size : ℕ) (tlb : Translations) (level page : ℕ) → NamesFramesIn size tlb
      → NamesFramesIn size (entry_forgotten tlb level page)
  pub entry_kept : (size : ℕ) (tlb : Translations) (level page : ℕ) (found : Option Upper)
      → NamesFramesIn size tlb → IfSome found (λ it. 4096 * it.frame < size)
      → NamesFramesIn size (entry_kept tlb level page found)
  pub filled : (size : ℕ) (tlb : Translations) (page : ℕ) (leaf : Leaf) → NamesFramesIn size tlb
      → 4096 * leaf.frame < size → NamesFramesIn size (with_leaf tlb page leaf)
  pub found : (t : ℕ → ℕ → ℕ) (frames root page : ℕ) (tlb : Translations)
      → IfOk (walk_by t frames root tlb.upper page) (λ leaf. leaf.frame < frames)
  pub after : (t : ℕ → ℕ → ℕ) (frames root page size : ℕ) (tlb : Translations) → frames ≡ size / 4096
      → NamesFramesIn size tlb → NamesFramesIn size (tlb_after t frames root tlb page)
