-- What the processor keeps of its walks: translations of pages (SDM volume 3, 4.10.2), a list of pairs of a page number and
-- its leaf, youngest last, and upper entries (4.10.3); and which translations are live.
use Rattle.std.specs.Prelude.{◌≡◌, ◌⊎◌, ◌<◌, ◌*◌, ℕ, ◌-◌, ◌≢◌, true, not, ◌==◌, if◌then◌else◌, List, [], ◌∷◌, ◌++◌, Option, Some, None, Result, Ok, Err, length, drop, filter, All, AllPairs, slice_get}
use Rattle.nk_bits.specs.declared.leaf.Leaf.{Leaf}
use Rattle.nk_bits.specs.declared.leaf.Upper.{Upper}
use Rattle.nk_bits.specs.Paging.{is_canonical_page, walk, walk_below}
use Rattle.nk_bits.specs.UpperEntries.{KeptEntry, serves_page, without, uncovered, with_entry, walk_by}

-- pairs of a page number, which is the linear address divided by 4,096, and the page's leaf
abbrev pub Pairs : Type 0
Pairs = List (ℕ × Leaf)

-- the pairs, and the upper entries that are kept
pub record Translations : Type 0 where
  pub pairs : List (ℕ × Leaf)
  pub upper : List (ℕ × ℕ × Upper)

-- how many pairs the processor keeps
unfoldable pub capacity : ℕ
capacity = 1024

-- the leaf that is kept for a page
abbrev pub look : Pairs → ℕ → Option Leaf
look [] page = None
look (pair ∷ pairs) page = if pair.0 == page then Some pair.1 else look pairs page

-- the list without the page's pair
abbrev pub dropped : Pairs → ℕ → Pairs
dropped pairs page = filter (λ pair. not (pair.0 == page)) pairs

-- the youngest pairs, as many as are kept: those filled longest ago go
abbrev pub youngest : ℕ → Pairs → Pairs
youngest most pairs = drop (length pairs - most) pairs

-- the list after a fill: the page's pair is the youngest, in place of an older one of the page; a full list loses its oldest
unfoldable pub filled : Pairs → ℕ → Leaf → Pairs
filled pairs page leaf = youngest capacity (dropped pairs page ++ (page, leaf) ∷ [])

-- no page has two pairs
abbrev pub HasDistinctPages : Pairs → Type 0
HasDistinctPages pairs = AllPairs (λ one other. one.0 ≢ other.0) pairs

-- nothing is kept after a flush
abbrev pub flushed : Translations
flushed = record { pairs = []; upper = [] }

-- the three ways in which the translation of one page goes: with a page fault go the entries that serve the page, with
-- INVLPG all entries, and with an event of the plan none
abbrev pub faulted : Translations → ℕ → Translations
faulted tlb page = record { pairs = dropped tlb.pairs page; upper = uncovered tlb.upper page }

abbrev pub invalidated : Translations → ℕ → Translations
invalidated tlb page = record { pairs = dropped tlb.pairs page; upper = [] }

abbrev pub forgotten : Translations → ℕ → Translations
forgotten tlb page = record { pairs = dropped tlb.pairs page; upper = tlb.upper }

-- a leaf is filled
abbrev pub with_leaf : Translations → ℕ → Leaf → Translations
with_leaf tlb page leaf = record { pairs = filled tlb.pairs page leaf; upper = tlb.upper }

-- the page's entry of this level goes, and what was found of it is kept, if it was found
abbrev pub entry_forgotten : Translations → ℕ → ℕ → Translations
entry_forgotten tlb level page = record { pairs = tlb.pairs; upper = without tlb.upper level page }

abbrev pub entry_kept : Translations → ℕ → ℕ → Option Upper → Translations
entry_kept tlb level page None = tlb
entry_kept tlb level page (Some it) = record { pairs = tlb.pairs; upper = with_entry tlb.upper level page it }

-- what is kept, or else what the walk found
abbrev pub or_walked : Option Leaf → Result Leaf ℕ → Option Leaf
or_walked (Some leaf) walked = Some leaf
or_walked None (Ok leaf) = Some leaf
or_walked None (Err level) = None

-- the leaf that the walk found is filled, where nothing was kept
abbrev pub fill_walked : Translations → ℕ → Option Leaf → Result Leaf ℕ → Translations
fill_walked tlb page (Some leaf) walked = tlb
fill_walked tlb page None (Ok leaf) = with_leaf tlb page leaf
fill_walked tlb page None (Err level) = tlb

-- the translation of a page by the pairs, and then by a walk over the tables t from this root or from an entry that is kept
abbrev pub translation : (ℕ → ℕ → ℕ) → ℕ → ℕ → Translations → ℕ → Option Leaf
translation t frames root tlb page = or_walked (look tlb.pairs page) (walk_by t frames root tlb.upper page)

-- what is kept after that: a leaf that the walk found is filled
abbrev pub tlb_after : (ℕ → ℕ → ℕ) → ℕ → ℕ → Translations → ℕ → Translations
tlb_after t frames root tlb page = fill_walked tlb page (look tlb.pairs page) (walk_by t frames root tlb.upper page)

-- every frame that the pairs and the entries name lies in a memory of so many bytes
pub record NamesFramesIn (size : ℕ) (tlb : Translations) : Type 0 where
  pub pairs : All (λ pair. 4096 * pair.1.frame < size) tlb.pairs
  pub upper : All (λ entry. 4096 * entry.2.frame < size) tlb.upper

-- what an access takes for granted: the root table, in this frame, and every frame that is named lie in that memory
pub record IsAccessible (size table : ℕ) (tlb : Translations) : Type 0 where
  pub root : 4096 * table < size
  pub frames : NamesFramesIn size tlb

-- the walk that begins at one of the entries that serve the page gives this leaf
pub record IsBelowKept (t : ℕ → ℕ → ℕ) (frames : ℕ) (upper : List KeptEntry) (page : ℕ) (leaf : Leaf) : Type 0 where
  pub place : ℕ
  pub entry : KeptEntry
  pub kept : slice_get upper place ≡ Some entry
  pub for_page : serves_page page entry ≡ true
  pub found : walk_below t frames page entry.0 entry.2 ≡ Ok leaf

-- a translation is live: it is kept, or the page is canonical and the translation is given now, by the walk from this root
-- or by one that begins at any entry that serves the page
abbrev pub IsLive : (ℕ → ℕ → ℕ) → ℕ → ℕ → Translations → ℕ → Leaf → Type 0
IsLive t frames root tlb page leaf =
    (look tlb.pairs page ≡ Some leaf) ⊎
    ((is_canonical_page page ≡ true) × ((walk t frames root page ≡ Ok leaf) ⊎ IsBelowKept t frames tlb.upper page leaf))
