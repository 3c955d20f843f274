-- The upper entries that the processor keeps, in paging-structure caches: SDM volume 3, 4.10.3. An entry of level 2, 3 or 4
-- serves all pages under it, and a walk of such a page may begin at what the entry names. The list is youngest last.
use Rattle.std.specs.Prelude.{◌≡◌, ◌≢◌, ℕ, ◌-◌, ◌*◌, ◌/◌, ◌^◌, Bool, not, ◌&&◌, ◌||◌, ◌==◌, if◌then◌else◌, List, [], ◌∷◌, ◌++◌, Option, Some, None, Result, length, drop, filter, AllPairs}
use Rattle.nk_bits.specs.declared.leaf.Leaf.{Leaf}
use Rattle.nk_bits.specs.declared.leaf.Upper.{Upper}
use Rattle.nk_bits.specs.Paging.{walk, walk_below}

-- an entry that is kept: its level, the number that the pages under it share, and what it names
abbrev pub KeptEntry : Type 0
KeptEntry = ℕ × ℕ × Upper

-- how many entries the processor keeps
unfoldable pub upper_capacity : ℕ
upper_capacity = 64

-- the number that a page shares with all pages under its entry of this level: its digits in base 512 from that level up
unfoldable pub span_of : ℕ → ℕ → ℕ
span_of level page = page / 512 ^ (level - 1)

-- the first of the pages that share this number
unfoldable pub first_of_span : ℕ → ℕ → ℕ
first_of_span level bits = bits * 512 ^ (level - 1)

-- the entry is the page's of this level
abbrev pub is_for : ℕ → ℕ → KeptEntry → Bool
is_for level page entry = entry.0 == level && entry.1 == span_of level page

-- the entry serves the page
abbrev pub serves_page : ℕ → KeptEntry → Bool
serves_page page entry = is_for 2 page entry || is_for 3 page entry || is_for 4 page entry

-- what is kept for a page at a level
abbrev pub kept_for : List KeptEntry → ℕ → ℕ → Option Upper
kept_for [] level page = None
kept_for (entry ∷ upper) level page = if is_for level page entry then Some entry.2 else kept_for upper level page

-- the list without the page's entry of this level, and without each entry that serves the page
abbrev pub without : List KeptEntry → ℕ → ℕ → List KeptEntry
without upper level page = filter (λ entry. not (is_for level page entry)) upper

abbrev pub uncovered : List KeptEntry → ℕ → List KeptEntry
uncovered upper page = filter (λ entry. not (serves_page page entry)) upper

-- the list after an entry is kept: it is the youngest, in place of an older one of its pages; a full list loses its oldest
unfoldable pub with_entry : List KeptEntry → ℕ → ℕ → Upper → List KeptEntry
with_entry upper level page it =
    let kept = without upper level page ++ (level, span_of level page, it) ∷ [] in drop (length kept - upper_capacity) kept

-- no two entries have one level and the same pages
abbrev pub HasDistinctEntries : List KeptEntry → Type 0
HasDistinctEntries upper = AllPairs (λ one other. one.0 ≡ other.0 → one.1 ≢ other.1) upper

-- the walk that begins at a kept entry of this level, or else is done in another way
abbrev pub begun : (ℕ → ℕ → ℕ) → ℕ → ℕ → ℕ → Option Upper → Result Leaf ℕ → Result Leaf ℕ
begun t frames page level (Some it) other = walk_below t frames page level it
begun t frames page level None other = other

-- the walk of a processor that keeps these entries: it begins at the page's entry of the least level, or else at the root
unfoldable pub walk_by : (ℕ → ℕ → ℕ) → ℕ → ℕ → List KeptEntry → ℕ → Result Leaf ℕ
walk_by t frames root upper page =
    begun t frames page 2 (kept_for upper 2 page)
    (begun t frames page 3 (kept_for upper 3 page)
    (begun t frames page 4 (kept_for upper 4 page)
    (walk t frames root page)))
