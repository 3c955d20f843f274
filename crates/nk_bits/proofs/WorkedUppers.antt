-- Upper entries at worked values. The pages are of one shape: 134743556 has the digits 1, 2, 3 and 4 in base 512, from level 4
-- down, so its numbers are 263171 at level 2 (1, 2, 3), 514 at level 3 (1, 2) and 1 at level 4.
use Rattle.std.proofs.Common.{◌≡◌, ℕ, zero, suc, ◌+◌, Bool, true, false, ◌==◌, ◌&&◌, List, [], ◌∷◌, ◌++◌, refl}
use Rattle.std.specs.Prelude.{Some, None, Ok, Err, if◌then◌else◌}
use Rattle.nk_bits.specs.declared.leaf.Rights.{Rights}
use Rattle.nk_bits.specs.declared.leaf.Leaf.{Leaf}
use Rattle.nk_bits.specs.declared.leaf.Upper.{Upper}
use Rattle.nk_bits.specs.declared.access.Access.TheVariants.{Read, Write}
use Rattle.nk_bits.specs.declared.fault.AccessFault.TheVariants.{Page}
use Rattle.nk_bits.specs.Paging.{page_index, is_present, grants_writes, is_user, grants_fetches, is_large, frame_of, is_missing, walk, walk_from, upper_from, upper_walk}
use Rattle.nk_bits.specs.UpperEntries.{KeptEntry, upper_capacity, span_of, first_of_span, with_entry, walk_by}
use Rattle.nk_bits.specs.Translations.{Translations, capacity, filled, faulted, invalidated, forgotten, entry_forgotten, entry_kept}
use Rattle.nk_bits.specs.Accesses.{View, reached, completed, accessed, crosses, has_canonical_bytes}

page : ℕ
page = 134743556

-- the next page of its digit at level 2, so with another entry of level 2 and the same ones above
beside : ℕ
beside = 134744068

spans : (span_of 2 page ≡ 263171) × (span_of 3 page ≡ 514) × (span_of 4 page ≡ 1) × (span_of 2 beside ≡ 263172) × (span_of 3 beside ≡ 514)
unfolding span_of page beside
spans = (refl, refl, refl, refl, refl)

first_pages : (first_of_span 2 263171 ≡ 134743552) × (first_of_span 3 514 ≡ 134742016) × (first_of_span 4 1 ≡ 134217728)
unfolding first_of_span
first_pages = (refl, refl, refl)

rights : Bool → Bool → Bool → Rights
rights w u x = record { can_write = w; user = u; exec = x }

upper : ℕ → Bool → Bool → Bool → Upper
upper f w u x = record { frame = f; rights = rights w u x }

leaf : ℕ → Bool → Bool → Bool → Leaf
leaf f w u x = record { frame = f; rights = rights w u x }

-- the tables: 6 names 7 at 1; 7 names 8 at 2, for the supervisor alone; 8 names 9 at 3, and a large page at 5; 9 maps frame
-- 20 at 4, and 10 maps frame 21 there, read-only. Tables 5 and 11 are empty
tables : ℕ → ℕ → ℕ
tables f i =
    if f == 6 && i == 1 then 28679 else
    if f == 7 && i == 2 then 32771 else
    if f == 8 && i == 3 then 36871 else
    if f == 8 && i == 5 then 36999 else
    if f == 9 && i == 4 then 81927 else
    if f == 10 && i == 4 then 86021 else 0

-- entries of the page: of level 4 with all rights, of level 3 that grants no write, of level 2 that names another table than
-- those above lead to; and the one of level 2 of the page beside it
fourth : KeptEntry
fourth = (4, 1, upper 7 true true true)

third : KeptEntry
third = (3, 514, upper 8 false true true)

second : KeptEntry
second = (2, 263171, upper 10 true true true)

aside : KeptEntry
aside = (2, 263172, upper 10 true true true)

-- from root 5 there is nothing to find, but below each entry there is: with the rights of the entry and of those looked up
walks_below :
    (walk_by tables 512 5 [] page ≡ Err 4) ×
    (walk_by tables 512 5 (fourth ∷ []) page ≡ Ok (leaf 20 true false true)) ×
    (walk_by tables 512 5 (third ∷ []) page ≡ Ok (leaf 20 false true true)) ×
    (walk_by tables 512 5 (second ∷ []) page ≡ Ok (leaf 21 false true true))
unfolding walk_by walk walk_from page_index is_missing is_present frame_of is_large grants_writes is_user grants_fetches span_of page tables fourth third second upper leaf rights
walks_below = (refl, refl, refl, refl)

-- the entry of the least level is taken, in whatever order they are kept, also where its table has no leaf; one of other pages
-- is not
least_level :
    (walk_by tables 512 5 (second ∷ third ∷ fourth ∷ []) page ≡ Ok (leaf 21 false true true)) ×
    (walk_by tables 512 5 (fourth ∷ third ∷ second ∷ []) page ≡ Ok (leaf 21 false true true)) ×
    (walk_by tables 512 5 (fourth ∷ third ∷ aside ∷ []) page ≡ Ok (leaf 20 false true true)) ×
    (walk_by tables 512 6 (third ∷ (2, 263171, upper 11 true true true) ∷ []) page ≡ Err 1) ×
    (walk_by tables 512 5 (aside ∷ []) page ≡ Err 4) × (walk_by tables 512 5 (aside ∷ []) beside ≡ Ok (leaf 21 false true true))
unfolding walk_by walk walk_from page_index is_missing is_present frame_of is_large grants_writes is_user grants_fetches span_of page beside tables fourth third second aside upper leaf rights
least_level = (refl, refl, refl, refl, refl, refl)

-- from root 6: what is found at each level, with the rights common to the entries down to it
found_above :
    (upper_walk tables 512 6 page 4 ≡ Some (upper 7 true true true)) ×
    (upper_walk tables 512 6 page 3 ≡ Some (upper 8 true false true)) ×
    (upper_walk tables 512 6 page 2 ≡ Some (upper 9 true false true))
unfolding upper_from page_index is_missing is_present frame_of is_large grants_writes is_user grants_fetches page tables upper rights
found_above = (refl, refl, refl)

-- and nothing where an entry down to that level is missing: it isn't present, its frame isn't in memory, or its page is large
missing_above :
    (upper_walk tables 512 5 page 4 ≡ None) × (upper_walk tables 512 5 page 2 ≡ None) ×
    (upper_walk tables 512 6 (page + 262144) 3 ≡ None) × (upper_walk tables 512 6 (page + 262144) 4 ≡ Some (upper 7 true true true)) ×
    (upper_walk tables 8 6 page 3 ≡ None) × (upper_walk tables 8 6 page 4 ≡ Some (upper 7 true true true)) ×
    (upper_walk tables 512 6 (page + 1024) 2 ≡ None) × (upper_walk tables 512 6 (page + 1024) 3 ≡ Some (upper 8 true false true))
unfolding upper_from page_index is_missing is_present frame_of is_large grants_writes is_user grants_fetches page tables upper rights
missing_above = (refl, refl, refl, refl, refl, refl, refl, refl)

-- what is kept: both pages, and the four entries
kept : Translations
kept = record { pairs = (page, leaf 20 true true true) ∷ (beside, leaf 21 true true true) ∷ []; upper = fourth ∷ third ∷ second ∷ aside ∷ [] }

-- a page fault takes the page's entries of all levels, INVLPG all entries, and the event of the plan none
drops :
    (faulted kept page ≡ record { pairs = (beside, leaf 21 true true true) ∷ []; upper = aside ∷ [] }) ×
    (faulted kept beside ≡ record { pairs = (page, leaf 20 true true true) ∷ []; upper = second ∷ [] }) ×
    (invalidated kept page ≡ record { pairs = (beside, leaf 21 true true true) ∷ []; upper = [] }) ×
    (forgotten kept page ≡ record { pairs = (beside, leaf 21 true true true) ∷ []; upper = fourth ∷ third ∷ second ∷ aside ∷ [] })
unfolding span_of kept page beside fourth third second aside upper leaf rights
drops = (refl, refl, refl, refl)

-- one entry is forgotten by its level and the page's number there; one that is kept is the youngest, in place of an older one
changes :
    ((entry_forgotten kept 3 page).upper ≡ fourth ∷ second ∷ aside ∷ []) ×
    ((entry_forgotten kept 2 beside).upper ≡ fourth ∷ third ∷ second ∷ []) ×
    ((entry_kept kept 2 page (Some (upper 9 true true true))).upper ≡ fourth ∷ third ∷ aside ∷ (2, 263171, upper 9 true true true) ∷ []) ×
    ((entry_kept kept 3 beside (Some (upper 9 true true true))).upper ≡ fourth ∷ second ∷ aside ∷ (3, 514, upper 9 true true true) ∷ []) ×
    (entry_kept kept 4 page None ≡ kept)
unfolding with_entry upper_capacity span_of kept page beside fourth third second aside upper leaf rights
changes = (refl, refl, refl, refl, refl)

-- so many entries of level 2, from this number on
run : ℕ → ℕ → List KeptEntry
run from zero = []
run from (suc count) = (2, from, upper 9 true true true) ∷ run (from + 1) count

-- of 64 the oldest goes, and none where the entry is kept already
full :
    (with_entry (run 0 64) 2 32768 (upper 9 true true true) ≡ run 1 64) ×
    (with_entry (run 0 64) 2 512 (upper 8 true true true) ≡ (2, 0, upper 9 true true true) ∷ run 2 62 ++ (2, 1, upper 8 true true true) ∷ [])
unfolding with_entry upper_capacity span_of run upper rights
full = (refl, refl)

-- the access to byte 5 of the page, whose leaf is found below the entry of level 2 and is read-only: the supervisor's read
-- fills it, and a write with WP set faults, and takes the pair and the page's entries
view : View
view = record { entries = tables; frames = 512; root = 5; cpl = 0; wp = true; smep = true }

entries_alone : Translations
entries_alone = record { pairs = []; upper = fourth ∷ second ∷ aside ∷ [] }

accesses :
    (accessed view Read entries_alone 551909605381 1 ≡ record {
      answer = Ok (record { first = 86021; second = 0 });
      tlb = record { pairs = (page, leaf 21 false true true) ∷ []; upper = fourth ∷ second ∷ aside ∷ [] };
    }) ×
    (accessed view Write entries_alone 551909605381 1 ≡ record { answer = Err (Page 3 551909605381); tlb = record { pairs = []; upper = aside ∷ [] } })
unfolding accessed completed reached crosses has_canonical_bytes filled capacity walk_by walk walk_from page_index is_missing is_present frame_of is_large grants_writes is_user grants_fetches span_of view entries_alone page tables fourth second aside upper leaf rights
accesses = (refl, refl)
