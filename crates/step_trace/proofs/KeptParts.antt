-- Look-ups in what is kept of walks, and the changes of it, place by place.
use Rattle.std.proofs.Common.{◌≡◌, ℕ, zero, suc, ◌+◌, ◌<◌, ◌≤◌, Bool, true, false, List, [], ◌∷◌, ◌++◌, drop, length, slice_index_or, nat_lt, Option, Some, is_none, sym, ap, ◌∙◌, refl, arith}
use Rattle.std.specs.Prelude.{◌==◌, ◌||◌, ◌&&◌, not, if◌then◌else◌}
use Rattle.std.proofs.lemmas.Bool.{le-ltb, lt-ltb}
use Rattle.std.proofs.lemmas.List.{drop_all, drop_more}
use Rattle.std.proofs.Math.Bool.{or-true}
use Rattle.nk_bits.specs.declared.leaf.Leaf.{Leaf}
use Rattle.nk_bits.specs.Translations.{Pairs, look}
use Rattle.nk_bits.specs.UpperEntries.{KeptEntry}
use Rattle.step_trace.specs.StepChanges.{Change, Dropped, Filled, Forgotten, Kept, drops, fills, forgets, has_entry, has_pair, has_span, keeps, same_entry, same_pair, where_so}
use Rattle.step_trace.specs.StepTexts.{changes_text}
use Rattle.step_trace.proofs.ChangeTexts.{changes_behind, four_changes}

-- a pair at a place of the list is one of it
pair_at : (pair : ℕ × Leaf) (pairs : Pairs) (i : ℕ) (d : ℕ × Leaf) → i < length pairs
    → same_pair pair (slice_index_or pairs i d) ≡ true → has_pair pair pairs ≡ true
pair_at pair [] i d inside same = absurd (omega arith)
pair_at pair (other ∷ pairs) zero d inside same = ap (λ b. b || has_pair pair pairs) same
pair_at pair (other ∷ pairs) (suc i) d inside same =
    ap (λ b. same_pair pair other || b) (pair_at pair pairs i d (omega arith) same) ∙ or-true (same_pair pair other)

pub pair_found : (pair : ℕ × Leaf) (pairs : Pairs) (i : ℕ) (d : ℕ × Leaf) → i < length pairs
    → same_pair pair (slice_index_or pairs i d) ≡ true → nat_lt i (length pairs) ≡ has_pair pair pairs
pair_found pair pairs i d inside same =
    lt-ltb i (length pairs) inside ∙ sym (pair_at pair pairs i d inside same)

-- an entry at a place of the list is one of it
pub entry_at : (entry : KeptEntry) (upper : List KeptEntry) (i : ℕ) (d : KeptEntry) → i < length upper
    → same_entry entry (slice_index_or upper i d) ≡ true → has_entry entry upper ≡ true
entry_at entry [] i d inside same = absurd (omega arith)
entry_at entry (other ∷ upper) zero d inside same = ap (λ b. b || has_entry entry upper) same
entry_at entry (other ∷ upper) (suc i) d inside same =
    ap (λ b. same_entry entry other || b) (entry_at entry upper i d (omega arith) same)
    ∙ or-true (same_entry entry other)

-- and one of its level and pages
pub span_at : (entry : KeptEntry) (upper : List KeptEntry) (i : ℕ) (d : KeptEntry) → i < length upper
    → (entry.0 == (slice_index_or upper i d).0 && entry.1 == (slice_index_or upper i d).1) ≡ true
    → has_span entry upper ≡ true
span_at entry [] i d inside same = absurd (omega arith)
span_at entry (other ∷ upper) zero d inside same = ap (λ b. b || has_span entry upper) same
span_at entry (other ∷ upper) (suc i) d inside same =
    ap (λ b. (entry.0 == other.0 && entry.1 == other.1) || b) (span_at entry upper i d (omega arith) same)
    ∙ or-true (entry.0 == other.0 && entry.1 == other.1)

-- what is found behind is found
none_behind : (b : Bool) (leaf : Leaf) (rest : Option Leaf) → is_none rest ≡ false
    → is_none (if b then Some leaf else rest) ≡ false
none_behind true leaf rest found = refl
none_behind false leaf rest found = found

-- a page at a place of the list has a translation
page_at : (page : ℕ) (pairs : Pairs) (i : ℕ) (d : ℕ × Leaf) → i < length pairs
    → ((slice_index_or pairs i d).0 == page) ≡ true → is_none (look pairs page) ≡ false
page_at page [] i d inside same = absurd (omega arith)
page_at page (other ∷ pairs) zero d inside same =
    ap (λ b. is_none (if b then Some other.1 else look pairs page)) same
page_at page (other ∷ pairs) (suc i) d inside same =
    none_behind (other.0 == page) other.1 (look pairs page) (page_at page pairs i d (omega arith) same)

pub page_found : (page : ℕ) (pairs : Pairs) (i : ℕ) (d : ℕ × Leaf) → i < length pairs
    → ((slice_index_or pairs i d).0 == page) ≡ true → not (nat_lt i (length pairs)) ≡ is_none (look pairs page)
page_found page pairs i d inside same =
    ap not (lt-ltb i (length pairs) inside) ∙ sym (page_at page pairs i d inside same)

-- one that isn't at a place is behind it, if it is there
pub pair_behind : (pair : ℕ × Leaf) (pairs : Pairs) (i : ℕ) (d : ℕ × Leaf) → i < length pairs
    → same_pair pair (slice_index_or pairs i d) ≡ false
    → has_pair pair (drop i pairs) ≡ has_pair pair (drop (i + 1) pairs)
pair_behind pair pairs i d inside other =
    ap (has_pair pair) (drop_more pairs i d inside) ∙ ap (λ b. b || has_pair pair (drop (i + 1) pairs)) other

pub page_behind : (page : ℕ) (pairs : Pairs) (i : ℕ) (d : ℕ × Leaf) → i < length pairs
    → ((slice_index_or pairs i d).0 == page) ≡ false
    → is_none (look (drop i pairs) page) ≡ is_none (look (drop (i + 1) pairs) page)
page_behind page pairs i d inside other =
    ap (λ l. is_none (look l page)) (drop_more pairs i d inside)
    ∙ ap (λ b. is_none (if b then Some (slice_index_or pairs i d).1 else look (drop (i + 1) pairs) page)) other

pub entry_behind : (entry : KeptEntry) (upper : List KeptEntry) (i : ℕ) (d : KeptEntry) → i < length upper
    → same_entry entry (slice_index_or upper i d) ≡ false
    → has_entry entry (drop i upper) ≡ has_entry entry (drop (i + 1) upper)
entry_behind entry upper i d inside other =
    ap (has_entry entry) (drop_more upper i d inside) ∙ ap (λ b. b || has_entry entry (drop (i + 1) upper)) other

pub span_behind : (entry : KeptEntry) (upper : List KeptEntry) (i : ℕ) (d : KeptEntry) → i < length upper
    → (entry.0 == (slice_index_or upper i d).0 && entry.1 == (slice_index_or upper i d).1) ≡ false
    → has_span entry (drop i upper) ≡ has_span entry (drop (i + 1) upper)
span_behind entry upper i d inside other =
    ap (has_span entry) (drop_more upper i d inside) ∙ ap (λ b. b || has_span entry (drop (i + 1) upper)) other

-- and at the end none is
pub no_pair : (pair : ℕ × Leaf) (pairs : Pairs) (i : ℕ) → length pairs ≤ i
    → has_pair pair pairs ≡ has_pair pair (drop i pairs)
    → nat_lt (length pairs) (length pairs) ≡ has_pair pair pairs
no_pair pair pairs i past left =
    le-ltb (length pairs) (length pairs) (omega arith) ∙ sym (left ∙ ap (has_pair pair) (drop_all i pairs past))

pub no_page : (page : ℕ) (pairs : Pairs) (i : ℕ) → length pairs ≤ i
    → is_none (look pairs page) ≡ is_none (look (drop i pairs) page)
    → not (nat_lt (length pairs) (length pairs)) ≡ is_none (look pairs page)
no_page page pairs i past left =
    ap not (le-ltb (length pairs) (length pairs) (omega arith))
    ∙ sym (left ∙ ap (λ l. is_none (look l page)) (drop_all i pairs past))

pub no_entry : (entry : KeptEntry) (upper : List KeptEntry) (i : ℕ) → length upper ≤ i
    → has_entry entry upper ≡ has_entry entry (drop i upper) → has_entry entry upper ≡ false
no_entry entry upper i past left = left ∙ ap (has_entry entry) (drop_all i upper past)

pub no_span : (entry : KeptEntry) (upper : List KeptEntry) (i : ℕ) → length upper ≤ i
    → has_span entry upper ≡ has_span entry (drop i upper) → has_span entry upper ≡ false
no_span entry upper i past left = left ∙ ap (has_span entry) (drop_all i upper past)

-- what became of the element at a place
abbrev one_fill : Pairs → Pairs → ℕ → ℕ × Leaf → List Change
one_fill before after i d =
    where_so (not (has_pair (slice_index_or after i d) before))
    (Filled (slice_index_or after i d).0 (slice_index_or after i d).1)

abbrev one_drop : Pairs → Pairs → ℕ → ℕ × Leaf → List Change
one_drop before after i d =
    where_so (is_none (look after (slice_index_or before i d).0)) (Dropped (slice_index_or before i d).0)

abbrev one_keep : List KeptEntry → List KeptEntry → ℕ → KeptEntry → List Change
one_keep before after i d =
    where_so (not (has_entry (slice_index_or after i d) before))
    (Kept (slice_index_or after i d).0 (slice_index_or after i d).1 (slice_index_or after i d).2)

abbrev one_forget : List KeptEntry → List KeptEntry → ℕ → KeptEntry → List Change
one_forget before after i d =
    where_so (not (has_span (slice_index_or before i d) after))
    (Forgotten (slice_index_or before i d).0 (slice_index_or before i d).1)

-- the changes from a place on begin with the one of that place
pub fill_first : (before after : Pairs) (i : ℕ) (d : ℕ × Leaf) → i < length after
    → changes_text (fills before (drop i after))
    ≡ changes_text (one_fill before after i d) ++ changes_text (fills before (drop (i + 1) after))
fill_first before after i d inside =
    ap (λ l. changes_text (fills before l)) (drop_more after i d inside)
    ∙ changes_behind (one_fill before after i d) (fills before (drop (i + 1) after))

pub drop_first : (before after : Pairs) (i : ℕ) (d : ℕ × Leaf) → i < length before
    → changes_text (drops (drop i before) after)
    ≡ changes_text (one_drop before after i d) ++ changes_text (drops (drop (i + 1) before) after)
drop_first before after i d inside =
    ap (λ l. changes_text (drops l after)) (drop_more before i d inside)
    ∙ changes_behind (one_drop before after i d) (drops (drop (i + 1) before) after)

pub keep_first : (before after : List KeptEntry) (i : ℕ) (d : KeptEntry) → i < length after
    → changes_text (keeps before (drop i after))
    ≡ changes_text (one_keep before after i d) ++ changes_text (keeps before (drop (i + 1) after))
keep_first before after i d inside =
    ap (λ l. changes_text (keeps before l)) (drop_more after i d inside)
    ∙ changes_behind (one_keep before after i d) (keeps before (drop (i + 1) after))

pub forget_first : (before after : List KeptEntry) (i : ℕ) (d : KeptEntry) → i < length before
    → changes_text (forgets (drop i before) after)
    ≡ changes_text (one_forget before after i d) ++ changes_text (forgets (drop (i + 1) before) after)
forget_first before after i d inside =
    ap (λ l. changes_text (forgets l after)) (drop_more before i d inside)
    ∙ changes_behind (one_forget before after i d) (forgets (drop (i + 1) before) after)

-- and at the end are none
pub no_fill : (before after : Pairs) (i : ℕ) → length after ≤ i → changes_text (fills before (drop i after)) ≡ []
no_fill before after i past = ap (λ l. changes_text (fills before l)) (drop_all i after past)

pub no_drop : (before after : Pairs) (i : ℕ) → length before ≤ i → changes_text (drops (drop i before) after) ≡ []
no_drop before after i past = ap (λ l. changes_text (drops l after)) (drop_all i before past)

pub no_keep : (before after : List KeptEntry) (i : ℕ) → length after ≤ i
    → changes_text (keeps before (drop i after)) ≡ []
no_keep before after i past = ap (λ l. changes_text (keeps before l)) (drop_all i after past)

pub no_forget : (before after : List KeptEntry) (i : ℕ) → length before ≤ i
    → changes_text (forgets (drop i before) after) ≡ []
no_forget before after i past = ap (λ l. changes_text (forgets l after)) (drop_all i before past)

-- a change that is told where it is so
pub told_so : (now next : List ℕ) (change : Change) (a b : Bool) → next ≡ now ++ changes_text (where_so a change)
    → a ≡ b → next ≡ now ++ changes_text (where_so b change)
told_so now next change a b put same = put ∙ ap (λ so. now ++ changes_text (where_so so change)) same

-- all changes, of lists that are these
pub kept_changes : (now mid next : List ℕ) (before after b a : Pairs) (upper later u l : List KeptEntry)
    → b ≡ before → a ≡ after → u ≡ upper → l ≡ later
    → mid ≡ now ++ changes_text (fills b a ++ drops b a) → next ≡ mid ++ changes_text (keeps u l ++ forgets u l)
    → next ≡ now ++ changes_text (fills before after
    ++ (drops before after ++ (keeps upper later ++ forgets upper later)))
kept_changes now mid next before after b a upper later u l is_before is_after is_upper is_later first second =
    four_changes now mid next (fills b a) (drops b a) (keeps u l) (forgets u l) first second
    ∙ ap (λ p. now ++ changes_text (fills p a ++ (drops p a ++ (keeps u l ++ forgets u l)))) is_before
    ∙ ap (λ p. now ++ changes_text (fills before p ++ (drops before p ++ (keeps u l ++ forgets u l)))) is_after
    ∙ ap (λ p. now ++ changes_text (fills before after ++ (drops before after ++ (keeps p l ++ forgets p l)))) is_upper
    ∙ ap (λ p. now ++ changes_text (fills before after ++ (drops before after ++ (keeps upper p ++ forgets upper p))))
    is_later
