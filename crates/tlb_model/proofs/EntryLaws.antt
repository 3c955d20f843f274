-- No more upper entries are kept than there is room for, and no two have one level and the same pages.
use Rattle.std.proofs.Common.{◌≡◌, ◌≢◌, ℕ, ◌+◌, ◌-◌, ◌≤◌, Bool, true, false, not, ◌&&◌, ◌||◌, ◌==◌, List, [], ◌∷◌, ◌++◌, length, drop, arith, refl, sym, ap, ◌∙◌}
use Rattle.std.specs.Prelude.{Some, cond, if◌then◌else◌, filter}
use Rattle.std.specs.List.{find}
use Rattle.std.specs.Option.{option_map}
use Rattle.std.proofs.lemmas.List.Elements.{filter_passes, All-weaker}
use Rattle.std.proofs.lemmas.Bool.{eq-eqb, false≢true}
use Rattle.std.proofs.lemmas.List.Quantifiers.{all_pairs_push}
use Rattle.std.proofs.lemmas.List.Kept.{AllPairs-filter}
use Rattle.nk_bits.specs.declared.leaf.Upper.{Upper}
use Rattle.nk_bits.specs.UpperEntries.{KeptEntry, upper_capacity, span_of, is_for, kept_for, without, with_entry, HasDistinctEntries}
use Rattle.tlb_model.proofs.Youngest.{fits, made, pairs_left}

-- the entry has this level and this number
abbrev pub has : ℕ → ℕ → KeptEntry → Bool
has level bits entry = (entry.0 == level) && (entry.1 == bits)

-- the entry has one of these numbers, at its level
abbrev pub serves : ℕ → ℕ → ℕ → KeptEntry → Bool
serves second third fourth entry = has 2 second entry || has 3 third entry || has 4 fourth entry

-- what is kept for a page is what the first entry of its level and its number names
pub kept_find : (upper : List KeptEntry) (level page : ℕ) → kept_for upper level page ≡ option_map (λ entry. entry.2) (find (has level (span_of level page)) upper)
kept_find [] level page = refl
kept_find (entry ∷ upper) level page = go (is_for level page entry) (kept_find upper level page)
  where
    go : (here : Bool) → kept_for upper level page ≡ option_map (λ entry. entry.2) (find (has level (span_of level page)) upper) →
        (if here then Some entry.2 else kept_for upper level page) ≡ option_map (λ entry. entry.2) (cond here (Some entry) (find (has level (span_of level page)) upper))
    go true later = refl
    go false later = later

-- no more is kept than fits
pub length-with_entry : (upper : List KeptEntry) (level page : ℕ) (it : Upper) → length (with_entry upper level page it) ≤ upper_capacity
unfolding with_entry
length-with_entry upper level page it = fits upper_capacity (without upper level page ++ (level, span_of level page, it) ∷ [])

-- entries go on being distinct
pub distinct_left : (test : KeptEntry → Bool) (upper : List KeptEntry) → HasDistinctEntries upper → HasDistinctEntries (filter test upper)
distinct_left test upper distinct = AllPairs-filter (λ one other. one.0 ≡ other.0 → one.1 ≢ other.1) test upper distinct

pub distinct_with_entry : (upper : List KeptEntry) (level page : ℕ) (it : Upper) → HasDistinctEntries upper → HasDistinctEntries (with_entry upper level page it)
unfolding with_entry
distinct_with_entry upper level page it distinct =
    pairs_left (λ one other. one.0 ≡ other.0 → one.1 ≢ other.1) _ (without upper level page ++ (level, span_of level page, it) ∷ [])
    (all_pairs_push (λ one other. one.0 ≡ other.0 → one.1 ≢ other.1) (without upper level page) (level, span_of level page, it) (distinct_left (λ entry. not (is_for level page entry)) upper distinct)
    (All-weaker (λ entry. not (is_for level page entry) ≡ true) (λ entry. entry.0 ≡ level → entry.1 ≢ span_of level page) apart (without upper level page)
    (filter_passes (λ entry. not (is_for level page entry)) upper)))
  where
    apart : (entry : KeptEntry) → not (is_for level page entry) ≡ true → entry.0 ≡ level → entry.1 ≢ span_of level page
    apart entry passes same_level same_bits =
        absurd (false≢true (sym (ap not (ap (λ here. here && (entry.1 == span_of level page)) (eq-eqb entry.0 level same_level) ∙ eq-eqb entry.1 (span_of level page) same_bits)) ∙ passes))

-- the list that was cut to leave room for an entry, and then the entry
pub entry_made : (upper left : List KeptEntry) (level page bits : ℕ) (it : Upper) → left ≡ without upper level page → bits ≡ span_of level page → length left ≤ upper_capacity →
    drop (length left + 1 - upper_capacity) left ++ (level, bits, it) ∷ [] ≡ with_entry upper level page it
unfolding with_entry upper_capacity
entry_made upper left level page bits it left_is bits_is room =
    made upper_capacity left (level, bits, it) room (omega arith)
    ∙ ap (λ b. drop (length (left ++ (level, b, it) ∷ []) - upper_capacity) (left ++ (level, b, it) ∷ [])) bits_is
    ∙ ap (λ xs. drop (length (xs ++ (level, span_of level page, it) ∷ []) - upper_capacity) (xs ++ (level, span_of level page, it) ∷ [])) left_is
