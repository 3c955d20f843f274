-- The pairs of the places of a ring: of two rings in a row, with numbers modulo 2,048, after a change of a slot; and what a
-- look-up finds in them.
use Rattle.std.proofs.Common.{◌≡◌, ◌≢◌, ℕ, zero, suc, ◌+◌, ◌-◌, ◌%◌, ◌<◌, Bool, true, false, not, ◌&&◌, ◌==◌, List, [], ◌∷◌, ◌++◌, length, slice_get, slice_index_or, slice_set, nat_lt, Some, None, arith, refl, sym, ap, ap₂, subst, inl, inr, ◌∙◌, append_assoc}
use Rattle.std.specs.Prelude.{if◌then◌else◌}
use Rattle.std.proofs.lemmas.Bool.{eqb-true, eq-eqb, ne_eqb, lt-ltb, ltb-true, false≢true, and_parts, and_from, and_right, cases_eq, cases_lt, cond-true, cond-false, cond_both, false_from_ne_true}
use Rattle.std.proofs.lemmas.List.{get_or-set_same, get_or-set_other, get_or_past}
use Rattle.std.proofs.lemmas.List.Elements.{filter-append}
use Rattle.std.proofs.lemmas.Option.{none-some, same_Some}
use Rattle.nk_bits.specs.declared.leaf.Leaf.{Leaf}
use Rattle.nk_bits.specs.Translations.{Pairs, HasDistinctPages, look, dropped}
use Rattle.tlb_model.specs.declared.slot.Slot.{Slot}
use Rattle.tlb_model.specs.SlotBuckets.{empty_slot, is_kept, slot_at}
use Rattle.tlb_model.specs.TranslationTable.{stands, pairs_from}

-- a slot that stands at a place is kept, with the place's number, and one that is kept with that number stands there
pub stands_place : (g n : ℕ) (slot : Slot) → stands g n slot ≡ true → slot.place ≡ n % 2048
stands_place g n slot it = eqb-true slot.place (n % 2048) (and_parts (slot.generation == g) (slot.place == n % 2048) it).1

pub stands_kept : (g n : ℕ) (slot : Slot) → stands g n slot ≡ true → is_kept g slot ≡ true
stands_kept g n slot it =
    and_from (slot.generation == g) (nat_lt slot.place 2048) (and_parts (slot.generation == g) (slot.place == n % 2048) it).0
    (lt-ltb slot.place 2048 (omega (arith, stands_place g n slot it)))

pub kept_place : (g : ℕ) (slot : Slot) → is_kept g slot ≡ true → slot.place < 2048
kept_place g slot it = ltb-true slot.place 2048 (and_parts (slot.generation == g) (nat_lt slot.place 2048) it).1

pub kept_stands : (g n : ℕ) (slot : Slot) → is_kept g slot ≡ true → slot.place ≡ n % 2048 → stands g n slot ≡ true
kept_stands g n slot it place =
    and_from (slot.generation == g) (slot.place == n % 2048) (and_parts (slot.generation == g) (nat_lt slot.place 2048) it).0 (eq-eqb slot.place (n % 2048) place)

-- a slot stands nowhere but at its place
pub stale : (g n : ℕ) (slot : Slot) → slot.place ≢ n % 2048 → stands g n slot ≡ false
stale g n slot differ = and_right (slot.generation == g) (slot.place == n % 2048) (ne_eqb slot.place (n % 2048) differ)

-- the slots after a change of one
pub slot_changed : (slots : List Slot) (at : ℕ) (slot : Slot) → at < length slots → slot_at (slice_set slots at slot) at ≡ slot
slot_changed slots at slot within = get_or-set_same slots at slot empty_slot within

pub slot_left : (slots : List Slot) (at : ℕ) (slot : Slot) (other : ℕ) → other ≢ at → slot_at (slice_set slots at slot) other ≡ slot_at slots other
slot_left slots at slot other differ = get_or-set_other slots at other slot empty_slot differ

-- a slot that is kept is within
pub kept_within : (slots : List Slot) (g at : ℕ) → is_kept g (slot_at slots at) ≡ true → at < length slots
kept_within slots g at it = elim (cases_lt at (length slots)) [
  | inl below ↦ below
  | inr past ↦
      absurd (false≢true (and_parts (0 == g) (nat_lt 2048 2048) (subst (λ slot. is_kept g slot ≡ true) (get_or_past slots at empty_slot past) it)).1)
]

-- what one place stands for: its slot's pair, or nothing
abbrev pub told_by : List Slot → ℕ → ℕ → ℕ → Pairs
told_by slots g n at =
    let slot = slot_at slots at in
    if stands g n slot then (slot.page, slot.leaf) ∷ [] else []

pub pairs_told : (slots : List Slot) (g n at : ℕ) (ring : List ℕ) → pairs_from slots g n (at ∷ ring) ≡ told_by slots g n at ++ pairs_from slots g (n + 1) ring
pairs_told slots g n at ring = go (stands g n (slot_at slots at)) (pairs_from slots g (n + 1) ring)
  where
    go : (here : Bool) (rest : Pairs) → (if here then ((slot_at slots at).page, (slot_at slots at).leaf) ∷ rest else rest) ≡ (if here then ((slot_at slots at).page, (slot_at slots at).leaf) ∷ [] else []) ++ rest
    go true rest = refl
    go false rest = refl

pub told_standing : (slots : List Slot) (g n at : ℕ) → stands g n (slot_at slots at) ≡ true → told_by slots g n at ≡ ((slot_at slots at).page, (slot_at slots at).leaf) ∷ []
told_standing slots g n at it = cond-true _ _ _ it

pub told_stale : (slots : List Slot) (g n at : ℕ) → stands g n (slot_at slots at) ≡ false → told_by slots g n at ≡ []
told_stale slots g n at it = cond-false _ _ _ it

-- rings whose places stand for the same, one by one, stand for the same pairs
pub pairs_alike : (slots others : List Slot) (g n m : ℕ) (ring : List ℕ) →
    ((k at : ℕ) → slice_get ring k ≡ Some at → told_by others g (m + k) at ≡ told_by slots g (n + k) at) → pairs_from others g m ring ≡ pairs_from slots g n ring
pairs_alike slots others g n m [] same = refl
pairs_alike slots others g n m (at ∷ ring) same =
    let first : m ≡ m + 0 = omega arith in
    let last : n + 0 ≡ n = omega arith in
    pairs_told others g m at ring
    ∙ ap₂ (λ (here : Pairs) (rest : Pairs). here ++ rest)
    (ap (λ i. told_by others g i at) first ∙ same 0 at refl ∙ ap (λ i. told_by slots g i at) last)
    (pairs_alike slots others g (n + 1) (m + 1) ring (λ k it found.
    let before : m + 1 + k ≡ m + suc k = omega arith in
    let behind : n + suc k ≡ n + 1 + k = omega arith in
    ap (λ i. told_by others g i it) before ∙ same (suc k) it found ∙ ap (λ i. told_by slots g i it) behind))
    ∙ sym (pairs_told slots g n at ring)

-- numbers count modulo 2,048
pub told_round : (slots : List Slot) (g n m at : ℕ) → n % 2048 ≡ m % 2048 → told_by slots g n at ≡ told_by slots g m at
told_round slots g n m at same =
    ap (λ i. if (((slot_at slots at).generation == g) && ((slot_at slots at).place == i)) then ((slot_at slots at).page, (slot_at slots at).leaf) ∷ [] else []) same

pub pairs_round : (slots : List Slot) (g n m : ℕ) (ring : List ℕ) → n % 2048 ≡ m % 2048 → pairs_from slots g n ring ≡ pairs_from slots g m ring
pairs_round slots g n m ring same =
    pairs_alike slots slots g m n ring (λ k at found.
    let later : (n + k) % 2048 ≡ (m + k) % 2048 = omega (arith, same) in
    told_round slots g (n + k) (m + k) at later)

-- a ring behind another
pub pairs_append : (slots : List Slot) (g n : ℕ) (ring more : List ℕ) → pairs_from slots g n (ring ++ more) ≡ pairs_from slots g n ring ++ pairs_from slots g (n + length ring) more
pairs_append slots g n [] more =
    let same : n ≡ n + 0 = omega arith in
    ap (λ i. pairs_from slots g i more) same
pairs_append slots g n (at ∷ ring) more =
    let same : n + 1 + length ring ≡ n + suc (length ring) = omega arith in
    pairs_told slots g n at (ring ++ more)
    ∙ ap (λ rest. told_by slots g n at ++ rest) (pairs_append slots g (n + 1) ring more ∙ ap (λ i. pairs_from slots g (n + 1) ring ++ pairs_from slots g i more) same)
    ∙ sym (append_assoc (told_by slots g n at) (pairs_from slots g (n + 1) ring) (pairs_from slots g (n + suc (length ring)) more))
    ∙ ap (λ front. front ++ pairs_from slots g (n + suc (length ring)) more) (sym (pairs_told slots g n at ring))

-- a change of a slot that stands nowhere in the ring, before and after
pub pairs_same : (slots : List Slot) (at : ℕ) (slot : Slot) (g n : ℕ) (ring : List ℕ) → at < length slots →
    ((k : ℕ) → slice_get ring k ≡ Some at → stands g (n + k) (slot_at slots at) ≡ false) →
    ((k : ℕ) → slice_get ring k ≡ Some at → stands g (n + k) slot ≡ false) →
    pairs_from (slice_set slots at slot) g n ring ≡ pairs_from slots g n ring
pairs_same slots at slot g n ring within before behind = pairs_alike slots (slice_set slots at slot) g n n ring same
  where
    same : (k it : ℕ) → slice_get ring k ≡ Some it → told_by (slice_set slots at slot) g (n + k) it ≡ told_by slots g (n + k) it
    same k it found = elim (cases_eq it at) [
      | inl e ↦
          let here : slice_get ring k ≡ Some at = found ∙ ap (λ i. Some i) e in
          ap (λ i. told_by (slice_set slots at slot) g (n + k) i) e
          ∙ told_stale (slice_set slots at slot) g (n + k) at (ap (stands g (n + k)) (slot_changed slots at slot within) ∙ behind k here)
          ∙ sym (told_stale slots g (n + k) at (before k here)) ∙ ap (λ i. told_by slots g (n + k) i) (sym e)
      | inr differ ↦ ap (λ (other : Slot). if stands g (n + k) other then (other.page, other.leaf) ∷ [] else []) (slot_left slots at slot it differ)
    ]

-- the ring whose first place stands for a pair, or for nothing
pub pairs_here : (slots : List Slot) (g n at : ℕ) (ring : List ℕ) → stands g n (slot_at slots at) ≡ true →
    pairs_from slots g n (at ∷ ring) ≡ ((slot_at slots at).page, (slot_at slots at).leaf) ∷ pairs_from slots g (n + 1) ring
pairs_here slots g n at ring it = cond-true _ _ _ it

pub pairs_passed : (slots : List Slot) (g n at : ℕ) (ring : List ℕ) → stands g n (slot_at slots at) ≡ false → pairs_from slots g n (at ∷ ring) ≡ pairs_from slots g (n + 1) ring
pairs_passed slots g n at ring it = cond-false _ _ _ it

-- a list whose first pair is the page's, or another one's
pub look_first : (page own : ℕ) (leaf : Leaf) (rest : Pairs) → own ≡ page → look ((own, leaf) ∷ rest) page ≡ Some leaf
look_first page own leaf rest same = cond-true _ _ _ (eq-eqb own page same)

pub look_later : (page own : ℕ) (leaf : Leaf) (rest : Pairs) → own ≢ page → look ((own, leaf) ∷ rest) page ≡ look rest page
look_later page own leaf rest differ = cond-false _ _ _ (ne_eqb own page differ)

pub dropped_first : (page : ℕ) (pair : ℕ × Leaf) (rest : Pairs) → pair.0 ≡ page → dropped (pair ∷ rest) page ≡ dropped rest page
dropped_first page pair rest same = cond-false _ _ _ (ap not (eq-eqb pair.0 page same))

pub dropped_later : (page : ℕ) (pair : ℕ × Leaf) (rest : Pairs) → pair.0 ≢ page → dropped (pair ∷ rest) page ≡ pair ∷ dropped rest page
dropped_later page pair rest differ = cond-true _ _ _ (ap not (ne_eqb pair.0 page differ))

-- nothing is found of a page that no slot keeps
pub look_none : (slots : List Slot) (g n : ℕ) (ring : List ℕ) (page : ℕ) →
    ((at : ℕ) → is_kept g (slot_at slots at) ≡ true → (slot_at slots at).page ≢ page) → look (pairs_from slots g n ring) page ≡ None
look_none slots g n [] page none = refl
look_none slots g n (at ∷ ring) page none =
    cond_both (stands g n (slot_at slots at)) _ _ (λ pairs. look pairs page ≡ None)
    (λ it. look_later page (slot_at slots at).page (slot_at slots at).leaf _ (none at (stands_kept g n (slot_at slots at) it)) ∙ look_none slots g (n + 1) ring page none)
    (λ _. look_none slots g (n + 1) ring page none)

-- of the page of a slot that stands at its place the slot's leaf is found, where no other slot keeps the page
pub look_some : (slots : List Slot) (g n : ℕ) (ring : List ℕ) (k at : ℕ) → slice_get ring k ≡ Some at → stands g (n + k) (slot_at slots at) ≡ true →
    ((other : ℕ) → is_kept g (slot_at slots other) ≡ true → (slot_at slots other).page ≡ (slot_at slots at).page → other ≡ at) →
    look (pairs_from slots g n ring) (slot_at slots at).page ≡ Some (slot_at slots at).leaf
look_some slots g n [] k at found it alone = absurd (none-some at found)
look_some slots g n (first ∷ ring) zero at found it alone =
    let same : first ≡ at = same_Some first at found in
    let base : n + 0 ≡ n = omega arith in
    let here : stands g n (slot_at slots first) ≡ true = subst (λ i. stands g n (slot_at slots i) ≡ true) (sym same) (subst (λ i. stands g i (slot_at slots at) ≡ true) base it) in
    ap (λ pairs. look pairs (slot_at slots at).page) (pairs_here slots g n first ring here)
    ∙ look_first (slot_at slots at).page (slot_at slots first).page (slot_at slots first).leaf _ (ap (λ i. (slot_at slots i).page) same) ∙ ap (λ i. Some (slot_at slots i).leaf) same
look_some slots g n (first ∷ ring) (suc k) at found it alone =
    let next : n + suc k ≡ n + 1 + k = omega arith in
    let later = look_some slots g (n + 1) ring k at found (subst (λ i. stands g i (slot_at slots at) ≡ true) next it) alone in
    cond_both (stands g n (slot_at slots first)) _ _ (λ pairs. look pairs (slot_at slots at).page ≡ Some (slot_at slots at).leaf)
    (λ here. elim (cases_eq (slot_at slots first).page (slot_at slots at).page) [
      | inl same ↦ look_first (slot_at slots at).page (slot_at slots first).page (slot_at slots first).leaf _ same
          ∙ ap (λ i. Some (slot_at slots i).leaf) (alone first (stands_kept g n (slot_at slots first) here) same)
      | inr differ ↦ look_later (slot_at slots at).page (slot_at slots first).page (slot_at slots first).leaf _ differ ∙ later
    ])
    (λ _. later)

-- a slot that is kept stands where the table notes it
pub anchored_stands : (g front : ℕ) (slot : Slot) → is_kept g slot ≡ true → front < 2048 → stands g (front + (slot.place + 2048 - front) % 2048) slot ≡ true
anchored_stands g front slot it below = kept_stands g (front + (slot.place + 2048 - front) % 2048) slot it (omega (arith, below, kept_place g slot it))

pub look_anchored : (slots : List Slot) (g front : ℕ) (ring : List ℕ) (at : ℕ) → is_kept g (slot_at slots at) ≡ true → front < 2048 →
    slice_get ring (((slot_at slots at).place + 2048 - front) % 2048) ≡ Some at →
    ((other : ℕ) → is_kept g (slot_at slots other) ≡ true → (slot_at slots other).page ≡ (slot_at slots at).page → other ≡ at) →
    look (pairs_from slots g front ring) (slot_at slots at).page ≡ Some (slot_at slots at).leaf
look_anchored slots g front ring at it below found alone =
    look_some slots g front ring (((slot_at slots at).place + 2048 - front) % 2048) at found (anchored_stands g front (slot_at slots at) it below) alone

-- nothing is dropped where no pair is the page's, and one pair where pages are distinct and one is found
pub dropped_absent : (pairs : Pairs) (page : ℕ) → ((k : ℕ) (d : ℕ × Leaf) → k < length pairs → (slice_index_or pairs k d).0 ≢ page) → dropped pairs page ≡ pairs
dropped_absent [] page differ = refl
dropped_absent (pair ∷ pairs) page differ =
    dropped_later page pair pairs (differ 0 pair (omega arith))
    ∙ ap (λ rest. pair ∷ rest) (dropped_absent pairs page (λ k d below. differ (suc k) d (omega (arith, below))))

pub distinct_rest : (pair : ℕ × Leaf) (pairs : Pairs) → HasDistinctPages (pair ∷ pairs) → HasDistinctPages pairs
distinct_rest pair pairs distinct = λ i j d below within. distinct (suc i) (suc j) d (omega (arith, below)) (omega (arith, within))

pub distinct_first : (pair : ℕ × Leaf) (pairs : Pairs) → HasDistinctPages (pair ∷ pairs) → (k : ℕ) (d : ℕ × Leaf) → k < length pairs → (slice_index_or pairs k d).0 ≢ pair.0
distinct_first pair pairs distinct k d below same = distinct 0 (suc k) d (omega arith) (omega (arith, below)) (sym same)

-- the page of the first pair is dropped
pub dropped_head : (pair : ℕ × Leaf) (pairs : Pairs) (page : ℕ) → HasDistinctPages (pair ∷ pairs) → pair.0 ≡ page → dropped (pair ∷ pairs) page ≡ pairs
dropped_head pair pairs page distinct same =
    dropped_first page pair pairs same ∙ dropped_absent pairs page (λ k d below e. distinct_first pair pairs distinct k d below (e ∙ sym same))

pub length_dropped : (pairs : Pairs) (page : ℕ) (leaf : Leaf) → HasDistinctPages pairs → look pairs page ≡ Some leaf → length (dropped pairs page) + 1 ≡ length pairs
length_dropped [] page leaf distinct found = absurd (none-some leaf found)
length_dropped (pair ∷ pairs) page leaf distinct found = elim (cases_eq pair.0 page) [
  | inl same ↦
      let more : length pairs + 1 ≡ suc (length pairs) = omega arith in
      ap (λ (xs : Pairs). length xs + 1) (dropped_head pair pairs page distinct same) ∙ more
  | inr differ ↦
      let left : length (dropped pairs page) + 1 ≡ length pairs =
      length_dropped pairs page leaf (distinct_rest pair pairs distinct) (sym (look_later page pair.0 pair.1 pairs differ) ∙ found) in
      let more : suc (length (dropped pairs page)) + 1 ≡ suc (length pairs) = omega (arith, left) in
      ap (λ (xs : Pairs). length xs + 1) (dropped_later page pair pairs differ) ∙ more
]

-- a slot that keeps no more: its page's pair is dropped
pub pairs_dropped : (slots : List Slot) (at : ℕ) (slot : Slot) (g n : ℕ) (ring : List ℕ) → at < length slots → is_kept g slot ≡ false →
    ((other : ℕ) → is_kept g (slot_at slots other) ≡ true → (slot_at slots other).page ≡ (slot_at slots at).page → other ≡ at) →
    pairs_from (slice_set slots at slot) g n ring ≡ dropped (pairs_from slots g n ring) (slot_at slots at).page
pairs_dropped slots at slot g n [] within gone alone = refl
pairs_dropped slots at slot g n (first ∷ ring) within gone alone =
    pairs_told (slice_set slots at slot) g n first ring
    ∙ ap₂ (λ (here : Pairs) (rest : Pairs). here ++ rest) (elim (cases_eq first at) [ inl same ↦ own same | inr differ ↦ other differ ])
    (pairs_dropped slots at slot g (n + 1) ring within gone alone)
    ∙ sym (filter-append (λ pair. not (pair.0 == (slot_at slots at).page)) (told_by slots g n first) (pairs_from slots g (n + 1) ring))
    ∙ ap (λ pairs. dropped pairs (slot_at slots at).page) (sym (pairs_told slots g n first ring))
  where
    own : first ≡ at → told_by (slice_set slots at slot) g n first ≡ dropped (told_by slots g n first) (slot_at slots at).page
    own same =
        ap (λ i. told_by (slice_set slots at slot) g n i) same
        ∙ told_stale (slice_set slots at slot) g n at (ap (stands g n) (slot_changed slots at slot within)
        ∙ false_from_ne_true (stands g n slot) (λ it. false≢true (sym gone ∙ stands_kept g n slot it)))
        ∙ cond_both (stands g n (slot_at slots first)) _ _ (λ told. [] ≡ dropped told (slot_at slots at).page)
        (λ _. sym (dropped_first (slot_at slots at).page ((slot_at slots first).page, (slot_at slots first).leaf) [] (ap (λ i. (slot_at slots i).page) same))) (λ _. refl)

    other : first ≢ at → told_by (slice_set slots at slot) g n first ≡ dropped (told_by slots g n first) (slot_at slots at).page
    other differ =
        ap (λ (it : Slot). if stands g n it then (it.page, it.leaf) ∷ [] else []) (slot_left slots at slot first differ)
        ∙ cond_both (stands g n (slot_at slots first)) _ _ (λ told. told ≡ dropped told (slot_at slots at).page)
        (λ it. sym (dropped_later (slot_at slots at).page ((slot_at slots first).page, (slot_at slots first).leaf) []
        (λ same. differ (alone first (stands_kept g n (slot_at slots first) it) same)))) (λ _. refl)
