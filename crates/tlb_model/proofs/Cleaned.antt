-- The ring is cleaned turn by turn; and the oldest of its pairs goes.
use Rattle.std.proofs.Common.{◌≡◌, ℕ, ◌+◌, ◌-◌, ◌<◌, true, List, [], ◌∷◌, append-nil, length, drop, slice_get, Some, arith, refl, sym, ap, subst, ◌∙◌}
use Rattle.nk_bits.specs.declared.leaf.Leaf.{Leaf}
use Rattle.nk_bits.specs.Translations.{Pairs, HasDistinctPages, capacity, dropped}
use Rattle.tlb_model.specs.declared.slot.Slot.{Slot}
use Rattle.tlb_model.specs.declared.order.Order.{Order}
use Rattle.tlb_model.specs.declared.table.Table.{Table}
use Rattle.tlb_model.specs.SlotBuckets.{slot_at}
use Rattle.tlb_model.specs.TranslationTable.{IsCleanedBy, IsTable, stands, pairs_from, pairs_of}
use Rattle.tlb_model.proofs.Ages.{dropped_head, pairs_here}
use Rattle.tlb_model.proofs.Passed.{ring_parts}

-- no place is left to be looked at
cleaned_number : (front : ℕ) → front + 0 ≡ front
cleaned_number front = omega arith

pub cleaned_pairs : (slots : List Slot) (g front : ℕ) (ring : List ℕ) (pairs : Pairs) → IsCleanedBy slots g front ring 0 pairs → pairs_from slots g front ring ≡ pairs
cleaned_pairs slots g front ring pairs it =
    ap (λ n. pairs_from slots g n ring) (sym (cleaned_number front)) ∙ sym (append-nil (pairs_from slots g (front + 0) ring)) ∙ it.told

pub cleaned_length : (slots : List Slot) (g front : ℕ) (ring : List ℕ) (pairs : Pairs) → IsCleanedBy slots g front ring 0 pairs → length ring ≡ length pairs
cleaned_length slots g front ring pairs it =
    let all : length ring ≡ length ring - 0 = omega arith in
    all ∙ sym it.clean ∙ ap (λ n. length (pairs_from slots g n ring)) (cleaned_number front) ∙ ap length (cleaned_pairs slots g front ring pairs it)

-- a ring that stands for a pair has a place
some_place : (slots : List Slot) (g n : ℕ) (ring : List ℕ) → 0 < length (pairs_from slots g n ring) → 0 < length ring
some_place slots g n [] some = some
some_place slots g n (at ∷ ring) some = omega arith

pub some_age : (t : Table) (order : Order) → IsTable t → t.order ≡ order → 0 < order.count → 0 < length t.ages.items
some_age t order it same some =
    some_place t.slots t.generation t.front t.ages.items (subst (λ n. 0 < n) (ap (λ (o : Order). o.count) (sym same) ∙ it.listed) some)

-- the page of the ring's first place is that of the oldest pair
pub oldest_dropped : (t : Table) (at : ℕ) → IsTable t → slice_get t.ages.items 0 ≡ Some at → stands t.generation t.front (slot_at t.slots at) ≡ true →
    dropped (pairs_of t) (slot_at t.slots at).page ≡ drop 1 (pairs_of t)
oldest_dropped t at it found here =
    let pair : ℕ × Leaf = ((slot_at t.slots at).page, (slot_at t.slots at).leaf) in
    let rest : Pairs = pairs_from t.slots t.generation (t.front + 1) (drop 1 t.ages.items) in
    let pairs_are : pairs_of t ≡ pair ∷ rest =
    ap (pairs_from t.slots t.generation t.front) (ring_parts t.ages.items at found) ∙ pairs_here t.slots t.generation t.front at (drop 1 t.ages.items) here in
    ap (λ pairs. dropped pairs (slot_at t.slots at).page) pairs_are
    ∙ dropped_head pair rest (slot_at t.slots at).page (subst HasDistinctPages pairs_are it.distinct) refl
    ∙ ap (drop 1) (sym pairs_are)

-- how many pairs go where as many are kept as there is room for, and where fewer are
pub full_excess : (count : ℕ) → count ≡ 1024 → count + 1 - capacity ≡ 1
unfolding capacity
full_excess count full = omega (arith, full)

pub no_excess : (count : ℕ) → count < 1024 → count + 1 - capacity ≡ 0
unfolding capacity
no_excess count room = omega (arith, room)
