-- The translation of the ring's first place gets the place behind the last one: the table.
use Rattle.std.proofs.Common.{◌≡◌, ◌≢◌, ℕ, zero, suc, ◌+◌, ◌-◌, ◌%◌, ◌<◌, ◌≤◌, true, ◌==◌, List, [], ◌∷◌, ◌++◌, length, drop, slice_get, slice_set, nat_lt, Some, arith, refl, sym, ap, subst, inl, inr, ◌∙◌}
use Rattle.std.proofs.lemmas.Bool.{and_from, and_parts, cases_eq, lt-ltb}
use Rattle.std.proofs.lemmas.List.{length-append, length-drop}
use Rattle.std.proofs.lemmas.List.Elements.{All-drop, All-push}
use Rattle.std.proofs.lemmas.List.Quantifiers.{all_pairs_push}
use Rattle.std.proofs.lemmas.Option.{get_or_from_slice_get, none-some, same_Some, slice_get_within}
use Rattle.nk_bits.specs.Translations.{Pairs, HasDistinctPages}
use Rattle.tlb_model.specs.declared.slot.Slot.{Slot}
use Rattle.tlb_model.specs.declared.table.Table.{Table}
use Rattle.tlb_model.specs.SlotBuckets.{is_kept, slot_at}
use Rattle.tlb_model.specs.TranslationTable.{IsCleanedBy, IsTable, stands, pairs_from, pairs_of}
use Rattle.tlb_model.proofs.Ages.{distinct_first, distinct_rest, kept_place, kept_within, pairs_here, slot_changed, slot_left, stands_kept}
use Rattle.tlb_model.proofs.ChangedSlots.{chained_same}
use Rattle.tlb_model.proofs.Passed.{anchored_rest, ring_parts}
use Rattle.tlb_model.proofs.Renewed.{placed, renewed_behind, renewed_cleaned}

-- an element of the first of two lists, and the one behind it
get_front : (xs ys : List ℕ) (k x : ℕ) → slice_get xs k ≡ Some x → slice_get (xs ++ ys) k ≡ Some x
get_front [] ys k x found = absurd (none-some x found)
get_front (first ∷ xs) ys zero x found = found
get_front (first ∷ xs) ys (suc k) x found = get_front xs ys k x found

get_last : (xs : List ℕ) (x k : ℕ) → k ≡ length xs → slice_get (xs ++ x ∷ []) k ≡ Some x
get_last [] x k same = ap (slice_get (x ∷ [])) same
get_last (first ∷ xs) x k same = ap (slice_get (first ∷ (xs ++ x ∷ []))) same ∙ get_last xs x (length xs) refl

abbrev pub renewed : Table → ℕ → ℕ → Table
renewed t at place =
    record t {
      slots = slice_set t.slots at (placed (slot_at t.slots at) place);
      ages = record { items = drop 1 t.ages.items ++ at ∷ []; capacity = 2048 };
      front = (t.front + 1) % 2048;
    }

module _ (t : Table) (at place : ℕ) (it : IsTable t) (found : slice_get t.ages.items 0 ≡ Some at)
    (here : stands t.generation t.front (slot_at t.slots at) ≡ true) (place_is : place ≡ (t.front + 1 + length (drop 1 t.ages.items)) % 2048) where
  own_slot : Slot
  own_slot = slot_at t.slots at

  kept : is_kept t.generation (slot_at t.slots at) ≡ true
  kept = stands_kept t.generation t.front (slot_at t.slots at) here

  some : 0 < length t.ages.items
  some = slice_get_within t.ages.items 0 at found

  less : length (drop 1 t.ages.items) < 2048
  less = omega (arith, length-drop 1 t.ages.items, it.fits, some)

  changed_at : slot_at (slice_set t.slots at (placed (slot_at t.slots at) place)) at ≡ placed (slot_at t.slots at) place
  changed_at = slot_changed t.slots at (placed (slot_at t.slots at) place) (kept_within t.slots t.generation at kept)

  left_at : (own : ℕ) → own ≢ at → slot_at (slice_set t.slots at (placed (slot_at t.slots at) place)) own ≡ slot_at t.slots own
  left_at own differ = slot_left t.slots at (placed (slot_at t.slots at) place) own differ

  -- of a slot nothing changes but its place
  same_page : (own : ℕ) → (slot_at (slice_set t.slots at (placed (slot_at t.slots at) place)) own).page ≡ (slot_at t.slots own).page
  same_page own = elim (cases_eq own at) [
    | inl same ↦ ap (λ i. (slot_at (slice_set t.slots at (placed (slot_at t.slots at) place)) i).page) same ∙ ap (λ (slot : Slot). slot.page) changed_at
        ∙ ap (λ i. (slot_at t.slots i).page) (sym same)
    | inr differ ↦ ap (λ (slot : Slot). slot.page) (left_at own differ)
  ]

  same_generation : (own : ℕ) → (slot_at (slice_set t.slots at (placed (slot_at t.slots at) place)) own).generation ≡ (slot_at t.slots own).generation
  same_generation own = elim (cases_eq own at) [
    | inl same ↦ ap (λ i. (slot_at (slice_set t.slots at (placed (slot_at t.slots at) place)) i).generation) same ∙ ap (λ (slot : Slot). slot.generation) changed_at
        ∙ ap (λ i. (slot_at t.slots i).generation) (sym same)
    | inr differ ↦ ap (λ (slot : Slot). slot.generation) (left_at own differ)
  ]

  placed_kept : is_kept t.generation (placed (slot_at t.slots at) place) ≡ true
  placed_kept =
      and_from ((slot_at t.slots at).generation == t.generation) (nat_lt place 2048)
      (and_parts ((slot_at t.slots at).generation == t.generation) (nat_lt (slot_at t.slots at).place 2048) kept).0 (lt-ltb place 2048 (omega (arith, place_is)))

  same_kept : (own : ℕ) → is_kept t.generation (slot_at (slice_set t.slots at (placed (slot_at t.slots at) place)) own) ≡ is_kept t.generation (slot_at t.slots own)
  same_kept own = elim (cases_eq own at) [
    | inl same ↦ ap (λ i. is_kept t.generation (slot_at (slice_set t.slots at (placed (slot_at t.slots at) place)) i)) same ∙ ap (is_kept t.generation) changed_at
        ∙ placed_kept ∙ sym kept ∙ ap (λ i. is_kept t.generation (slot_at t.slots i)) (sym same)
    | inr differ ↦ ap (is_kept t.generation) (left_at own differ)
  ]

  away : (own : ℕ) → own ≢ at → is_kept t.generation (slot_at t.slots own) ≡ true → (slot_at t.slots own).place ≢ t.front
  away own differ keeps same =
      let first : ((slot_at t.slots own).place + 2048 - t.front) % 2048 ≡ 0 = omega (arith, same, it.front) in
      differ (same_Some own at (sym (it.anchored own keeps) ∙ ap (slice_get t.ages.items) first ∙ found))

  anchored : (own : ℕ) → is_kept t.generation (slot_at (renewed t at place).slots own) ≡ true →
      slice_get (renewed t at place).ages.items (((slot_at (renewed t at place).slots own).place + 2048 - (t.front + 1) % 2048) % 2048) ≡ Some own
  anchored own keeps = elim (cases_eq own at) [
    | inl same ↦
        let last : (place + 2048 - (t.front + 1) % 2048) % 2048 ≡ length (drop 1 t.ages.items) = omega (arith, place_is, less, it.front) in
        let slot_is : slot_at (renewed t at place).slots own ≡ placed (slot_at t.slots at) place = ap (slot_at (renewed t at place).slots) same ∙ changed_at in
        ap (λ (slot : Slot). slice_get (renewed t at place).ages.items ((slot.place + 2048 - (t.front + 1) % 2048) % 2048)) slot_is
        ∙ get_last (drop 1 t.ages.items) at ((place + 2048 - (t.front + 1) % 2048) % 2048) last ∙ ap (λ i. Some i) (sym same)
    | inr differ ↦
        let kept_before : is_kept t.generation (slot_at t.slots own) ≡ true = sym (same_kept own) ∙ keeps in
        ap (λ (slot : Slot). slice_get (renewed t at place).ages.items ((slot.place + 2048 - (t.front + 1) % 2048) % 2048)) (left_at own differ)
        ∙ get_front (drop 1 t.ages.items) (at ∷ []) (((slot_at t.slots own).place + 2048 - (t.front + 1) % 2048) % 2048) own
        (anchored_rest t.ages.items t.front (slot_at t.slots own).place own it.front (kept_place t.generation (slot_at t.slots own) kept_before) (it.anchored own kept_before)
        (away own differ kept_before))
  ]

  -- the pair goes from the front of the list to its end
  abbrev behind : Pairs
  behind = pairs_from t.slots t.generation (t.front + 1) (drop 1 t.ages.items)

  pairs_before : pairs_of t ≡ ((slot_at t.slots at).page, (slot_at t.slots at).leaf) ∷ behind
  pairs_before = ap (pairs_from t.slots t.generation t.front) (ring_parts t.ages.items at found) ∙ pairs_here t.slots t.generation t.front at (drop 1 t.ages.items) here

  pairs_after : pairs_of (renewed t at place) ≡ behind ++ ((slot_at t.slots at).page, (slot_at t.slots at).leaf) ∷ []
  pairs_after =
      let base : (t.front + 1) % 2048 ≡ (t.front + 1) % 2048 + 0 = omega arith in
      let bare : t.front + 1 + 0 ≡ t.front + 1 = omega arith in
      ap (λ n. pairs_from (renewed t at place).slots t.generation n (drop 1 t.ages.items ++ at ∷ [])) base
      ∙ renewed_behind t.slots t.generation t.front at (drop 1 t.ages.items) place it.front less here place_is 0 (omega arith)
      ∙ ap (λ n. pairs_from t.slots t.generation n (drop 1 t.ages.items) ++ ((slot_at t.slots at).page, (slot_at t.slots at).leaf) ∷ []) bare

  distinct_before : HasDistinctPages (((slot_at t.slots at).page, (slot_at t.slots at).leaf) ∷ behind)
  distinct_before = subst HasDistinctPages pairs_before it.distinct

  pub renewed_table : IsTable (renewed t at place)
  renewed_table =
      record {
        anchored = anchored;
        apart = λ one other keeps also same.
            it.apart one other (sym (same_kept one) ∙ keeps) (sym (same_kept other) ∙ also) (sym (same_page one) ∙ same ∙ same_page other);
        chained = chained_same t.generation t.slots (renewed t at place).slots t.chains.firsts t.chains.nexts it.chained same_kept same_page;
        older = λ own. subst (λ n. n ≤ t.generation) (sym (same_generation own)) (it.older own);
        room = refl;
        fits = omega (arith, length-append (drop 1 t.ages.items) (at ∷ []), less);
        named = All-push (λ i. i < 1024) (drop 1 t.ages.items) at (All-drop (λ i. i < 1024) 1 t.ages.items it.named)
            (subst (λ i. i < 1024) (get_or_from_slice_get t.ages.items 0 at 0 found) (it.named 0 0 some));
        front = omega arith;
        ordered = it.ordered;
        taken = λ own below. same_kept own ∙ it.taken own below;
        listed =
            let size : length (pairs_of t) ≡ suc (length behind) = ap length pairs_before in
            let count : t.order.count ≡ length (behind ++ ((slot_at t.slots at).page, (slot_at t.slots at).leaf) ∷ []) =
            omega (arith, it.listed, size, length-append behind (((slot_at t.slots at).page, (slot_at t.slots at).leaf) ∷ [])) in
            count ∙ ap length (sym pairs_after);
        distinct = subst HasDistinctPages (sym pairs_after)
            (all_pairs_push (λ one other. one.0 ≢ other.0) behind ((slot_at t.slots at).page, (slot_at t.slots at).leaf)
            (distinct_rest ((slot_at t.slots at).page, (slot_at t.slots at).leaf) behind distinct_before)
            (distinct_first ((slot_at t.slots at).page, (slot_at t.slots at).leaf) behind distinct_before));
      }

  pub cleaned_renewed : (left : ℕ) (pairs : Pairs) → IsCleanedBy t.slots t.generation t.front t.ages.items (left + 1) pairs →
      IsCleanedBy (renewed t at place).slots t.generation ((t.front + 1) % 2048) (drop 1 t.ages.items ++ at ∷ []) left pairs
  cleaned_renewed left pairs cleaned =
      renewed_cleaned t.slots t.generation t.front at (drop 1 t.ages.items) place it.front less here place_is left pairs
      (subst (λ ring. IsCleanedBy t.slots t.generation t.front ring (left + 1) pairs) (ring_parts t.ages.items at found) cleaned)
