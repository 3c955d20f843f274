-- What is no table of translations, and none of its parts. Each lemma is named by what it refuses.
use Rattle.std.proofs.Common.{◌≡◌, ◌≢◌, ℕ, ◌+◌, ◌-◌, ◌%◌, ◌<◌, ◌≤◌, Bool, true, false, true≢false, List, ◌++◌, length, sym, ap, ◌∙◌, arith}
use Rattle.std.specs.Prelude.{None, drop, slice_get, slice_index, take}
use Rattle.std.proofs.lemmas.Bool.{false≢true}
use Rattle.std.proofs.lemmas.Option.{none-some}
use Rattle.nk_bits.specs.Translations.{Pairs}
use Rattle.tlb_model.specs.declared.order.Order.{Order}
use Rattle.tlb_model.specs.declared.slot.Slot.{Slot}
use Rattle.tlb_model.specs.declared.table.Table.{Table}
use Rattle.tlb_model.specs.SlotBuckets.{IsChained, IsLeast, first_of, is_kept, is_member, slot_at}
use Rattle.tlb_model.specs.SlotOrder.{IsOrder, is_slot_used}
use Rattle.tlb_model.specs.TranslationTable.{IsCleanedBy, IsTable, pairs_from, pairs_of}

module _ (test : ℕ → Bool) (from found : ℕ) (is : IsLeast test from found) where
  a_number_before_is_not_the_least : found < from → ⊥
  a_number_before_is_not_the_least before = let above = is.above in omega (arith, before, above)

  a_number_past_1024_is_not_the_least : 1024 < found → ⊥
  a_number_past_1024_is_not_the_least past = let most = is.most in omega (arith, past, most)

  a_number_that_fails_is_not_the_least : found < 1024 → test found ≡ false → ⊥
  a_number_that_fails_is_not_the_least below fails = false≢true (sym fails ∙ is.is below)

  a_lower_number_that_passes_is_not_passed_over : (k : ℕ) → from ≤ k → k < found → test k ≡ true → ⊥
  a_lower_number_that_passes_is_not_passed_over k low below passes = false≢true (sym (is.none k low below) ∙ passes)

-- a bucket leads to all of its slots
module _ (generation : ℕ) (slots : List Slot) (firsts nexts : List ℕ) (is : IsChained generation slots firsts nexts) where
  a_slot_before_the_first_is_not_lost : (bucket k : ℕ) → bucket < 1024 → k < first_of generation slots firsts bucket →
      is_member generation slots bucket k ≡ true → ⊥
  a_slot_before_the_first_is_not_lost bucket k small below member =
      a_lower_number_that_passes_is_not_passed_over _ 0 _ (is.first bucket small) k (omega arith) below member

  a_slot_between_two_is_not_lost : (i k : ℕ) → is_kept generation (slot_at slots i) ≡ true → i < k → k < slice_index nexts i →
      is_member generation slots ((slot_at slots i).page % 1024) k ≡ true → ⊥
  a_slot_between_two_is_not_lost i k kept above below member =
      a_lower_number_that_passes_is_not_passed_over _ (i + 1) _ (is.next i kept) k (omega (arith, above)) below member

  a_slot_does_not_lead_to_itself : (i : ℕ) → is_kept generation (slot_at slots i) ≡ true → slice_index nexts i ≡ i → ⊥
  a_slot_does_not_lead_to_itself i kept same = let above = (is.next i kept).above in omega (arith, above, same)

-- each slot stands once in the order
module _ (it : Order) (is : IsOrder it) where
  two_slots_have_no_number_in_common : (one other : ℕ) → one < 1024 → other < 1024 → one ≢ other →
      slice_index it.numbers one ≡ slice_index it.numbers other → ⊥
  two_slots_have_no_number_in_common one other one_is other_is apart same =
      apart (sym (is.ordered one one_is) ∙ ap (slice_index it.slots) same ∙ is.ordered other other_is)

  no_slot_has_two_numbers : (one other : ℕ) → one < 1024 → other < 1024 → one ≢ other →
      slice_index it.slots one ≡ slice_index it.slots other → ⊥
  no_slot_has_two_numbers one other one_is other_is apart same =
      apart (sym (is.numbered one one_is) ∙ ap (slice_index it.numbers) same ∙ is.numbered other other_is)

  slot_1024_is_not_in_the_order : (number : ℕ) → number < 1024 → slice_index it.slots number ≡ 1024 → ⊥
  slot_1024_is_not_in_the_order number small past = let below = is.slot number small in omega (arith, past, below)

  number_1024_is_no_slot's : (at : ℕ) → at < 1024 → slice_index it.numbers at ≡ 1024 → ⊥
  number_1024_is_no_slot's at small past = let below = is.number at small in omega (arith, past, below)

  slots_that_are_not_there_are_not_taken : it.count ≡ 1025 → ⊥
  slots_that_are_not_there_are_not_taken more = let most = is.most in omega (arith, more, most)

-- what is kept has its place, and no page is kept twice
module _ (t : Table) (is : IsTable t) where
  a_translation_is_not_without_a_place : (at : ℕ) → is_kept t.generation (slot_at t.slots at) ≡ true →
      slice_get t.ages.items (((slot_at t.slots at).place + 2048 - t.front) % 2048) ≡ None → ⊥
  a_translation_is_not_without_a_place at kept none = none-some at (sym none ∙ is.anchored at kept)

  two_slots_keep_no_page_in_common : (one other : ℕ) → is_kept t.generation (slot_at t.slots one) ≡ true →
      is_kept t.generation (slot_at t.slots other) ≡ true → (slot_at t.slots one).page ≡ (slot_at t.slots other).page → one ≢ other → ⊥
  two_slots_keep_no_page_in_common one other one_is other_is same apart = apart (is.apart one other one_is other_is same)

  a_slot_is_of_no_generation_to_come : (at : ℕ) → (slot_at t.slots at).generation ≡ t.generation + 1 → ⊥
  a_slot_is_of_no_generation_to_come at next = let older = is.older at in omega (arith, next, older)

  a_ring_has_no_2049_places : length t.ages.items ≡ 2049 → ⊥
  a_ring_has_no_2049_places more = let fits = is.fits in omega (arith, more, fits)

  a_ring_has_no_other_room : t.ages.capacity ≡ 2047 → ⊥
  a_ring_has_no_other_room other = let room = is.room in omega (arith, other, room)

  a_ring_does_not_begin_at_2048 : t.front ≡ 2048 → ⊥
  a_ring_does_not_begin_at_2048 past = let front = is.front in omega (arith, past, front)

  a_slot_that_keeps_is_not_free : (at : ℕ) → at < 1024 → is_kept t.generation (slot_at t.slots at) ≡ true → is_slot_used t.order at ≡ false → ⊥
  a_slot_that_keeps_is_not_free at small kept free = true≢false (sym kept ∙ is.taken at small ∙ free)

  a_slot_that_keeps_nothing_is_not_taken : (at : ℕ) → at < 1024 → is_kept t.generation (slot_at t.slots at) ≡ false →
      is_slot_used t.order at ≡ true → ⊥
  a_slot_that_keeps_nothing_is_not_taken at small empty taken = false≢true (sym empty ∙ is.taken at small ∙ taken)

  no_pair_is_counted_twice : t.order.count ≡ length (pairs_of t) + 1 → ⊥
  no_pair_is_counted_twice more = let listed = is.listed in omega (arith, more, listed)

-- a place of a ring that was cleaned has its translation, and none is lost
module _ (slots : List Slot) (generation front left : ℕ) (ring : List ℕ) (pairs : Pairs)
    (is : IsCleanedBy slots generation front ring left pairs) where
  no_more_is_left_than_there_was : length ring < left → ⊥
  no_more_is_left_than_there_was more = let within = is.within in omega (arith, more, within)

  a_cleaned_place_does_not_stand_for_nothing : length (pairs_from slots generation (front + left) (drop left ring)) + 1 ≡ length ring - left → ⊥
  a_cleaned_place_does_not_stand_for_nothing less = let clean = is.clean in omega (arith, less, clean)

  no_pair_is_lost : pairs_from slots generation (front + left) (drop left ring) ++ pairs_from slots generation front (take left ring) ≢ pairs → ⊥
  no_pair_is_lost other = other is.told
