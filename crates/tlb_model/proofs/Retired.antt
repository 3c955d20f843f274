-- A slot keeps its translation no more; its place in the ring stays.
use Rattle.std.proofs.Common.{◌≡◌, ◌≢◌, ℕ, ◌+◌, ◌-◌, ◌%◌, ◌<◌, ◌≤◌, true, false, ◌==◌, List, length, slice_get, slice_set, nat_lt, Some, refl, arith, sym, ap, subst, inl, inr, ◌∙◌}
use Rattle.std.proofs.lemmas.Bool.{and_right, cases_eq, false≢true}
use Rattle.nk_bits.specs.Translations.{HasDistinctPages, dropped}
use Rattle.tlb_model.specs.declared.slot.Slot.{Slot}
use Rattle.tlb_model.specs.declared.chains.Chains.{Chains}
use Rattle.tlb_model.specs.declared.order.Order.{Order}
use Rattle.tlb_model.specs.declared.table.Table.{Table}
use Rattle.tlb_model.specs.SlotBuckets.{IsChained, empty_slot, is_kept, slot_at}
use Rattle.tlb_model.specs.SlotOrder.{IsOrder, is_slot_used}
use Rattle.tlb_model.specs.TranslationTable.{IsTable, pairs_of}
use Rattle.tlb_model.proofs.Ages.{kept_within, length_dropped, look_anchored, pairs_dropped, slot_changed, slot_left}
use Rattle.tlb_model.proofs.PairLaws.{distinct_dropped}

pub empty_is_free : (g : ℕ) → is_kept g empty_slot ≡ false
empty_is_free g = and_right (0 == g) (nat_lt 2048 2048) refl

-- a slot that is kept after one was emptied is another one
emptied_other : (slots : List Slot) (g at own : ℕ) → at < length slots → is_kept g (slot_at (slice_set slots at empty_slot) own) ≡ true → own ≢ at
emptied_other slots g at own within kept same =
    false≢true (sym (empty_is_free g) ∙ ap (is_kept g) (sym (slot_changed slots at empty_slot within) ∙ ap (slot_at (slice_set slots at empty_slot)) (sym same)) ∙ kept)

emptied_kept : (slots : List Slot) (g at own : ℕ) → own ≢ at → is_kept g (slot_at (slice_set slots at empty_slot) own) ≡ true → is_kept g (slot_at slots own) ≡ true
emptied_kept slots g at own differ kept = ap (is_kept g) (sym (slot_left slots at empty_slot own differ)) ∙ kept

module _ (t : Table) (at : ℕ) (it : IsTable t) (kept : is_kept t.generation (slot_at t.slots at) ≡ true) where
  abbrev pub retired : Chains → Order → Table
  retired chains order = record t { slots = slice_set t.slots at empty_slot; chains = chains; order = order }

  alone : (other : ℕ) → is_kept t.generation (slot_at t.slots other) ≡ true → (slot_at t.slots other).page ≡ (slot_at t.slots at).page → other ≡ at
  alone other keeps page = it.apart other at keeps kept page

  within : at < length t.slots
  within = kept_within t.slots t.generation at kept

  pub retired_pairs : (chains : Chains) (order : Order) → pairs_of (retired chains order) ≡ dropped (pairs_of t) (slot_at t.slots at).page
  retired_pairs chains order = pairs_dropped t.slots at empty_slot t.generation t.front t.ages.items within (empty_is_free t.generation) alone

  retired_length : length (dropped (pairs_of t) (slot_at t.slots at).page) + 1 ≡ length (pairs_of t)
  retired_length =
      length_dropped (pairs_of t) (slot_at t.slots at).page (slot_at t.slots at).leaf it.distinct
      (look_anchored t.slots t.generation t.front t.ages.items at kept it.front (it.anchored at kept) alone)

  pub retired_table : (chains : Chains) (order : Order) → IsChained t.generation (slice_set t.slots at empty_slot) chains.firsts chains.nexts →
      IsOrder order → order.count + 1 ≡ t.order.count → is_slot_used order at ≡ false →
      ((other : ℕ) → other < 1024 → other ≢ at → is_slot_used order other ≡ is_slot_used t.order other) → IsTable (retired chains order)
  retired_table chains order chained ordered count free others =
      record {
        anchored = λ own keeps.
            let differ = emptied_other t.slots t.generation at own within keeps in
            subst (λ slot. slice_get t.ages.items ((slot.place + 2048 - t.front) % 2048) ≡ Some own) (sym (slot_left t.slots at empty_slot own differ))
            (it.anchored own (emptied_kept t.slots t.generation at own differ keeps));
        apart = λ one other keeps also same.
            let differ = emptied_other t.slots t.generation at one within keeps in
            let differs = emptied_other t.slots t.generation at other within also in
            it.apart one other (emptied_kept t.slots t.generation at one differ keeps) (emptied_kept t.slots t.generation at other differs also)
            (ap (λ (slot : Slot). slot.page) (sym (slot_left t.slots at empty_slot one differ)) ∙ same ∙ ap (λ (slot : Slot). slot.page) (slot_left t.slots at empty_slot other differs));
        chained = chained;
        older = λ own. elim (cases_eq own at) [
          | inl same ↦ subst (λ (slot : Slot). slot.generation ≤ t.generation) (sym (ap (slot_at (slice_set t.slots at empty_slot)) same ∙ slot_changed t.slots at empty_slot within)) (omega arith)
          | inr differ ↦ subst (λ (slot : Slot). slot.generation ≤ t.generation) (sym (slot_left t.slots at empty_slot own differ)) (it.older own)
        ];
        room = it.room;
        fits = it.fits;
        named = it.named;
        front = it.front;
        ordered = ordered;
        taken = λ own below. elim (cases_eq own at) [
          | inl same ↦ ap (λ i. is_kept t.generation (slot_at (slice_set t.slots at empty_slot) i)) same ∙ ap (is_kept t.generation) (slot_changed t.slots at empty_slot within)
              ∙ empty_is_free t.generation ∙ sym free ∙ ap (is_slot_used order) (sym same)
          | inr differ ↦ ap (is_kept t.generation) (slot_left t.slots at empty_slot own differ) ∙ it.taken own below ∙ sym (others own below differ)
        ];
        listed =
            let left : order.count ≡ length (dropped (pairs_of t) (slot_at t.slots at).page) = omega (arith, count, it.listed, retired_length) in
            left ∙ ap length (sym (retired_pairs chains order));
        distinct = subst HasDistinctPages (sym (retired_pairs chains order)) (distinct_dropped (pairs_of t) (slot_at t.slots at).page it.distinct);
      }
