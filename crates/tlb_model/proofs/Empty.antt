-- A table in which no slot keeps anything.
use Rattle.std.proofs.Common.{◌≡◌, ℕ, ◌+◌, ◌%◌, ◌<◌, ◌≤◌, Bool, true, false, ◌&&◌, ◌==◌, List, [], ◌∷◌, length, refl, sym, ap, subst, ◌∙◌, arith, lit<, mod-lt}
use Rattle.std.specs.Prelude.{All, nat_lt, replicate, slice_index, if◌then◌else◌}
use Rattle.std.proofs.lemmas.List.{get_or-replicate, get_or_past, length-replicate}
use Rattle.std.proofs.lemmas.Bool.{eqb-true, false≢true, le-ltb, lt-ltb, ltb-false, ltb-true}
use Rattle.nk_bits.specs.Translations.{HasDistinctPages}
use Rattle.tlb_model.specs.declared.slot.Slot.{Slot}
use Rattle.tlb_model.specs.declared.table.Table.{Table}
use Rattle.tlb_model.specs.SlotBuckets.{IsChained, IsLeast, empty_slot, is_kept, is_member, slot_at}
use Rattle.tlb_model.specs.SlotOrder.{IsOrder}
use Rattle.tlb_model.specs.TranslationTable.{IsTable, pairs_from, pairs_of, stands}

-- a slot that keeps nothing stands nowhere
pub stands_none : (generation number : ℕ) (slot : Slot) → is_kept generation slot ≡ false → stands generation number slot ≡ false
stands_none generation number slot none = go (slot.generation == generation) (slot.place == number % 2048) (nat_lt slot.place 2048) below none
  where
    below : (slot.place == number % 2048) ≡ true → nat_lt slot.place 2048 ≡ true
    below e = lt-ltb slot.place 2048 (subst (λ n. n < 2048) (sym (eqb-true slot.place (number % 2048) e)) (mod-lt number (lit< tt)))

    go : (same here low : Bool) → (here ≡ true → low ≡ true) → (same && low) ≡ false → (same && here) ≡ false
    go false here low below none = refl
    go true false low below none = refl
    go true true low below none = sym (below refl) ∙ none

module _ (generation : ℕ) (slots : List Slot) (none : (at : ℕ) → is_kept generation (slot_at slots at) ≡ false) where
  pub no_pairs : (number : ℕ) (ring : List ℕ) → pairs_from slots generation number ring ≡ []
  no_pairs number [] = refl
  no_pairs number (at ∷ ring) =
      ap (λ here. if here then ((slot_at slots at).page, (slot_at slots at).leaf) ∷ pairs_from slots generation (number + 1) ring else pairs_from slots generation (number + 1) ring)
      (stands_none generation number (slot_at slots at) (none at)) ∙ no_pairs (number + 1) ring

  no_member : (bucket at : ℕ) → is_member generation slots bucket at ≡ false
  no_member bucket at = ap (λ kept. kept && ((slot_at slots at).page % 1024 == bucket)) (none at)

  pub chained_none : (firsts nexts : List ℕ) → IsChained generation slots firsts nexts
  chained_none firsts nexts = record {
    first = λ bucket below. subst (IsLeast (is_member generation slots bucket) 0)
        (sym (ap (λ member. if member then slice_index firsts bucket else 1024) (no_member bucket (slice_index firsts bucket))))
        (record { above = omega arith; most = omega arith; is = λ below. absurd (omega (arith, below)); none = λ k above below. no_member bucket k });
    next = λ i kept. absurd (false≢true (sym (none i) ∙ kept));
  }

pub table_none : (t : Table) → ((at : ℕ) → is_kept t.generation (slot_at t.slots at) ≡ false) → ((at : ℕ) → (slot_at t.slots at).generation ≤ t.generation) →
    t.ages.capacity ≡ 2048 → length t.ages.items ≤ 2048 → All (λ at. at < 1024) t.ages.items → t.front < 2048 → IsOrder t.order → t.order.count ≡ 0 → IsTable t
table_none t none older room fits named front ordered count = record {
  anchored = λ at kept. absurd (false≢true (sym (none at) ∙ kept));
  apart = λ one other kept. absurd (false≢true (sym (none one) ∙ kept));
  chained = chained_none t.generation t.slots none t.chains.firsts t.chains.nexts;
  older = older;
  room = room;
  fits = fits;
  named = named;
  front = front;
  ordered = ordered;
  taken = λ at below. none at ∙ sym (le-ltb (slice_index t.order.numbers at) t.order.count (omega (arith, count)));
  listed = count ∙ sym (ap length empty);
  distinct = subst HasDistinctPages (sym empty) (λ i j d below fits. absurd (omega (arith, fits)));
}
  where
    empty : pairs_of t ≡ []
    empty = no_pairs t.generation t.slots none t.front t.ages.items

-- slots that keep nothing, one after another
pub slot_at_none : (count at : ℕ) → slot_at (replicate count empty_slot) at ≡ empty_slot
slot_at_none count at = go (nat_lt at count) refl
  where
    go : (within : Bool) → nat_lt at count ≡ within → slot_at (replicate count empty_slot) at ≡ empty_slot
    go true within = get_or-replicate count at empty_slot empty_slot (ltb-true at count within)
    go false past = get_or_past (replicate count empty_slot) at empty_slot (omega (arith, length-replicate count empty_slot, ltb-false at count past))
