-- The table of translations at worked values. A slot keeps a translation in its generation alone, at a place below 2,048; its
-- bucket is its page's number modulo 1,024.
use Rattle.std.proofs.Common.{◌≡◌, ℕ, ◌==◌, true, false, List, [], ◌∷◌, refl, ap, ◌∙◌, arith}
use Rattle.std.proofs.lemmas.Bool.{ne_eqb}
use Rattle.nk_bits.specs.declared.leaf.Leaf.{Leaf}
use Rattle.tlb_model.specs.declared.order.Order.{Order}
use Rattle.tlb_model.specs.declared.slot.Slot.{Slot}
use Rattle.tlb_model.specs.declared.table.Table.{Table}
use Rattle.tlb_model.specs.SlotBuckets.{IsLeast, empty_slot, first_of, is_kept, is_member, slot_at}
use Rattle.tlb_model.specs.SlotOrder.{is_slot_used}
use Rattle.tlb_model.specs.TranslationTable.{IsCleanedBy, pairs_from, pairs_of, stands}

-- a leaf that may be written
abbrev leaf : ℕ → Leaf
leaf frame = record { frame = frame; rights = record { can_write = true; user = false; exec = false } }

-- a page's translation, to the frame of the same number, in a generation, at a place
abbrev slot : ℕ → ℕ → ℕ → Slot
slot page generation place = record { page = page; generation = generation; leaf = leaf page; place = place }

-- the pages 5, 1,029 and 7, filled in this order at the ring's last place and at the first two
abbrev three : List Slot
three = slot 5 3 2047 ∷ slot 1029 3 0 ∷ slot 7 3 1 ∷ []

-- a slot that keeps nothing keeps nothing in generation 0 either, and stands wherever there is no slot
empties :
    (is_kept 0 empty_slot ≡ false) × (slot_at [] 0 ≡ empty_slot) × (slot_at three 3 ≡ empty_slot) × (slot_at three 2 ≡ slot 7 3 1) ×
    (is_kept 0 (slot_at three 3) ≡ false)
empties = (refl, refl, refl, refl, refl)

-- a slot of another generation keeps nothing: a flush goes on to the next
kept :
    (is_kept 3 (slot 5 3 0) ≡ true) × (is_kept 3 (slot 5 3 2047) ≡ true) × (is_kept 3 (slot 5 3 2048) ≡ false) × (is_kept 4 (slot 5 3 0) ≡ false) ×
    (is_kept 2 (slot 5 3 0) ≡ false)
kept = (refl, refl, refl, refl, refl)

-- 5 and 1,029 are of bucket 5, 7 is of bucket 7
members :
    (is_member 3 three 5 0 ≡ true) × (is_member 3 three 5 1 ≡ true) × (is_member 3 three 5 2 ≡ false) × (is_member 3 three 7 2 ≡ true) ×
    (is_member 3 three 0 3 ≡ false) × (is_member 4 three 5 0 ≡ false)
members = (refl, refl, refl, refl, refl, refl)

-- what is noted of a bucket counts where it is one of the bucket's
firsts :
    (first_of 3 three (9 ∷ 9 ∷ 9 ∷ 9 ∷ 9 ∷ 0 ∷ 0 ∷ 2 ∷ []) 5 ≡ 0) × (first_of 3 three (9 ∷ 9 ∷ 9 ∷ 9 ∷ 9 ∷ 0 ∷ 0 ∷ 2 ∷ []) 6 ≡ 1024) ×
    (first_of 3 three (9 ∷ 9 ∷ 9 ∷ 9 ∷ 9 ∷ 0 ∷ 0 ∷ 2 ∷ []) 7 ≡ 2) × (first_of 3 three (9 ∷ 9 ∷ 9 ∷ 9 ∷ 9 ∷ 0 ∷ 0 ∷ 2 ∷ []) 4 ≡ 1024) ×
    (first_of 4 three (9 ∷ 9 ∷ 9 ∷ 9 ∷ 9 ∷ 0 ∷ 0 ∷ 2 ∷ []) 5 ≡ 1024)
firsts = (refl, refl, refl, refl, refl)

-- of three slots in the order 1, 0, 2 the first two are taken, or none
order_of : ℕ → Order
order_of count = record { slots = 1 ∷ 0 ∷ 2 ∷ []; numbers = 1 ∷ 0 ∷ 2 ∷ []; count = count }

used :
    (is_slot_used (order_of 1) 0 ≡ false) × (is_slot_used (order_of 1) 1 ≡ true) × (is_slot_used (order_of 2) 0 ≡ true) ×
    (is_slot_used (order_of 2) 2 ≡ false) × (is_slot_used (order_of 3) 2 ≡ true) × (is_slot_used (order_of 0) 1 ≡ false)
unfolding order_of
used = (refl, refl, refl, refl, refl, refl)

-- places are numbered modulo 2,048
places :
    (stands 3 7 (slot 5 3 7) ≡ true) × (stands 3 2055 (slot 5 3 7) ≡ true) × (stands 3 8 (slot 5 3 7) ≡ false) × (stands 3 2048 (slot 5 3 0) ≡ true) ×
    (stands 4 7 (slot 5 3 7) ≡ false) × (stands 0 2048 empty_slot ≡ false) × (stands 0 2047 empty_slot ≡ false)
places = (refl, refl, refl, refl, refl, refl, refl)

-- the ring from place 2,047 on, oldest first; a place that the slot doesn't know stands for nothing, and so does each in
-- another generation, or of a slot that isn't there
rings :
    (pairs_from three 3 2047 (0 ∷ 1 ∷ 2 ∷ []) ≡ (5, leaf 5) ∷ (1029, leaf 1029) ∷ (7, leaf 7) ∷ []) ×
    (pairs_from three 3 2047 [] ≡ []) × (pairs_from three 3 2046 (0 ∷ 1 ∷ 2 ∷ []) ≡ []) ×
    (pairs_from three 3 2046 (2 ∷ 0 ∷ 1 ∷ 0 ∷ []) ≡ (5, leaf 5) ∷ (1029, leaf 1029) ∷ []) ×
    (pairs_from three 3 2047 (0 ∷ 2 ∷ 2 ∷ []) ≡ (5, leaf 5) ∷ (7, leaf 7) ∷ []) × (pairs_from three 4 2047 (0 ∷ 1 ∷ 2 ∷ []) ≡ []) ×
    (pairs_from three 0 2048 (3 ∷ []) ≡ [])
rings = (refl, refl, refl, refl, refl, refl, refl)

-- so a table has these pairs
module _ (t : Table) (slots : t.slots ≡ three) (front : t.front ≡ 2047) (ages : t.ages.items ≡ 0 ∷ 1 ∷ 2 ∷ []) where
  ring_at : (generation : ℕ) → t.generation ≡ generation → pairs_of t ≡ pairs_from three generation 2047 (0 ∷ 1 ∷ 2 ∷ [])
  ring_at generation is =
      ap (λ (s : List Slot). pairs_from s t.generation t.front t.ages.items) slots ∙ ap (λ (g : ℕ). pairs_from three g t.front t.ages.items) is
      ∙ ap (λ (f : ℕ). pairs_from three generation f t.ages.items) front ∙ ap (λ (r : List ℕ). pairs_from three generation 2047 r) ages

  all_three : t.generation ≡ 3 → pairs_of t ≡ (5, leaf 5) ∷ (1029, leaf 1029) ∷ (7, leaf 7) ∷ []
  all_three = ring_at 3

  none_after_a_flush : t.generation ≡ 4 → pairs_of t ≡ []
  none_after_a_flush = ring_at 4

-- 3 is the least number from 1 on that is 3, and none is 3 from 4 on
least : IsLeast (λ k. k == 3) 1 3
least = record {
  above = omega arith;
  most = omega arith;
  is = λ below. refl;
  none = λ k low below. ne_eqb k 3 (λ e. omega (arith, below, e));
}

no_least : IsLeast (λ k. k == 3) 4 1024
no_least = record {
  above = omega arith;
  most = omega arith;
  is = λ below. absurd (omega (arith, below));
  none = λ k low below. ne_eqb k 3 (λ e. omega (arith, low, e));
}

-- a ring of four places, of which the first was looked at and stands for nothing: behind the others stand two translations
cleaned : IsCleanedBy (slot 5 3 1 ∷ slot 7 3 2 ∷ []) 3 0 (1 ∷ 0 ∷ 1 ∷ []) 1 ((5, leaf 5) ∷ (7, leaf 7) ∷ [])
cleaned = record { within = omega arith; clean = refl; told = refl }
