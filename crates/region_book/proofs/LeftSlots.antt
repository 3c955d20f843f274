-- What a change of the bits and of one slot leaves: the rows of all other slots, their form, and the zeros of free ones.
use Rattle.std.proofs.Common.{◌≡◌, ◌≢◌, ℕ, ◌+◌, ◌<◌, false, ◌==◌, List, length, arith, sym, ◌∙◌, inl, inr, slice_index_or}
use Rattle.std.specs.List.{list_any}
use Rattle.std.proofs.lemmas.Bool.{eq-eqb, false≢true}
use Rattle.phys_mem.specs.Memory.{byte_at}
use Rattle.region_book.specs.BitChanges.{DiffersInBits}
use Rattle.region_book.specs.RegionBytes.{DiffersInRegions, HasRowForm, row_in, slot_place}
use Rattle.region_book.specs.SlotChanges.{DiffersInSlot}
use Rattle.region_book.proofs.Found.{none_any}
use Rattle.region_book.proofs.SlotRows.{IsSameSlot, form_stays, row_stays, slot_of_other}

-- the bytes of all slots but one stay
pub record LeavesSlots (s : ℕ) (m n : List ℕ) : Type 0 where
  pub size : length n ≡ length m
  pub others : (t : ℕ) → t ≢ s → IsSameSlot t m n

pub left_by_slot : (s : ℕ) (m n : List ℕ) → DiffersInSlot s m n → LeavesSlots s m n
left_by_slot s m n differs = record { size = differs.size; others = slot_of_other s m n differs }

pub left_by_both : (s : ℕ) (m o n : List ℕ) → DiffersInBits m o → DiffersInSlot s o n → LeavesSlots s m n
left_by_both s m o n bits slot = record {
  size = slot.size ∙ bits.size;
  others = λ t apart p low high.
      slot_of_other s o n slot t apart p low high ∙ bits.elsewhere p (inr (omega (arith, low)));
}

pub slot_in_regions : (s : ℕ) (m n : List ℕ) → s < 256 → DiffersInSlot s m n → DiffersInRegions m n
slot_in_regions s m n small slot = record {
  size = slot.size;
  elsewhere = λ p apart.
      slot.elsewhere p (elim apart [ inl low ↦ inl (omega (arith, low)) | inr high ↦ inr (omega (arith, high, small)) ]);
}

module _ (s : ℕ) (m n : List ℕ) (left : LeavesSlots s m n) where
  pub row_left : (t : ℕ) → t ≢ s → row_in n t ≡ row_in m t
  row_left t apart = row_stays m n t (left.others t apart)

  pub form_left : (t : ℕ) → t ≢ s → HasRowForm m t → HasRowForm n t
  form_left t apart = form_stays m n t (left.others t apart)

  pub zero_left : (t p : ℕ) → t ≢ s → p < 64 → byte_at m (slot_place t + p) ≡ 0 → byte_at n (slot_place t + p) ≡ 0
  zero_left t p apart small none =
      left.others t apart (slot_place t + p) (omega arith) (omega (arith, small)) ∙ none

-- a slot that isn't in the list
pub not_in : (slots : List ℕ) (s k d : ℕ) → list_any (λ t. t == s) slots ≡ false → k < length slots →
    slice_index_or slots k d ≢ s
not_in slots s k d free below same =
    false≢true (sym (none_any (λ t. t == s) slots free k d below) ∙ eq-eqb (slice_index_or slots k d) s same)

-- a change of the bits leaves all rows
module _ (m n : List ℕ) (differs : DiffersInBits m n) (t : ℕ) where
  same_slot : IsSameSlot t m n
  same_slot p low high = differs.elsewhere p (inr (omega (arith, low)))

  pub row_of_bits : row_in n t ≡ row_in m t
  row_of_bits = row_stays m n t same_slot

  pub form_of_bits : HasRowForm m t → HasRowForm n t
  form_of_bits = form_stays m n t same_slot
