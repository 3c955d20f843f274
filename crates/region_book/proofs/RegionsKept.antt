-- Regions in memories that agree where they stand, and what of a change of them is seen.
use Rattle.std.proofs.Common.{◌≡◌, ◌⊎◌, ℕ, suc, ◌+◌, ◌/◌, ◌<◌, ◌≤◌, Bool, true, false, ◌||◌, List, [], ◌∷◌, length, map, All, arith, refl, sym, ap, ◌∙◌, subst, inl, inr}
use Rattle.std.specs.Prelude.{nat_le, nat_lt}
use Rattle.std.specs.List.{list_any}
use Rattle.std.proofs.lemmas.Bool.{and_cases, leb-false, ltb-false}
use Rattle.phys_mem.specs.MaskedMemory.{is_book_frame, masked, seen}
use Rattle.phys_mem.specs.Memory.{byte_at}
use Rattle.region_book.specs.declared.row.Row.{Row}
use Rattle.region_book.specs.RegionBytes.{DiffersInRegions, HoldsRegions, RegionIndex, bits_in, book_in, row_in, slot_place}
use Rattle.region_book.specs.RegionRows.{AreRowsKept, bit_in, book_of, first_bit, in_run}
use Rattle.region_book.proofs.ListEdits.{map_agree}
use Rattle.region_book.proofs.SlotRows.{IsSameSlot, bits_stay, form_stays, row_stays}

-- tests that agree at each element
pub any_agree : {X : Type 0} (p q : X → Bool) (xs : List X) → All (λ x. p x ≡ q x) xs → list_any p xs ≡ list_any q xs
any_agree p q [] same = refl
any_agree p q (x ∷ xs) same =
    ap (λ b. b || list_any p xs) (same 0 x (omega arith))
    ∙ ap (λ b. q x || b) (any_agree p q xs (λ k d below. same (suc k) d (omega arith)))

-- no bit is set but those of the rows in slots
abbrev pub AreRowsBits : List ℕ → List ℕ → Type 0
AreRowsBits m slots = (k : ℕ) → bit_in (bits_in m) k ≡ true
    → list_any (λ s. in_run (first_bit (row_in m s)) (row_in m s).size k) slots ≡ true

module _ (index : RegionIndex) (m n : List ℕ) (held : HoldsRegions index m) (size : length n ≡ length m)
    (same : (p : ℕ) → 0x2A000 ≤ p → p < 0x40000 → byte_at n p ≡ byte_at m p) where
  slot_same : (s : ℕ) → s < 256 → IsSameSlot s m n
  slot_same s below p low high = same p (omega (arith, low)) (omega (arith, high, below))

  pub each_same : All (λ s. row_in n s ≡ row_in m s) index.slots
  each_same k d below = row_stays m n _ (slot_same _ (held.slots k d below))

  rows_same : map (row_in n) index.slots ≡ map (row_in m) index.slots
  rows_same = map_agree (row_in n) (row_in m) index.slots each_same

  bits_same : bits_in n ≡ bits_in m
  bits_same = bits_stay m n size (λ p low high. same p low (omega (arith, high)))

  pub book_same : book_in index n ≡ book_in index m
  book_same =
      ap (λ rows. book_of rows (bits_in n) index.next index.declared) rows_same
      ∙ ap (λ bits. book_of (map (row_in m) index.slots) bits index.next index.declared) bits_same

  marks_same : AreRowsBits n index.slots
  marks_same k set =
      any_agree (λ s. in_run (first_bit (row_in n s)) (row_in n s).size k) (λ s. in_run (first_bit (row_in m s)) (row_in m s).size k)
      index.slots (λ i d below. ap (λ (row : Row). in_run (first_bit row) row.size k) (each_same i d below))
      ∙ held.bits k (ap (λ bits. bit_in bits k) (sym bits_same) ∙ set)

  pub held_same : HoldsRegions index n
  held_same = record {
    size = subst (λ k. 0x40000 ≤ k) (sym size) held.size;
    slots = held.slots;
    once = held.once;
    kept = subst (λ rows. AreRowsKept rows (bits_in n) index.declared) (sym rows_same)
        (subst (λ bits. AreRowsKept (map (row_in m) index.slots) bits index.declared) (sym bits_same) held.kept);
    rows = λ k d below. form_stays m n _ (slot_same _ (held.slots k d below)) (held.rows k d below);
    free = λ s p below other inside.
        same (slot_place s + p) (omega arith) (omega (arith, below, inside)) ∙ held.free s p below other inside;
    bits = marks_same;
  }

-- a place outside the books lies in front of the regions or behind them
outside_regions : (frames p : ℕ) → is_book_frame frames (p / 4096) ≡ false → (p < 0x2A000) ⊎ (0x40000 ≤ p)
unfolding is_book_frame
outside_regions frames p outside =
    elim (and_cases (nat_le 26 (p / 4096)) (nat_lt (p / 4096) (64 + (frames + 255) / 256)) outside) [
      | inl low ↦ inl (omega (arith, leb-false 26 (p / 4096) low))
      | inr high ↦ inr (omega (arith, ltb-false (p / 4096) (64 + (frames + 255) / 256) high))
    ]

pub change_unseen : ((hidden : ℕ → Bool) (m n : List ℕ) → length m ≡ length n
    → ((p : ℕ) → hidden (p / 4096) ≡ false → byte_at m p ≡ byte_at n p) → masked hidden m ≡ masked hidden n)
    → (m n : List ℕ) → DiffersInRegions m n → seen n ≡ seen m
change_unseen alike m n differs =
    ap (λ k. masked (is_book_frame (k / 4096)) n) differs.size
    ∙ alike (is_book_frame (length m / 4096)) n m differs.size
    (λ p outside. differs.elsewhere p (outside_regions (length m / 4096) p outside))
