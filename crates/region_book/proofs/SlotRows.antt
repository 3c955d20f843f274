-- Rows and bits in memories that agree where they stand, and what a change of one slot leaves of them.
use Rattle.std.proofs.Common.{◌≡◌, ◌≢◌, ◌⊎◌, ℕ, zero, suc, ◌+◌, ◌-◌, ◌*◌, ◌<◌, ◌≤◌, min, Bool, true, false, ◌==◌, List, length, map, take, drop, arith, refl, sym, ap, ◌∙◌, subst, inl, inr, slice_index, slice_index_or}
use Rattle.std.specs.Prelude.{None, Some, cond, nat_lt}
use Rattle.std.specs.List.{position, position_or_len}
use Rattle.std.proofs.lemmas.Bool.{cases_order, le-ltb, lt-ltb}
use Rattle.std.proofs.lemmas.Grind.{same_number_lists}
use Rattle.std.proofs.lemmas.List.{get_or-drop, get_or-map, get_or-take, length-drop, length-map, length-take}
use Rattle.std.proofs.lemmas.List.Sums.{position_or_len_is}
use Rattle.phys_mem.specs.Memory.{byte_at, number_at}
use Rattle.region_book.specs.declared.row.Row.{Row}
use Rattle.region_book.specs.RegionBytes.{HasRowForm, bits_in, row_in, slot_place}
use Rattle.region_book.specs.SlotChanges.{DiffersInSlot}
use Rattle.region_book.proofs.ListEdits.{map_run_agree}

-- memories whose bytes agree at k places spell one number there
pub number_same : (m n : List ℕ) (k p : ℕ) → ((q : ℕ) → p ≤ q → q < p + k → byte_at n q ≡ byte_at m q)
    → number_at n k p ≡ number_at m k p
unfolding number_at
number_same m n zero p same = refl
number_same m n (suc k) p same =
    let first : byte_at n p ≡ byte_at m p = same p (omega arith) (omega arith) in
    let rest : number_at n k (p + 1) ≡ number_at m k (p + 1) =
    number_same m n k (p + 1) (λ q low high. same q (omega (arith, low)) (omega (arith, high))) in
    omega (arith, first, rest)

-- the bytes of a slot agree
abbrev pub IsSameSlot : ℕ → List ℕ → List ℕ → Type 0
IsSameSlot s m n = (p : ℕ) → slot_place s ≤ p → p < slot_place s + 64 → byte_at n p ≡ byte_at m p

module _ (m n : List ℕ) (s : ℕ) (same : IsSameSlot s m n) where
  number_kept : (k at : ℕ) → at + k ≤ 64 → number_at n k (slot_place s + at) ≡ number_at m k (slot_place s + at)
  number_kept k at inside =
      number_same m n k (slot_place s + at) (λ q low high. same q (omega (arith, low)) (omega (arith, high, inside)))

  frame_kept : (i : ℕ) → i < 16
      → number_at n 2 (slot_place s + 32 + 2 * i) ≡ number_at m 2 (slot_place s + 32 + 2 * i)
  frame_kept i inside =
      number_same m n 2 (slot_place s + 32 + 2 * i)
      (λ q low high. same q (omega (arith, low)) (omega (arith, high, inside)))

  pub row_stays : row_in n s ≡ row_in m s
  unfolding row_in
  row_stays =
      let id : number_at n 8 (slot_place s) ≡ number_at m 8 (slot_place s) =
      number_same m n 8 (slot_place s) (λ q low high. same q low (omega (arith, high))) in
      let first = number_kept 8 8 (omega arith) in
      let size = number_kept 4 16 (omega arith) in
      let tail = number_kept 4 20 (omega arith) in
      let policy = same (slot_place s + 24) (omega arith) (omega arith) in
      let pooled = ap (λ b. b == 1) (same (slot_place s + 25) (omega arith) (omega arith)) in
      let slot = number_kept 2 26 (omega arith) in
      let frames = map_run_agree (λ i. number_at n 2 (slot_place s + 32 + 2 * i)) (λ i. number_at m 2 (slot_place s + 32 + 2 * i)) 0 16
      (λ k low high. frame_kept k high) in
      λ j. record {
        id = id j;
        first = first j;
        size = size j;
        tail = tail j;
        policy = policy j;
        pooled = pooled j;
        slot = slot j;
        frames = frames j;
      }

  pub form_stays : HasRowForm m s → HasRowForm n s
  form_stays form = record {
    pooled = subst (λ b. b ≤ 1) (sym (same (slot_place s + 25) (omega arith) (omega arith))) form.pooled;
    unused = number_kept 4 28 (omega arith) ∙ form.unused;
    frames = λ i inside none. frame_kept i inside
        ∙ form.frames i inside (subst (λ row. (row.pooled ≡ true) ⊎ (row.size ≤ 4096 * i)) row_stays none);
  }

-- the bits stay where their bytes do
pub bits_stay : (m n : List ℕ) → length n ≡ length m
    → ((p : ℕ) → 0x2A000 ≤ p → p < 0x3C000 → byte_at n p ≡ byte_at m p) → bits_in n ≡ bits_in m
unfolding bits_in
bits_stay m n size same =
    same_number_lists (take 73728 (drop 0x2A000 n)) (take 73728 (drop 0x2A000 m))
    (length-take 73728 (drop 0x2A000 n)
    ∙ ap (min 73728) (length-drop 0x2A000 n ∙ ap (λ k. k - 0x2A000) size ∙ sym (length-drop 0x2A000 m))
    ∙ sym (length-take 73728 (drop 0x2A000 m)))
    (λ k below.
    let inside : k < 73728 = omega (arith, below, length-take 73728 (drop 0x2A000 n)) in
    get_or-take 73728 (drop 0x2A000 n) k 0 inside ∙ get_or-drop 0x2A000 n k 0
    ∙ same (0x2A000 + k) (omega arith) (omega (arith, inside))
    ∙ sym (get_or-take 73728 (drop 0x2A000 m) k 0 inside ∙ get_or-drop 0x2A000 m k 0))

-- a change of one slot leaves all others, and the bits
module _ (s : ℕ) (m n : List ℕ) (differs : DiffersInSlot s m n) where
  pub slot_of_other : (t : ℕ) → t ≢ s → IsSameSlot t m n
  slot_of_other t apart p low high =
      differs.elsewhere p (elim (cases_order t s) [
        | inl is ↦ absurd (apart is)
        | inr order ↦ elim order [
          | inl below ↦ inl (omega (arith, below, high))
          | inr above ↦ inr (omega (arith, above, low))
        ]
      ])

  pub row_of_other : (t : ℕ) → t ≢ s → row_in n t ≡ row_in m t
  row_of_other t apart = row_stays m n t (slot_of_other t apart)

  pub form_of_other : (t : ℕ) → t ≢ s → HasRowForm m t → HasRowForm n t
  form_of_other t apart = form_stays m n t (slot_of_other t apart)

  pub bits_of_slot : bits_in n ≡ bits_in m
  bits_of_slot = bits_stay m n differs.size (λ p low high. differs.elsewhere p (inl (omega (arith, high))))

-- where a row stands by its identifier
module _ (m : List ℕ) (id : ℕ) (slots : List ℕ) where
  abbrev is_id : Row → Bool
  is_id row = row.id == id

  row_at_place : (k : ℕ) → k < length slots
      → is_id (slice_index_or (map (row_in m) slots) k (row_in m 0)) ≡ is_id (row_in m (slice_index slots k))
  row_at_place k below = ap is_id (get_or-map (row_in m) slots k 0 (row_in m 0) below)

  pub id_at : (i : ℕ) → i < length slots → ((k : ℕ) → k < i → is_id (row_in m (slice_index slots k)) ≡ false)
      → is_id (row_in m (slice_index slots i)) ≡ true → Some i ≡ position is_id (map (row_in m) slots)
  id_at i within before here =
      let count = length-map slots (row_in m) in
      let place : position_or_len is_id (map (row_in m) slots) ≡ i =
      position_or_len_is is_id (map (row_in m) slots) i (row_in m 0) (omega (arith, within, count))
      (λ k below. row_at_place k (omega (arith, below, within)) ∙ before k below)
      (λ inside. row_at_place i within ∙ here) in
      sym (ap (λ k. cond (nat_lt k (length (map (row_in m) slots))) (Some k) None) place
      ∙ ap (λ b. cond b (Some i) None) (lt-ltb i (length (map (row_in m) slots)) (omega (arith, within, count))))

  pub id_nowhere : ((k : ℕ) → k < length slots → is_id (row_in m (slice_index slots k)) ≡ false)
      → None ≡ position is_id (map (row_in m) slots)
  id_nowhere none =
      let count = length-map slots (row_in m) in
      let place : position_or_len is_id (map (row_in m) slots) ≡ length (map (row_in m) slots) =
      position_or_len_is is_id (map (row_in m) slots) (length (map (row_in m) slots)) (row_in m 0) (omega arith)
      (λ k below.
      let within : k < length slots = omega (arith, below, count) in
      row_at_place k within ∙ none k within)
      (λ inside. absurd (omega (arith, inside))) in
      sym (ap (λ k. cond (nat_lt k (length (map (row_in m) slots))) (Some k) None) place
      ∙ ap (λ b. cond b (Some (length (map (row_in m) slots))) None)
      (le-ltb (length (map (row_in m) slots)) (length (map (row_in m) slots)) (omega arith)))
