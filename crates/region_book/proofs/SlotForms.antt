-- The row of a slot and its form, once a row or a tail was put there.
use Rattle.std.proofs.Common.{◌≡◌, ◌⊎◌, ℕ, ◌+◌, ◌*◌, ◌%◌, ◌^◌, ◌<◌, ◌≤◌, Bool, true, false, if◌then◌else◌, ◌==◌, List, length, map, arith, refl, sym, ap, ◌∙◌, subst, inl, inr, slice_index}
use Rattle.std.specs.List.{range_with_len}
use Rattle.std.proofs.lemmas.Grind.{same_number_lists}
use Rattle.std.proofs.lemmas.List.FromFn.{get_or-map-range_with_len, length-map-range_with_len}
use Rattle.phys_mem.specs.Memory.{byte_at, number_at, stored, stores}
use Rattle.phys_mem.specs.MemoryLaws.{MemoryLaws}
use Rattle.region_book.specs.declared.row.Row.{Row}
use Rattle.region_book.specs.RegionBytes.{HasRowForm, row_in, slot_place}
use Rattle.region_book.specs.SlotChanges.{DiffersInSlot, DiffersWithin, Holds, IsStorableRow, head_of}
use Rattle.region_book.proofs.ListEdits.{map_run_agree}
use Rattle.region_book.proofs.SlotStores.{AreBetween, differs_more, differs_wider, holds_stays, number_beside, one_differs}

pub slot_differs : (s : ℕ) (m n : List ℕ) → DiffersWithin (slot_place s) (slot_place s + 64) m n → DiffersInSlot s m n
slot_differs s m n differs = record { size = differs.size; elsewhere = differs.elsewhere }

-- the frames of a row, number by number
pub frames_are : (m : List ℕ) (p : ℕ) (frames : List ℕ) → length frames ≡ 16
    → ((i : ℕ) → i < 16 → number_at m 2 (p + 32 + 2 * i) ≡ slice_index frames i)
    → map (λ i. number_at m 2 (p + 32 + 2 * i)) (range_with_len 0 16) ≡ frames
frames_are m p frames size each =
    let count = length-map-range_with_len (λ i. number_at m 2 (p + 32 + 2 * i)) 0 16 in
    same_number_lists (map (λ i. number_at m 2 (p + 32 + 2 * i)) (range_with_len 0 16)) frames (count ∙ sym size)
    (λ k below.
    let inside : k < 16 = omega (arith, below, count) in
    get_or-map-range_with_len (λ i. number_at m 2 (p + 32 + 2 * i)) 0 16 k k 0 inside (omega arith) ∙ each k inside)

byte_of : (m : List ℕ) (p v : ℕ) → number_at m 1 p ≡ v → byte_at m p ≡ v
unfolding number_at
byte_of m p v is = omega (arith, is)

bool_of : (b : Bool) → ((if b then 1 else 0) == 1) ≡ b
bool_of true = refl
bool_of false = refl

bool_small : (b : Bool) (v : ℕ) → v ≡ (if b then 1 else 0) → v ≤ 1
bool_small true v is = omega (arith, is)
bool_small false v is = omega (arith, is)

pub bool_fits : (b : Bool) → (if b then 1 else 0) < 256 ^ 1
bool_fits true = omega arith
bool_fits false = omega arith

pub head_between : (p : ℕ) (row : Row) → AreBetween p (p + 32) (head_of p row)
head_between p row =
    (omega arith, (omega arith, (omega arith, (omega arith, (omega arith, (omega arith, (omega arith, (omega arith, omega arith))))))))

module _ (m : List ℕ) (s : ℕ) (row : Row) (size : length row.frames ≡ 16) (head : Holds m (head_of (slot_place s) row))
    (frames : (i : ℕ) → i < 16 → number_at m 2 (slot_place s + 32 + 2 * i) ≡ slice_index row.frames i) where
  row_held : row_in m s ≡ row
  unfolding row_in
  row_held =
      let policy = byte_of m (slot_place s + 24) row.policy head.1.1.1.1.0 in
      let pooled = ap (λ b. b == 1) (byte_of m (slot_place s + 25) (if row.pooled then 1 else 0) head.1.1.1.1.1.0) ∙ bool_of row.pooled in
      let list = frames_are m (slot_place s) row.frames size frames in
      λ j. record {
        id = head.0 j;
        first = head.1.0 j;
        size = head.1.1.0 j;
        tail = head.1.1.1.0 j;
        policy = policy j;
        pooled = pooled j;
        slot = head.1.1.1.1.1.1.0 j;
        frames = list j;
      }

  form_held : IsStorableRow row → HasRowForm m s
  form_held storable = record {
    pooled = bool_small row.pooled (byte_at m (slot_place s + 25))
        (byte_of m (slot_place s + 25) (if row.pooled then 1 else 0) head.1.1.1.1.1.0);
    unused = head.1.1.1.1.1.1.1.0;
    frames = λ i inside none. frames i inside
        ∙ storable.frames i inside (subst (λ r. (r.pooled ≡ true) ⊎ (r.size ≤ 4096 * i)) row_held none);
  }

-- a row that was put into a slot
pub record IsRowPut (s : ℕ) (put : Row) (before after : List ℕ) : Type 0 where
  pub row : row_in after s ≡ put
  pub form : HasRowForm after s
  pub elsewhere : DiffersInSlot s before after

pub row_put : (s p : ℕ) (row : Row) (a b c : List ℕ) → p ≡ slot_place s → length row.frames ≡ 16 → IsStorableRow row
    → Holds b (head_of p row) → DiffersWithin p (p + 32) a b
    → ((i : ℕ) → i < 16 → number_at c 2 (p + 32 + 2 * i) ≡ slice_index row.frames i)
    → DiffersWithin (p + 32) (p + 64) b c → IsRowPut s row a c
row_put s p row a b c place size storable holds first frames second =
    let head : Holds c (head_of (slot_place s) row) =
    subst (λ q. Holds c (head_of q row)) place
    (holds_stays b c p (p + 32) (head_of p row) (head_between p row) (λ q low high. second.elsewhere q (inl high)) holds) in
    let list : (i : ℕ) → i < 16 → number_at c 2 (slot_place s + 32 + 2 * i) ≡ slice_index row.frames i =
    subst (λ q. (i : ℕ) → i < 16 → number_at c 2 (q + 32 + 2 * i) ≡ slice_index row.frames i) place frames in
    record {
      row = row_held c s row size head list;
      form = form_held c s row size head list storable;
      elsewhere = slot_differs s a c (subst (λ q. DiffersWithin q (q + 64) a c) place
          (differs_more p (p + 64) a b c (differs_wider p (p + 32) p (p + 64) a b (omega arith) (omega arith) first)
          (differs_wider (p + 32) (p + 64) p (p + 64) b c (omega arith) (omega arith) second)));
    }

-- the tail alone
module _ (m n : List ℕ) (s tail : ℕ) (differs : DiffersWithin (slot_place s + 20) (slot_place s + 24) m n)
    (here : number_at n 4 (slot_place s + 20) ≡ tail) where
  beside : (k p : ℕ) → (p + k ≤ slot_place s + 20) ⊎ (slot_place s + 24 ≤ p) → number_at n k p ≡ number_at m k p
  beside k p apart = number_beside (slot_place s + 20) (slot_place s + 24) m n k p apart differs

  frame_beside : (i : ℕ) → number_at n 2 (slot_place s + 32 + 2 * i) ≡ number_at m 2 (slot_place s + 32 + 2 * i)
  frame_beside i = beside 2 (slot_place s + 32 + 2 * i) (inr (omega arith))

  pub tail_put : row_in n s ≡ record (row_in m s) { tail = tail }
  unfolding row_in
  tail_put =
      let id = beside 8 (slot_place s) (inl (omega arith)) in
      let first = beside 8 (slot_place s + 8) (inl (omega arith)) in
      let size = beside 4 (slot_place s + 16) (inl (omega arith)) in
      let policy = differs.elsewhere (slot_place s + 24) (inr (omega arith)) in
      let pooled = ap (λ b. b == 1) (differs.elsewhere (slot_place s + 25) (inr (omega arith))) in
      let slot = beside 2 (slot_place s + 26) (inr (omega arith)) in
      let frames = map_run_agree (λ i. number_at n 2 (slot_place s + 32 + 2 * i)) (λ i. number_at m 2 (slot_place s + 32 + 2 * i)) 0 16
      (λ k low high. frame_beside k) in
      λ j. record {
        id = id j;
        first = first j;
        size = size j;
        tail = here j;
        policy = policy j;
        pooled = pooled j;
        slot = slot j;
        frames = frames j;
      }

  pub tail_form : HasRowForm m s → HasRowForm n s
  tail_form form = record {
    pooled = subst (λ b. b ≤ 1) (sym (differs.elsewhere (slot_place s + 25) (inr (omega arith)))) form.pooled;
    unused = beside 4 (slot_place s + 28) (inr (omega arith)) ∙ form.unused;
    frames = λ i inside none. frame_beside i
        ∙ form.frames i inside (subst (λ row. (row.pooled ≡ true) ⊎ (row.size ≤ 4096 * i)) tail_put none);
  }

  pub tail_differs : DiffersInSlot s m n
  tail_differs =
      slot_differs s m n
      (differs_wider (slot_place s + 20) (slot_place s + 24) (slot_place s) (slot_place s + 64) m n (omega arith) (omega arith) differs)

pub record IsTailPut (s tail : ℕ) (before after : List ℕ) : Type 0 where
  pub row : row_in after s ≡ record (row_in before s) { tail = tail }
  pub form : HasRowForm before s → HasRowForm after s
  pub elsewhere : DiffersInSlot s before after

pub tail_is_put : MemoryLaws → (m : List ℕ) (s tail : ℕ) → 0x40000 ≤ length m → s < 256 → tail < 2 ^ 32
    → IsTailPut s tail m (stored m (stores 4 (slot_place s + 20) tail))
tail_is_put laws m s tail room small fits =
    let after = stored m (stores 4 (slot_place s + 20) tail) in
    let cut : number_at after 4 (slot_place s + 20) ≡ tail % 256 ^ 4 =
    laws.number_stored m 4 (slot_place s + 20) tail (omega (arith, room, small)) in
    let here : number_at after 4 (slot_place s + 20) ≡ tail = omega (arith, cut, fits) in
    let wide : DiffersWithin (slot_place s + 20) (slot_place s + 24) m after =
    differs_wider (slot_place s + 20) (slot_place s + 20 + 4) (slot_place s + 20) (slot_place s + 24) m after (omega arith) (omega arith)
    (one_differs laws m 4 (slot_place s + 20) tail) in
    record {
      row = tail_put m after s tail wide here;
      form = tail_form m after s tail wide here;
      elsewhere = tail_differs m after s tail wide here;
    }
