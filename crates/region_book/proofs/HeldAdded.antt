-- Regions in memory after the row of a new one was put into a slot that was free.
use Rattle.std.proofs.Common.{◌≡◌, ◌≢◌, ◌⊎◌, ℕ, ◌+◌, ◌-◌, ◌*◌, ◌<◌, ◌≤◌, Bool, true, false, not, ◌&&◌, ◌||◌, ◌==◌, List, [], ◌∷◌, ◌++◌, length, map, arith, refl, sym, ap, ◌∙◌, subst, inl, inr, slice_index_or}
use Rattle.std.specs.Prelude.{if◌then◌else◌}
use Rattle.std.specs.List.{list_any}
use Rattle.std.proofs.lemmas.Bool.{eqb-false, false_from_ne_true, false≢true, or_parts}
use Rattle.std.proofs.lemmas.List.{get_or-map, length-map, map_push}
use Rattle.std.proofs.lemmas.List.Elements.{All-push}
use Rattle.std.proofs.lemmas.List.Folds.{list_any-append, list_any_none}
use Rattle.std.proofs.lemmas.List.Quantifiers.{all_pairs_push}
use Rattle.region_book.specs.declared.row.Row.{Row}
use Rattle.region_book.specs.RegionBytes.{HasRowForm, HoldsRegions, KeepsSlots, RegionIndex, bits_in, book_in, row_in}
use Rattle.region_book.specs.RegionCalls.{with_one_more, is_range_taken}
use Rattle.nk_bits.specs.KernelLayout.{pool_start}
use Rattle.region_book.specs.RegionRecords.{IsBook}
use Rattle.region_book.specs.RegionRows.{AreApart, bit_in, first_bit, in_run, pages_of_row, region_of_row, region_at}
use Rattle.region_book.specs.SlotChanges.{DiffersInSlot}
use Rattle.region_book.proofs.AddedBook.{added_is, added_kept, new}
use Rattle.region_book.proofs.KeptRows.{each_apart}
use Rattle.region_book.proofs.KeptSlots.{WasInUse, slots_kept, was_in_use}
use Rattle.region_book.proofs.LeftSlots.{LeavesSlots, form_left, left_by_slot, not_in, row_left, zero_left}
use Rattle.region_book.proofs.ListEdits.{map_agree}
use Rattle.region_book.proofs.RunTests.{any_more, runs_apart}
use Rattle.region_book.proofs.SlotRows.{bits_of_slot}

-- a bit is what it is without those of a run, where none of these is set
bit_kept : (b t : Bool) → (t ≡ true → b ≡ false) → b ≡ (b && not t)
bit_kept true true none = none refl
bit_kept true false none = refl
bit_kept false t none = refl

-- what is kept beside memory, with a slot more
abbrev index_of : List ℕ → ℕ → ℕ → RegionIndex
index_of slots next declared = record { slots = slots; next = next; declared = declared }

abbrev pub grown : RegionIndex → ℕ → ℕ → RegionIndex
grown index s pages = index_of (index.slots ++ s ∷ []) (index.next + 1) (index.declared + pages)

pub grown_is : (slots after : List ℕ) (next declared s pages : ℕ) (index : RegionIndex) → after ≡ slots ++ s ∷ [] →
    index_of slots next declared ≡ index → index_of after (next + 1) (declared + pages) ≡ grown index s pages
grown_is slots after next declared s pages index with_one_more view =
    ap (λ list. index_of list (next + 1) (declared + pages)) with_one_more
    ∙ ap (λ (it : RegionIndex). grown it s pages) view

module _ (index : RegionIndex) (m n : List ℕ) (held : HoldsRegions index m) (s : ℕ) (small : s < 256)
    (fresh : list_any (λ t. t == s) index.slots ≡ false) (differs : DiffersInSlot s m n) (row : Row)
    (row_is : row_in n s ≡ row) (pages : ℕ) (most : index.declared + pages ≤ 128) (size : row.size ≤ 65536)
    (pooled : row.pooled ≡ true → (pool_start ≤ row.first) × (row.first + row.size ≤ pool_start + 65536) ×
    (is_range_taken (book_in index m).regions row.size (row.first - pool_start) ≡ false))
    (paged : row.pooled ≡ false → (row.size ≡ 4096 * pages) × (row.slot ≡ index.declared)) where
  left : LeavesSlots s m n
  left = left_by_slot s m n differs

  apart : (k d : ℕ) → k < length index.slots → slice_index_or index.slots k d ≢ s
  apart k d below = not_in index.slots s k d fresh below

  bits_same : bits_in n ≡ bits_in m
  bits_same = bits_of_slot s m n differs

  rows_added : map (row_in n) (index.slots ++ s ∷ []) ≡ map (row_in m) index.slots ++ row ∷ []
  rows_added =
      map_push (row_in n) index.slots s
      ∙ ap (λ r. map (row_in n) index.slots ++ r ∷ []) row_is
      ∙ ap (λ rs. rs ++ row ∷ [])
      (map_agree (row_in n) (row_in m) index.slots
      (λ k d below. row_left s m n left (slice_index_or index.slots k d) (apart k d below)))

  -- none of its bits is set
  unset : (k : ℕ) → in_run (first_bit row) row.size k ≡ true → bit_in (bits_in m) k ≡ false
  unset k is =
      false_from_ne_true (bit_in (bits_in m) k) (λ set. false≢true
      (sym (list_any_none (λ t. in_run (first_bit (row_in m t)) (row_in m t).size k) index.slots
      (λ j d below. runs_apart (first_bit (row_in m (slice_index_or index.slots j d))) (row_in m (slice_index_or index.slots j d)).size
      (first_bit row) row.size k (old_apart j d below) is)) ∙ held.bits k set))
    where
      old_apart : (j d : ℕ) → j < length index.slots → AreApart (row_in m (slice_index_or index.slots j d)) row
      old_apart j d below =
          subst (λ old. AreApart old row) (get_or-map (row_in m) index.slots j d row below)
          (each_apart (map (row_in m) index.slots) (bits_in m) (bits_in m) index.declared pages row held.kept
          (new (map (row_in m) index.slots) (bits_in m) index.next index.declared (book_in index m) refl row pages held.kept
          size pooled paged most) j row (omega (arith, below, length-map index.slots (row_in m))))

  each : (k : ℕ) → bit_in (bits_in n) k ≡ (bit_in (bits_in m) k && not (in_run (first_bit row) row.size k))
  each k = ap (λ bits. bit_in bits k) bits_same
      ∙ bit_kept (bit_in (bits_in m) k) (in_run (first_bit row) row.size k) (unset k)

  pub added_in : book_in (grown index s pages) n
      ≡ with_one_more (book_in index m) (region_of_row row) pages
  added_in =
      added_is (map (row_in m) index.slots) (bits_in m) index.next index.declared (book_in index m) refl row pages held.kept
      size pooled paged most (bits_in n) (map (row_in n) (index.slots ++ s ∷ [])) rows_added each

  bits_of_rows : (k : ℕ) → bit_in (bits_in n) k ≡ true →
      list_any (λ t. in_run (first_bit (row_in n t)) (row_in n t).size k) (index.slots ++ s ∷ []) ≡ true
  bits_of_rows k is =
      list_any-append (λ t. in_run (first_bit (row_in n t)) (row_in n t).size k) index.slots (s ∷ [])
      ∙ ap (λ b. b || list_any (λ t. in_run (first_bit (row_in n t)) (row_in n t).size k) (s ∷ []))
      (any_more (λ t. in_run (first_bit (row_in m t)) (row_in m t).size k)
      (λ t. in_run (first_bit (row_in n t)) (row_in n t).size k) index.slots
      (λ j d below run. ap (λ (r : Row). in_run (first_bit r) r.size k)
      (row_left s m n left (slice_index_or index.slots j d) (apart j d below)) ∙ run)
      (held.bits k (ap (λ bits. bit_in bits k) (sym bits_same) ∙ is)))

  -- the regions before it keep their slots, and it has an identifier to come
  pub added_keeps : IsBook (book_in index m) → row.id ≡ index.next → KeepsSlots index m (grown index s pages) n
  added_keeps book named =
      slots_kept index m book (grown index s pages) n
      (All-push (λ t. WasInUse index.slots m n t ⊎ (index.next ≤ (row_in n t).id)) index.slots s
      (λ k d below.
      let same : row_in n (slice_index_or index.slots k d) ≡ row_in m (slice_index_or index.slots k d) =
      row_left s m n left (slice_index_or index.slots k d) (apart k d below) in
      inl (was_in_use index.slots m n k d below (ap (λ (r : Row). r.id) same) (ap (λ (r : Row). r.slot) same)))
      (inr (omega (arith, named, ap (λ (r : Row). r.id) row_is))))

  pub held_added : row.slot ≡ (if row.pooled then 0 else index.declared) → pages_of_row row ≡ pages →
      length index.slots < 256 → HasRowForm n s → HoldsRegions (grown index s pages) n
  held_added number counted few form = record {
    size = omega (arith, held.size, left.size);
    slots = All-push (λ t. t < 256) index.slots s held.slots small;
    once = all_pairs_push (λ a b. a ≢ b) index.slots s held.once apart;
    kept = added_kept (map (row_in m) index.slots) (bits_in m) index.next index.declared (book_in index m) refl row pages
        held.kept size pooled paged most (bits_in n) (map (row_in n) (index.slots ++ s ∷ [])) rows_added number counted
        (omega (arith, few, length-map index.slots (row_in m), length-map (map (row_in m) index.slots) (region_at (bits_in m))))
        (ap length bits_same ∙ held.kept.room);
    rows = All-push (HasRowForm n) index.slots s
        (λ k d below. form_left s m n left (slice_index_or index.slots k d) (apart k d below) (held.rows k d below)) form;
    free = λ t p low none below.
        let parts = or_parts (list_any (λ u. u == t) index.slots) (list_any (λ u. u == t) (s ∷ []))
        (sym (list_any-append (λ u. u == t) index.slots (s ∷ [])) ∙ none) in
        zero_left s m n left t p
        (λ same. eqb-false s t (or_parts (s == t) false parts.1).0 (sym same)) below (held.free t p low parts.0 below);
    bits = bits_of_rows;
  }
