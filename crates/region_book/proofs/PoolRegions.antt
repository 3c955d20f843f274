-- A new region of the pool: its row, its places in memory, and that a sound book may have it.
use Rattle.std.proofs.Common.{◌≡◌, ◌⊎◌, ℕ, ◌+◌, ◌-◌, ◌*◌, ◌/◌, ◌%◌, ◌<◌, ◌≤◌, true, false, not, ◌&&◌, nat_le, nat_lt, List, length, map, replicate, arith, refl, sym, ap, ◌∙◌, subst, inl, inr, slice_index_or}
use Rattle.std.specs.Prelude.{All, Some, if◌then◌else◌}
use Rattle.std.specs.List.{range_with_len}
use Rattle.std.proofs.lemmas.Bool.{and_cases, and_parts, ltb-false, not-true, false≢true}
use Rattle.std.proofs.lemmas.List.{length-replicate}
use Rattle.std.proofs.lemmas.List.FromFn.{length-range_with_len}
use Rattle.phys_mem.specs.MaskedMemory.{is_book_frame}
use Rattle.phys_mem.specs.Memory.{stored}
use Rattle.region_book.specs.declared.row.Row.{Row}
use Rattle.region_book.specs.RegionCalls.{with_one_more, is_range_taken, meets, pool_region, room}
use Rattle.nk_bits.specs.KernelLayout.{pool_start}
use Rattle.region_book.specs.RegionRecords.{Book, IsApart, IsBook, IsRegion, RegionRecord, region_stores}
use Rattle.region_book.specs.RegionRows.{IsHeld, frames_of_row, region_of_row, row_place, place_of_row, row_stores}
use Rattle.region_book.proofs.Found.{found_place, none_any}
use Rattle.region_book.proofs.RowPlaces.{region_stores_is}
use Rattle.region_book.proofs.SeenStores.{low_is_no_book}
use Rattle.region_book.proofs.SoundBooks.{added_sound}

-- its row
pub pool_row_is : (now : Book) (next p first size policy slot : ℕ) (frames : List ℕ) → next ≡ now.next →
    first ≡ pool_start + p →
    region_of_row (record { id = next; first = first; size = size; tail = 0; policy = policy; pooled = true; slot = slot; frames = frames }) ≡ pool_region now size policy p
unfolding frames_of_row place_of_row
pool_row_is now next p first size policy slot frames next_is first_is =
    let place : first - pool_start ≡ p = omega (arith, first_is) in
    ap (λ id. region_of_row (record { id = id; first = first; size = size; tail = 0; policy = policy; pooled = true; slot = slot; frames = frames })) next_is
    ∙ ap (λ q. record {
      id = now.next;
      policy = policy;
      pooled = true;
      first = first;
      size = size;
      frames = range_with_len (10 + q / 4096) ((q % 4096 + size + 4095) / 4096);
      place = q % 4096;
      written = replicate size false;
      tail = 0;
    }) place
    ∙ ap (λ f. record (pool_region now size policy p) { first = f }) first_is

-- its bytes lie in frames 10 to 25
pub pool_places : (row : Row) (p size : ℕ) → row.pooled ≡ true → row.first ≡ pool_start + p → p + row.size ≤ 65536 →
    4096 * 26 ≤ size → (k : ℕ) → k < row.size → row_place row k < size
unfolding row_place
pool_places row p size pooled first fits most k within =
    subst (λ place. place < size) (sym
    (ap (λ b. if b then 4096 * 10 + (row.first - pool_start) + k else 4096 * slice_index_or row.frames
    (k / 4096) 0 + k % 4096) pooled))
    (omega (arith, first, fits, most, within))

-- which are no book frames
pub pool_aside : (row : Row) (p frames : ℕ) → row.pooled ≡ true → row.first ≡ pool_start + p → p + row.size ≤ 65536 →
    (k : ℕ) → k < row.size → is_book_frame frames (row_place row k / 4096) ≡ false
pool_aside row p frames pooled first fits k within =
    low_is_no_book frames (row_place row k) (pool_places row p (4096 * 26) pooled first fits (omega arith) k within)

-- the room that is found is free
pub room_free : (regions : List RegionRecord) (size p : ℕ) → room regions size ≡ Some p → is_range_taken regions size p ≡ false
unfolding room
room_free regions size p found =
    let test = (found_place (λ p. nat_le (p + size) 65536 && not (is_range_taken regions size p))
    (map (λ k. 16 * k) (range_with_len 0 4096)) p found).3 in
    not-true (is_range_taken regions size p) (and_parts (nat_le (p + size) 65536) (not (is_range_taken regions size p)) test).1

module _ (now : Book) (sound : IsBook now) (size policy p : ℕ) (some : 1 ≤ size) (fits : p + size ≤ 65536)
    (low : 1 ≤ policy) (high : policy ≤ 4) where
  pool_is_region : IsRegion (now.next + 1) (pool_region now size policy p)
  pool_is_region =
      let place : pool_start + p - pool_start ≡ p = omega arith in
      record {
        least = sound.next;
        below = omega arith;
        policy = (low, high);
        size = (some, omega arith);
        written = length-replicate size false;
        tail = omega arith;
        held = omega (arith, length-range_with_len (10 + p / 4096) ((p % 4096 + size + 4095) / 4096));
        pooled = λ e. (
          omega arith,
          omega arith,
          ap (λ q. q % 4096) (sym place),
          ap (λ q. range_with_len (10 + q / 4096) ((p % 4096 + size + 4095) / 4096)) (sym place),
        );
        declared = λ e. absurd (false≢true (sym e));
      }

  apart : is_range_taken now.regions size p ≡ false → All (λ old. IsApart old (pool_region now size policy p)) now.regions
  apart free k d below = record {
    pool = λ old_pooled pooled.
        go (slice_index_or now.regions k d) old_pooled (sound.each k d below)
        (none_any (λ r. r.pooled && meets p size (r.first - pool_start) r.size) now.regions free k d below);
    pages = λ old_declared declared. absurd (false≢true (sym declared));
  }
    where
      go : (old : RegionRecord) → old.pooled ≡ true → IsRegion now.next old →
          (old.pooled && meets p size (old.first - pool_start) old.size) ≡ false →
          (old.first + old.size ≤ pool_start + p) ⊎ (pool_start + p + size ≤ old.first)
      go old old_pooled is free =
          let place = is.pooled old_pooled in
          let met : meets p size (old.first - pool_start) old.size ≡ false = sym
          (ap (λ b. b && meets p size (old.first - pool_start) old.size) old_pooled) ∙ free in
          elim (and_cases (nat_lt p (old.first - pool_start + old.size))
          (nat_lt (old.first - pool_start) (p + size)) met) [
            | inl behind ↦ inl (omega (arith, place.0, ltb-false p (old.first - pool_start + old.size) behind))
            | inr before ↦ inr (omega (arith, place.0, ltb-false (old.first - pool_start) (p + size) before))
          ]

  pub pool_added : (r : RegionRecord) → r ≡ pool_region now size policy p → is_range_taken now.regions size p ≡ false →
      length now.regions < 256 → IsBook (with_one_more now r 0)
  pool_added r is free few =
      subst (λ r. IsBook (with_one_more now r 0)) (sym is)
      (added_sound now sound (pool_region now size policy p) 0 few refl pool_is_region (apart free) refl
      (omega (arith, sound.most)))

-- its bytes are made 0
pub zeros_are : (now : Book) (row : Row) (size policy p q : ℕ) (before after : List ℕ) → IsHeld 128 row →
    row.size ≡ size → region_of_row row ≡ pool_region now size policy p → p ≡ q →
    after ≡ stored before (row_stores row 0 (replicate row.size 0)) →
    after ≡ stored before (region_stores (pool_region now size policy q) 0 (replicate size 0))
zeros_are now row size policy p q before after held size_is is place was =
    was ∙ ap (stored before) (sym (region_stores_is 128 row (replicate row.size false) 0 (replicate row.size 0) held
    (omega (arith, length-replicate {A = ℕ} row.size 0))))
    ∙ ap (λ r. stored before (region_stores r 0 (replicate row.size 0))) (is ∙ ap (pool_region now size policy) place)
    ∙ ap (λ n. stored before (region_stores (pool_region now size policy q) 0 (replicate n 0))) size_is
