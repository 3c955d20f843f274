-- The regions of a book after bits of one row were set or cleared.
use Rattle.std.proofs.Common.{◌≡◌, ◌≢◌, ◌⊎◌, ℕ, ◌+◌, ◌<◌, ◌≤◌, Bool, true, false, not, ◌&&◌, ◌||◌, ◌==◌, nat_le, nat_lt, List, [], ◌∷◌, ◌++◌, length, map, set, replicate, arith, refl, sym, ap, ◌∙◌, subst, inl, inr, slice_index_or}
use Rattle.std.specs.Prelude.{if◌then◌else◌}
use Rattle.std.specs.List.{range_with_len}
use Rattle.std.proofs.lemmas.Bool.{and_left, and_right, cases_order, le-ltb, lt-leb}
use Rattle.std.proofs.lemmas.Bool.Decides.{nat_tests}
use Rattle.std.proofs.lemmas.List.{map_push}
use Rattle.region_book.specs.declared.row.Row.{Row}
use Rattle.region_book.specs.RegionRecords.{marked}
use Rattle.region_book.specs.RegionRows.{AreApart, AreRowsKept, bit_in, bits_from, first_bit, frames_of_row, in_run, moved, region_of_row, place_of_row, region_at}
use Rattle.region_book.proofs.BookRows.{written_at}
use Rattle.region_book.proofs.ListEdits.{map_agree, map_run_agree, map_run_same, map_set_agree}

-- bits that are elsewhere
bits_agree : (bits after : List ℕ) (first count : ℕ) →
    ((k : ℕ) → first ≤ k → k < first + count → bit_in after k ≡ bit_in bits k) →
    bits_from after first count ≡ bits_from bits first count
unfolding bits_from
bits_agree bits after first count same =
    map_run_agree (λ k. bit_in after (first + k)) (λ k. bit_in bits (first + k)) 0 count
    (λ k low high. same (first + k) (omega arith) (omega arith))

pub region_elsewhere : (bits after : List ℕ) (row : Row) →
    ((k : ℕ) → first_bit row ≤ k → k < first_bit row + row.size → bit_in after k ≡ bit_in bits k) →
    region_at after row ≡ region_at bits row
region_elsewhere bits after row same =
    ap (λ (written : List Bool). record {
      id = row.id;
      policy = row.policy;
      pooled = row.pooled;
      first = row.first;
      size = row.size;
      frames = frames_of_row row;
      place = place_of_row row;
      written = written;
      tail = row.tail;
    }) (bits_agree bits after (first_bit row) row.size same)

-- a bit of a row apart isn't in the run
outside : (one other : Row) (offset count k : ℕ) → (AreApart one other) ⊎ (AreApart other one) →
    offset + count ≤ one.size → first_bit other ≤ k → k < first_bit other + other.size →
    in_run (first_bit one + offset) count k ≡ false
outside one other offset count k apart fits low high = elim apart [ inl a ↦ go a | inr a ↦ back a ]
  where
    from : k < first_bit one + offset → in_run (first_bit one + offset) count k ≡ false
    from below = and_left (nat_le (first_bit one + offset) k) (nat_lt k (first_bit one + offset + count))
        (lt-leb (first_bit one + offset) k below)

    behind : first_bit one + one.size ≤ k → in_run (first_bit one + offset) count k ≡ false
    behind above = and_right (nat_le (first_bit one + offset) k) (nat_lt k (first_bit one + offset + count))
        (le-ltb k (first_bit one + offset + count) (omega (arith, above, fits)))

    go : AreApart one other → in_run (first_bit one + offset) count k ≡ false
    go a = elim a [ inl before ↦ behind (omega (arith, before, low)) | inr after ↦ from (omega (arith, after, high)) ]

    back : AreApart other one → in_run (first_bit one + offset) count k ≡ false
    back a = elim a [ inl before ↦ from (omega (arith, before, high)) | inr after ↦ behind (omega (arith, after, low)) ]

-- the row whose bits were set
marked_bits : (bits after : List ℕ) (first size offset count : ℕ) →
    ((k : ℕ) → bit_in after k ≡ (bit_in bits k || in_run (first + offset) count k)) →
    bits_from after first size ≡ map (λ k. slice_index_or (bits_from bits first size) k false || in_run offset count k)
    (range_with_len 0 size)
unfolding bits_from
marked_bits bits after first size offset count each =
    map_run_agree (λ k. bit_in after (first + k))
    (λ k. slice_index_or (bits_from bits first size) k false || in_run offset count k) 0 size
    (λ k low high.
    let place : in_run (first + offset) count (first + k) ≡ in_run offset count k = shifted k in
    each (first + k) ∙ ap (λ b. b || in_run (first + offset) count (first + k))
    (sym (written_at bits first size k (omega arith)))
    ∙ ap (λ b. slice_index_or (bits_from bits first size) k false || b) place)
  where
    shifted : (k : ℕ) → in_run (first + offset) count (first + k) ≡ in_run offset count k
    shifted k = grind (arith, nat_tests)

marked_row : (bits after : List ℕ) (row : Row) (offset count tail : ℕ) → tail ≡ offset + count →
    ((k : ℕ) → bit_in after k ≡ (bit_in bits k || in_run (first_bit row + offset) count k)) →
    region_at after (moved row tail) ≡ marked (region_at bits row) offset count
unfolding first_bit frames_of_row place_of_row
marked_row bits after row offset count tail tail_is each =
    ap (λ (written : List Bool). record
    (region_at bits row) { written = written; tail = if row.policy == 2 then tail else row.tail })
    (marked_bits bits after (first_bit row) row.size offset count each)
    ∙ ap (λ t. record (marked (region_at bits row) offset count) { tail = if row.policy == 2 then t else row.tail }) tail_is

-- the regions after bits of a row were set and its tail moved
pub marked_regions : (rows : List Row) (bits after : List ℕ) (declared i : ℕ) (row : Row) (offset count tail : ℕ) →
    AreRowsKept rows bits declared →
    i < length rows → ((d : Row) → slice_index_or rows i d ≡ row) → offset + count ≤ row.size → tail ≡ offset + count →
    ((k : ℕ) → bit_in after k ≡ (bit_in bits k || in_run (first_bit row + offset) count k)) →
    map (region_at after) (set rows i (moved row tail)) ≡ set (map (region_at bits) rows) i
    (marked (region_at bits row) offset count)
marked_regions rows bits after declared i row offset count tail kept within is fits tail_is each =
    map_set_agree (region_at after) (region_at bits) rows i (moved row tail)
    (marked (region_at bits row) offset count) within (marked_row bits after row offset count tail tail_is each)
    (λ k d below apart.
    region_elsewhere bits after (slice_index_or rows k d)
    (λ b low high.
    each b ∙ ap (λ t. bit_in bits b || t)
    (outside row (slice_index_or rows k d) offset count b (other k d below apart) fits low high)
    ∙ no_more (bit_in bits b)))
  where
    no_more : (b : Bool) → (b || false) ≡ b
    no_more true = refl
    no_more false = refl

    other : (k : ℕ) (d : Row) → k < length rows → k ≢ i →
        (AreApart row (slice_index_or rows k d)) ⊎ (AreApart (slice_index_or rows k d) row)
    other k d below apart =
        elim (cases_order i k) [
          | inl same ↦ absurd (apart (sym same))
          | inr order ↦ elim order [
            | inl low ↦ inl (subst (λ x. AreApart x (slice_index_or rows k d)) (is d) (kept.apart i k d low below))
            | inr high ↦ inr (subst (AreApart (slice_index_or rows k d)) (is d) (kept.apart k i d high within))
          ]
        ]

bits_clear : (bits : List ℕ) (first count : ℕ) → ((k : ℕ) → first ≤ k → k < first + count → bit_in bits k ≡ false) →
    bits_from bits first count ≡ replicate count false
unfolding bits_from
bits_clear bits first count clear =
    map_run_same (λ k. bit_in bits (first + k)) false 0 count
    (λ k low high. clear (first + k) (omega arith) (omega arith))

-- the regions after a new row's bits were cleared
pub added_regions : (rows : List Row) (bits after : List ℕ) (row : Row) →
    ((k : ℕ) (d : Row) → k < length rows → AreApart (slice_index_or rows k d) row) →
    ((k : ℕ) → bit_in after k ≡ (bit_in bits k && not (in_run (first_bit row) row.size k))) →
    map (region_at after) (rows ++ row ∷ []) ≡ map (region_at bits) rows ++ region_of_row row ∷ []
added_regions rows bits after row apart each =
    map_push (region_at after) rows row
    ∙ ap (λ rs. rs ++ region_at after row ∷ [])
    (map_agree (region_at after) (region_at bits) rows
    (λ k d below. region_elsewhere bits after (slice_index_or rows k d)
    (λ b low high. each b ∙ ap (λ t. bit_in bits b && not t)
    (start b ∙ outside row (slice_index_or rows k d) 0 row.size b (inr (apart k d below)) (omega arith) low high)
    ∙ no_less (bit_in bits b))))
    ∙ ap (λ r. map (region_at bits) rows ++ r ∷ []) new_is
  where
    no_less : (b : Bool) → (b && not false) ≡ b
    no_less true = refl
    no_less false = refl

    start : (b : ℕ) → in_run (first_bit row) row.size b ≡ in_run (first_bit row + 0) row.size b
    start b = let same : first_bit row ≡ first_bit row + 0 = omega arith in ap (λ f. in_run f row.size b) same

    gone : (b t : Bool) → t ≡ true → (b && not t) ≡ false
    gone b t is = grind (arith, nat_tests)

    cleared : (b : ℕ) → first_bit row ≤ b → b < first_bit row + row.size → bit_in after b ≡ false
    cleared b low high = each b ∙ gone (bit_in bits b) (in_run (first_bit row) row.size b) (grind (arith, nat_tests))

    new_is : region_at after row ≡ region_of_row row
    new_is =
        ap (λ (written : List Bool). record {
          id = row.id;
          policy = row.policy;
          pooled = row.pooled;
          first = row.first;
          size = row.size;
          frames = frames_of_row row;
          place = place_of_row row;
          written = written;
          tail = row.tail;
        }) (bits_clear after (first_bit row) row.size cleared)
