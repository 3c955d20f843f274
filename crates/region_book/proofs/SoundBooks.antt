-- A book stays sound where a range of a region was written, a region of the pool is let go and a new one is put in.
use Rattle.std.proofs.Common.{◌≡◌, ℕ, ◌+◌, ◌<◌, ◌≤◌, Bool, true, false, not, ◌==◌, length, set, arith, refl, sym, ap, ◌∙◌, subst, slice_index_or}
use Rattle.std.specs.Prelude.{All, Some, if◌then◌else◌}
use Rattle.std.proofs.lemmas.Bool.{eqb-true, not-false}
use Rattle.std.proofs.lemmas.List.{length-set, length_push}
use Rattle.std.proofs.lemmas.List.Elements.{All-filter, All-push, All-set, All-weaker}
use Rattle.std.proofs.lemmas.List.FromFn.{length-map-range_with_len}
use Rattle.std.proofs.lemmas.List.Kept.{AllPairs-filter}
use Rattle.std.proofs.lemmas.List.Quantifiers.{all_pairs_push}
use Rattle.std.proofs.lemmas.List.Sums.{count_by-le-length, length-filter, sum_by-set, sum_by_push}
use Rattle.region_book.specs.RegionCalls.{with_one_more, freed}
use Rattle.region_book.specs.RegionRecords.{Book, IsApart, IsBook, IsRegion, RegionRecord, marked, pages_of_region, region_of, with_region}
use Rattle.region_book.proofs.Found.{found_place}
use Rattle.region_book.proofs.ListEdits.{pairs_set, place_of_key, replaced_by_key, sum_filter}

-- the region that was written
marked_region : (next offset count : ℕ) (r : RegionRecord) → IsRegion next r → offset + count ≤ r.size →
    IsRegion next (marked r offset count)
marked_region next offset count r is fits = record {
  least = is.least;
  below = is.below;
  policy = is.policy;
  size = is.size;
  written = length-map-range_with_len _ 0 r.size;
  tail = tail (r.policy == 2);
  held = is.held;
  pooled = is.pooled;
  declared = is.declared;
}
  where
    tail : (b : Bool) → (if b then offset + count else r.tail) ≤ r.size
    tail true = fits
    tail false = is.tail

module _ (book : Book) (sound : IsBook book) where
  module _ (i offset count : ℕ) (r : RegionRecord) (within : i < length book.regions)
      (is : (d : RegionRecord) → slice_index_or book.regions i d ≡ r) where
    pub with_marked : with_region book
        (marked r offset count) ≡ record book { regions = set book.regions i (marked r offset count) }
    with_marked = ap (λ rs. record book { regions = rs })
        (replaced_by_key (λ x. x.id) book.regions sound.rising i r.id r (marked r offset count) within is refl)

    pub marked_sound : offset + count ≤ r.size →
        IsBook (record book { regions = set book.regions i (marked r offset count) })
    marked_sound fits =
        let was : IsRegion book.next r = subst (IsRegion book.next) (is r) (sound.each i r within) in
        let sum = sum_by-set pages_of_region book.regions i (marked r offset count) r within in
        record {
          next = sound.next;
          count = omega (arith, sound.count, length-set book.regions i (marked r offset count));
          each = All-set (IsRegion book.next) book.regions i (marked r offset count)
              (marked_region book.next offset count r was fits) sound.each;
          rising = pairs_set (λ one other. one.id < other.id) book.regions i r
              (marked r offset count) within is sound.rising (λ z low. low) (λ z low. low);
          apart = pairs_set IsApart book.regions i r (marked r offset count) within is sound.apart
              (λ z apart. record { pool = apart.pool; pages = apart.pages })
              (λ z apart. record { pool = apart.pool; pages = apart.pages });
          pages = omega (arith, sound.pages, sum, ap pages_of_region (is r));
          most = sound.most;
        }

  -- the region of an identifier is the only one
  pub only_region : (id : ℕ) (r : RegionRecord) → region_of book id ≡ Some r →
      All (λ other. other.id ≡ id → other ≡ r) book.regions
  only_region id r found k d below same =
      let place = found_place (λ x. x.id == id) book.regions r found in
      let here : place.0 ≡ k = place_of_key (λ x. x.id) book.regions sound.rising place.0 k d place.1 below
      (ap (λ x. x.id) (place.2 d) ∙ eqb-true r.id id place.3 ∙ sym same) in
      sym (ap (λ j. slice_index_or book.regions j d) here) ∙ place.2 d

  -- a region of the pool has no declared page
  pub pages_let_go : (id : ℕ) (r : RegionRecord) → region_of book id ≡ Some r → r.pooled ≡ true →
      All (λ x. not (x.id == id) ≡ false → pages_of_region x ≡ 0) book.regions
  pages_let_go id r found pooled k d below out =
      let is = only_region id r found k d below
      (eqb-true _ id (not-false ((slice_index_or book.regions k d).id == id) out)) in
      ap pages_of_region is ∙ ap (λ b. if b then 0 else length r.frames) pooled

  pub removed_sound : (id : ℕ) (r : RegionRecord) → region_of book id ≡ Some r → r.pooled ≡ true → IsBook (freed book id)
  removed_sound id r found pooled = record {
    next = sound.next;
    count = omega (
      arith,
      sound.count,
      length-filter (λ x. not (x.id == id)) book.regions,
      count_by-le-length (λ x. not (x.id == id)) book.regions,
    );
    each = All-filter (λ x. not (x.id == id)) (IsRegion book.next) book.regions sound.each;
    rising = AllPairs-filter (λ one other. one.id < other.id) (λ x. not (x.id == id)) book.regions sound.rising;
    apart = AllPairs-filter IsApart (λ x. not (x.id == id)) book.regions sound.apart;
    pages = sound.pages
        ∙ sym (sum_filter (λ x. not (x.id == id)) pages_of_region book.regions (pages_let_go id r found pooled));
    most = sound.most;
  }

  -- a new region
  pub added_sound : (r : RegionRecord) (pages : ℕ) → length book.regions < 256 → r.id ≡ book.next →
      IsRegion (book.next + 1) r →
      All (λ old. IsApart old r) book.regions → pages_of_region r ≡ pages → book.declared + pages ≤ 128 →
      IsBook (with_one_more book r pages)
  added_sound r pages few id is apart pages_is most = record {
    next = omega (arith, sound.next);
    count = omega (arith, few, length_push book.regions r);
    each = All-push (IsRegion (book.next + 1)) book.regions r
        (All-weaker (IsRegion book.next) (IsRegion (book.next + 1)) later book.regions sound.each) is;
    rising = all_pairs_push (λ one other. one.id < other.id) book.regions r sound.rising
        (λ k d below. omega (arith, id, (sound.each k d below).below));
    apart = all_pairs_push IsApart book.regions r sound.apart apart;
    pages = omega (arith, sound.pages, sum_by_push pages_of_region book.regions r, pages_is);
    most = most;
  }
    where
      later : (x : RegionRecord) → IsRegion book.next x → IsRegion (book.next + 1) x
      later x was = record {
        least = was.least;
        below = omega (arith, was.below);
        policy = was.policy;
        size = was.size;
        written = was.written;
        tail = was.tail;
        held = was.held;
        pooled = was.pooled;
        declared = was.declared;
      }
