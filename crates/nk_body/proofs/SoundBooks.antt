-- A sound book of regions stays sound where a region is added, one is let go, and a range of one was written.
use Rattle.std.proofs.Common.{◌≡◌, ◌≢◌, ◌⊎◌, ℕ, suc, ◌+◌, ◌<◌, ◌≤◌, Bool, true, false, not, ◌==◌, List, [], ◌∷◌, length, map, arith, refl, sym, ap, ◌∙◌, subst, inl, inr, slice_index_or}
use Rattle.std.specs.Prelude.{All, AllPairs, Some, cond, filter, if◌then◌else◌}
use Rattle.std.specs.List.{sum_by}
use Rattle.std.proofs.lemmas.Bool.{cases_order, eqb-true, not-false}
use Rattle.std.proofs.lemmas.List.{get_or-map, length-map, length_push}
use Rattle.std.proofs.lemmas.List.Elements.{All-filter, All-push, All-weaker}
use Rattle.std.proofs.lemmas.List.FromFn.{length-map-range_with_len}
use Rattle.std.proofs.lemmas.List.Kept.{AllPairs-filter}
use Rattle.std.proofs.lemmas.List.Quantifiers.{all_pairs_push}
use Rattle.std.proofs.lemmas.List.Sums.{count_by-le-length, length-filter, sum_by-cons, sum_by_push}
use Rattle.region_book.specs.RegionCalls.{with_one_more, freed}
use Rattle.region_book.specs.RegionRecords.{Book, IsApart, IsBook, IsRegion, RegionRecord, marked, pages_of_region, region_of, with_region}
use Rattle.nk_body.proofs.RegionFrames.{found_place}

-- identifiers that rise are each that of one place
place_of_key : (rs : List RegionRecord) → AllPairs (λ one other. one.id < other.id) rs → (i j : ℕ) (d : RegionRecord) → i < length rs → j < length rs
    → (slice_index_or rs i d).id ≡ (slice_index_or rs j d).id → i ≡ j
place_of_key rs rising i j d low high same = elim (cases_order i j) [
  | inl is ↦ is
  | inr apart ↦ elim apart [
    | inl before ↦ absurd (omega (arith, rising i j d before high, same))
    | inr behind ↦ absurd (omega (arith, rising j i d behind low, same))
  ]
]

-- a sum stays where all that are left out have none, and where each has what it had
sum_filter : (p : RegionRecord → Bool) (f : RegionRecord → ℕ) (rs : List RegionRecord) → All (λ r. p r ≡ false → f r ≡ 0) rs → sum_by f (filter p rs) ≡ sum_by f rs
sum_filter p f [] none = refl
sum_filter p f (r ∷ rs) none =
    go (p r) (none 0 r (omega arith)) (sum_filter p f rs (λ k d below. none (suc k) d (omega (arith, below))))
  where
    go : (here : Bool) → (here ≡ false → f r ≡ 0) → sum_by f (filter p rs) ≡ sum_by f rs
        → sum_by f (cond here (r ∷ filter p rs) (filter p rs)) ≡ sum_by f (r ∷ rs)
    go true zero_is later = omega (arith, sum_by-cons f r (filter p rs), sum_by-cons f r rs, later)
    go false zero_is later = omega (arith, sum_by-cons f r rs, later, zero_is refl)

sum_map : (g : RegionRecord → RegionRecord) (f : RegionRecord → ℕ) (rs : List RegionRecord) → All (λ r. f (g r) ≡ f r) rs → sum_by f (map g rs) ≡ sum_by f rs
sum_map g f [] same = refl
sum_map g f (r ∷ rs) same =
    omega (
      arith,
      sum_by-cons f (g r) (map g rs),
      sum_by-cons f r rs,
      same 0 r (omega arith),
      sum_map g f rs (λ k d below. same (suc k) d (omega (arith, below))),
    )

-- a region is what it was but for its written bytes and its tail
record IsAfter (next : ℕ) (x y : RegionRecord) : Type 0 where
  id : y.id ≡ x.id
  pooled : y.pooled ≡ x.pooled
  first : y.first ≡ x.first
  size : y.size ≡ x.size
  frames : y.frames ≡ x.frames
  sound : IsRegion next x → IsRegion next y

module _ (book : Book) (sound : IsBook book) where
  -- the region of an identifier is the only one
  only_region : (id : ℕ) (r : RegionRecord) → region_of book id ≡ Some r → All (λ other. (other.id == id) ≡ true → other ≡ r) book.regions
  only_region id r found k d below same =
      let place = found_place (λ x. x.id == id) book.regions r found in
      let here : place.0 ≡ k =
      place_of_key book.regions sound.rising place.0 k d place.1 below
      (ap (λ x. x.id) (place.2 d) ∙ eqb-true r.id id place.3 ∙ sym (eqb-true _ id same)) in
      sym (ap (λ j. slice_index_or book.regions j d) here) ∙ place.2 d

  pub removed_sound : (id : ℕ) (r : RegionRecord) → region_of book id ≡ Some r → r.pooled ≡ true → IsBook (freed book id)
  removed_sound id r found pooled = record {
    next = sound.next;
    count = omega (arith, sound.count, length-filter (λ x. not (x.id == id)) book.regions, count_by-le-length (λ x. not (x.id == id)) book.regions);
    each = All-filter (λ x. not (x.id == id)) (IsRegion book.next) book.regions sound.each;
    rising = AllPairs-filter (λ one other. one.id < other.id) (λ x. not (x.id == id)) book.regions sound.rising;
    apart = AllPairs-filter IsApart (λ x. not (x.id == id)) book.regions sound.apart;
    pages = sound.pages ∙ sym (sum_filter (λ x. not (x.id == id)) pages_of_region book.regions none);
    most = sound.most;
  }
    where
      none : All (λ x. not (x.id == id) ≡ false → pages_of_region x ≡ 0) book.regions
      none k d below out =
          let is = only_region id r found k d below (not-false ((slice_index_or book.regions k d).id == id) out) in
          ap pages_of_region is ∙ ap (λ b. if b then 0 else length r.frames) pooled

  -- a new region
  pub added_sound : (r : RegionRecord) (pages : ℕ) → length book.regions < 256 → r.id ≡ book.next → IsRegion (book.next + 1) r
      → All (λ old. IsApart old r) book.regions → pages_of_region r ≡ pages → book.declared + pages ≤ 128 → IsBook (with_one_more book r pages)
  added_sound r pages few id is apart pages_is most = record {
    next = omega (arith, sound.next);
    count = omega (arith, few, length_push book.regions r);
    each = All-push (IsRegion (book.next + 1)) book.regions r (All-weaker (IsRegion book.next) (IsRegion (book.next + 1)) later book.regions sound.each) is;
    rising = all_pairs_push (λ one other. one.id < other.id) book.regions r sound.rising (λ k d below. omega (arith, id, (sound.each k d below).below));
    apart = all_pairs_push IsApart book.regions r sound.apart apart;
    pages = omega (arith, sound.pages, sum_by_push pages_of_region book.regions r, pages_is);
    most = most;
  }
    where
      later : (x : RegionRecord) → IsRegion book.next x → IsRegion (book.next + 1) x
      later x was = record {
        least = was.least;
        below = omega (arith, was.below);
        policy = was.policy;
        size = was.size;
        written = was.written;
        tail = was.tail;
        held = was.held;
        pooled = was.pooled;
        declared = was.declared;
      }

  -- a range of a region that was written
  module _ (id offset count : ℕ) (r : RegionRecord) (found : region_of book id ≡ Some r) (fits : offset + count ≤ r.size) where
    abbrev pub after : RegionRecord → RegionRecord
    after x = if x.id == r.id then marked r offset count else x

    tail_fits : (b : Bool) → r.tail ≤ r.size → (if b then offset + count else r.tail) ≤ r.size
    tail_fits true tail = fits
    tail_fits false tail = tail

    marked_after : IsAfter book.next r (marked r offset count)
    marked_after = record {
      id = refl;
      pooled = refl;
      first = refl;
      size = refl;
      frames = refl;
      sound = λ is. record {
        least = is.least;
        below = is.below;
        policy = is.policy;
        size = is.size;
        written = length-map-range_with_len _ 0 r.size;
        tail = tail_fits (r.policy == 2) is.tail;
        held = is.held;
        pooled = is.pooled;
        declared = is.declared;
      };
    }

    same_after : (x : RegionRecord) → IsAfter book.next x x
    same_after x = record { id = refl; pooled = refl; first = refl; size = refl; frames = refl; sound = λ is. is }

    after_by : (x : RegionRecord) (b : Bool) → (b ≡ true → x ≡ r) → IsAfter book.next x (if b then marked r offset count else x)
    after_by x true is = subst (λ y. IsAfter book.next y (marked r offset count)) (sym (is refl)) marked_after
    after_by x false is = same_after x

    are_after : All (λ x. IsAfter book.next x (after x)) book.regions
    are_after k d below =
        let x : RegionRecord = slice_index_or book.regions k d in
        let id_is : r.id ≡ id = eqb-true r.id id (found_place (λ x. x.id == id) book.regions r found).3 in
        after_by x (x.id == r.id) (λ same. only_region id r found k d below (ap (λ n. x.id == n) (sym id_is) ∙ same))

    -- what follows of a region after
    mapped : (P Q : RegionRecord → Type 0) → ((x y : RegionRecord) → IsAfter book.next x y → P x → Q y) → All P book.regions → All Q (map after book.regions)
    mapped P Q leads all k d below =
        let short : k < length book.regions = omega (arith, below, length-map book.regions after) in
        subst Q (sym (get_or-map after book.regions k d d short)) (leads _ _ (are_after k d short) (all k d short))

    mapped_pairs : (R : RegionRecord → RegionRecord → Type 0) → ((x y u v : RegionRecord) → IsAfter book.next x u → IsAfter book.next y v → R x y → R u v)
        → AllPairs R book.regions → AllPairs R (map after book.regions)
    mapped_pairs R leads pairs i j d low below =
        let last : j < length book.regions = omega (arith, below, length-map book.regions after) in
        let first : i < length book.regions = omega (arith, low, last) in
        subst (λ (it : RegionRecord × RegionRecord). R it.0 it.1)
        (λ k. (sym (get_or-map after book.regions i d d first) k, sym (get_or-map after book.regions j d d last) k))
        (leads _ _ _ _ (are_after i d first) (are_after j d last) (pairs i j d low last))

    pub written_sound : IsBook (with_region book (marked r offset count))
    written_sound = record {
      next = sound.next;
      count = omega (arith, sound.count, length-map book.regions after);
      each = mapped (IsRegion book.next) (IsRegion book.next) (λ x y is was. is.sound was) sound.each;
      rising = mapped_pairs (λ one other. one.id < other.id) (λ x y u v one other low. omega (arith, one.id, other.id, low)) sound.rising;
      apart = mapped_pairs IsApart still_apart sound.apart;
      pages = sound.pages ∙ sym (sum_map after pages_of_region book.regions
          (λ k d below. let is = are_after k d below in λ i. if is.pooled i then 0 else length (is.frames i)));
      most = sound.most;
    }
      where
        still_apart : (x y u v : RegionRecord) → IsAfter book.next x u → IsAfter book.next y v → IsApart x y → IsApart u v
        still_apart x y u v one other apart = record {
          pool = λ pooled_one pooled_other.
              subst (λ (it : (ℕ × ℕ) × (ℕ × ℕ)). (it.0.0 + it.0.1 ≤ it.1.0) ⊎ (it.1.0 + it.1.1 ≤ it.0.0))
              (λ i. ((sym one.first i, sym one.size i), (sym other.first i, sym other.size i)))
              (apart.pool (sym one.pooled ∙ pooled_one) (sym other.pooled ∙ pooled_other));
          pages = λ declared_one declared_other.
              subst (λ (it : List ℕ × List ℕ). All (λ f. All (λ g. f ≢ g) it.1) it.0)
              (λ i. (sym one.frames i, sym other.frames i))
              (apart.pages (sym one.pooled ∙ declared_one) (sym other.pooled ∙ declared_other));
        }

    pub written_frames : (P : List ℕ → Type 0) → All (λ x. P x.frames) book.regions → All (λ x. P x.frames) (map after book.regions)
    written_frames P all = mapped (λ x. P x.frames) (λ x. P x.frames) (λ x y is holds. subst P (sym is.frames) holds) all
