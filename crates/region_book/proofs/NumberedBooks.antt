-- How many pages were declared before a region: as its row says, and as no call on regions changes it.
use Rattle.std.proofs.Common.{◌≡◌, ℕ, zero, suc, ◌+◌, ◌<◌, ◌≤◌, Bool, true, false, not, ◌==◌, List, [], ◌∷◌, ◌++◌, length, map, take, arith, refl, sym, ap, ◌∙◌, subst, inl, inr, slice_index_or}
use Rattle.std.specs.Prelude.{All, AllPairs, None, Some, cond, filter, if◌then◌else◌, nat_lt, option_map, slice_get}
use Rattle.std.specs.List.{sum_by}
use Rattle.std.proofs.lemmas.Bool.{cases_Bool, eqb-true, le-ltb, lt-ltb}
use Rattle.std.proofs.lemmas.List.{append-nil, get_or-map, length-map, take-map}
use Rattle.std.proofs.lemmas.List.Elements.{All-take, filter-append}
use Rattle.std.proofs.lemmas.List.Sums.{sum_by-cons}
use Rattle.std.proofs.lemmas.Option.{slice_get-get_or, slice_get-map}
use Rattle.region_book.specs.declared.row.Row.{Row}
use Rattle.region_book.specs.RegionBytes.{HoldsRegions, RegionIndex, bits_in, book_in, row_in}
use Rattle.region_book.specs.RegionCalls.{free_rule, freed, with_one_more}
use Rattle.region_book.specs.RegionRecords.{Book, IsBook, IsRegion, RegionRecord, declared_before, marked, pages_of_region, region_of, with_region}
use Rattle.region_book.specs.RegionRows.{frames_of_row, pages_of_row, region_at}
use Rattle.region_book.proofs.Found.{found_place}
use Rattle.region_book.proofs.FreedBook.{free_rule_none}
use Rattle.region_book.proofs.ListEdits.{sum_filter}
use Rattle.region_book.proofs.NumberedRows.{pages_declared, pages_pooled}
use Rattle.region_book.proofs.SoundBooks.{only_region, pages_let_go}

-- Sums.

-- a sum over those that pass a test
sum_kept : {X : Type 0} (p : X → Bool) (f : X → ℕ) (xs : List X) →
    sum_by f (filter p xs) ≡ sum_by (λ x. if p x then f x else 0) xs
sum_kept p f [] = refl
sum_kept p f (x ∷ xs) =
    go (p x) (sum_kept p f xs) ∙ sym (sum_by-cons (λ y. if p y then f y else 0) x xs)
  where
    go : (here : Bool) → sum_by f (filter p xs) ≡ sum_by (λ y. if p y then f y else 0) xs →
        sum_by f (cond here (x ∷ filter p xs) (filter p xs)) ≡ (if here then f x else 0)
        + sum_by (λ y. if p y then f y else 0) xs
    go true later = sum_by-cons f x (filter p xs) ∙ ap (λ n. f x + n) later
    go false later = omega (arith, later)

sum_map_agree : {X Y : Type 0} (f : Y → ℕ) (g : X → Y) (h : X → ℕ) (xs : List X) → All (λ x. f (g x) ≡ h x) xs →
    sum_by f (map g xs) ≡ sum_by h xs
sum_map_agree f g h [] same = refl
sum_map_agree f g h (x ∷ xs) same =
    let first : f (g x) ≡ h x = same 0 x (omega arith) in
    let rest : sum_by f (map g xs) ≡ sum_by h xs = sum_map_agree f g h xs (λ k d below. same (suc k) d (omega (arith, below))) in
    omega (arith, sum_by-cons f (g x) (map g xs), sum_by-cons h x xs, first, rest)

filter_none : {X : Type 0} (p : X → Bool) (xs : List X) → All (λ x. p x ≡ false) xs → filter p xs ≡ []
filter_none p [] none = refl
filter_none p (x ∷ xs) none =
    ap (λ b. cond b (x ∷ filter p xs) (filter p xs)) (none 0 x (omega arith))
    ∙ filter_none p xs (λ k d below. none (suc k) d (omega (arith, below)))

-- where keys rise, those in front of an element have the lesser keys
lesser_keys : {X : Type 0} (key : X → ℕ) (xs : List X) (k : ℕ) (d : X) → AllPairs (λ a b. key a < key b) xs →
    k < length xs → filter (λ x. nat_lt (key x) (key (slice_index_or xs k d))) xs ≡ take k xs
lesser_keys key [] k d rising within = absurd (omega (arith, within))
lesser_keys key (x ∷ xs) zero d rising within =
    ap (λ b. cond b (x ∷ filter (λ y. nat_lt (key y) (key x)) xs) (filter (λ y. nat_lt (key y) (key x)) xs))
    (le-ltb (key x) (key x) (omega arith))
    ∙ filter_none (λ y. nat_lt (key y) (key x)) xs (λ j e below.
    let later : key x < key (slice_index_or xs j e) = rising 0 (suc j) e (omega arith) (omega (arith, below)) in
    le-ltb (key (slice_index_or xs j e)) (key x) (omega (arith, later)))
lesser_keys key (x ∷ xs) (suc k) d rising within =
    ap (λ b. cond b (x ∷ filter (λ y. nat_lt (key y) (key (slice_index_or xs k d))) xs)
    (filter (λ y. nat_lt (key y) (key (slice_index_or xs k d))) xs))
    (lt-ltb (key x) (key (slice_index_or xs k d)) (rising 0 (suc k) d (omega arith) (omega (arith, within))))
    ∙ ap (λ ys. x ∷ ys) (lesser_keys key xs k d
    (λ a b e low below. rising (suc a) (suc b) e (omega (arith, low)) (omega (arith, below))) (omega (arith, within)))

-- The number in memory.

region_pages : (next : ℕ) (bits : List ℕ) (row : Row) → IsRegion next (region_at bits row) →
    pages_of_region (region_at bits row) ≡ pages_of_row row
region_pages next bits row is =
    elim (cases_Bool row.pooled) [
      | inl pooled ↦ ap (λ b. if b then 0 else length (frames_of_row row)) pooled ∙ sym (pages_pooled row pooled)
      | inr declared ↦
          ap (λ b. if b then 0 else length (frames_of_row row)) declared
          ∙ sym (pages_declared row (length (frames_of_row row)) declared (is.declared declared).1)
    ]

module _ (index : RegionIndex) (m : List ℕ) (held : HoldsRegions index m) (book : IsBook (book_in index m)) where
  each_row : All (λ row. pages_of_region (region_at (bits_in m) row) ≡ pages_of_row row) (map (row_in m) index.slots)
  each_row k d below =
      let row : Row = slice_index_or (map (row_in m) index.slots) k d in
      region_pages index.next (bits_in m) row
      (subst (IsRegion index.next) (get_or-map (region_at (bits_in m)) (map (row_in m) index.slots) k d (region_at (bits_in m) d) below)
      (book.each k (region_at (bits_in m) d) (omega (
        arith,
        below,
        length-map (map (row_in m) index.slots) (region_at (bits_in m)),
      ))))

  module _ (k d : ℕ) (below : k < length index.slots) where
    abbrev row : Row
    row = row_in m (slice_index_or index.slots k d)

    row_here : slice_get (map (row_in m) index.slots) k ≡ Some row
    row_here = slice_get-map (row_in m) index.slots k ∙ ap (option_map (row_in m)) (slice_get-get_or index.slots k d below)

    region_here : slice_index_or (book_in index m).regions k (region_at (bits_in m) row) ≡ region_at (bits_in m) row
    region_here =
        get_or-map (region_at (bits_in m)) (map (row_in m) index.slots) k row (region_at (bits_in m) row)
        (omega (arith, below, length-map index.slots (row_in m)))
        ∙ ap (region_at (bits_in m)) (get_or-map (row_in m) index.slots k d row below)

    lesser : filter (λ r. nat_lt r.id row.id) (book_in index m).regions ≡ take k (book_in index m).regions
    lesser =
        ap (λ id. filter (λ r. nat_lt r.id id) (book_in index m).regions) (sym (ap (λ (r : RegionRecord). r.id) region_here))
        ∙ lesser_keys (λ (r : RegionRecord). r.id) (book_in index m).regions k (region_at (bits_in m) row) book.rising
        (omega (
          arith,
          below,
          length-map index.slots (row_in m),
          length-map (map (row_in m) index.slots) (region_at (bits_in m)),
        ))

    pages_before : sum_by pages_of_row (take k (map (row_in m) index.slots)) ≡ declared_before (book_in index m) row.id
    pages_before =
        sym (ap (sum_by pages_of_region) (lesser ∙ take-map (region_at (bits_in m)) k (map (row_in m) index.slots))
        ∙ sum_map_agree pages_of_region (region_at (bits_in m)) pages_of_row (take k (map (row_in m) index.slots))
        (All-take (λ row. pages_of_region (region_at (bits_in m) row) ≡ pages_of_row row) k (map (row_in m) index.slots) each_row))

  pub number_is : All (λ s. (row_in m s).slot ≡
      (if (row_in m s).pooled then 0 else declared_before (book_in index m) (row_in m s).id)) index.slots
  number_is k d below =
      held.kept.numbers.each k (row k d below) (row_here k d below)
      ∙ ap (λ n. if (row k d below).pooled then 0 else n) (pages_before k d below)

-- What calls leave.

pub before_added : (book : Book) (r : RegionRecord) (pages id : ℕ) → id ≤ r.id →
    declared_before (with_one_more book r pages) id ≡ declared_before book id
before_added book r pages id later =
    ap (sum_by pages_of_region) (filter-append (λ x. nat_lt x.id id) book.regions (r ∷ [])
    ∙ ap (λ b. filter (λ x. nat_lt x.id id) book.regions ++ cond b (r ∷ []) []) (le-ltb r.id id later)
    ∙ append-nil (filter (λ x. nat_lt x.id id) book.regions))

module _ (book : Book) (other : ℕ) (sound : IsBook book) where
  -- what a region counts
  abbrev counted : RegionRecord → ℕ
  counted x = if nat_lt x.id other then pages_of_region x else 0

  before_is : (regions : List RegionRecord) → sum_by pages_of_region (filter (λ x. nat_lt x.id other) regions) ≡ sum_by counted regions
  before_is regions = sum_kept (λ x. nat_lt x.id other) pages_of_region regions

  none_counted : (b : Bool) (pages : ℕ) → pages ≡ 0 → (if b then pages else 0) ≡ 0
  none_counted true pages none = none
  none_counted false pages none = refl

  pub before_let_go : (id : ℕ) → free_rule book id ≡ None → declared_before (freed book id) other ≡ declared_before book other
  before_let_go id free =
      let live = free_rule_none (region_of book id) free in
      let none = pages_let_go book sound id live.0 live.1 live.2 in
      before_is (filter (λ x. not (x.id == id)) book.regions)
      ∙ sum_filter (λ x. not (x.id == id)) counted book.regions
      (λ k d below out. none_counted (nat_lt (slice_index_or book.regions k d).id other)
      (pages_of_region (slice_index_or book.regions k d)) (none k d below out))
      ∙ sym (before_is book.regions)

  module _ (id offset count : ℕ) (r : RegionRecord) (found : region_of book id ≡ Some r) where
    named : r.id ≡ id
    named = eqb-true r.id id (found_place (λ x. x.id == id) book.regions r found).3

    same_counted : (x : RegionRecord) (here : Bool) → (x.id == r.id) ≡ here → (x.id ≡ id → x ≡ r) →
        counted (if here then marked r offset count else x) ≡ counted x
    same_counted x true is only = ap counted (sym (only (eqb-true x.id r.id is ∙ named)))
    same_counted x false is only = refl

    pub before_written : declared_before (with_region book (marked r offset count)) other ≡ declared_before book other
    before_written =
        before_is (map (λ x. if x.id == r.id then marked r offset count else x) book.regions)
        ∙ sum_map_agree counted (λ x. if x.id == r.id then marked r offset count else x) counted book.regions
        (λ k d below. same_counted (slice_index_or book.regions k d) ((slice_index_or book.regions k d).id == r.id) refl
        (only_region book sound id r found k d below))
        ∙ sym (before_is book.regions)
