-- The pages of segments that stand in the order of their addresses and share none.
use Rattle.std.proofs.Common.{◌≡◌, ℕ, ◌+◌, ◌*◌, ◌-◌, ◌/◌, ◌<◌, ◌≤◌, Bool, true, false, leb, ltb, List, [], ◌∷◌, ◌++◌, length, length-append, get_or, take, refl, sym, ap, ◌∙◌, subst, arith, inl, inr, suc}
use Rattle.std.proofs.lemmas.Bool.{lt-ltb, cases_lt, and_cases, and_parts, and_left, and_right, and_from, lt-leb, le-leb, leb-true, leb-false, ltb-true, cases_Bool, cond-true, cond-false}
use Rattle.std.proofs.lemmas.List.Elements.{All-head, All-tail, All-weaker, filter-append}
use Rattle.std.proofs.lemmas.List.Concat.{get_or-flat_map}
use Rattle.std.proofs.lemmas.List.FromFn.{get_or-range_with_len, length-range_with_len}
use Rattle.std.proofs.lemmas.List.Sums.{sum_by-cons}
use Rattle.std.specs.Prelude.{filter, sum_by}
use Rattle.std.specs.List.{All, flat_map, list_any, range_with_len}
use Rattle.std.specs.List.Sorted.{IsNonDecreasingBy}
use Rattle.elf_image.specs.Home.{page_size}
use Rattle.elf_image.specs.declared.program_header.ProgramHeader.{ProgramHeader}
use Rattle.elf_image.specs.Segments.{covers, first_page, last_page, loads, pages_of_segment, pages_touched, shares_page, total_pages, touches}
use Rattle.elf_image.proofs.Pairs.{AtMostOne, EachPair}
use Rattle.elf_image.proofs.Ranges.{filter_range-agree, filter_range_all, filter_range_none, range-append}

pub in_order : (s : ProgramHeader) → 0 < s.memory_size → first_page s ≤ last_page s
in_order s takes = omega arith

-- two segments that share no page don't both touch one
pub touch_apart : (s t : ProgramHeader) (n : ℕ) → shares_page s t ≡ false → touches s n ≡ true → touches t n ≡ false
touch_apart s t n apart here =
    let low : first_page s ≤ n = leb-true _ _ (and_parts (leb (first_page s) n) (leb n (last_page s)) here).0 in
    let high : n ≤ last_page s = leb-true _ _ (and_parts (leb (first_page s) n) (leb n (last_page s)) here).1 in
    elim (and_cases (leb (first_page s) (last_page t)) (leb (first_page t) (last_page s)) apart) [
      | inl e ↦
          let past : last_page t < first_page s = leb-false _ _ e in
          and_right (leb (first_page t) n) (leb n (last_page t)) (lt-leb _ _ (omega arith))
      | inr e ↦
          let before : last_page s < first_page t = leb-false _ _ e in
          and_left (leb (first_page t) n) (leb n (last_page t)) (lt-leb _ _ (omega arith))
    ]

pub touched_once : (segs : List ProgramHeader) → EachPair (λ s t. shares_page s t ≡ false) segs → (n : ℕ) → AtMostOne (λ s. touches s n) segs
touched_once segs apart n i j d hi hj ne here = touch_apart (get_or segs i d) (get_or segs j d) n (apart i j d hi hj ne) here

-- a segment touches the page of each address of its memory
pub covers_touches : (s : ProgramHeader) (va : ℕ) → covers s va ≡ true → touches s (va / page_size) ≡ true
covers_touches s va h =
    let parts = and_parts (leb s.address va) (ltb va (s.address + s.memory_size)) h in
    let from : s.address ≤ va = leb-true s.address va parts.0 in
    let upto : va < s.address + s.memory_size = ltb-true va (s.address + s.memory_size) parts.1 in
    let low : first_page s ≤ va / page_size = omega arith in
    let high : va / page_size ≤ last_page s = omega arith in
    and_from (leb (first_page s) (va / page_size)) (leb (va / page_size) (last_page s)) (le-leb _ _ low) (le-leb _ _ high)

-- and each page that it touches has such an address
pub touches_covers : (s : ProgramHeader) (n : ℕ) → 0 < s.memory_size → touches s n ≡ true → (va : ℕ) × (va / page_size ≡ n) × (covers s va ≡ true)
touches_covers s n takes h =
    let parts = and_parts (leb (first_page s) n) (leb n (last_page s)) h in
    let from : first_page s ≤ n = leb-true _ _ parts.0 in
    let upto : n ≤ last_page s = leb-true _ _ parts.1 in
    elim (cases_lt s.address (page_size * n)) [
      | inl before ↦
          let low : s.address ≤ page_size * n = omega arith in
          let high : page_size * n < s.address + s.memory_size = omega arith in
          (page_size * n, omega arith, and_from (leb s.address (page_size * n)) (ltb (page_size * n) (s.address + s.memory_size)) (le-leb _ _ low) (lt-ltb _ _ high))
      | inr after ↦
          let low : s.address ≤ s.address = omega arith in
          let high : s.address < s.address + s.memory_size = omega arith in
          (s.address, omega arith, and_from (leb s.address s.address) (ltb s.address (s.address + s.memory_size)) (le-leb _ _ low) (lt-ltb _ _ high))
    ]

-- a segment touches the page of each byte that it loads
pub loads_touches : (s : ProgramHeader) (va : ℕ) → s.file_size ≤ s.memory_size → loads s va ≡ true → touches s (va / page_size) ≡ true
loads_touches s va backed h =
    let parts = and_parts (leb s.address va) (ltb va (s.address + s.file_size)) h in
    let from : s.address ≤ va = leb-true s.address va parts.0 in
    let upto : va < s.address + s.file_size = ltb-true va (s.address + s.file_size) parts.1 in
    let low : first_page s ≤ va / page_size = omega arith in
    let high : va / page_size ≤ last_page s = omega arith in
    and_from _ _ (le-leb _ _ low) (le-leb _ _ high)

-- each segment begins on this page or later, after the pages of the one before
abbrev pub Rising : ℕ → List ProgramHeader → Type 0
Rising low [] = Unit {0}
Rising low (s ∷ rest) = (low ≤ first_page s) × (first_page s ≤ last_page s) × Rising (last_page s + 1) rest

pub rising : (segs : List ProgramHeader) (low : ℕ) → All (λ s. low ≤ first_page s) segs → All (λ s. 0 < s.memory_size) segs
    → IsNonDecreasingBy (λ s. s.address) segs → EachPair (λ s t. shares_page s t ≡ false) segs → Rising low segs
rising [] low above takes up apart = tt
rising (s ∷ rest) low above takes up apart =
    let here : first_page s ≤ last_page s = in_order s (All-head (λ t. 0 < t.memory_size) s rest takes) in
    let after : All (λ t. last_page s + 1 ≤ first_page t) rest = λ k d h.
    let later : s.address ≤ (get_or rest k d).address = up 0 (suc k) d (omega arith) (omega arith) in
    let takes_too : 0 < (get_or rest k d).memory_size = takes (suc k) d (omega arith) in
    let shares_none : shares_page s (get_or rest k d) ≡ false = apart 0 (suc k) d (omega arith) (omega arith) (omega arith) in
    elim (and_cases (leb (first_page s) (last_page (get_or rest k d))) (leb (first_page (get_or rest k d)) (last_page s)) shares_none) [
      | inl e ↦ let past : last_page (get_or rest k d) < first_page s = leb-false _ _ e in absurd (omega arith)
      | inr e ↦ let before : last_page s < first_page (get_or rest k d) = leb-false _ _ e in omega arith
    ] in (
      All-head (λ t. low ≤ first_page t) s rest above,
      here,
      rising rest (last_page s + 1) after (All-tail (λ t. 0 < t.memory_size) s rest takes)
          (λ i j d h k. up (suc i) (suc j) d (omega arith) (omega arith))
          (λ i j d h k n. apart (suc i) (suc j) d (omega arith) (omega arith) (omega arith)),
    )

-- no segment touches a page below
untouched_below : (segs : List ProgramHeader) (low n : ℕ) → Rising low segs → n < low → list_any (λ s. touches s n) segs ≡ false
untouched_below [] low n up h = refl
untouched_below (s ∷ rest) low n up h =
    let outside : touches s n ≡ false = and_left (leb (first_page s) n) (leb n (last_page s)) (lt-leb _ _ (omega (arith, up.0))) in
    let later = untouched_below rest (last_page s + 1) n up.2 (omega (arith, up.0, up.1)) in
    rw (outside, later) refl

-- the pages that some segment touches are those of the segments in turn
pub touched_pages : (segs : List ProgramHeader) (low m : ℕ) → Rising low segs → All (λ s. last_page s < low + m) segs
    → filter (λ n. list_any (λ s. touches s n) segs) (range_with_len low m) ≡ flat_map pages_of_segment segs
touched_pages [] low m up high = filter_range_none (λ n. false) low m (λ n _ _. refl)
touched_pages (s ∷ rest) low m up high =
    let any : ℕ → Bool = λ n. list_any (λ t. touches t n) (s ∷ rest) in
    let last : last_page s < low + m = All-head (λ t. last_page t < low + m) s rest high in
    let gap : ℕ = first_page s - low in
    let left : ℕ = low + m - (last_page s + 1) in
    let all : gap + (pages_touched s + left) ≡ m = omega (arith, up.0, up.1, last) in
    let begins : low + gap ≡ first_page s = omega (arith, up.0) in
    let ends : first_page s + pages_touched s ≡ last_page s + 1 = omega (arith, up.1) in
    let one : filter any (range_with_len low gap) ≡ [] = filter_range_none any low gap (λ n _ h.
    let outside : touches s n ≡ false = and_left (leb (first_page s) n) (leb n (last_page s)) (lt-leb _ _ (omega (arith, h, begins))) in
    rw (outside, untouched_below rest (last_page s + 1) n up.2 (omega (arith, h, begins, up.1))) refl) in
    let two : filter any (range_with_len (first_page s) (pages_touched s)) ≡ range_with_len (first_page s) (pages_touched s) = filter_range_all any (first_page s) (pages_touched s) (λ n l h.
    let inside : touches s n ≡ true = and_from (leb (first_page s) n) (leb n (last_page s)) (le-leb _ _ l) (le-leb _ _ (omega (arith, h, ends))) in
    rw inside refl) in
    let three : filter any (range_with_len (last_page s + 1) left) ≡ flat_map pages_of_segment rest =
    filter_range-agree any (λ n. list_any (λ t. touches t n) rest) (last_page s + 1) left (λ n l _.
    let outside : touches s n ≡ false = and_right (leb (first_page s) n) (leb n (last_page s)) (lt-leb _ _ (omega (arith, l))) in
    rw outside refl)
    ∙ touched_pages rest (last_page s + 1) left up.2
    (All-weaker (λ t. last_page t < low + m) (λ t. last_page t < last_page s + 1 + left) (λ t h. omega (arith, h, last)) rest (All-tail (λ t. last_page t < low + m) s rest high)) in
    let P : ℕ → Type 0 = λ x. filter any (range_with_len low x) ≡ pages_of_segment s ++ flat_map pages_of_segment rest in
    let Q : ℕ → Type 0 = λ x. filter any (range_with_len low gap ++ (range_with_len x (pages_touched s) ++ range_with_len (x + pages_touched s) left)) ≡ pages_of_segment s ++ flat_map pages_of_segment rest in
    let R : ℕ → Type 0 = λ x. filter any (range_with_len low gap ++ (range_with_len (first_page s) (pages_touched s) ++ range_with_len x left)) ≡ pages_of_segment s ++ flat_map pages_of_segment rest in
    let parts : R (last_page s + 1) = rw (filter-append, filter-append, one, two, three) refl in
    subst P all (rw (range-append low gap (pages_touched s + left), range-append (low + gap) (pages_touched s) left)
    (subst Q (sym begins) (subst R (sym ends) parts)))

-- how many they are
pub count_in_turn : (segs : List ProgramHeader) → length (flat_map pages_of_segment segs) ≡ total_pages segs
count_in_turn [] = refl
count_in_turn (s ∷ rest) =
    length-append (pages_of_segment s) (flat_map pages_of_segment rest)
    ∙ omega (arith, length-range_with_len (first_page s) (pages_touched s), count_in_turn rest, sum_by-cons pages_touched s rest)

-- and how many of them pass a test that is the same on all pages of a segment
pub count_kept : (q : ℕ → Bool) (f : ProgramHeader → Bool) (segs : List ProgramHeader) → All (λ s. (n : ℕ) → first_page s ≤ n → n < first_page s + pages_touched s → q n ≡ f s) segs
    → length (filter q (flat_map pages_of_segment segs)) ≡ sum_by pages_touched (filter f segs)
count_kept q f [] same = refl
count_kept q f (s ∷ rest) same =
    let here = All-head (λ t. (n : ℕ) → first_page t ≤ n → n < first_page t + pages_touched t → q n ≡ f t) s rest same in
    let later = count_kept q f rest (All-tail (λ t. (n : ℕ) → first_page t ≤ n → n < first_page t + pages_touched t → q n ≡ f t) s rest same) in
    let parts : length (filter q (flat_map pages_of_segment (s ∷ rest))) ≡ length (filter q (pages_of_segment s)) + length (filter q (flat_map pages_of_segment rest)) =
    ap length (filter-append q (pages_of_segment s) (flat_map pages_of_segment rest)) ∙ length-append (filter q (pages_of_segment s)) (filter q (flat_map pages_of_segment rest)) in
    elim (cases_Bool (f s)) [
      | inl e ↦
          let all = ap length (filter_range_all q (first_page s) (pages_touched s) (λ n l h. here n l h ∙ e)) ∙ length-range_with_len (first_page s) (pages_touched s) in
          let kept : sum_by pages_touched (filter f (s ∷ rest)) ≡ pages_touched s + sum_by pages_touched (filter f rest) =
          ap (λ (xs : List ProgramHeader). sum_by pages_touched xs) (cond-true (f s) (s ∷ filter f rest) (filter f rest) e) ∙ sum_by-cons pages_touched s (filter f rest) in
          omega (arith, parts, all, later, kept)
      | inr e ↦
          let none = ap length (filter_range_none q (first_page s) (pages_touched s) (λ n l h. here n l h ∙ e)) in
          let passed : sum_by pages_touched (filter f (s ∷ rest)) ≡ sum_by pages_touched (filter f rest) =
          ap (λ (xs : List ProgramHeader). sum_by pages_touched xs) (cond-false (f s) (s ∷ filter f rest) (filter f rest) e) in
          omega (arith, parts, none, later, passed)
    ]

-- the page of a segment that comes after those of the segments before it
pub nth_in_turn : (segs : List ProgramHeader) (k left i : ℕ) (d : ProgramHeader) → k < length segs → left < pages_touched (get_or segs k d)
    → sum_by pages_touched (take k segs) + left ≡ i → first_page (get_or segs k d) + left ≡ get_or (flat_map pages_of_segment segs) i 0
nth_in_turn segs k left i d inside short sum =
    let at : length (flat_map pages_of_segment (take k segs)) + left ≡ i = omega (arith, count_in_turn (take k segs), sum) in
    sym (ap (λ (m : ℕ). get_or (flat_map pages_of_segment segs) m 0) (sym at)
    ∙ get_or-flat_map pages_of_segment segs k left d 0 inside (omega (arith, length-range_with_len (first_page (get_or segs k d)) (pages_touched (get_or segs k d)), short))
    ∙ get_or-range_with_len (first_page (get_or segs k d)) (pages_touched (get_or segs k d)) left 0 short)
