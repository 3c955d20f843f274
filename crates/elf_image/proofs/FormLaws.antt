-- What follows where no row stands.
use Rattle.std.proofs.Common.{◌≡◌, ℕ, ◌+◌, ◌*◌, ◌&&◌, ◌∙◌, map, zero, suc, ◌<◌, ◌≤◌, Bool, true, false, cond, List, [], ◌∷◌, leb, length, get_or, Option, Some, None, refl, sym, arith, inl, inr}
use Rattle.std.proofs.lemmas.Bool.{ltb-false, lt-ltb, false≢true, cases_Bool, cases_lt, and_from, cond_both, or_parts, not-false, and_parts, ltb-true}
use Rattle.std.proofs.lemmas.List.Elements.{All-nil, All-cons, All-weaker, filter_passes}
use Rattle.std.proofs.lemmas.List.Folds.{list_any_at}
use Rattle.std.specs.Prelude.{filter, find, option_map, nat_lt}
use Rattle.std.specs.List.{All, AllPairs, list_any, range_with_len}
use Rattle.elf_image.specs.declared.fault.FaultKind.{FaultKind}
use Rattle.elf_image.specs.declared.fault.ImageFault.{ImageFault}
use Rattle.elf_image.specs.declared.program_header.ProgramHeader.{ProgramHeader}
use Rattle.elf_image.specs.Elf.{e_entry, e_phnum, header_at, headers, is_segment, phdr_size, program_header_at, segments}
use Rattle.elf_image.specs.HeaderRows.{later_fault, segments_in}
use Rattle.elf_image.specs.Segments.{passes_end, is_misaligned, leaves_home, shares_with_earlier, is_writable_code, is_code_at, first_page, last_page, shares_page, total_pages}
use Rattle.elf_image.specs.Rows.{row_if, row_at, or_later, segment_fault, whole_fault, first_fault}
use Rattle.elf_image.specs.Loaded.{AreJudged}
use Rattle.elf_image.specs.SegmentForm.{IsPlaced}
use Rattle.elf_image.proofs.Pairs.{EachPair}

row_at-None : (o : Option ℕ) (k : FaultKind) (later : Option ImageFault) → row_at o k later ≡ None → (o ≡ None) × (later ≡ None)
row_at-None (Some v) k later h = cc
row_at-None None k later h = (refl, h)

row_if-None : (c : Bool) (k : FaultKind) (v : ℕ) (later : Option ImageFault) → row_if c k v later ≡ None → (c ≡ false) × (later ≡ None)
row_if-None true k v later h = cc
row_if-None false k v later h = (refl, h)

pub or_later-None : (a later : Option ImageFault) → or_later a later ≡ None → (a ≡ None) × (later ≡ None)
or_later-None (Some f) later h = cc
or_later-None None later h = (refl, h)

option_map-None : {A B : Type 0} (f : A → B) (o : Option A) → option_map f o ≡ None → o ≡ None
option_map-None f (Some x) h = cc
option_map-None f None h = refl

cond-None : {X : Type 0} (b : Bool) (x : X) (o : Option X) → cond b (Some x) o ≡ None → (b ≡ false) × (o ≡ None)
cond-None true x o h = cc
cond-None false x o h = (refl, h)

-- where none is found, each fails the test
pub find-None : {X : Type 0} (p : X → Bool) (xs : List X) → find p xs ≡ None → All (λ x. p x ≡ false) xs
find-None p [] h = All-nil (λ x. p x ≡ false)
find-None p (x ∷ xs) h =
    let parts = cond-None (p x) x (find p xs) h in
    All-cons (λ x. p x ≡ false) x xs parts.0 (find-None p xs parts.1)

some_if_any : {X : Type 0} (p : X → Bool) (xs : List X) → list_any p xs ≡ true → 0 < length xs
some_if_any p [] h = absurd (false≢true h)
some_if_any p (x ∷ xs) h = omega arith

pub AllPairs-cons : {X : Type 0} (R : X → X → Type 0) (x : X) (xs : List X) → All (R x) xs → AllPairs R xs → AllPairs R (x ∷ xs)
AllPairs-cons R x xs first rest i zero d low high = absurd (omega arith)
AllPairs-cons R x xs first rest zero (suc j) d low high = first j d (omega arith)
AllPairs-cons R x xs first rest (suc i) (suc j) d low high = rest i j d (omega arith) (omega arith)

-- what the rows say of segments on which none stands
pub record AreLawful (size entry : ℕ) (segs : List ProgramHeader) : Type 0 where
  pub ends : All (λ s. passes_end size s ≡ false) segs
  pub aligned : All (λ s. is_misaligned s ≡ false) segs
  pub home : All (λ s. leaves_home s ≡ false) segs
  pub apart : All (λ s. shares_with_earlier segs s ≡ false) segs
  pub rights : All (λ s. is_writable_code s ≡ false) segs
  pub code : list_any (is_code_at entry) segs ≡ true
  pub few : total_pages segs ≤ 8192

pub lawful : (size entry : ℕ) (segs : List ProgramHeader) → later_fault size entry segs ≡ None → AreLawful size entry segs
unfolding later_fault segment_fault whole_fault
lawful size entry segs h =
    let later = or_later-None _ _ h in
    let r7 = row_at-None _ _ _ later.0 in
    let r8 = row_at-None _ _ _ r7.1 in
    let r9 = row_at-None _ _ _ r8.1 in
    let r10 = row_at-None _ _ _ r9.1 in
    let r11 = row_at-None _ _ _ r10.1 in
    let r12 = row_if-None _ _ _ _ later.1 in
    let r13 = row_if-None _ _ _ _ r12.1 in
    record {
      ends = find-None _ _ (option_map-None _ _ r7.0);
      aligned = find-None _ _ (option_map-None _ _ r8.0);
      home = find-None _ _ (option_map-None _ _ r9.0);
      apart = find-None _ _ (option_map-None _ _ r10.0);
      rights = find-None _ _ (option_map-None _ _ r11.0);
      code = not-false _ r12.0;
      few = ltb-false 8192 _ r13.0;
    }

-- a segment that the rows let pass lies in the file and in the home
pub placed : (n : ℕ) (s : ProgramHeader) → is_segment s ≡ true → passes_end n s ≡ false → leaves_home s ≡ false → IsPlaced n s
placed n s counts ends home =
    let e = or_parts _ _ ends in
    let h = or_parts _ _ home in
    record {
      takes = ltb-true 0 s.memory_size (and_parts _ _ counts).1;
      backed = ltb-false _ _ e.0;
      inside = ltb-false _ _ e.1;
      above = ltb-false _ _ h.0;
      below = ltb-false _ _ h.1;
    }

-- the headers that count, from one index on: none has a lower index
index_above : (f : ℕ → ProgramHeader) → ((i : ℕ) → (f i).index ≡ i) → (a n : ℕ) → All (λ s. a ≤ s.index) (filter is_segment (map f (range_with_len a n)))
index_above f own a zero = All-nil (λ s. a ≤ s.index)
index_above f own a (suc n) =
    let rest = All-weaker (λ s. a + 1 ≤ s.index) (λ s. a ≤ s.index) (λ s h. omega arith) _ (index_above f own (a + 1) n) in
    let here : a ≤ (f a).index = omega (arith, own a) in
    let P : List ProgramHeader → Type 0 = λ xs. All (λ s. a ≤ s.index) xs in
    cond_both (is_segment (f a)) _ _ P
    (λ _. All-cons (λ s. a ≤ s.index) (f a) _ here rest)
    (λ _. rest)

-- and they ascend
index_rises : (f : ℕ → ProgramHeader) → ((i : ℕ) → (f i).index ≡ i) → (a n : ℕ) → AllPairs (λ s t. s.index < t.index) (filter is_segment (map f (range_with_len a n)))
index_rises f own a zero = λ i j d low high. absurd (omega arith)
index_rises f own a (suc n) =
    let rest = index_rises f own (a + 1) n in
    let at = own a in
    let P : List ProgramHeader → Type 0 = λ xs. AllPairs (λ s t. s.index < t.index) xs in
    cond_both (is_segment (f a)) _ _ P
    (λ _. AllPairs-cons (λ s t. s.index < t.index) (f a) _
    (All-weaker (λ s. a + 1 ≤ s.index) (λ s. (f a).index < s.index) (λ s h. omega (arith, at, h)) _ (index_above f own (a + 1) n)) rest)
    (λ _. rest)

-- segments of a table count, and stand in its order
pub table_counts : (table : List ℕ) (n : ℕ) → All (λ s. is_segment s ≡ true) (segments_in table n)
unfolding segments_in
table_counts table n = filter_passes is_segment (map (λ i. program_header_at table (phdr_size * i) i) (range_with_len 0 n))

pub table_ordered : (table : List ℕ) (n : ℕ) → AllPairs (λ s t. s.index < t.index) (segments_in table n)
unfolding segments_in program_header_at
table_ordered table n = index_rises (λ i. program_header_at table (phdr_size * i) i) (λ i. refl) 0 n

-- no place is past the table's end
index_below : (f : ℕ → ProgramHeader) → ((i : ℕ) → (f i).index ≡ i) → (a n m : ℕ) → a + n ≤ m → All (λ s. s.index < m) (filter is_segment (map f (range_with_len a n)))
index_below f own a zero m fits = All-nil (λ s. s.index < m)
index_below f own a (suc n) m fits =
    let rest = index_below f own (a + 1) n m (omega arith) in
    let here : (f a).index < m = omega (arith, own a) in
    let P : List ProgramHeader → Type 0 = λ xs. All (λ s. s.index < m) xs in
    cond_both (is_segment (f a)) _ _ P
    (λ _. All-cons (λ s. s.index < m) (f a) _ here rest)
    (λ _. rest)

pub table_below : (table : List ℕ) (n : ℕ) → n ≤ 64 → All (λ s. s.index < 64) (segments_in table n)
unfolding segments_in program_header_at
table_below table n few = index_below (λ i. program_header_at table (phdr_size * i) i) (λ i. refl) 0 n 64 (omega arith)

-- and so do those of a whole file
file_counts : (b : List ℕ) → All (λ s. is_segment s ≡ true) (segments b)
unfolding segments
file_counts b = filter_passes is_segment (headers b)

pub file_ordered : (b : List ℕ) → AllPairs (λ s t. s.index < t.index) (segments b)
unfolding segments program_header_at
file_ordered b = index_rises (header_at b) (λ i. refl) 0 (e_phnum b)

later_none : (b : List ℕ) → first_fault b ≡ None → later_fault (length b) (e_entry b) (segments b) ≡ None
unfolding first_fault later_fault
later_none b h = (or_later-None _ _ h).1

-- the segments of a file without a fault
pub judged_file : (b : List ℕ) → first_fault b ≡ None → AreJudged (length b) (e_entry b) (segments b)
judged_file b h = record { form = later_none b h; counting = file_counts b; ordered = file_ordered b }

and_swapped : (x y : Bool) → (x && y) ≡ false → (y && x) ≡ false
and_swapped true true h = h
and_swapped true false h = refl
and_swapped false true h = refl
and_swapped false false h = refl

shares_either : (s t : ProgramHeader) → shares_page s t ≡ false → shares_page t s ≡ false
shares_either s t h = and_swapped (leb (first_page s) (last_page t)) (leb (first_page t) (last_page s)) h

-- segments in table order on which no row stands
module _ (size entry : ℕ) (segs : List ProgramHeader) (judged : AreJudged size entry segs) where
  pub all_placed : All (IsPlaced size) segs
  all_placed i d h =
      let law = lawful size entry segs judged.form in
      placed size _ (judged.counting i d h) (law.ends i d h) (law.home i d h)

  -- there is a segment: the one of the entry
  pub some_segment : 0 < length segs
  some_segment = some_if_any (is_code_at entry) segs (lawful size entry segs judged.form).code

  not_shared : (i j : ℕ) (d : ProgramHeader) → i < j → j < length segs → shares_page (get_or segs i d) (get_or segs j d) ≡ false
  not_shared i j d low high =
      let alone = (lawful size entry segs judged.form).apart j d high in
      let before : nat_lt (get_or segs i d).index (get_or segs j d).index ≡ true = lt-ltb _ _ (judged.ordered i j d low high) in
      elim (cases_Bool (shares_page (get_or segs i d) (get_or segs j d))) [
        | inl e ↦ absurd (false≢true (sym alone ∙ list_any_at (λ t. nat_lt t.index (get_or segs j d).index && shares_page t (get_or segs j d)) segs i d (omega arith) (and_from _ _ before e)))
        | inr e ↦ e
      ]

  -- no two segments share a page
  pub segments_apart : EachPair (λ s t. shares_page s t ≡ false) segs
  segments_apart i j d hi hj n =
      elim (cases_lt i j) [
        | inl low ↦ not_shared i j d low hj
        | inr high ↦ shares_either (get_or segs j d) (get_or segs i d) (not_shared j i d (omega arith) hi)
      ]
