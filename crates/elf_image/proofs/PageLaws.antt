-- The pages of segments in form, and the places of their bytes, by the segments in the order of their addresses.
use Rattle.std.proofs.Common.{◌≡◌, ℕ, ◌+◌, ◌*◌, ◌/◌, ◌<◌, ◌≤◌, Bool, true, false, not, ◌&&◌, cond, leb, List, [], ◌∷◌, length, get_or, Option, Some, None, refl, sym, ap, ◌∙◌, subst, arith, inl, inr}
use Rattle.std.proofs.lemmas.Bool.{and_parts, and_left, and_right, and_from, le-leb, leb-true, cases_Bool, cases_eq, false≢true, false_from_ne_true, cond-true, cond-false}
use Rattle.std.proofs.lemmas.List.Elements.{All-from_get_or, All-contains, All-weaker, Contains-get_or, filter_agree, filter_passes}
use Rattle.std.proofs.lemmas.List.Folds.{list_any_none, list_any_at, Any-from_list_any}
use Rattle.std.proofs.lemmas.List.Sorted.{All-permutation, Contains-permutation, IsPermutation-sym, length_permutation, list_any-IsPermutation, sum_by-IsPermutation}
use Rattle.std.proofs.lemmas.List.Sums.{sum_by-cons}
use Rattle.std.proofs.lemmas.List.Filters.{sum_by-filter_both}
use Rattle.std.specs.Prelude.{filter, find, option_map, sum_by}
use Rattle.std.specs.List.{All, Contains, flat_map, list_any, range_with_len}
use Rattle.elf_image.specs.declared.program_header.ProgramHeader.{ProgramHeader}
use Rattle.elf_image.specs.Elf.{has_flag, pf_w, pf_x}
use Rattle.elf_image.specs.Home.{home_end, home_start, page_size}
use Rattle.elf_image.specs.Segments.{covers, first_page, is_code_at, last_page, loads, pages_of_segment, pages_touched, shares_page, total_pages, touches}
use Rattle.elf_image.specs.Loaded.{AreJudged, AreLoaded, Supplies}
use Rattle.elf_image.specs.SegmentForm.{IsPlaced}
use Rattle.elf_image.specs.Pages.{home_pages, numbers_from}
use Rattle.elf_image.specs.FileParts.{ArePages}
use Rattle.elf_image.specs.SegmentPages.{is_executable_of, is_in_memory_of, is_page_of, is_writable_of, pages_in, file_place, loaded_place}
use Rattle.elf_image.proofs.FormLaws.{all_placed, lawful, segments_apart, some_segment}
use Rattle.elf_image.proofs.Pairs.{AtMostOne, EachPair, EachPair-permutation, found_alone, found_at, found_is}
use Rattle.elf_image.proofs.Ranges.{kept_all, kept_ascending, kept_within}
use Rattle.elf_image.proofs.SegmentLaws.{count_in_turn, count_kept, covers_touches, in_order, loads_touches, touches_covers, rising, touch_apart, touched_once, touched_pages}

at_least_one : (segs : List ProgramHeader) → 0 < length segs → 0 < total_pages segs
at_least_one [] h = absurd (omega arith)
at_least_one (s ∷ rest) h = omega (arith, sum_by-cons pages_touched s rest)

-- where no element passes, none is found
none_found : {X : Type 0} (p : X → Bool) (xs : List X) → list_any p xs ≡ false → find p xs ≡ None
none_found p [] h = refl
none_found p (x ∷ xs) h =
    elim (cases_Bool (p x)) [
      | inl e ↦ absurd (false≢true (sym h ∙ rw e refl))
      | inr e ↦ cond-false (p x) (Some x) (find p xs) e ∙ none_found p xs (rw e at h)
    ]

weaker_any : {X : Type 0} (p q : X → Bool) (xs : List X) → ((x : X) → p x ≡ true → q x ≡ true) → list_any p xs ≡ true → list_any q xs ≡ true
weaker_any p q xs w h =
    let a = Any-from_list_any p xs h in
    list_any_at q xs a.0 a.1 a.2 (ap q a.3 ∙ w a.1 a.4)

kept_some : {X : Type 0} (p : X → Bool) (xs : List X) → list_any p xs ≡ true → 0 < length (filter p xs)
kept_some p [] h = absurd (false≢true h)
kept_some p (x ∷ xs) h =
    elim (cases_Bool (p x)) [
      | inl e ↦ rw e (omega arith)
      | inr e ↦ rw e (kept_some p xs (rw e at h))
    ]

second_false : (x y : Bool) → x ≡ true → (x && y) ≡ false → y ≡ false
second_false true y h e = e
second_false false y h e = absurd (false≢true h)

no_header : ProgramHeader
no_header = record { index = 0; kind = 0; flags = 0; offset = 0; address = 0; file_size = 0; memory_size = 0 }

-- segments in table order on which no row stands
module _ (size entry : ℕ) (segs : List ProgramHeader) (judged : AreJudged size entry segs) where
  in_home : (low m n : ℕ) → low * page_size ≡ home_start → (low + m) * page_size ≡ home_end → is_page_of segs n ≡ true → (low ≤ n) × (n < low + m)
  in_home low m n starts ends h =
      let a = Any-from_list_any (λ s. touches s n) segs h in
      let s : ProgramHeader = get_or segs a.0 a.1 in
      let p : IsPlaced size s = all_placed size entry segs judged a.0 a.1 a.2 in
      let parts = and_parts (leb (first_page s) n) (leb n (last_page s)) (ap (λ (t : ProgramHeader). touches t n) a.3 ∙ a.4) in
      let low_end : first_page s ≤ n = leb-true _ _ parts.0 in
      let high_end : n ≤ last_page s = leb-true _ _ parts.1 in
      (omega (arith, low_end, p.above, starts), omega (arith, high_end, p.below, p.takes, ends))

  covered : (va : ℕ) → is_in_memory_of segs va ≡ true → is_page_of segs (va / page_size) ≡ true
  covered va h = weaker_any (λ s. covers s va) (λ s. touches s (va / page_size)) segs (λ s e. covers_touches s va e) h

  covering : (n : ℕ) → is_page_of segs n ≡ true → (va : ℕ) × (va / page_size ≡ n) × (is_in_memory_of segs va ≡ true)
  covering n h =
      let a = Any-from_list_any (λ s. touches s n) segs h in
      let w = touches_covers (get_or segs a.0 a.1) n (all_placed size entry segs judged a.0 a.1 a.2).takes (ap (λ (t : ProgramHeader). touches t n) a.3 ∙ a.4) in
      (w.0, w.1, list_any_at (λ s. covers s w.0) segs a.0 a.1 a.2 w.2)

  executable_touched : (n : ℕ) → is_executable_of segs n ≡ true → is_page_of segs n ≡ true
  executable_touched n h = weaker_any (λ s. touches s n && has_flag s pf_x) (λ s. touches s n) segs (λ s e. (and_parts (touches s n) (has_flag s pf_x) e).0) h

  unwritable : (n : ℕ) → is_executable_of segs n ≡ true → is_writable_of segs n ≡ false
  unwritable n h =
      let a = Any-from_list_any (λ s. touches s n && has_flag s pf_x) segs h in
      let here = and_parts (touches (get_or segs a.0 a.1) n) (has_flag (get_or segs a.0 a.1) pf_x) (ap (λ (t : ProgramHeader). touches t n && has_flag t pf_x) a.3 ∙ a.4) in
      list_any_none (λ s. touches s n && has_flag s pf_w) segs (All-from_get_or (λ s. (touches s n && has_flag s pf_w) ≡ false) segs a.1 (λ j hj.
      elim (cases_eq a.0 j) [
        | inl same ↦
            let code : has_flag (get_or segs j a.1) pf_x ≡ true = ap (λ (k : ℕ). has_flag (get_or segs k a.1) pf_x) (sym same) ∙ here.1 in
            and_right (touches (get_or segs j a.1) n) (has_flag (get_or segs j a.1) pf_w) (second_false _ _ code ((lawful size entry segs judged.form).rights j a.1 hj))
        | inr other ↦ and_left (touches (get_or segs j a.1) n) (has_flag (get_or segs j a.1) pf_w) (touched_once segs (segments_apart size entry segs judged) n a.0 j a.1 a.2 hj other here.0)
      ]))

  list_in : (low m : ℕ) → low * page_size ≡ home_start → (low + m) * page_size ≡ home_end → ArePages segs (filter (λ n. is_page_of segs n) (numbers_from low m))
  unfolding numbers_from
  list_in low m starts ends = record {
    ascending = λ i j below within. kept_ascending (λ n. is_page_of segs n) low m i j 0 below within;
    home = λ i h. let k = kept_within (λ n. is_page_of segs n) low m i 0 h in (omega (arith, k.0), omega (arith, k.1));
    touched = λ i h. filter_passes (λ n. is_page_of segs n) (range_with_len low m) i 0 h;
    complete = λ n h. let inside = in_home low m n starts ends h in kept_all (λ n. is_page_of segs n) low m n h inside.0 inside.1;
    holds = covering;
    held = covered;
    unwritable = unwritable;
    executable = executable_touched;
  }

  pub page_list : ArePages segs (pages_in segs)
  unfolding pages_in home_pages
  page_list = list_in _ _ refl refl

-- segments with the same in the order of their addresses
module _ (size entry : ℕ) (table segs : List ProgramHeader) (loaded : AreLoaded size entry table segs) where
  placed : All (IsPlaced size) segs
  placed = All-permutation (IsPlaced size) table segs loaded.same (all_placed size entry table loaded.judged)

  apart : EachPair (λ s t. shares_page s t ≡ false) segs
  apart = EachPair-permutation (λ s t. shares_page s t ≡ false) table segs loaded.same (segments_apart size entry table loaded.judged)

  touched_by : (n : ℕ) → is_page_of table n ≡ list_any (λ s. touches s n) segs
  touched_by n = list_any-IsPermutation (λ s. touches s n) table segs loaded.same

  pub executable_by : (n : ℕ) → is_executable_of table n ≡ list_any (λ s. touches s n && has_flag s pf_x) segs
  executable_by n = list_any-IsPermutation (λ s. touches s n && has_flag s pf_x) table segs loaded.same

  pub writable_by : (n : ℕ) → is_writable_of table n ≡ list_any (λ s. touches s n && has_flag s pf_w) segs
  writable_by n = list_any-IsPermutation (λ s. touches s n && has_flag s pf_w) table segs loaded.same

  in_turn : (low m : ℕ) → low * page_size ≡ home_start → (low + m) * page_size ≡ home_end → filter (λ n. is_page_of table n) (numbers_from low m) ≡ flat_map pages_of_segment segs
  unfolding numbers_from
  in_turn low m starts ends =
      let above : All (λ s. low ≤ first_page s) segs = All-weaker (IsPlaced size) (λ s. low ≤ first_page s) (λ s h. omega (arith, h.above)) segs placed in
      let takes : All (λ s. 0 < s.memory_size) segs = All-weaker (IsPlaced size) (λ s. 0 < s.memory_size) (λ s h. h.takes) segs placed in
      let below : All (λ s. last_page s < low + m) segs = All-weaker (IsPlaced size) (λ s. last_page s < low + m) (λ s h. omega (arith, h.below, h.takes)) segs placed in
      filter_agree (λ n. is_page_of table n) (λ n. list_any (λ s. touches s n) segs) touched_by (range_with_len low m)
      ∙ touched_pages segs low m (rising segs low above takes loaded.ascending apart) below

  pub pages_are : pages_in table ≡ flat_map pages_of_segment segs
  unfolding pages_in home_pages
  pages_are = in_turn _ _ refl refl

  pub count_is : total_pages segs ≡ length (pages_in table)
  count_is = sym (ap length pages_are ∙ count_in_turn segs)

  pub few_pages : total_pages segs ≤ 8192
  few_pages = omega (arith, sum_by-IsPermutation pages_touched table segs loaded.same, (lawful size entry table loaded.judged.form).few)

  pub some_page : 0 < total_pages segs
  some_page = at_least_one segs (omega (arith, length_permutation table segs loaded.same, some_segment size entry table loaded.judged))

  -- the page of the entry may be executed
  pub entry_page : is_executable_of table (entry / page_size) ≡ true
  entry_page =
      executable_by (entry / page_size)
      ∙ weaker_any (is_code_at entry) (λ s. touches s (entry / page_size) && has_flag s pf_x) segs
      (λ s e. let parts = and_parts (has_flag s pf_x) (covers s entry) e in and_from (touches s (entry / page_size)) (has_flag s pf_x) (covers_touches s entry parts.1) parts.0)
      (sym (list_any-IsPermutation (is_code_at entry) table segs loaded.same) ∙ (lawful size entry table loaded.judged.form).code)

  -- where a segment touches a page, the page has the segment's rights
  pub same_rights : (i : ℕ) (d : ProgramHeader) → i < length segs → (n : ℕ) → touches (get_or segs i d) n ≡ true → is_executable_of table n ≡ has_flag (get_or segs i d) pf_x
  same_rights i d h n here =
      elim (cases_Bool (has_flag (get_or segs i d) pf_x)) [
        | inl e ↦ executable_by n ∙ list_any_at (λ s. touches s n && has_flag s pf_x) segs i d h (and_from _ _ here e) ∙ sym e
        | inr e ↦ executable_by n ∙ list_any_none (λ s. touches s n && has_flag s pf_x) segs (All-from_get_or (λ s. (touches s n && has_flag s pf_x) ≡ false) segs d (λ j hj.
            elim (cases_eq i j) [
              | inl same ↦ and_right (touches (get_or segs j d) n) (has_flag (get_or segs j d) pf_x) (ap (λ (k : ℕ). has_flag (get_or segs k d) pf_x) (sym same) ∙ e)
              | inr other ↦ and_left (touches (get_or segs j d) n) (has_flag (get_or segs j d) pf_x) (touched_once segs apart n i j d h hj other here)
            ])) ∙ sym e
      ]

  pub executable_count : sum_by pages_touched (filter (λ s. has_flag s pf_x) segs) ≡ length (filter (λ n. is_executable_of table n) (pages_in table))
  executable_count =
      let P : List ℕ → Type 0 = λ ps. length (filter (λ n. is_executable_of table n) ps) ≡ sum_by pages_touched (filter (λ s. has_flag s pf_x) segs) in
      sym (subst P (sym pages_are) (count_kept (λ n. is_executable_of table n) (λ s. has_flag s pf_x) segs (λ i d h n low high.
      let upto : n ≤ last_page (get_or segs i d) = omega (arith, high, in_order (get_or segs i d) (placed i d h).takes) in
      same_rights i d h n (and_from (leb (first_page (get_or segs i d)) n) (leb n (last_page (get_or segs i d))) (le-leb _ _ low) (le-leb _ _ upto)))))

  lone_loader : (va : ℕ) → AtMostOne (λ s. loads s va) table
  lone_loader va i j d hi hj ne h =
      let s : ProgramHeader = get_or table i d in
      let t : ProgramHeader = get_or table j d in
      let first : touches s (va / page_size) ≡ true = loads_touches s va (all_placed size entry table loaded.judged i d hi).backed h in
      let second : touches t (va / page_size) ≡ false = touch_apart s t (va / page_size) (segments_apart size entry table loaded.judged i j d hi hj ne) first in
      false_from_ne_true (loads t va) (λ e. false≢true (sym second ∙ loads_touches t va (all_placed size entry table loaded.judged j d hj).backed e))

  in_table : (s : ProgramHeader) → Contains segs s → Contains table s
  in_table s held = Contains-permutation segs table s (IsPermutation-sym table segs loaded.same) held

  -- a segment that loads an address is the one that touches its page
  loader_touches : (d : ProgramHeader) (va : ℕ) → list_any (λ t. loads t va) table ≡ true → (t : ProgramHeader) × (Contains segs t) × (loads t va ≡ true) × (touches t (va / page_size) ≡ true)
  loader_touches d va h =
      let f = found_at (λ t. loads t va) table d h in
      let t : ProgramHeader = get_or table f.0 d in
      (t, Contains-permutation table segs t loaded.same (Contains-get_or table f.0 d f.1), f.2, loads_touches t va (all_placed size entry table loaded.judged f.0 d f.1).backed f.2)

  loaded_by : (s : ProgramHeader) → Contains segs s → (va : ℕ) → touches s (va / page_size) ≡ true → find (λ t. loads t va) table ≡ cond (loads s va) (Some s) None
  loaded_by s held va here =
      elim (cases_Bool (loads s va)) [
        | inl e ↦
            found_alone (λ t. loads t va) table (lone_loader va) s (in_table s held) e ∙ sym (cond-true (loads s va) (Some s) None e)
        | inr e ↦
            let nobody : list_any (λ t. loads t va) table ≡ false = false_from_ne_true _ (λ some.
            let l = loader_touches s va some in
            let one = found_alone (λ t. touches t (va / page_size)) segs (touched_once segs apart (va / page_size)) s held here in
            let two = found_alone (λ t. touches t (va / page_size)) segs (touched_once segs apart (va / page_size)) l.0 l.1 l.3 in
            let same : l.0 ≡ s = cc (sym two ∙ one) in
            false≢true (sym e ∙ ap (λ (t : ProgramHeader). loads t va) (sym same) ∙ l.2)) in
            none_found (λ t. loads t va) table nobody ∙ sym (cond-false (loads s va) (Some s) None e)
      ]

  blank : (va : ℕ) → find (λ s. touches s (va / page_size)) segs ≡ None → find (λ t. loads t va) table ≡ None
  blank va h =
      let nobody : list_any (λ t. loads t va) table ≡ false = false_from_ne_true _ (λ some.
      let l = loader_touches no_header va some in
      let one = found_alone (λ t. touches t (va / page_size)) segs (touched_once segs apart (va / page_size)) l.0 l.1 l.3 in
      cc (sym h ∙ one)) in
      none_found (λ t. loads t va) table nobody

  -- what the segment that touches a page says of the places of its bytes
  pub supplies : (n : ℕ) (o : Option ProgramHeader) → find (λ s. touches s n) segs ≡ o → Supplies size table n o
  unfolding loaded_place
  supplies n None h = λ va at. ap (λ (o : Option ProgramHeader). option_map (λ t. file_place va t) o) (blank va (ap (λ (m : ℕ). find (λ s. touches s m) segs) at ∙ h))
  supplies n (Some s) h =
      let f = found_is (λ t. touches t n) segs s h in (
        All-contains (IsPlaced size) segs s placed f.0,
        λ va at. ap (λ (o : Option ProgramHeader). option_map (λ t. file_place va t) o) (loaded_by s f.0 va (ap (λ (m : ℕ). touches s m) at ∙ f.1)),
      )

  pub are_pages : ArePages table (pages_in table)
  are_pages = page_list size entry table loaded.judged

  pub some_segments : 0 < length table
  some_segments = some_segment size entry table loaded.judged

  pub page_in_home : (i : ℕ) → i < length (pages_in table) → (home_start ≤ page_size * get_or (pages_in table) i 0) × (page_size * get_or (pages_in table) i 0 + page_size ≤ home_end)
  page_in_home i h = are_pages.home i h

  some_executable : 0 < sum_by pages_touched (filter (λ s. has_flag s pf_x) segs)
  some_executable =
      let code : list_any (is_code_at entry) segs ≡ true = sym (list_any-IsPermutation (is_code_at entry) table segs loaded.same) ∙ (lawful size entry table loaded.judged.form).code in
      let flagged : list_any (λ s. has_flag s pf_x) segs ≡ true = weaker_any (is_code_at entry) (λ s. has_flag s pf_x) segs (λ s e. (and_parts _ _ e).0) code in
      at_least_one _ (kept_some (λ s. has_flag s pf_x) segs flagged)

  pub executable_bounds : (n : ℕ) → n ≡ sum_by pages_touched (filter (λ s. has_flag s pf_x) segs) → (0 < n) × (n ≤ 8192)
  executable_bounds n e = (omega (arith, some_executable), omega (arith, few_pages, sum_by-filter_both (λ s. has_flag s pf_x) (λ s. not (has_flag s pf_x)) (λ _. refl) pages_touched segs))
