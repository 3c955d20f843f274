-- How many frames the opening needs for a file that begins with the headers of the image of a number.
use Rattle.std.proofs.Common.{◌≡◌, ℕ, ◌+◌, ◌-◌, ◌*◌, ◌/◌, ◌<◌, ◌≤◌, Bool, true, false, List, filter, inl, inr, length, zero, suc, refl, ap, ◌∙◌, arith}
use Rattle.std.specs.List.{list_any, range_with_len}
use Rattle.std.proofs.lemmas.Bool.{and_from, and_right, cases_lt, le-leb, lt-leb, or_from, or_left, or_right}
use Rattle.elf_image.specs.declared.program_header.ProgramHeader.{ProgramHeader}
use Rattle.elf_image.specs.Elf.{segments}
use Rattle.elf_image.specs.Home.{home_end, home_start, page_size}
use Rattle.elf_image.specs.Segments.{touches}
use Rattle.elf_image.specs.Pages.{home_pages, is_page, numbers_from, page_count, pages_of}
use Rattle.boot_map.specs.Division.{division_of, is_touched, map_start, need, page_in, pages_start, ranges_of}
use Rattle.image_maker.specs.MadeImage.{direct_table, first_frame, script_pages, user_frame}
use Rattle.image_maker.proofs.MadeRows.{data_segment, few_pages, segments_with, text_segment}

-- what a test keeps of a range is what stands below the place up to which each passes, and from which on none does
kept_below : (p : ℕ → Bool) (a m c : ℕ) → a ≤ c → c ≤ a + m → ((x : ℕ) → a ≤ x → x < c → p x ≡ true)
    → ((x : ℕ) → c ≤ x → p x ≡ false) → length (filter p (range_with_len a m)) + a ≡ c
kept_below p a zero c low high all none = omega arith
kept_below p a (suc m) c low high all none = elim (cases_lt a c) [
  | inl below ↦
      let rest : length (filter p (range_with_len (a + 1) m)) + (a + 1) ≡ c =
      kept_below p (a + 1) m c (omega arith) (omega arith) (λ x above under. all x (omega arith) under) none in
      rw (all a (omega arith) below) (omega arith)
  | inr past ↦
      let off : (x : ℕ) → a + 1 ≤ x → p x ≡ false = λ x above. none x (omega arith) in
      let rest : length (filter p (range_with_len (a + 1) m)) + (a + 1) ≡ a + 1 =
      kept_below p (a + 1) m (a + 1) (omega arith) (omega arith) (λ x above under. absurd (omega arith)) off in
      rw (none a past) (omega arith)
]

none_passes : (p : ℕ → Bool) (a m : ℕ) → ((x : ℕ) → p x ≡ false) → list_any p (range_with_len a m) ≡ false
none_passes p a zero none = refl
none_passes p a (suc m) none = or_from _ _ (none a) (none_passes p (a + 1) m none)

first_passes : (p : ℕ → Bool) (a m : ℕ) → p a ≡ true → list_any p (range_with_len a (suc m)) ≡ true
first_passes p a m here = or_left _ _ here

-- the segments touch the pages from the home's first on, one and one more than the script has, and no others
touches_below : (pages page : ℕ) → 0xFFFFFFFF80000 ≤ page → page < 0xFFFFFFFF80002 + pages
    → list_any (λ s. touches s page) (segments_with pages) ≡ true
touches_below pages page low high = elim (cases_lt 0xFFFFFFFF80000 page) [
  | inl past ↦
      let here : touches (data_segment pages) page ≡ true =
      and_from _ _ (le-leb 0xFFFFFFFF80001 page (omega arith)) (le-leb page ((0xFFFFFFFF80001000 + (4096 * pages + 9) - 1) / 4096) (omega arith)) in
      or_right (touches text_segment page) _ (or_left _ _ here)
  | inr first ↦
      or_left _ _ (and_from _ _ (le-leb 0xFFFFFFFF80000 page low) (le-leb page 0xFFFFFFFF80000 first))
]

none_touches : (pages page : ℕ) → 0xFFFFFFFF80002 + pages ≤ page
    → list_any (λ s. touches s page) (segments_with pages) ≡ false
none_touches pages page past =
    or_from _ _ (and_right _ _ (lt-leb page 0xFFFFFFFF80000 (omega arith)))
    (or_from _ _ (and_right _ _ (lt-leb page ((0xFFFFFFFF80001000 + (4096 * pages + 9) - 1) / 4096) (omega arith))) refl)

beyond : (count pages : ℕ) → count + 0xFFFFFFFF80000 ≡ 0xFFFFFFFF80002 + pages → count ≡ pages + 2
beyond count pages e = omega arith

above_start : (pages : ℕ) → 0xFFFFFFFF80000 ≤ 0xFFFFFFFF80002 + pages
above_start pages = omega arith

module _ (n : ℕ) (most : n ≤ 100) (b : List ℕ) (are : segments b ≡ segments_with (script_pages n)) where
  by_segments : (page : ℕ) → is_page b page ≡ list_any (λ s. touches s page) (segments_with (script_pages n))
  unfolding is_page
  by_segments page = ap (λ (segs : List ProgramHeader). list_any (λ s. touches s page) segs) are

  page_below : (page : ℕ) → 0xFFFFFFFF80000 ≤ page → page < 0xFFFFFFFF80002 + script_pages n → is_page b page ≡ true
  page_below page low high = by_segments page ∙ touches_below (script_pages n) page low high

  no_page : (page : ℕ) → 0xFFFFFFFF80002 + script_pages n ≤ page → is_page b page ≡ false
  no_page page past = by_segments page ∙ none_touches (script_pages n) page past

  page_count_is : page_count b ≡ script_pages n + 2
  unfolding pages_of home_pages numbers_from
  page_count_is =
      let few : script_pages n < 19 = few_pages n most in
      let within : 0xFFFFFFFF80002 + script_pages n ≤ 0xFFFFFFFF80000 + 262144 = omega arith in
      beyond _ (script_pages n) (kept_below (is_page b) (home_start / page_size) ((home_end - home_start) / page_size)
      (0xFFFFFFFF80002 + script_pages n) (above_start (script_pages n)) within page_below no_page)

  touched : (range : ℕ) → 0 ≤ range → range < 1 → is_touched b range ≡ true
  unfolding is_touched
  touched range low first =
      first_passes (λ index. is_page b (page_in range index)) 0 511 (page_below (page_in range 0) (omega arith) (omega arith))

  untouched : (range : ℕ) → 1 ≤ range → is_touched b range ≡ false
  unfolding is_touched
  untouched range past =
      let few : script_pages n < 19 = few_pages n most in
      none_passes (λ index. is_page b (page_in range index)) 0 512 (λ index. no_page (page_in range index) (omega arith))

  ranges_are : length (ranges_of b) ≡ 1
  unfolding ranges_of
  ranges_are =
      let kept : length (ranges_of b) + 0 ≡ 1 = kept_below (is_touched b) 0 512 1 (omega arith) (omega arith) touched untouched in
      omega arith

  -- the opening's layout has the frames that the script speaks of
  pub user_is : pages_start (division_of b 4096) + page_count b ≡ user_frame n + 1
  user_is = omega (arith, page_count_is, ranges_are)

  pub direct_is : map_start (division_of b 4096) ≡ direct_table n
  direct_is = omega (arith, page_count_is, ranges_are)

  pub need_is : need b 4096 ≡ first_frame n 0
  need_is = omega (arith, page_count_is, ranges_are)
