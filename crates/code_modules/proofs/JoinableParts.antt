-- The parts of an image without fault and of modules that fit behind it.
use Rattle.std.proofs.Common.{◌≡◌, ℕ, suc, ◌+◌, ◌-◌, ◌*◌, ◌/◌, ◌%◌, ◌^◌, ◌<◌, ◌≤◌, Bool, true, false, ◌&&◌, ◌==◌, List, [], ◌∷◌, ◌++◌, length, map, drop, get_or, None, Some, inl, inr, refl, sym, ap, ◌∙◌, arith, length-take, length-append}
use Rattle.std.specs.Prelude.{nat_le, nat_lt, bit_and, slice_index, not}
use Rattle.std.specs.Int.{to_le_bytes, w64}
use Rattle.std.specs.List.{All, AllPairs, flat_map, list_all, list_any, sum_by}
use Rattle.std.proofs.lemmas.Bool.{and_cases, and_from, and_parts, cases_lt, cases_Bool, cond-false, cond-true, eqb-false, leb-false, leb-true, le-leb, ltb-true, or_left}
use Rattle.std.proofs.lemmas.List.Elements.{All-append, All-cons, All-head, All-map, All-nil, All-tail, All-weaker}
use Rattle.std.proofs.lemmas.List.Folds.{Any-from_list_any, list_any-append, list_any_at}
use Rattle.std.proofs.lemmas.Nat.{and_le_r, and_mod}
use Rattle.elf_image.specs.declared.program_header.ProgramHeader.{ProgramHeader}
use Rattle.elf_image.specs.Elf.{e_entry, has_flag, pf_x, segments}
use Rattle.elf_image.specs.Home.{home_start}
use Rattle.elf_image.specs.Pages.{IsPageList, is_page, page_count, pages_of}
use Rattle.elf_image.specs.SegmentForm.{AreInForm, IsPlaced}
use Rattle.elf_image.specs.Segments.{covers, first_page, is_code_at, is_writable_code, last_page, shares_page, touches}
use Rattle.code_modules.specs.FormWords.{LieApart, AreJoinable, EachApart, IsLoadable, unplaced}
use Rattle.code_modules.specs.JoinAnswers.{empty_from, ends_before_directory, first_empty, is_fitting, part_first, part_last, part_pages}
use Rattle.code_modules.specs.JoinedParts.{CodeModule, JoinedPart, directory_address, directory_entry, directory_of, directory_part, image_end, image_part, joined_parts, module_part, module_parts, module_start, modules_behind, whole_pages}

-- flags below 8 keep what they say of execution and of writing
low_and : (f bit : ℕ) → bit < 8 → bit_and (f % 8) bit ≡ bit_and f bit
low_and f bit small =
    let below : bit_and f bit % 2 ^ 3 ≡ bit_and f bit = omega (arith, and_le_r f bit) in
    let low : bit % 2 ^ 3 ≡ bit = omega arith in
    ap (λ n. bit_and (f % 8) n) (sym low) ∙ sym (and_mod f bit 3) ∙ below

pub same_flag : (b : List ℕ) (s : ProgramHeader) (flag : ℕ) → flag < 8 → has_flag (unplaced (image_part b s)) flag ≡ has_flag s flag
same_flag b s flag small = ap (λ n. not (n == 0)) (low_and s.flags flag small)

same_rights : (b : List ℕ) (s : ProgramHeader) → is_writable_code (unplaced (image_part b s)) ≡ is_writable_code s
same_rights b s = rw (same_flag b s 1 (omega arith), same_flag b s 2 (omega arith)) refl

same_code : (b : List ℕ) (s : ProgramHeader) (va : ℕ) → is_code_at va (unplaced (image_part b s)) ≡ is_code_at va s
same_code b s va = ap (λ x. x && covers s va) (same_flag b s 1 (omega arith))

pub any_image : (b : List ℕ) (f : JoinedPart → Bool) (g : ProgramHeader → Bool) → ((s : ProgramHeader) → f (image_part b s) ≡ g s)
    → (segs : List ProgramHeader) → list_any f (map (image_part b) segs) ≡ list_any g segs
any_image b f g same [] = refl
any_image b f g same (s ∷ segs) = rw (same s, any_image b f g same segs) refl

-- the image's parts
module _ (b : List ℕ) (law : AreInForm (length b) (e_entry b) (segments b)) where
  image_loadable : (s : ProgramHeader) → IsPlaced (length b) s → is_writable_code s ≡ false → IsLoadable (image_part b s)
  image_loadable s placed rights = record {
    flags = omega arith;
    rights = same_rights b s ∙ rights;
    takes = placed.takes;
    backed = omega (arith, length-take s.file_size (drop s.offset b), placed.backed);
    above = placed.above;
    below = placed.below;
  }

  pub images_loadable : All IsLoadable (map (image_part b) (segments b))
  images_loadable =
      All-map IsLoadable (image_part b) (segments b)
      (λ i d inside. image_loadable (get_or (segments b) i d) (law.placed i d inside) (law.rights i d inside))

  pub entry_small : e_entry b < 2 ^ 64
  entry_small =
      let a = Any-from_list_any (is_code_at (e_entry b)) (segments b) law.code in
      let placed : IsPlaced (length b) (get_or (segments b) a.0 a.1) = law.placed a.0 a.1 a.2 in
      let here : is_code_at (e_entry b) (get_or (segments b) a.0 a.1) ≡ true = ap (is_code_at (e_entry b)) a.3 ∙ a.4 in
      let s : ProgramHeader = get_or (segments b) a.0 a.1 in
      let covered = (and_parts (has_flag s pf_x) (covers s (e_entry b)) here).1 in
      let both = and_parts (nat_le s.address (e_entry b)) (nat_lt (e_entry b) (s.address + s.memory_size)) covered in
      let below = ltb-true (e_entry b) (s.address + s.memory_size) both.1 in
      omega (arith, below, placed.below)

apart_from : (b : List ℕ) (s t : ProgramHeader) → shares_page s t ≡ false → LieApart (image_part b s) (image_part b t)
apart_from b s t apart = elim (and_cases (nat_le (first_page s) (last_page t)) (nat_le (first_page t) (last_page s)) apart) [
  | inl e ↦ inr (leb-false (first_page s) (last_page t) e)
  | inr e ↦ inl (leb-false (first_page t) (last_page s) e)
]

images_apart : (b : List ℕ) (segs : List ProgramHeader) → AllPairs (λ s t. shares_page s t ≡ false) segs → EachApart (map (image_part b) segs)
images_apart b [] pairs = tt
images_apart b (s ∷ segs) pairs = (
  All-map (LieApart (image_part b s)) (image_part b) segs (λ j d inside. apart_from b s (get_or segs j d) (pairs 0 (suc j) d (omega arith) (omega arith))),
  images_apart b segs (λ i j d low high. pairs (suc i) (suc j) d (omega arith) (omega arith)),
)

-- the image ends behind its highest page
module _ (b : List ℕ) (list : IsPageList b (pages_of b)) where
  pub page_below : (n : ℕ) → is_page b n ≡ true → 4096 * n + 4096 ≤ image_end b
  page_below n on =
      let at = list.complete n on in
      elim (cases_lt at.0 (page_count b - 1)) [
        | inl low ↦
            let less = list.ascending at.0 (page_count b - 1) low (omega (arith, at.1)) in
            omega (arith, less, at.2)
        | inr last ↦
            let same : at.0 ≡ page_count b - 1 = omega (arith, at.1) in
            let is : slice_index (pages_of b) (page_count b - 1) ≡ n = ap (slice_index (pages_of b)) (sym same) ∙ at.2 in
            omega (arith, is)
      ]

  pub segment_below : (i : ℕ) (d : ProgramHeader) → i < length (segments b) → 0 < (get_or (segments b) i d).memory_size
      → 4096 * last_page (get_or (segments b) i d) + 4096 ≤ image_end b
  unfolding is_page
  segment_below i d inside takes =
      let s : ProgramHeader = get_or (segments b) i d in
      let order : first_page s ≤ last_page s = omega arith in
      let own : last_page s ≤ last_page s = omega arith in
      page_below (last_page s)
      (list_any_at (λ t. touches t (last_page s)) (segments b) i d inside
      (and_from (nat_le (first_page s) (last_page s)) (nat_le (last_page s) (last_page s)) (le-leb _ _ order) (le-leb _ _ own)))

-- modules from a page's first address on
pub each_has : (i : ℕ) (modules : List CodeModule) → empty_from i (map (λ m. m.bytes) modules) ≡ None → All (λ m. 0 < length m.bytes) modules
each_has i [] none = All-nil (λ m. 0 < length m.bytes)
each_has i (m ∷ later) none = elim (cases_Bool (length m.bytes == 0)) [
  | inl empty ↦ absurd (let some = sym (cond-true (length m.bytes == 0) (Some i) _ empty) ∙ none in cc)
  | inr full ↦
      let rest = sym (cond-false (length m.bytes == 0) (Some i) _ full) ∙ none in
      let some : 0 < length m.bytes = omega (arith, eqb-false (length m.bytes) 0 full) in
      All-cons (λ n. 0 < length n.bytes) m later some (each_has (i + 1) later rest)
]

pub whole_is : (size : ℕ) → 0 < size → (size ≤ whole_pages size) × (4096 ≤ whole_pages size) × (whole_pages size % 4096 ≡ 0)
whole_is size some = (omega arith, omega arith, omega arith)

pub start_behind : (end : ℕ) (guard : Bool) → (end ≤ module_start end guard) × (end % 4096 ≡ 0 → module_start end guard % 4096 ≡ 0)
start_behind end true = (omega arith, λ aligned. omega arith)
start_behind end false = (omega arith, λ aligned. aligned)

-- a part that stands from this page on and below the directory's
pub record IsBetween (page : ℕ) (part : JoinedPart) : Type 0 where
  pub loadable : IsLoadable part
  pub low : page ≤ part_first part
  pub high : part_last part < directory_address / 4096
  pub begins : 4096 * part_first part ≡ part.address
  pub whole : part.memory_size % 4096 ≡ 0

lower : (page next : ℕ) → page ≤ next → (part : JoinedPart) → IsBetween next part → IsBetween page part
lower page next below part it = record {
  loadable = it.loadable;
  low = omega (arith, it.low);
  high = it.high;
  begins = it.begins;
  whole = it.whole;
}

between : (start size : ℕ) (bytes : List ℕ) (end : ℕ) → end ≤ start → start % 4096 ≡ 0 → length bytes ≤ size → 4096 ≤ size
    → size % 4096 ≡ 0 → start + size ≤ directory_address → home_start ≤ end
    → IsBetween (end / 4096) (record { flags = 5; address = start; memory_size = size; bytes = bytes })
between start size bytes end behind aligned backed takes whole most home = record {
  loadable = record {
    flags = omega arith;
    rights = refl;
    takes = omega arith;
    backed = backed;
    above = omega arith;
    below = omega arith;
  };
  low = omega arith;
  high = omega arith;
  begins = omega arith;
  whole = whole;
}

module_between : (end : ℕ) (m : CodeModule) → home_start ≤ end → end % 4096 ≡ 0 → 0 < length m.bytes
    → ends_before_directory (module_part (module_start end m.guard) m.bytes) ≡ true
    → IsBetween (end / 4096) (module_part (module_start end m.guard) m.bytes)
module_between end m home aligned some ends =
    let start : ℕ = module_start end m.guard in
    let size : ℕ = whole_pages (length m.bytes) in
    let behind = start_behind end m.guard in
    let whole = whole_is (length m.bytes) some in
    let zero_start : module_start end m.guard % 4096 ≡ 0 = behind.1 aligned in
    let most : module_start end m.guard + whole_pages (length m.bytes) ≤ directory_address = leb-true _ _ ends in
    between (module_start end m.guard) (whole_pages (length m.bytes)) m.bytes end behind.0 zero_start whole.0 whole.1 whole.2 most home

modules_fit : (end : ℕ) (modules : List CodeModule) → home_start ≤ end → end % 4096 ≡ 0 → All (λ m. 0 < length m.bytes) modules
    → list_all ends_before_directory (module_parts end modules) ≡ true
    → All (IsBetween (end / 4096)) (module_parts end modules) × EachApart (module_parts end modules)
modules_fit end [] home aligned some ends = (All-nil (IsBetween (end / 4096)), tt)
modules_fit end (m ∷ later) home aligned some ends =
    let part : JoinedPart = module_part (module_start end m.guard) m.bytes in
    let next : ℕ = module_start end m.guard + whole_pages (length m.bytes) in
    let first_some : 0 < length m.bytes = All-head (λ n. 0 < length n.bytes) m later some in
    let both = and_parts (ends_before_directory part) (list_all ends_before_directory (module_parts next later)) ends in
    let head : IsBetween (end / 4096) part = module_between end m home aligned first_some both.0 in
    let behind = start_behind end m.guard in
    let whole = whole_is (length m.bytes) first_some in
    let start_aligned : module_start end m.guard % 4096 ≡ 0 = behind.1 aligned in
    let rest = modules_fit next later (omega (arith, behind.0)) (omega (arith, start_aligned, whole.2)) (All-tail (λ n. 0 < length n.bytes) m later some) both.1 in
    let up : end / 4096 ≤ next / 4096 = omega (arith, behind.0) in
    let last : part_last part < next / 4096 = omega (arith, start_aligned, whole.1, whole.2) in (
      All-cons (IsBetween (end / 4096)) part (module_parts next later) head
          (All-weaker (IsBetween (next / 4096)) (IsBetween (end / 4096)) (lower (end / 4096) (next / 4096) up) (module_parts next later) rest.0),
      (All-weaker (IsBetween (next / 4096)) (LieApart part) (λ q it. inl (omega (arith, last, it.low))) (module_parts next later) rest.0, rest.1),
    )

-- the directory
word_bytes : (n : ℕ) → length (to_le_bytes w64 n) ≡ 8
word_bytes n = refl

entries_length : (parts : List JoinedPart) → length (flat_map directory_entry parts) ≡ 16 * length parts
entries_length [] = refl
entries_length (p ∷ later) =
    let one : length (directory_entry p) ≡ 16 = length-append (to_le_bytes w64 p.address) (to_le_bytes w64 (length p.bytes)) in
    omega (arith, length-append (directory_entry p) (flat_map directory_entry later), one, entries_length later)

pub directory_length : (parts : List JoinedPart) → length (directory_of parts) ≡ 8 + 16 * length parts
unfolding directory_of
directory_length parts =
    omega (arith, length-append (to_le_bytes w64 (length parts)) (flat_map directory_entry parts), word_bytes (length parts), entries_length parts)

directory_loadable : (parts : List JoinedPart) → length parts ≤ 64 → IsLoadable (directory_part parts)
directory_loadable parts few = record {
  flags = omega arith;
  rights = refl;
  takes = omega arith;
  backed = omega (arith, directory_length parts);
  above = omega arith;
  below = omega arith;
}

append_apart : (xs ys : List JoinedPart) → EachApart xs → EachApart ys → All (λ x. All (LieApart x) ys) xs → EachApart (xs ++ ys)
append_apart [] ys first second cross = second
append_apart (x ∷ xs) ys first second cross = (
  All-append (LieApart x) xs ys first.0 (All-head (λ y. All (LieApart y) ys) x xs cross),
  append_apart xs ys first.1 second (All-tail (λ y. All (LieApart y) ys) x xs cross),
)

module _ (b : List ℕ) (modules : List CodeModule) (law : AreInForm (length b) (e_entry b) (segments b)) (list : IsPageList b (pages_of b))
    (some : 0 < length modules) (full : first_empty modules ≡ None) (fits : is_fitting b modules ≡ true) where
  fit_parts : (length (joined_parts b modules) ≤ 64) × (sum_by part_pages (joined_parts b modules) ≤ 8192)
      × (list_all ends_before_directory (modules_behind b modules) ≡ true)
  unfolding is_fitting
  fit_parts =
      let one = and_parts (nat_le (length (joined_parts b modules)) 64 && nat_le (sum_by part_pages (joined_parts b modules)) 8192)
      (list_all ends_before_directory (modules_behind b modules)) fits in
      let two = and_parts (nat_le (length (joined_parts b modules)) 64) (nat_le (sum_by part_pages (joined_parts b modules)) 8192) one.0 in
      (leb-true _ _ two.0, leb-true _ _ two.1, one.1)

  pub end_home : home_start ≤ image_end b
  end_home =
      let a = Any-from_list_any (is_code_at (e_entry b)) (segments b) law.code in
      let placed : IsPlaced (length b) (get_or (segments b) a.0 a.1) = law.placed a.0 a.1 a.2 in
      omega (arith, placed.above, placed.takes, segment_below b list a.0 a.1 a.2 placed.takes)

  pub end_aligned : image_end b % 4096 ≡ 0
  end_aligned = omega arith

  behind_image : All (IsBetween (image_end b / 4096)) (modules_behind b modules) × EachApart (modules_behind b modules)
  behind_image = modules_fit (image_end b) modules end_home end_aligned (each_has 0 modules full) fit_parts.2

  pub modules_between : All (IsBetween (image_end b / 4096)) (modules_behind b modules)
  modules_between = behind_image.0

  first_between : (ms : List CodeModule) → 0 < length ms → All (IsBetween (image_end b / 4096)) (module_parts (image_end b) ms)
      → image_end b / 4096 < directory_address / 4096
  first_between [] any all = absurd (omega arith)
  first_between (m ∷ later) any all =
      let head = All-head (IsBetween (image_end b / 4096)) (module_part (module_start (image_end b) m.guard) m.bytes) (module_parts (module_start (image_end b) m.guard + whole_pages (length m.bytes)) later) all in
      omega (arith, head.low, head.high, head.loadable.takes)

  pub end_below : image_end b / 4096 < directory_address / 4096
  end_below = first_between modules some modules_between

  pub image_last : (i : ℕ) (d : ProgramHeader) → i < length (segments b) → part_last (image_part b (get_or (segments b) i d)) < image_end b / 4096
  image_last i d inside = omega (arith, segment_below b list i d inside (law.placed i d inside).takes)

  directory_behind : (part : JoinedPart) → part_last part < directory_address / 4096 → LieApart part (directory_part (modules_behind b modules))
  directory_behind part below = inl (omega (arith, below))

  few_modules : length (modules_behind b modules) ≤ 64
  few_modules =
      omega (
        arith,
        fit_parts.0,
        length-append (map (image_part b) (segments b)) (modules_behind b modules ++ directory_part (modules_behind b modules) ∷ []),
        length-append (modules_behind b modules) (directory_part (modules_behind b modules) ∷ []),
      )

  image_apart : (i : ℕ) (d : ProgramHeader) → i < length (segments b)
      → All (LieApart (image_part b (get_or (segments b) i d))) (modules_behind b modules ++ directory_part (modules_behind b modules) ∷ [])
  image_apart i d inside =
      let part : JoinedPart = image_part b (get_or (segments b) i d) in
      let last : part_last (image_part b (get_or (segments b) i d)) < image_end b / 4096 = image_last i d inside in
      All-append (LieApart part) (modules_behind b modules) (directory_part (modules_behind b modules) ∷ [])
      (All-weaker (IsBetween (image_end b / 4096)) (LieApart part) (λ q it. inl (omega (arith, last, it.low))) (modules_behind b modules) modules_between)
      (All-cons (LieApart part) (directory_part (modules_behind b modules)) [] (directory_behind part (omega (arith, last, end_below))) (All-nil (LieApart part)))

  behind_apart : EachApart (modules_behind b modules ++ directory_part (modules_behind b modules) ∷ [])
  behind_apart =
      append_apart (modules_behind b modules) (directory_part (modules_behind b modules) ∷ []) behind_image.1
      (All-nil (LieApart (directory_part (modules_behind b modules))), tt)
      (All-weaker (IsBetween (image_end b / 4096)) (λ x. All (LieApart x) (directory_part (modules_behind b modules) ∷ []))
      (λ q it. All-cons (LieApart q) (directory_part (modules_behind b modules)) [] (directory_behind q it.high) (All-nil (LieApart q)))
      (modules_behind b modules) modules_between)

  behind_loadable : All IsLoadable (modules_behind b modules ++ directory_part (modules_behind b modules) ∷ [])
  behind_loadable =
      All-append IsLoadable (modules_behind b modules) (directory_part (modules_behind b modules) ∷ [])
      (All-weaker (IsBetween (image_end b / 4096)) IsLoadable (λ q it. it.loadable) (modules_behind b modules) modules_between)
      (All-cons IsLoadable (directory_part (modules_behind b modules)) [] (directory_loadable (modules_behind b modules) few_modules) (All-nil IsLoadable))

  entry_code : list_any (λ p. is_code_at (e_entry b) (unplaced p)) (joined_parts b modules) ≡ true
  entry_code =
      list_any-append (λ p. is_code_at (e_entry b) (unplaced p)) (map (image_part b) (segments b)) (modules_behind b modules ++ directory_part (modules_behind b modules) ∷ [])
      ∙ or_left _ _ (any_image b (λ p. is_code_at (e_entry b) (unplaced p)) (is_code_at (e_entry b)) (λ s. same_code b s (e_entry b)) (segments b) ∙ law.code)

  pub joinable : AreJoinable (e_entry b) (joined_parts b modules)
  joinable = record {
    some =
        omega (
          arith,
          length-append (map (image_part b) (segments b)) (modules_behind b modules ++ directory_part (modules_behind b modules) ∷ []),
          length-append (modules_behind b modules) (directory_part (modules_behind b modules) ∷ []),
        );
    few = fit_parts.0;
    each = All-append IsLoadable (map (image_part b) (segments b)) _ (images_loadable b law) behind_loadable;
    apart = append_apart (map (image_part b) (segments b)) _ (images_apart b (segments b) law.apart) behind_apart
        (All-map (λ x. All (LieApart x) (modules_behind b modules ++ directory_part (modules_behind b modules) ∷ [])) (image_part b) (segments b) image_apart);
    code = entry_code;
    pages = fit_parts.1;
  }
