-- Modules with a guard page each: what is protected in the joined image is protected in one of them by itself.
use Rattle.std.proofs.Common.{◌≡◌, ℕ, suc, zero, ◌+◌, ◌-◌, ◌/◌, ◌%◌, ◌<◌, ◌≤◌, ◌⊎◌, Bool, true, false, List, [], ◌∷◌, length, replicate, get_or, Option, None, Some, Err, inl, inr, refl, sym, ap, ◌∙◌, subst, arith, length-append}
use Rattle.std.specs.Prelude.{find, nat_le, nat_lt, option_map, slice_get, slice_index, ◌||◌}
use Rattle.std.specs.List.{All, Any, range_with_len}
use Rattle.std.proofs.lemmas.Bool.{and_from, and_left, and_parts, and_right, cases_Bool, cases_lt, cond-false, cond-true, false_from_ne_true, false≢true, le-leb, leb-true, lt-leb, or_cases, or_from, or_right}
use Rattle.std.proofs.lemmas.List.{get_or-append_right, get_or-replicate, get_or_append_left, get_or_past, length-replicate}
use Rattle.std.proofs.lemmas.List.Elements.{All-cons, All-head, All-nil, All-tail, All-weaker}
use Rattle.std.proofs.lemmas.List.Folds.{Any-from_list_any, list_any_at}
use Rattle.std.proofs.lemmas.Option.{get_or_from_slice_get, slice_get-get_or, slice_get_past, slice_get_within}
use Rattle.decode_fields.specs.Protected.{is_protected_at, length_of_bytes}
use Rattle.elf_image.specs.Home.{home_end, home_start}
use Rattle.elf_image.specs.Pages.{IsPageList, byte_of, is_executable, pages_of}
use Rattle.byte_scanner.specs.declared.encoding.Found.{Found}
use Rattle.byte_scanner.specs.FirstFound.{first_found, found_with}
use Rattle.byte_scanner.specs.ImageCode.{code_at}
use Rattle.byte_scanner.specs.LeastPlace.{IsNowhere}
use Rattle.code_modules.specs.declared.fault.JoinFault.TheVariants.{Protected}
use Rattle.code_modules.specs.FormWords.{EachGap}
use Rattle.code_modules.specs.JoinAnswers.{first_empty, is_fitting, joined_file, part_first, part_last, unless_protected}
use Rattle.code_modules.specs.JoinedImage.{IsInModule, IsLoadedWith, IsRefusedByModule, is_page_in, padded, part_touches}
use Rattle.code_modules.specs.JoinedParts.{CodeModule, JoinedPart, image_end, module_part, module_parts, module_start, modules_behind, whole_pages}
use Rattle.code_modules.proofs.JoinSteps.{file_answer}
use Rattle.code_modules.proofs.JoinableParts.{IsBetween, each_has, page_below, whole_is}

-- each part begins on a later page than the one that follows an earlier part, and than this address
gaps : (end : ℕ) (modules : List CodeModule) → end % 4096 ≡ 0 → All (λ m. 0 < length m.bytes) modules → All (λ m. m.guard ≡ true) modules
    → All (λ q. end / 4096 < part_first q) (module_parts end modules) × EachGap (module_parts end modules)
gaps end [] aligned some guarded = (All-nil (λ q. end / 4096 < part_first q), tt)
gaps end (m ∷ later) aligned some guarded =
    let part : JoinedPart = module_part (module_start end m.guard) m.bytes in
    let next : ℕ = module_start end m.guard + whole_pages (length m.bytes) in
    let start : module_start end m.guard ≡ end + 4096 = ap (module_start end) (All-head (λ n. n.guard ≡ true) m later guarded) in
    let whole = whole_is (length m.bytes) (All-head (λ n. 0 < length n.bytes) m later some) in
    let rest = gaps next later (omega (arith, start, whole.2)) (All-tail (λ n. 0 < length n.bytes) m later some) (All-tail (λ n. n.guard ≡ true) m later guarded) in
    let last : part_last part + 1 ≡ next / 4096 = omega (arith, start, whole.1, whole.2) in
    let first : end / 4096 < part_first part = omega (arith, start) in
    let up : end / 4096 < next / 4096 = omega (arith, start) in (
      All-cons (λ q. end / 4096 < part_first q) part (module_parts next later) first
          (All-weaker (λ q. next / 4096 < part_first q) (λ q. end / 4096 < part_first q) (λ q it. omega (arith, it, up)) (module_parts next later) rest.0),
      (All-weaker (λ q. next / 4096 < part_first q) (λ q. part_last part + 1 < part_first q) (λ q it. omega (arith, it, last)) (module_parts next later) rest.0, rest.1),
    )

none_touches : (n : ℕ) (parts : List JoinedPart) → All (λ q. n < part_first q) parts → is_page_in parts n ≡ false
none_touches n [] all = refl
none_touches n (p ∷ later) all =
    or_from (part_touches n p) (is_page_in later n)
    (and_left (nat_le (part_first p) n) (nat_le n (part_last p)) (lt-leb (part_first p) n (All-head (λ q. n < part_first q) p later all)))
    (none_touches n later (All-tail (λ q. n < part_first q) p later all))

-- no part has the page behind another
free_behind : (parts : List JoinedPart) (i : ℕ) (d : JoinedPart) → EachGap parts → All (λ p. part_first p ≤ part_last p) parts → i < length parts
    → is_page_in parts (part_last (get_or parts i d) + 1) ≡ false
free_behind [] i d gap order inside = absurd (omega arith)
free_behind (p ∷ later) zero d gap order inside =
    let past : part_last p < part_last p + 1 = omega arith in
    or_from (part_touches (part_last p + 1) p) (is_page_in later (part_last p + 1))
    (and_right (nat_le (part_first p) (part_last p + 1)) (nat_le (part_last p + 1) (part_last p)) (lt-leb (part_last p + 1) (part_last p) past))
    (none_touches (part_last p + 1) later gap.0)
free_behind (p ∷ later) (suc i) d gap order inside =
    let within : i < length later = omega arith in
    let q : JoinedPart = get_or later i d in
    let low = gap.0 i d within in
    let high = All-tail (λ r. part_first r ≤ part_last r) p later order i d within in
    let past : part_last p < part_last (get_or later i d) + 1 = omega arith in
    or_from (part_touches (part_last q + 1) p) (is_page_in later (part_last q + 1))
    (and_right (nat_le (part_first p) (part_last q + 1)) (nat_le (part_last q + 1) (part_last p)) (lt-leb (part_last q + 1) (part_last p) past))
    (free_behind later i d gap.1 (All-tail (λ r. part_first r ≤ part_last r) p later order) within)

-- the module of a part, and the part of a module
pub record IsPartOf (m : CodeModule) (p : JoinedPart) : Type 0 where
  pub bytes : p.bytes ≡ m.bytes
  pub pages : p.memory_size ≡ whole_pages (length m.bytes)

module_of : (end : ℕ) (modules : List CodeModule) (i : ℕ) (p : JoinedPart) → slice_get (module_parts end modules) i ≡ Some p
    → (m : CodeModule) × (slice_get modules i ≡ Some m) × IsPartOf m p
module_of end [] i p is = absurd (cc)
module_of end (m ∷ later) zero p is =
    let same : module_part (module_start end m.guard) m.bytes ≡ p = cc in
    (m, refl, record { bytes = ap (λ q. q.bytes) (sym same); pages = ap (λ q. q.memory_size) (sym same) })
module_of end (m ∷ later) (suc i) p is = module_of (module_start end m.guard + whole_pages (length m.bytes)) later i p is

part_at : (end : ℕ) (modules : List CodeModule) (i : ℕ) (m : CodeModule) → slice_get modules i ≡ Some m
    → (p : JoinedPart) × (slice_get (module_parts end modules) i ≡ Some p) × IsPartOf m p
part_at end [] i m is = absurd (cc)
part_at end (n ∷ later) zero m is =
    let same : n ≡ m = cc in
    (module_part (module_start end n.guard) n.bytes, refl, record { bytes = ap (λ q. q.bytes) same; pages = ap (λ q. whole_pages (length q.bytes)) same })
part_at end (n ∷ later) (suc i) m is = part_at (module_start end n.guard + whole_pages (length n.bytes)) later i m is

-- a module's pages by themselves
padded_length : (m : CodeModule) → length (padded m) ≡ whole_pages (length m.bytes)
padded_length m =
    let zeros = length-replicate {A = ℕ} (whole_pages (length m.bytes) - length m.bytes) 0 in
    omega (arith, length-append m.bytes (replicate (whole_pages (length m.bytes) - length m.bytes) 0), zeros)

padded_byte : (m : CodeModule) (k : ℕ) → k < whole_pages (length m.bytes) → get_or (padded m) k 0 ≡ slice_index m.bytes k
padded_byte m k below =
    let zeros : List ℕ = replicate (whole_pages (length m.bytes) - length m.bytes) 0 in
    elim (cases_lt k (length m.bytes)) [
      | inl within ↦ get_or_append_left m.bytes zeros 0 k within
      | inr past ↦
          get_or-append_right m.bytes zeros (length m.bytes) k 0 refl past
          ∙ get_or-replicate {A = ℕ} (whole_pages (length m.bytes) - length m.bytes) (k - length m.bytes) 0 0 (omega arith)
          ∙ sym (get_or_past m.bytes k 0 past)
    ]

-- the same three bytes are protected alike
alike : (f g : ℕ → Option ℕ) (a k : ℕ) → f a ≡ g k → f (a + 1) ≡ g (k + 1) → f (a + 2) ≡ g (k + 2) → is_protected_at f a ≡ is_protected_at g k
alike f g a k one two three =
    ap (λ o. nat_lt 0 (length_of_bytes o (f (a + 1)) (f (a + 2)))) one
    ∙ ap (λ o. nat_lt 0 (length_of_bytes (g k) o (f (a + 2)))) two
    ∙ ap (λ o. nat_lt 0 (length_of_bytes (g k) (g (k + 1)) o)) three

-- where an encoding stands, a byte stands
some_stands : (f : ℕ → Option ℕ) (a : ℕ) → is_protected_at f a ≡ true → f a ≡ None → ⊥
some_stands f a stands none =
    false≢true (sym (ap (λ o. nat_lt 0 (length_of_bytes o (f (a + 1)) (f (a + 2)))) none) ∙ stands)

find_stands : (test : ℕ → Bool) (xs : List ℕ) (x : ℕ) → find test xs ≡ Some x → test x ≡ true
find_stands test [] x is = absurd (cc)
find_stands test (y ∷ ys) x is = elim (cases_Bool (test y)) [
  | inl here ↦
      let first : y ≡ x = let some = sym (cond-true (test y) (Some y) (find test ys) here) ∙ is in cc in
      ap test (sym first) ∙ here
  | inr gone ↦ find_stands test ys x (sym (cond-false (test y) (Some y) (find test ys) gone) ∙ is)
]

found_cases : (o : Option ℕ) → ((a : ℕ) × (o ≡ Some a)) ⊎ (o ≡ None)
found_cases (Some a) = inl (a, refl)
found_cases None = inr refl

-- the first encoding that is found stands somewhere
found_within : (f : ℕ → Option ℕ) (from count : ℕ) (found : Found)
    → option_map (λ (a : ℕ). found_with f a a) (find (is_protected_at f) (range_with_len from count)) ≡ Some found
    → (a : ℕ) × (is_protected_at f a ≡ true)
found_within f from count found is = elim (found_cases (find (is_protected_at f) (range_with_len from count))) [
  | inl some ↦ (some.0, find_stands (is_protected_at f) (range_with_len from count) some.0 some.1)
  | inr none ↦ absurd (let no = sym (ap (option_map (λ (a : ℕ). found_with f a a)) none) ∙ is in cc)
]

found_somewhere : (file : List ℕ) (found : Found) → first_found file ≡ Some found → (a : ℕ) × (is_protected_at (code_at file) a ≡ true)
unfolding first_found
found_somewhere file found is = found_within (code_at file) home_start (home_end - home_start) found is

or_false : (x : Bool) → (x || false) ≡ x
or_false true = refl
or_false false = refl

module _ (b : List ℕ) (modules : List CodeModule) (file : List ℕ) (list : IsPageList b (pages_of b)) (joined : IsLoadedWith b modules file)
    (between : All (IsBetween (image_end b / 4096)) (modules_behind b modules))
    (some : All (λ m. 0 < length m.bytes) modules) (guarded : All (λ m. m.guard ≡ true) modules) where
  abbrev mods : List JoinedPart
  mods = modules_behind b modules

  apart : All (λ q. image_end b / 4096 < part_first q) (modules_behind b modules) × EachGap (modules_behind b modules)
  apart = let aligned : image_end b % 4096 ≡ 0 = omega arith in gaps (image_end b) modules aligned some guarded

  ordered : All (λ p. part_first p ≤ part_last p) (modules_behind b modules)
  ordered = All-weaker (IsBetween (image_end b / 4096)) (λ p. part_first p ≤ part_last p) (λ p it. omega (arith, it.loadable.takes)) (modules_behind b modules) between

  -- below the first module the code is the image's
  image_code : (a : ℕ) → a / 4096 ≤ image_end b / 4096 → code_at file a ≡ code_at b a
  image_code a low =
      let free : is_page_in (modules_behind b modules) (a / 4096) ≡ false =
      none_touches (a / 4096) (modules_behind b modules)
      (All-weaker (λ q. image_end b / 4096 < part_first q) (λ q. a / 4096 < part_first q) (λ q it. omega (arith, it, low)) (modules_behind b modules) apart.0) in
      let same : is_executable file (a / 4096) ≡ is_executable b (a / 4096) =
      joined.executable (a / 4096) ∙ ap (λ x. is_executable b (a / 4096) || x) free ∙ or_false (is_executable b (a / 4096)) in
      elim (cases_Bool (is_executable b (a / 4096))) [
        | inl on ↦
            cond-true (is_executable file (a / 4096)) (Some (byte_of file a)) None (same ∙ on)
            ∙ ap (λ (x : ℕ). Some x) (joined.image_bytes a (list.executable (a / 4096) on))
            ∙ sym (cond-true (is_executable b (a / 4096)) (Some (byte_of b a)) None on)
        | inr off ↦
            cond-false (is_executable file (a / 4096)) (Some (byte_of file a)) None (same ∙ off)
            ∙ sym (cond-false (is_executable b (a / 4096)) (Some (byte_of b a)) None off)
      ]

  -- from the image's end on no page is the image's
  not_image : (n : ℕ) → image_end b / 4096 ≤ n → is_executable b n ≡ false
  not_image n past =
      false_from_ne_true (is_executable b n) (λ on. let end = page_below b list n (list.executable n on) in omega (arith, end))

  -- on a module's pages, and right behind them, the code is the module's
  module _ (i : ℕ) (m : CodeModule) (p : JoinedPart) (at : slice_get (modules_behind b modules) i ≡ Some p) (is_of : IsPartOf m p) where
    inside : i < length (modules_behind b modules)
    inside = slice_get_within (modules_behind b modules) i p at

    same_part : get_or (modules_behind b modules) i p ≡ p
    same_part = get_or_from_slice_get (modules_behind b modules) i p p at

    pub bounds : IsBetween (image_end b / 4096) p
    bounds = let P : JoinedPart → Type 0 = λ q. IsBetween (image_end b / 4096) q in subst P same_part (between i p inside)

    touched : (n : ℕ) → part_first p ≤ n → n ≤ part_last p → is_page_in (modules_behind b modules) n ≡ true
    touched n low high =
        list_any_at (part_touches n) (modules_behind b modules) i p inside
        (ap (part_touches n) same_part ∙ and_from (nat_le (part_first p) n) (nat_le n (part_last p)) (le-leb (part_first p) n low) (le-leb n (part_last p) high))

    within_code : (k : ℕ) → k < p.memory_size → code_at file (p.address + k) ≡ slice_get (padded m) k
    within_code k below =
        let low : part_first p ≤ (p.address + k) / 4096 = omega arith in
        let high : (p.address + k) / 4096 ≤ part_last p = omega arith in
        let on : is_executable file ((p.address + k) / 4096) ≡ true =
        joined.executable ((p.address + k) / 4096)
        ∙ or_right (is_executable b ((p.address + k) / 4096)) (is_page_in (modules_behind b modules) ((p.address + k) / 4096)) (touched ((p.address + k) / 4096) low high) in
        let short : k < whole_pages (length m.bytes) = omega (arith, is_of.pages) in
        cond-true (is_executable file ((p.address + k) / 4096)) (Some (byte_of file (p.address + k))) None on
        ∙ ap (λ (x : ℕ). Some x) (joined.module_bytes i k p at below ∙ ap (λ xs. slice_index xs k) is_of.bytes ∙ sym (padded_byte m k short))
        ∙ sym (slice_get-get_or (padded m) k 0 (omega (arith, padded_length m)))

    behind_code : (k : ℕ) → p.memory_size ≤ k → k < p.memory_size + 4096 → code_at file (p.address + k) ≡ slice_get (padded m) k
    behind_code k past near =
        let page : (p.address + k) / 4096 ≡ part_last p + 1 = omega (arith, bounds.begins, bounds.whole, bounds.loadable.takes) in
        let free : is_page_in (modules_behind b modules) (part_last p + 1) ≡ false =
        ap (λ q. is_page_in (modules_behind b modules) (part_last q + 1)) (sym same_part) ∙ free_behind (modules_behind b modules) i p apart.1 ordered inside in
        let order : part_first p ≤ part_last p = omega (arith, bounds.loadable.takes) in
        let off : is_executable file ((p.address + k) / 4096) ≡ false =
        joined.executable ((p.address + k) / 4096)
        ∙ or_from (is_executable b ((p.address + k) / 4096)) (is_page_in (modules_behind b modules) ((p.address + k) / 4096))
        (not_image ((p.address + k) / 4096) (omega (arith, page, bounds.low, order)))
        (ap (is_page_in (modules_behind b modules)) page ∙ free) in
        cond-false (is_executable file ((p.address + k) / 4096)) (Some (byte_of file (p.address + k))) None off
        ∙ sym (slice_get_past (padded m) k (omega (arith, padded_length m, is_of.pages)))

    module_code : (k : ℕ) → k < p.memory_size + 4096 → code_at file (p.address + k) ≡ slice_get (padded m) k
    module_code k near = elim (cases_lt k p.memory_size) [
      | inl below ↦ within_code k below
      | inr past ↦ behind_code k past near
    ]

    pub alike_by_itself : (k : ℕ) → k < p.memory_size → is_protected_at (code_at file) (p.address + k) ≡ is_protected_at (slice_get (padded m)) k
    alike_by_itself k below =
        let one : p.address + k + 1 ≡ p.address + (k + 1) = omega arith in
        let two : p.address + k + 2 ≡ p.address + (k + 2) = omega arith in
        alike (code_at file) (slice_get (padded m)) (p.address + k) k (module_code k (omega arith))
        (ap (code_at file) one ∙ module_code (k + 1) (omega arith)) (ap (code_at file) two ∙ module_code (k + 2) (omega arith))

  in_part : (a : ℕ) → is_protected_at (code_at file) a ≡ true → Any (λ p. part_touches (a / 4096) p ≡ true) (modules_behind b modules) → IsInModule modules
  in_part a stands any =
      let p : JoinedPart = any.1 in
      let at : slice_get (modules_behind b modules) any.0 ≡ Some any.1 =
      slice_get-get_or (modules_behind b modules) any.0 any.1 any.2 ∙ ap (λ (q : JoinedPart). Some q) any.3 in
      let it = module_of (image_end b) modules any.0 any.1 at in
      let it_is = bounds any.0 it.0 any.1 at it.2 in
      let both = and_parts (nat_le (part_first any.1) (a / 4096)) (nat_le (a / 4096) (part_last any.1)) any.4 in
      let low = leb-true (part_first any.1) (a / 4096) both.0 in
      let high = leb-true (a / 4096) (part_last any.1) both.1 in
      let above : p.address ≤ a = omega (arith, it_is.begins, low) in
      let place : p.address + (a - p.address) ≡ a = omega arith in
      let below : a - p.address < p.memory_size = omega (arith, it_is.begins, it_is.whole, it_is.loadable.takes, high) in
      record {
        number = any.0;
        place = a - p.address;
        holder = it.0;
        listed = it.1;
        stands = sym (alike_by_itself any.0 it.0 any.1 at it.2 (a - p.address) below) ∙ ap (is_protected_at (code_at file)) place ∙ stands;
      }

  -- an encoding of the joined image stands in a module, where the image has none
  pub in_a_module : IsNowhere (code_at b) → (a : ℕ) → is_protected_at (code_at file) a ≡ true → IsInModule modules
  in_a_module nowhere a stands = elim (cases_Bool (is_executable file (a / 4096))) [
    | inr off ↦ absurd (some_stands (code_at file) a stands (cond-false (is_executable file (a / 4096)) (Some (byte_of file a)) None off))
    | inl on ↦ elim (or_cases (is_executable b (a / 4096)) (is_page_in (modules_behind b modules) (a / 4096)) (sym (joined.executable (a / 4096)) ∙ on)) [
      | inl own ↦
          let end = page_below b list (a / 4096) (list.executable (a / 4096) own) in
          absurd (false≢true (sym (nowhere a)
          ∙ sym (alike (code_at file) (code_at b) a a (image_code a (omega (arith, end))) (image_code (a + 1) (omega (arith, end))) (image_code (a + 2) (omega (arith, end))))
          ∙ stands))
      | inr its ↦ in_part a stands (Any-from_list_any (part_touches (a / 4096)) (modules_behind b modules) its)
    ]
  ]

  -- and one that stands in a module stands in the joined image
  pub in_the_image : (it : IsInModule modules) → (a : ℕ) × (is_protected_at (code_at file) a ≡ true)
  in_the_image it =
      let its = part_at (image_end b) modules it.number it.holder it.listed in
      elim (cases_lt it.place its.0.memory_size) [
        | inl below ↦
            (its.0.address + it.place, alike_by_itself it.number it.holder its.0 its.1 its.2 it.place below ∙ it.stands)
        | inr past ↦
            absurd (some_stands (slice_get (padded it.holder)) it.place it.stands
            (slice_get_past (padded it.holder) it.place (omega (arith, padded_length it.holder, its.2.pages))))
      ]

found_or_not : (o : Option Found) → (o ≡ None) ⊎ ((found : Found) × (o ≡ Some found))
found_or_not None = inl refl
found_or_not (Some found) = inr (found, refl)

refused_for : (file : List ℕ) (first : Option Found) (found : Found) → unless_protected file first ≡ Err (Protected found) → first ≡ Some found
refused_for file None found is = absurd (cc)
refused_for file (Some it) found is = cc

-- exactly where one stands in a module it is refused
pub refused_by_module : (b : List ℕ) (modules : List CodeModule) → IsPageList b (pages_of b) → IsNowhere (code_at b)
    → All (IsBetween (image_end b / 4096)) (modules_behind b modules) → first_empty modules ≡ None → is_fitting b modules ≡ true
    → All (λ m. m.guard ≡ true) modules → IsLoadedWith b modules (joined_file b modules)
    → (first_found (joined_file b modules) ≡ None → IsNowhere (code_at (joined_file b modules))) → IsRefusedByModule b modules
refused_by_module b modules list nowhere between full fits guarded joined clean =
    let some = each_has 0 modules full in
    let answer = file_answer b modules full fits in
    let file : List ℕ = joined_file b modules in
    record {
      refused = λ found is.
          let at = found_somewhere file found (refused_for file (first_found file) found (sym answer ∙ is)) in
          in_a_module b modules file list joined between some guarded nowhere at.0 at.1;
      found = λ it.
          let at = in_the_image b modules file list joined between some guarded it in
          elim (found_or_not (first_found (joined_file b modules))) [
            | inl none ↦ absurd (false≢true (sym (clean none at.0) ∙ at.1))
            | inr found ↦ (found.0, answer ∙ ap (unless_protected file) found.1)
          ];
    }
