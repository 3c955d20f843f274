-- How many parts there are, which of the conditions of a fit fails, and what the answer is then.
use Rattle.std.proofs.Common.{◌≡◌, ℕ, suc, ◌+◌, ◌*◌, ◌<◌, ◌≤◌, ◌⊎◌, Bool, true, false, ◌&&◌, List, [], ◌∷◌, ◌++◌, length, map, drop, None, Some, Ok, Err, Option, Vec, Global, inl, inr, refl, sym, ap, ◌∙◌, subst, arith, append_assoc, length-append}
use Rattle.std.specs.Prelude.{nat_le, sum_by, Result, IfErr, IfOk}
use Rattle.std.specs.List.{list_all}
use Rattle.std.proofs.Math.Seq.{drop-append_seam}
use Rattle.std.proofs.lemmas.Bool.{and_from, and_left, and_right, cases_Bool, cond-false, cond-true, le-leb, leb-false, leb-true, lt-leb}
use Rattle.std.proofs.lemmas.List.{append_cancel_right, drop-map, length-map, map-append}
use Rattle.std.proofs.lemmas.List.Sums.{sum_by-cons}
use Rattle.elf_image.specs.Elf.{segments}
use Rattle.elf_image.specs.Pages.{entry_of}
use Rattle.byte_scanner.specs.declared.encoding.Found.{Found}
use Rattle.byte_scanner.specs.FirstFound.{first_found}
use Rattle.code_modules.specs.declared.fault.JoinFault.TheVariants.{Empty, Memory, NoFit, Protected}
use Rattle.code_modules.specs.declared.fault.JoinFault.{JoinFault}
use Rattle.code_modules.specs.declared.part.FilePart as code_file_part
use Rattle.code_modules.specs.JoinAnswers.{IsFaultOf, empty_from, ends_before_directory, first_empty, is_fitting, join_answer, joined_file, modules_with, part_pages, unless_protected}
use Rattle.code_modules.specs.JoinedFile.{FilePart, data_start, file_from, file_of_parts, offset_from, parts_end, placed_from, placed_parts}
use Rattle.code_modules.specs.JoinedParts.{CodeModule, JoinedPart, directory_address, directory_of, directory_part, image_end, image_part, joined_parts, module_parts, module_start, modules_behind, whole_pages}
use Rattle.code_modules.specs.PartWords.{Follow, IsLaidOut, IsPlacedTo, as_file_part, as_part, part_of, parts_answer}
use Rattle.code_modules.proofs.JoinableParts.{directory_length}
use Rattle.code_modules.proofs.PlacedParts.{follow_lower, follow_placed, length_placed, parts_of_placed}

modules_length : (end : ℕ) (modules : List CodeModule) → length (module_parts end modules) ≡ length modules
modules_length end [] = refl
modules_length end (m ∷ later) = ap suc (modules_length (module_start end m.guard + whole_pages (length m.bytes)) later)

pub with_length : (guards : List Bool) (modules : List (List ℕ)) → length guards ≡ length modules
    → length (modules_with guards modules) ≡ length modules
with_length [] [] same = refl
with_length [] (bytes ∷ later) same = absurd (omega arith)
with_length (guard ∷ guards) [] same = absurd (omega arith)
with_length (guard ∷ guards) (bytes ∷ later) same = ap suc (with_length guards later (omega arith))

pub with_bytes : (guards : List Bool) (modules : List (List ℕ)) → length guards ≡ length modules
    → map (λ m. m.bytes) (modules_with guards modules) ≡ modules
with_bytes [] [] same = refl
with_bytes [] (bytes ∷ later) same = absurd (omega arith)
with_bytes (guard ∷ guards) [] same = absurd (omega arith)
with_bytes (guard ∷ guards) (bytes ∷ later) same = ap (λ ms. bytes ∷ ms) (with_bytes guards later (omega arith))

option_cases : (o : Option ℕ) → (o ≡ None) ⊎ ((i : ℕ) × (o ≡ Some i))
option_cases None = inl refl
option_cases (Some i) = inr (i, refl)

kept_file : (made file : List ℕ) (found : Option Found) → unless_protected made found ≡ Ok file → (file ≡ made) × (found ≡ None)
kept_file made file None ok = (cc, refl)
kept_file made file (Some found) ok = absurd (cc)

module _ (b : List ℕ) (modules : List CodeModule) where
  pub count_parts : length (joined_parts b modules) ≡ length (segments b) + length modules + 1
  count_parts =
      omega (
        arith,
        length-append (map (image_part b) (segments b)) (modules_behind b modules ++ directory_part (modules_behind b modules) ∷ []),
        length-append (modules_behind b modules) (directory_part (modules_behind b modules) ∷ []),
        length-map (segments b) (image_part b),
        modules_length (image_end b) modules,
      )

  pub too_many : 64 < length (joined_parts b modules) → is_fitting b modules ≡ false
  unfolding is_fitting
  too_many more =
      and_left _ (list_all ends_before_directory (modules_behind b modules))
      (and_left _ (nat_le (sum_by part_pages (joined_parts b modules)) 8192) (lt-leb (length (joined_parts b modules)) 64 more))

  pub too_large : 8192 < sum_by part_pages (joined_parts b modules) → is_fitting b modules ≡ false
  unfolding is_fitting
  too_large more =
      and_left _ (list_all ends_before_directory (modules_behind b modules))
      (and_right (nat_le (length (joined_parts b modules)) 64) _ (lt-leb (sum_by part_pages (joined_parts b modules)) 8192 more))

  pub too_late : list_all ends_before_directory (modules_behind b modules) ≡ false → is_fitting b modules ≡ false
  unfolding is_fitting
  too_late late =
      and_right (nat_le (length (joined_parts b modules)) 64 && nat_le (sum_by part_pages (joined_parts b modules)) 8192) _ late

  pub all_fit : length (joined_parts b modules) ≤ 64 → sum_by part_pages (joined_parts b modules) ≤ 8192
      → list_all ends_before_directory (modules_behind b modules) ≡ true → is_fitting b modules ≡ true
  unfolding is_fitting
  all_fit few small early =
      and_from (nat_le (length (joined_parts b modules)) 64 && nat_le (sum_by part_pages (joined_parts b modules)) 8192) _
      (and_from _ _ (le-leb (length (joined_parts b modules)) 64 few) (le-leb (sum_by part_pages (joined_parts b modules)) 8192 small)) early

  -- the answers
  pub is_empty_answer : (i : ℕ) → first_empty modules ≡ Some i → join_answer b modules ≡ Err (Empty i)
  unfolding join_answer
  is_empty_answer i empty = rw empty refl

  pub no_fit_answer : first_empty modules ≡ None → is_fitting b modules ≡ false → join_answer b modules ≡ Err NoFit
  unfolding join_answer
  no_fit_answer full unfit = rw (full, unfit) refl

  pub file_answer : first_empty modules ≡ None → is_fitting b modules ≡ true
      → join_answer b modules ≡ unless_protected (joined_file b modules) (first_found (joined_file b modules))
  unfolding join_answer
  file_answer full fits = rw (full, fits) refl

  -- what an answer that is a file says
  pub file_means : (file : List ℕ) → join_answer b modules ≡ Ok file → (first_empty modules ≡ None) × (is_fitting b modules ≡ true)
      × (file ≡ joined_file b modules) × (first_found file ≡ None)
  file_means file ok = elim (option_cases (first_empty modules)) [
    | inl full ↦ elim (cases_Bool (is_fitting b modules)) [
      | inl fits ↦
          let kept = kept_file (joined_file b modules) file (first_found (joined_file b modules)) (sym (file_answer full fits) ∙ ok) in
          (full, fits, kept.0, ap first_found kept.0 ∙ kept.1)
      | inr unfit ↦ absurd (let no = sym (no_fit_answer full unfit) ∙ ok in cc)
    ]
    | inr some ↦ absurd (let no = sym (is_empty_answer some.0 some.1) ∙ ok in cc)
  ]

  -- the parts that are placed, before the directory and with it
  module _ (placed : List FilePart) (end : ℕ)
      (it : IsPlacedTo (data_start (length (joined_parts b modules))) (joined_parts b modules) placed end (directory_part (modules_behind b modules) ∷ [])) where
    parts_are : map (λ p. p.part) placed ++ directory_part (modules_behind b modules) ∷ [] ≡ joined_parts b modules
    parts_are =
        sym (map-append (λ (p : FilePart). p.part) placed (placed_from end (directory_part (modules_behind b modules) ∷ [])))
        ∙ ap (map (λ p. p.part)) it.listed
        ∙ parts_of_placed (data_start (length (joined_parts b modules))) (joined_parts b modules)

    pub before_directory : map (λ p. p.part) placed ≡ map (image_part b) (segments b) ++ modules_behind b modules
    before_directory =
        append_cancel_right (map (λ p. p.part) placed) (map (image_part b) (segments b) ++ modules_behind b modules) (directory_part (modules_behind b modules) ∷ [])
        (parts_are ∙ sym (append_assoc (map (image_part b) (segments b)) (modules_behind b modules) (directory_part (modules_behind b modules) ∷ [])))

    pub modules_are : drop (length (segments b)) (map (λ p. p.part) placed) ≡ modules_behind b modules
    modules_are =
        ap (drop (length (segments b))) before_directory
        ∙ ap (λ n. drop n (map (image_part b) (segments b) ++ modules_behind b modules)) (sym (length-map (segments b) (image_part b)))
        ∙ drop-append_seam (map (image_part b) (segments b)) (modules_behind b modules)

    pub placed_count : length placed + 1 ≡ length (joined_parts b modules)
    placed_count =
        omega (
          arith,
          ap length parts_are,
          length-map placed (λ (p : FilePart). p.part),
          length-append (map (λ (p : FilePart). p.part) placed) (directory_part (modules_behind b modules) ∷ []),
        )

    -- with the directory, all are placed
    pub all_placed : (more : List FilePart) → more ≡ placed ++ (record { offset = offset_from end (directory_part (modules_behind b modules)); part = directory_part (modules_behind b modules) }) ∷ []
        → more ≡ placed_parts (joined_parts b modules)
    all_placed more pushed = pushed ∙ it.listed

pub placing_starts : (start : ℕ) (all : List JoinedPart) (placed : List FilePart) (end : ℕ) → placed ≡ [] → end ≡ start
    → IsPlacedTo start all placed end all
placing_starts start all placed end none same = record {
  listed = ap (λ ps. ps ++ placed_from end all) none ∙ ap (λ n. placed_from n all) same;
  ends = ap (λ n. parts_end n (placed_from n all)) same;
}

pub first_is : (guards : List Bool) (modules : List (List ℕ)) (first : Option ℕ) → length guards ≡ length modules
    → first ≡ empty_from 0 modules → first_empty (modules_with guards modules) ≡ first
first_is guards modules first same is = ap (empty_from 0) (with_bytes guards modules same) ∙ sym is

-- the code's parts
parts_twice : (ps : List code_file_part.FilePart) → map part_of ps ≡ map (λ p. p.part) (map as_file_part ps)
parts_twice [] = refl
parts_twice (p ∷ ps) = ap (λ qs. part_of p ∷ qs) (parts_twice ps)

pub pages_of_parts : (ps : List code_file_part.FilePart) → sum_by (λ p. part_pages (as_part p.part)) ps ≡ sum_by part_pages (map part_of ps)
pages_of_parts [] = refl
pages_of_parts (p ∷ ps) =
    sum_by-cons (λ (q : code_file_part.FilePart). part_pages (as_part q.part)) p ps
    ∙ ap (λ n. part_pages (part_of p) + n) (pages_of_parts ps)
    ∙ sym (sum_by-cons part_pages (part_of p) (map part_of ps))

module _ (b : List ℕ) (modules : List CodeModule) (placed : List code_file_part.FilePart) (end : ℕ)
    (laid : IsLaidOut b modules (map as_file_part placed) end) where
  pub laid_count : length placed ≡ length (segments b) + length modules
  laid_count =
      omega (arith, placed_count b modules (map as_file_part placed) end laid.placed_to, count_parts b modules, length-map placed as_file_part)

  pub laid_few : length placed < 64
  laid_few = omega (arith, laid.few, laid_count, count_parts b modules)

  directory_known : (n : ℕ) (later : List code_file_part.FilePart) (bytes : List ℕ) → n ≡ length (segments b) → later ≡ drop n placed
      → bytes ≡ directory_of (map part_of later) → bytes ≡ directory_of (modules_behind b modules)
  directory_known n later bytes count is made =
      made ∙ ap (λ ps. directory_of (map part_of ps)) is
      ∙ ap directory_of (sym (drop-map part_of n placed) ∙ ap (drop n) (parts_twice placed)
      ∙ ap (λ k. drop k (map (λ (p : FilePart). p.part) (map as_file_part placed))) count
      ∙ modules_are b modules (map as_file_part placed) end laid.placed_to)

  pub whole_known : (n : ℕ) (later more : List code_file_part.FilePart) (bytes : List ℕ) (part : JoinedPart)
      → n ≡ length (segments b) → later ≡ drop n placed → bytes ≡ directory_of (map part_of later)
      → part ≡ record { flags = 4; address = directory_address; memory_size = length bytes; bytes = bytes }
      → map as_file_part more ≡ map as_file_part placed ++ (record { offset = offset_from end part; part = part }) ∷ []
      → map as_file_part more ≡ placed_parts (joined_parts b modules)
  whole_known n later more bytes part count is made part_is pushed =
      let known : bytes ≡ directory_of (modules_behind b modules) = directory_known n later bytes count is made in
      let same : part ≡ directory_part (modules_behind b modules) =
      part_is
      ∙ ap (λ bs. record { flags = 4; address = directory_address; memory_size = length bs; bytes = bs }) known
      ∙ ap (λ k. record { flags = 4; address = directory_address; memory_size = k; bytes = directory_of (modules_behind b modules) })
      (directory_length (modules_behind b modules)) in
      all_placed b modules (map as_file_part placed) end laid.placed_to (map as_file_part more)
      (pushed ∙ ap (λ q. map as_file_part placed ++ (record { offset = offset_from end q; part = q }) ∷ []) same)

module _ (parts : List JoinedPart) (all : List code_file_part.FilePart) (whole : map as_file_part all ≡ placed_parts parts) where
  pub all_count : length all ≡ length parts
  all_count = omega (arith, ap length whole, length-map all as_file_part, length_placed (data_start (length parts)) parts)

  pub all_follow : Follow (64 + 56 * length all) (map as_file_part all)
  all_follow =
      let P : List FilePart → Type 0 = λ ps. Follow (64 + 56 * length all) ps in
      let before : 64 + 56 * length all ≤ data_start (length parts) = omega (arith, all_count) in
      subst P (sym whole)
      (follow_lower (64 + 56 * length all) (data_start (length parts)) (placed_parts parts) before (follow_placed (data_start (length parts)) parts))

  pub all_known : map part_of all ≡ parts
  all_known = parts_twice all ∙ ap (map (λ p. p.part)) whole ∙ parts_of_placed (data_start (length parts)) parts

  pub all_file : (entry at : ℕ) (file : List ℕ) → entry ≡ at → file ≡ file_of_parts entry (map as_file_part all) → file ≡ file_from at parts
  all_file entry at file same made = made ∙ ap (λ e. file_of_parts e (map as_file_part all)) same ∙ ap (file_of_parts at) whole

-- what the parts come to is the answer
module _ (b : List ℕ) (modules : List CodeModule) (some : first_empty modules ≡ None) (few : length (joined_parts b modules) ≤ 64)
    (early : list_all ends_before_directory (modules_behind b modules) ≡ true) (entry : ℕ) (same : entry ≡ entry_of b) where
  pub is_answer : join_answer b modules ≡ parts_answer entry (joined_parts b modules)
  is_answer = elim (cases_Bool (nat_le (sum_by part_pages (joined_parts b modules)) 8192)) [
    | inl small ↦
        file_answer b modules some (all_fit b modules few (leb-true _ _ small) early)
        ∙ ap (λ e. unless_protected (file_from e (joined_parts b modules)) (first_found (file_from e (joined_parts b modules)))) (sym same)
        ∙ sym (cond-true (nat_le (sum_by part_pages (joined_parts b modules)) 8192) _ (Err NoFit) small)
    | inr large ↦
        no_fit_answer b modules some (too_large b modules (leb-false (sum_by part_pages (joined_parts b modules)) 8192 large))
        ∙ sym (cond-false (nat_le (sum_by part_pages (joined_parts b modules)) 8192) _ (Err NoFit) large)
  ]

-- and of the parts
module _ (entry : ℕ) (parts : List JoinedPart) where
  pub too_many_pages : 8192 < sum_by part_pages parts → parts_answer entry parts ≡ Err NoFit
  too_many_pages more = cond-false (nat_le (sum_by part_pages parts) 8192) _ (Err NoFit) (lt-leb (sum_by part_pages parts) 8192 more)

  pub file_comes : (file : List ℕ) → sum_by part_pages parts ≤ 8192 → file ≡ file_from entry parts
      → parts_answer entry parts ≡ unless_protected file (first_found file)
  file_comes file few is =
      cond-true (nat_le (sum_by part_pages parts) 8192) _ (Err NoFit) (le-leb (sum_by part_pages parts) 8192 few)
      ∙ ap (λ f. unless_protected f (first_found f)) (sym is)

pub ok_answer : (x y : Result (List ℕ) JoinFault) (r : Result (Vec ℕ Global) JoinFault)
    → x ≡ y → IfOk r (λ kept. y ≡ Ok kept.items) → IfOk r (λ kept. x ≡ Ok kept.items)
ok_answer x y (Ok kept) is here = is ∙ here
ok_answer x y (Err fault) is here = here

fault_answer : (x y : Result (List ℕ) JoinFault) (fault : JoinFault) → x ≡ y → IsFaultOf y fault → IsFaultOf x fault
fault_answer x y (Empty i) is here = is ∙ here
fault_answer x y NoFit is here = is ∙ here
fault_answer x y (Protected found) is here = is ∙ here
fault_answer x y Memory is here = tt

own_fault : (x : Result (List ℕ) JoinFault) (fault : JoinFault) → x ≡ Err fault → IsFaultOf x fault
own_fault x (Empty i) is = is
own_fault x NoFit is = is
own_fault x (Protected found) is = is
own_fault x Memory is = tt

pub err_answer : (x y : Result (List ℕ) JoinFault) (r : Result (Vec ℕ Global) JoinFault)
    → x ≡ y → IfErr r (IsFaultOf y) → IfErr r (IsFaultOf x)
err_answer x y (Ok kept) is here = here
err_answer x y (Err fault) is here = fault_answer x y fault is here

pub err_comes : (x y : Result (List ℕ) JoinFault) (r : Result (Vec ℕ Global) JoinFault)
    → x ≡ y → IfErr r (λ fault. y ≡ Err fault) → IfErr r (IsFaultOf x)
err_comes x y (Ok kept) is here = here
err_comes x y (Err fault) is here = own_fault x fault (is ∙ here)
