-- Parts that are placed one by one, over the lists that they come from.
use Rattle.std.proofs.Common.{◌≡◌, ℕ, suc, ◌+◌, ◌^◌, ◌<◌, ◌≤◌, Bool, true, false, ◌&&◌, ◌==◌, List, [], ◌∷◌, ◌++◌, length, map, drop, get_or, Some, inl, inr, sym, ap, ◌∙◌, subst, arith, add-one, append_assoc}
use Rattle.std.specs.Prelude.{option_map, slice_get}
use Rattle.std.specs.Int.{to_le_bytes, w64}
use Rattle.std.specs.List.{flat_map, list_all}
use Rattle.std.proofs.Math.Seq.{drop-cons}
use Rattle.std.proofs.lemmas.Bool.{cond-false, cond-true, leb-true}
use Rattle.std.proofs.lemmas.Option.{slice_get_cases}
use Rattle.elf_image.specs.Home.{home_end, home_start}
use Rattle.code_modules.specs.JoinAnswers.{empty_from, ends_before_directory, modules_with}
use Rattle.code_modules.specs.JoinedFile.{FilePart, offset_from, parts_end, placed_from}
use Rattle.code_modules.specs.JoinedParts.{CodeModule, JoinedPart, directory_address, directory_entry, directory_of, module_part, module_parts, module_start, whole_pages}
use Rattle.code_modules.specs.PartWords.{IsPlacedTo, Leads}
use Rattle.code_modules.proofs.JoinableParts.{start_behind}

-- one part more is placed
pub leads_on : (before placed more : List FilePart) (from end next : ℕ) (whole left rest : List JoinedPart) (p : JoinedPart)
    → Leads before from placed end whole left → left ≡ p ∷ rest
    → more ≡ placed ++ (record { offset = offset_from end p; part = p }) ∷ [] → next ≡ offset_from end p + length p.bytes
    → Leads before from more next whole rest
leads_on before placed more from end next whole left rest p leads first pushed is start all later it =
    let P : List JoinedPart → Type 0 = λ ps. IsPlacedTo start all placed end (ps ++ later) in
    let now = subst P first (leads start all later it) in
    let q : FilePart = record { offset = offset_from end p; part = p } in
    record {
      listed =
          ap (λ ps. ps ++ placed_from next (rest ++ later)) pushed
          ∙ append_assoc placed (q ∷ []) (placed_from next (rest ++ later))
          ∙ ap (λ n. placed ++ (q ∷ placed_from n (rest ++ later))) is
          ∙ now.listed;
      ends = ap (λ n. parts_end n (placed_from n (rest ++ later))) is ∙ now.ends;
    }

-- what a list gives from a place on, where its element there is known
pub map_from : {X Y : Type 0} (f : X → Y) (xs : List X) (i : ℕ) (y : Y) → option_map f (slice_get xs i) ≡ Some y
    → map f (drop i xs) ≡ y ∷ map f (drop (i + 1) xs)
map_from f xs i y is = elim (slice_get_cases xs i).1 [
  | inl it ↦
      let first : f it.0 ≡ y = let here = sym (ap (option_map f) it.2) ∙ is in cc in
      let whole : drop i xs ≡ get_or xs i it.0 ∷ drop (suc i) xs = drop-cons xs i it.0 it.1 in
      ap (map f) whole ∙ ap (λ x. f x ∷ map f (drop (suc i) xs)) it.3 ∙ ap (λ z. z ∷ map f (drop (suc i) xs)) first
      ∙ ap (λ n. y ∷ map f (drop n xs)) (sym (add-one i))
  | inr it ↦ absurd (let none = sym (ap (option_map f) it.1) ∙ is in cc)
]

-- the module at a place, before the later ones
pub modules_from : (guards : List Bool) (modules : List (List ℕ)) (i : ℕ) (guard : Bool) (bytes : List ℕ) (d : Bool)
    → i < length guards → i < length modules → guard ≡ get_or guards i d → bytes ≡ get_or modules i bytes
    → modules_with (drop i guards) (drop i modules)
    ≡ (record { guard = guard; bytes = bytes }) ∷ modules_with (drop (i + 1) guards) (drop (i + 1) modules)
modules_from guards modules i guard bytes d inside within is_guard is_bytes =
    let one : drop i guards ≡ get_or guards i d ∷ drop (suc i) guards = drop-cons guards i d inside in
    let two : drop i modules ≡ get_or modules i bytes ∷ drop (suc i) modules = drop-cons modules i bytes within in
    ap (λ gs. modules_with gs (drop i modules)) one
    ∙ ap (λ ms. modules_with (get_or guards i d ∷ drop (suc i) guards) ms) two
    ∙ ap (λ g. (record { guard = g; bytes = get_or modules i bytes }) ∷ modules_with (drop (suc i) guards) (drop (suc i) modules)) (sym is_guard)
    ∙ ap (λ b. (record { guard = guard; bytes = b }) ∷ modules_with (drop (suc i) guards) (drop (suc i) modules)) (sym is_bytes)
    ∙ ap (λ n. (record { guard = guard; bytes = bytes }) ∷ modules_with (drop n guards) (drop n modules)) (sym (add-one i))

-- the part of a module, before those of the later ones
module _ (end : ℕ) (guard : Bool) (bytes : List ℕ) (from later : List CodeModule) (p : JoinedPart)
    (whole : from ≡ (record { guard = guard; bytes = bytes }) ∷ later) (is : p ≡ module_part (module_start end guard) bytes) where
  pub first_part : module_parts end from ≡ p ∷ module_parts (p.address + p.memory_size) later
  first_part = ap (module_parts end) whole ∙ ap (λ q. q ∷ module_parts (q.address + q.memory_size) later) (sym is)

  pub others_end : ends_before_directory p ≡ true → list_all ends_before_directory (module_parts end from)
      ≡ list_all ends_before_directory (module_parts (p.address + p.memory_size) later)
  others_end early =
      ap (list_all ends_before_directory) first_part
      ∙ ap (λ x. x && list_all ends_before_directory (module_parts (p.address + p.memory_size) later)) early

  pub one_ends_late : ends_before_directory p ≡ false → list_all ends_before_directory (module_parts end from) ≡ false
  one_ends_late late =
      ap (list_all ends_before_directory) first_part
      ∙ ap (λ x. x && list_all ends_before_directory (module_parts (p.address + p.memory_size) later)) late

  pub between : home_start ≤ end → ends_before_directory p ≡ true
      → (home_start ≤ p.address + p.memory_size) × (p.address + p.memory_size ≤ home_end) × (length bytes ≤ 2 ^ 30)
  between low early =
      let start = start_behind end guard in
      let address : p.address ≡ module_start end guard = ap (λ q. q.address) is in
      let size : p.memory_size ≡ whole_pages (length bytes) = ap (λ q. q.memory_size) is in
      let most : p.address + p.memory_size ≤ directory_address = leb-true _ _ early in
      let pages : length bytes ≤ whole_pages (length bytes) = omega arith in
      (omega (arith, start.0), omega arith, omega (arith, start.0, pages))

-- the directory, entry by entry
pub directory_begun : (parts : List JoinedPart) (n : ℕ) (none done : List ℕ) → none ≡ [] → done ≡ none ++ to_le_bytes w64 n
    → n ≡ length parts → done ++ flat_map directory_entry parts ≡ directory_of parts
unfolding directory_of
directory_begun parts n none done empty is count =
    ap (λ d. d ++ flat_map directory_entry parts) (is ∙ ap (λ d. d ++ to_le_bytes w64 n) empty ∙ ap (to_le_bytes w64) count)

pub directory_more : (left later : List JoinedPart) (p : JoinedPart) (all done half more : List ℕ) → left ≡ p ∷ later
    → done ++ flat_map directory_entry left ≡ all → half ≡ done ++ to_le_bytes w64 p.address
    → more ≡ half ++ to_le_bytes w64 (length p.bytes) → more ++ flat_map directory_entry later ≡ all
directory_more left later p all done half more first so_far one two =
    let a : List ℕ = to_le_bytes w64 p.address in
    let l : List ℕ = to_le_bytes w64 (length p.bytes) in
    let rest : List ℕ = flat_map directory_entry later in
    ap (λ d. d ++ rest) (two ∙ ap (λ h. h ++ l) one)
    ∙ ap (λ d. d ++ rest) (append_assoc done a l)
    ∙ append_assoc done (a ++ l) rest
    ∙ sym (ap (λ ps. done ++ flat_map directory_entry ps) first)
    ∙ so_far

-- a module without bytes, and one with
module _ (modules : List (List ℕ)) (i : ℕ) (bytes : List ℕ) (within : i < length modules) (is : bytes ≡ get_or modules i bytes) where
  at_place : empty_from i (drop i modules) ≡ empty_from i (bytes ∷ drop (suc i) modules)
  at_place =
      ap (empty_from i) (drop-cons modules i bytes within)
      ∙ ap (λ b. empty_from i (b ∷ drop (suc i) modules)) (sym is)

  pub empty_here : (length bytes == 0) ≡ true → Some i ≡ empty_from i (drop i modules)
  empty_here empty = sym (at_place ∙ cond-true (length bytes == 0) (Some i) (empty_from (i + 1) (drop (suc i) modules)) empty)

  pub empty_later : (length bytes == 0) ≡ false → empty_from i (drop i modules) ≡ empty_from (i + 1) (drop (i + 1) modules)
  empty_later full =
      at_place ∙ cond-false (length bytes == 0) (Some i) (empty_from (i + 1) (drop (suc i) modules)) full
      ∙ ap (λ n. empty_from (i + 1) (drop n modules)) (sym (add-one i))
