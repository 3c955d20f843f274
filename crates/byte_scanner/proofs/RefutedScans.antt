-- What is no least place, no first encoding, and not what a scanner knows. Each lemma is named by what it refuses.
use Rattle.std.proofs.Common.{◌≡◌, ℕ, zero, suc, ◌+◌, ◌*◌, ◌/◌, ◌<◌, ◌≤◌, true, false, Option, None, Some, List, [], ◌∷◌, length, slice_get, arith, refl, ap, sym, ◌∙◌}
use Rattle.std.specs.Prelude.{slice_index}
use Rattle.std.proofs.lemmas.Bool.{false≢true}
use Rattle.std.proofs.lemmas.Option.{none-some}
use Rattle.decode_fields.specs.Protected.{is_protected_at}
use Rattle.elf_image.specs.Pages.{is_executable, page_count, pages_of}
use Rattle.byte_scanner.specs.declared.encoding.Found.{Found}
use Rattle.byte_scanner.specs.Escapes.{IsNextFrom, NoneFrom}
use Rattle.byte_scanner.specs.FoundBytes.{IsFoundOf}
use Rattle.byte_scanner.specs.ImageCode.{code_at}
use Rattle.byte_scanner.specs.LeastPlace.{IsLeastPlace, IsNowhere}
use Rattle.byte_scanner.specs.PieceRuns.{Feeds, IsBehind, IsFirstIn}
use Rattle.byte_scanner.specs.Scanned.{Scanned}
use Rattle.byte_scanner.specs.ScannedCode.{HasScanned, HasWalked, NoCode, NoCodeFrom}

module _ (byte_at : ℕ → Option ℕ) (place : ℕ) where
  a_place_without_an_encoding_is_not_the_least : is_protected_at byte_at place ≡ false → IsLeastPlace byte_at place → ⊥
  a_place_without_an_encoding_is_not_the_least none is = false≢true (sym none ∙ is.stands)

  a_place_behind_an_encoding_is_not_the_least : (lower : ℕ) → lower < place → is_protected_at byte_at lower ≡ true →
      IsLeastPlace byte_at place → ⊥
  a_place_behind_an_encoding_is_not_the_least lower below stands is = false≢true (sym (is.lowest lower below) ∙ stands)

  a_place_with_an_encoding_is_not_nowhere : is_protected_at byte_at place ≡ true → IsNowhere byte_at → ⊥
  a_place_with_an_encoding_is_not_nowhere stands is = false≢true (sym (is place) ∙ stands)

-- the next place passes none, goes back nowhere, and isn't past the end
module _ (bytes : List ℕ) (from place : ℕ) where
  an_encoding_is_not_passed_over : (k : ℕ) → from ≤ k → k < place → is_protected_at (slice_get bytes) k ≡ true →
      IsNextFrom bytes from place → ⊥
  an_encoding_is_not_passed_over k low below stands is = false≢true (sym (is.clean k low below) ∙ stands)

  a_place_before_is_not_the_next : place < from → IsNextFrom bytes from place → ⊥
  a_place_before_is_not_the_next before is = let low = is.low in omega (arith, before, low)

  a_place_past_the_end_is_not_the_next : length bytes ≤ place → IsNextFrom bytes from place → ⊥
  a_place_past_the_end_is_not_the_next past is = let inside = is.inside in omega (arith, past, inside)

module _ (bytes : List ℕ) (from : ℕ) where
  an_encoding_behind_is_not_none : (k : ℕ) → from ≤ k → is_protected_at (slice_get bytes) k ≡ true → NoneFrom bytes from → ⊥
  an_encoding_behind_is_not_none k low stands none = false≢true (sym (none k low) ∙ stands)

-- code isn't absent, before a limit or anywhere, and isn't another byte
module _ (b : List ℕ) (a byte : ℕ) (there : code_at b a ≡ Some byte) where
  code_before_the_limit_is_not_absent : (from upto : ℕ) → from ≤ a → a < upto → NoCode b from upto → ⊥
  code_before_the_limit_is_not_absent from upto low below none = none-some byte (sym (none a low below) ∙ there)

  code_is_not_absent : (from : ℕ) → from ≤ a → NoCodeFrom b from → ⊥
  code_is_not_absent from low none = none-some byte (sym (none a low) ∙ there)

-- RDMSR, 0F 32, is none, and neither is an escape alone; and WRMSR has two bytes
module _ (at : ℕ) (third : Option ℕ) (found : Found) where
  rdmsr_is_not_found : IsFoundOf at (Some 0x0F) (Some 0x32) None found → ⊥
  rdmsr_is_not_found is = let stands : false ≡ true = is.stands in false≢true stands

  an_escape_is_not_found : IsFoundOf at (Some 0x0F) None third found → ⊥
  an_escape_is_not_found is = let stands : false ≡ true = is.stands in false≢true stands

three_bytes_are_not_wrmsr : (at : ℕ) (bytes : List ℕ) →
    IsFoundOf at (Some 0x0F) (Some 0x30) (Some 0x90) (record { at = at; bytes = bytes; count = 3 }) → ⊥
three_bytes_are_not_wrmsr at bytes is = let count : 3 ≡ 2 = ap (λ (f : Found). f.count) is.is in omega (arith, count)

-- a scanner isn't behind a run that ends elsewhere, or ends otherwise, or holds an encoding
module _ (kept run : List ℕ) (start : ℕ) where
  another_end_is_not_the_run's : IsBehind (record { kept = kept; end = start }) start (0x90 ∷ run) → ⊥
  another_end_is_not_the_run's is = let ends : start ≡ start + length (0x90 ∷ run) = is.ends in omega (arith, ends)

module _ (start end : ℕ) where
  one_byte_is_not_all_that_is_kept : IsBehind (record { kept = 0x0F ∷ []; end = end }) start (0x90 ∷ 0x0F ∷ []) → ⊥
  one_byte_is_not_all_that_is_kept is = let keeps : 1 ≡ 2 = ap length is.keeps in omega (arith, keeps)

  an_encoding_is_not_behind : IsBehind (record { kept = 0x0F ∷ 0x30 ∷ []; end = end }) start (0x0F ∷ 0x30 ∷ []) → ⊥
  an_encoding_is_not_behind is = let clean : true ≡ false = is.clean 0 in false≢true (sym clean)

-- an encoding behind the first one of a run isn't its first, nor is one of a run that has none
module _ (start : ℕ) (found : Found) where
  nothing_is_not_the_first : IsFirstIn start [] found → ⊥
  nothing_is_not_the_first is = let stands : false ≡ true = is.least.stands in false≢true stands

  the_second_is_not_the_first : (is : IsFirstIn start (0x0F ∷ 0x30 ∷ 0x0F ∷ 0x30 ∷ []) found) → is.place ≡ 2 → ⊥
  the_second_is_not_the_first is second =
      let lowest : true ≡ false = is.least.lowest 0 (omega (arith, second)) in false≢true (sym lowest)

-- a piece that holds an encoding by itself, or over the seam, isn't passed over
abbrev new : Scanned
new = record { kept = []; end = 100 }

abbrev begun : Scanned
begun = record { kept = 0x0F ∷ []; end = 101 }

nowhere_in_nothing : IsNowhere (slice_get [])
nowhere_in_nothing place = refl

nowhere_in_an_escape : IsNowhere (slice_get (0x0F ∷ []))
nowhere_in_an_escape zero = refl
nowhere_in_an_escape (suc place) = refl

nowhere_in_30 : IsNowhere (slice_get (0x30 ∷ []))
nowhere_in_30 zero = refl
nowhere_in_30 (suc place) = refl

module _ (after : Scanned) (found : Found) where
  an_encoding_of_a_piece_is_not_lost : Feeds new after 100 (0x0F ∷ 0x30 ∷ []) None → ⊥
  an_encoding_of_a_piece_is_not_lost feeds =
      let is : IsBehind after 100 (0x0F ∷ 0x30 ∷ []) = feeds 100 [] (record { ends = refl; keeps = refl; clean = nowhere_in_nothing }) in
      let clean : true ≡ false = is.clean 0 in false≢true (sym clean)

  an_encoding_over_the_seam_is_not_lost : Feeds begun after 101 (0x30 ∷ []) None → ⊥
  an_encoding_over_the_seam_is_not_lost feeds =
      let is : IsBehind after 100 (0x0F ∷ 0x30 ∷ []) = feeds 100 (0x0F ∷ []) (record { ends = refl; keeps = refl; clean = nowhere_in_an_escape }) in
      let clean : true ≡ false = is.clean 0 in false≢true (sym clean)

  -- nor is one found over a gap
  an_encoding_over_a_gap_is_not_found : Feeds begun after 102 (0x30 ∷ []) (Some found) → ⊥
  an_encoding_over_a_gap_is_not_found feeds =
      let is : IsFirstIn 102 (0x30 ∷ []) found = feeds 100 (0x0F ∷ []) (record { ends = refl; keeps = refl; clean = nowhere_in_an_escape }) in
      false≢true (sym (nowhere_in_30 is.place) ∙ is.least.stands)

-- what was scanned leaves out no byte of code, holds no encoding but one that goes on past it, and ends at the limit at most
module _ (b : List ℕ) (s : Scanned) (upto : ℕ) (is : HasScanned b s upto) where
  a_byte_of_code_is_not_left_out : (a byte : ℕ) → is.start + length is.run ≤ a → a < upto → code_at b a ≡ Some byte → ⊥
  a_byte_of_code_is_not_left_out a byte low below there = none-some byte (sym (is.gap a low below) ∙ there)

  a_byte_that_is_no_code_is_not_the_run's : (k byte : ℕ) → k < length is.run → slice_get is.run k ≡ Some byte →
      code_at b (is.start + k) ≡ None → ⊥
  a_byte_that_is_no_code_is_not_the_run's k byte small there none = none-some byte (sym none ∙ is.shows k small ∙ there)

  an_encoding_before_the_run_is_not_passed_over : (a : ℕ) → a < is.start → is_protected_at (code_at b) a ≡ true → ⊥
  an_encoding_before_the_run_is_not_passed_over a below stands = false≢true (sym (is.before a below) ∙ stands)

  an_encoding_of_the_run_is_not_passed_over : (k : ℕ) → is_protected_at (slice_get is.run) k ≡ true → ⊥
  an_encoding_of_the_run_is_not_passed_over k stands = false≢true (sym (is.behind.clean k) ∙ stands)

  a_run_past_the_limit_is_not_scanned : upto < s.end → ⊥
  a_run_past_the_limit_is_not_scanned past =
      let ends = is.behind.ends in let reached = is.reached in omega (arith, past, ends, reached)

-- of the pages that were walked none has code past the limit, and those to come begin there or later
module _ (b : List ℕ) (s : Scanned) (i : ℕ) (is : HasWalked b s i) where
  a_page_to_come_does_not_begin_before : (j : ℕ) → i ≤ j → j < page_count b → 4096 * slice_index (pages_of b) j < is.upto → ⊥
  a_page_to_come_does_not_begin_before j low below before = let ahead = is.ahead j low below in omega (arith, before, ahead)

  code_of_a_walked_page_is_not_left_out : (a j : ℕ) → is.upto ≤ a → j < i → a / 4096 ≡ slice_index (pages_of b) j →
      is_executable b (a / 4096) ≡ true → ⊥
  code_of_a_walked_page_is_not_left_out a j low below page code = false≢true (sym (is.passed a j low below page) ∙ code)
