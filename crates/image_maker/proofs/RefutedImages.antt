-- Images that aren't good, beside the image of a number, which is.
use Rattle.std.proofs.Common.{◌≡◌, ℕ, ◌+◌, ◌/◌, ◌<◌, ◌≤◌, Bool, true, ◌&&◌, List, Option, Some, None, find, length, set, refl, sym, ap, ◌∙◌, arith, suc}
use Rattle.std.specs.Prelude.{nat_lt, option_map, slice_index}
use Rattle.std.specs.List.{list_any, range_with_len}
use Rattle.std.proofs.Math.ListN.{length-set}
use Rattle.std.proofs.lemmas.Bool.{cond-true}
use Rattle.std.proofs.lemmas.Option.{none-some}
use Rattle.std.proofs.lemmas.List.{get_or-set_other, get_or-set_same}
use Rattle.decode_fields.specs.Protected.{is_protected_at, length_of_bytes}
use Rattle.elf_image.specs.declared.program_header.ProgramHeader.{ProgramHeader}
use Rattle.elf_image.specs.Elf.{has_flag, pf_x}
use Rattle.elf_image.specs.Segments.{touches}
use Rattle.elf_image.specs.Pages.{byte_of, is_executable}
use Rattle.byte_scanner.specs.ImageCode.{code_at}
use Rattle.byte_scanner.specs.FirstFound.{first_found, found_with}
use Rattle.image_maker.specs.MadeImage.{image_byte, image_len, image_of_number}
use Rattle.image_maker.proofs.MadeCode.{text_byte}
use Rattle.image_maker.proofs.MadeFields.{HasHeaders, made_byte, made_length}
use Rattle.image_maker.proofs.MadeRows.{WrittenLaws, segments_are}

-- the image of a number, with WRMSR in the place of the text's first two bytes
abbrev with_wrmsr : ℕ → List ℕ
with_wrmsr n = set (set (image_of_number n) 4096 0x0F) 4097 0x30

same_length : (n : ℕ) → length (with_wrmsr n) ≡ image_len n
same_length n = simp length-set (made_length n)

same_byte : (n at : ℕ) → at < 176 → slice_index (with_wrmsr n) at ≡ image_byte n at
same_byte n at below =
    get_or-set_other (set (image_of_number n) 4096 0x0F) 4097 at 0x30 0 (λ e. absurd (omega arith))
    ∙ get_or-set_other (image_of_number n) 4096 at 0x0F 0 (λ e. absurd (omega arith))
    ∙ made_byte n at (omega arith)

same_headers : (n : ℕ) → HasHeaders n (with_wrmsr n)
same_headers n = record { long = same_length n; bytes = same_byte n }

first_is : (n : ℕ) → slice_index (with_wrmsr n) 4096 ≡ 0x0F
first_is n =
    let within : 4096 < length (image_of_number n) = omega (arith, made_length n) in
    get_or-set_other (set (image_of_number n) 4096 0x0F) 4097 4096 0x30 0 (λ e. absurd (omega arith))
    ∙ get_or-set_same (image_of_number n) 4096 0x0F 0 within

second_is : (n : ℕ) → slice_index (with_wrmsr n) 4097 ≡ 0x30
second_is n =
    let within : 4097 < length (set (image_of_number n) 4096 0x0F) =
    omega (arith, made_length n, length-set (image_of_number n) 4096 0x0F) in
    get_or-set_same (set (image_of_number n) 4096 0x0F) 4097 0x30 0 within

wrmsr_stands : (third : Option ℕ) → nat_lt 0 (length_of_bytes (Some 0x0F) (Some 0x30) third) ≡ true
wrmsr_stands None = refl
wrmsr_stands (Some byte) = refl

found_first : (p : ℕ → Bool) (a m : ℕ) → p a ≡ true → find p (range_with_len a (suc m)) ≡ Some a
found_first p a m here = cond-true (p a) (Some a) (find p (range_with_len (a + 1) m)) here

module _ (laws : WrittenLaws) (n : ℕ) (most : n ≤ 100) where
  text_page : is_executable (with_wrmsr n) 0xFFFFFFFF80000 ≡ true
  unfolding is_executable
  text_page =
      ap (λ (segs : List ProgramHeader). list_any (λ s. touches s 0xFFFFFFFF80000 && has_flag s pf_x) segs)
      (segments_are laws n most (with_wrmsr n) (same_headers n))

  code_is : (a x : ℕ) → a / 4096 ≡ 0xFFFFFFFF80000 → byte_of (with_wrmsr n) a ≡ x → code_at (with_wrmsr n) a ≡ Some x
  code_is a x page is =
      cond-true _ _ _ (ap (is_executable (with_wrmsr n)) page ∙ text_page) ∙ ap Some is

  first_code : code_at (with_wrmsr n) 0xFFFFFFFF80000000 ≡ Some 0x0F
  first_code = code_is 0xFFFFFFFF80000000 0x0F (omega arith)
      (text_byte n most (with_wrmsr n) (segments_are laws n most (with_wrmsr n) (same_headers n)) 0xFFFFFFFF80000000 (omega arith) (omega arith) ∙ first_is n)

  second_code : code_at (with_wrmsr n) 0xFFFFFFFF80000001 ≡ Some 0x30
  second_code = code_is 0xFFFFFFFF80000001 0x30 (omega arith)
      (text_byte n most (with_wrmsr n) (segments_are laws n most (with_wrmsr n) (same_headers n)) 0xFFFFFFFF80000001 (omega arith) (omega arith) ∙ second_is n)

  is_protected : is_protected_at (code_at (with_wrmsr n)) 0xFFFFFFFF80000000 ≡ true
  is_protected =
      ap (λ (o : Option ℕ). nat_lt 0 (length_of_bytes o (code_at (with_wrmsr n) 0xFFFFFFFF80000001) (code_at (with_wrmsr n) 0xFFFFFFFF80000002))) first_code
      ∙ ap (λ (o : Option ℕ). nat_lt 0 (length_of_bytes (Some 0x0F) o (code_at (with_wrmsr n) 0xFFFFFFFF80000002))) second_code
      ∙ wrmsr_stands (code_at (with_wrmsr n) 0xFFFFFFFF80000002)

  -- an image with WRMSR in its text isn't free of protected encodings
  pub wrmsr_is_found : first_found (with_wrmsr n) ≡ None → ⊥
  unfolding first_found
  wrmsr_is_found none =
      let found = found_first (is_protected_at (code_at (with_wrmsr n))) 0xFFFFFFFF80000000 1073741823 is_protected in
      let some : option_map (λ (at : ℕ). found_with (code_at (with_wrmsr n)) at at)
      (find (is_protected_at (code_at (with_wrmsr n))) (range_with_len 0xFFFFFFFF80000000 1073741824))
      ≡ Some (found_with (code_at (with_wrmsr n)) 0xFFFFFFFF80000000 0xFFFFFFFF80000000) =
      ap (option_map (λ (at : ℕ). found_with (code_at (with_wrmsr n)) at at)) found in
      none-some _ (sym none ∙ some)
