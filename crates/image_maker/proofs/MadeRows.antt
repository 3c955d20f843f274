-- The thirteen rows of the form, over a file that begins with the headers of the image of a number.
use Rattle.std.proofs.Common.{◌≡◌, ℕ, ◌+◌, ◌-◌, ◌*◌, ◌<◌, ◌≤◌, true, List, [], ◌∷◌, Option, Some, None, filter, map, refl, ap, ◌∙◌, arith}
use Rattle.std.specs.Prelude.{is_none, nat_lt}
use Rattle.std.specs.List.{range_with_len}
use Rattle.std.proofs.lemmas.Bool.{agree_below, agree_below_at, cond-false, cond-true, le-ltb, lt-ltb}
use Rattle.elf_image.specs.declared.fault.ImageFault.{ImageFault}
use Rattle.elf_image.specs.declared.program_header.ProgramHeader.{ProgramHeader}
use Rattle.elf_image.specs.Elf.{e_phoff, is_segment, program_header_at, segments}
use Rattle.elf_image.specs.Rows.{first_fault, or_later, segment_fault, whole_fault}
use Rattle.elf_image.specs.WrittenHeaders.{HasFileHeader, HasProgramHeader, IsReadAsWritten, byte_in_fields, file_header}
use Rattle.image_maker.specs.MadeImage.{data_header, image_byte, script_pages, text_header}
use Rattle.image_maker.proofs.MadeFields.{HasHeaders}

-- the segments of the image, whose script has so many pages
abbrev pub text_segment : ProgramHeader
text_segment = record {
  index = 0;
  kind = 1;
  flags = 5;
  offset = 4096;
  address = 0xFFFFFFFF80000000;
  file_size = 69;
  memory_size = 69;
}

abbrev pub data_segment : ℕ → ProgramHeader
data_segment pages = record {
  index = 1;
  kind = 1;
  flags = 4;
  offset = 8192;
  address = 0xFFFFFFFF80001000;
  file_size = 4096 * pages + 9;
  memory_size = 4096 * pages + 9;
}

abbrev pub segments_with : ℕ → List ProgramHeader
segments_with pages = text_segment ∷ data_segment pages ∷ []

pub few_pages : (n : ℕ) → n ≤ 100 → script_pages n < 19
few_pages n most = omega arith

-- what a law says of headers that were written
pub record WrittenLaws : Type 0 where
  pub file : (b : List ℕ) (entry count : ℕ) → HasFileHeader b entry count → IsReadAsWritten b entry count
  pub program : (b : List ℕ) (place i : ℕ) (h : ProgramHeader) → HasProgramHeader b place h
      → program_header_at b place i ≡ record h { index = i }

-- the bytes of the three headers
file_byte : (n at : ℕ) → at < 64 → image_byte n at ≡ byte_in_fields (file_header 0xFFFFFFFF80000000 2) at
unfolding image_byte
file_byte n at below = cond-true (nat_lt at 64) _ _ (lt-ltb at 64 below)

text_byte : (n k : ℕ) → k < 56 → image_byte n (64 + k) ≡ byte_in_fields text_header k
unfolding image_byte
text_byte n k below =
    let start : 64 + k - 64 ≡ k = omega arith in
    cond-false (nat_lt (64 + k) 64) _ _ (le-ltb (64 + k) 64 (omega arith))
    ∙ cond-true (nat_lt (64 + k) 120) _ _ (lt-ltb (64 + k) 120 (omega arith))
    ∙ ap (λ (j : ℕ). byte_in_fields text_header j) start

data_byte : (n k : ℕ) → k < 56 → image_byte n (120 + k) ≡ byte_in_fields (data_header n) k
unfolding image_byte
data_byte n k below =
    let start : 120 + k - 120 ≡ k = omega arith in
    cond-false (nat_lt (120 + k) 64) _ _ (le-ltb (120 + k) 64 (omega arith))
    ∙ cond-false (nat_lt (120 + k) 120) _ _ (le-ltb (120 + k) 120 (omega arith))
    ∙ cond-true (nat_lt (120 + k) 176) _ _ (lt-ltb (120 + k) 176 (omega arith))
    ∙ ap (λ (j : ℕ). byte_in_fields (data_header n) j) start

module _ (laws : WrittenLaws) (n : ℕ) (most : n ≤ 100) (b : List ℕ) (it : HasHeaders n b) where
  head_read : IsReadAsWritten b 0xFFFFFFFF80000000 2
  head_read = laws.file b 0xFFFFFFFF80000000 2 (record {
    some = omega arith;
    few = omega arith;
    long = omega (arith, it.long);
    address = omega arith;
    bytes = λ at below. it.bytes at (omega arith) ∙ file_byte n at below;
  })

  text_is : program_header_at b 64 0 ≡ text_segment
  text_is = laws.program b 64 0 text_segment (record {
    loaded = refl;
    flags = omega arith;
    offset = omega arith;
    address = omega arith;
    file_size = omega arith;
    memory_size = omega arith;
    bytes = λ k below. it.bytes (64 + k) (omega arith) ∙ text_byte n k below;
  })

  data_is : program_header_at b 120 1 ≡ data_segment (script_pages n)
  data_is =
      let few : script_pages n < 19 = few_pages n most in
      laws.program b 120 1 (data_segment (script_pages n)) (record {
        loaded = refl;
        flags = omega arith;
        offset = omega arith;
        address = omega arith;
        file_size = omega arith;
        memory_size = omega arith;
        bytes = λ k below. it.bytes (120 + k) (omega arith) ∙ data_byte n k below;
      })

  -- both headers are segments
  pub segments_are : segments b ≡ segments_with (script_pages n)
  unfolding segments
  segments_are =
      let more : nat_lt 0 (4096 * script_pages n + 9) ≡ true = lt-ltb _ _ (omega arith) in
      ap (λ (count : ℕ). filter is_segment (map (λ i. program_header_at b (e_phoff b + 56 * i) i) (range_with_len 0 count))) head_read.count_read
      ∙ ap (λ (at : ℕ). filter is_segment (program_header_at b (at + 56 * 0) 0 ∷ program_header_at b (at + 56 * 1) 1 ∷ [])) head_read.table_read
      ∙ ap (λ (s : ProgramHeader). filter is_segment (s ∷ program_header_at b 120 1 ∷ [])) text_is
      ∙ ap (λ (s : ProgramHeader). filter is_segment (text_segment ∷ s ∷ [])) data_is
      ∙ rw more refl

  abbrev segments_pass : ℕ → Option ImageFault
  segments_pass pages =
      or_later (segment_fault (8192 + (4096 * pages + 9)) (segments_with pages)) (whole_fault 0xFFFFFFFF80000000 (segments_with pages))

  each_passes : agree_below (λ pages. is_none (segments_pass pages)) (λ _. true) 19 ≡ true
  unfolding segment_fault whole_fault
  each_passes = refl

  is_none-none : (o : Option ImageFault) → is_none o ≡ true → o ≡ None
  is_none-none None h = refl
  is_none-none (Some fault) h = cc

  pub form_is : first_fault b ≡ None
  unfolding first_fault
  form_is =
      rw (head_read.none, it.long, segments_are, head_read.entry_read)
      (is_none-none (segments_pass (script_pages n)) (agree_below_at (λ pages. is_none (segments_pass pages)) (λ _. true) 19 (script_pages n) each_passes (few_pages n most)))
