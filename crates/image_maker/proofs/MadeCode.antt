-- The code of a file that begins with the headers of the image of a number: the page of the text, and nothing else.
use Rattle.std.proofs.Common.{◌≡◌, ℕ, ◌+◌, ◌-◌, ◌/◌, ◌<◌, ◌≤◌, true, false, ◌&&◌, List, Option, Some, None, find, inl, inr, refl, sym, ap, ◌∙◌, arith}
use Rattle.std.specs.Prelude.{nat_eq, nat_lt, slice_index, ⊤}
use Rattle.std.specs.List.{list_any}
use Rattle.std.proofs.lemmas.Bool.{agree_below, agree_below_at, and_from, and_left, and_right, cases_eq, cases_lt, cond-true, cond_both, false≢true, le-leb, le-ltb, lt-leb, lt-ltb, or_from}
use Rattle.decode_fields.specs.Protected.{is_protected_at, length_of_bytes}
use Rattle.elf_image.specs.declared.program_header.ProgramHeader.{ProgramHeader}
use Rattle.elf_image.specs.Elf.{has_flag, pf_x, segments}
use Rattle.elf_image.specs.Segments.{loads, touches}
use Rattle.elf_image.specs.Pages.{byte_from, byte_of, is_executable}
use Rattle.byte_scanner.specs.ImageCode.{code_at}
use Rattle.image_maker.specs.MadeImage.{image_byte, image_of_number, script_pages}
use Rattle.image_maker.proofs.MadeFields.{made_byte}
use Rattle.image_maker.proofs.MadeRows.{data_segment, segments_with, text_segment}

-- no byte stands there, or one other than 0F, with which every protected encoding begins
abbrev pub IsPlain : Option ℕ → Type 0
IsPlain None = ⊤
IsPlain (Some x) = nat_eq x 15 ≡ false

none_begins : (first second third : Option ℕ) → IsPlain first → nat_lt 0 (length_of_bytes first second third) ≡ false
none_begins None second third plain = refl
none_begins (Some x) second third plain = rw plain refl

module _ (n : ℕ) (most : n ≤ 100) (b : List ℕ) (are : segments b ≡ segments_with (script_pages n)) where
  -- no other page than the text's may be executed
  not_text : (page : ℕ) → (page ≡ 0xFFFFFFFF80000 → ⊥) → (touches text_segment page ≡ false)
  not_text page other = elim (cases_lt page 0xFFFFFFFF80000) [
    | inl below ↦ and_left _ _ (lt-leb 0xFFFFFFFF80000 page below)
    | inr above ↦ and_right _ _ (lt-leb page 0xFFFFFFFF80000 (elim (cases_lt 0xFFFFFFFF80000 page) [
      | inl past ↦ past
      | inr same ↦ absurd (other (omega arith))
    ]))
  ]

  only_text : (page : ℕ) → is_executable b page ≡ true → page ≡ 0xFFFFFFFF80000
  unfolding is_executable
  only_text page on = elim (cases_eq page 0xFFFFFFFF80000) [
    | inl same ↦ same
    | inr other ↦
        let off : list_any (λ s. touches s page && has_flag s pf_x) (segments_with (script_pages n)) ≡ false =
        or_from _ _ (and_left _ _ (not_text page other)) (or_from _ _ (and_right (touches (data_segment (script_pages n)) page) _ refl) refl) in
        absurd (false≢true (sym off
        ∙ sym (ap (λ (segs : List ProgramHeader). list_any (λ s. touches s page && has_flag s pf_x) segs) are)
        ∙ on))
  ]

  -- the bytes of the text, and those behind it on its page
  pub text_byte : (a : ℕ) → 0xFFFFFFFF80000000 ≤ a → a < 0xFFFFFFFF80000045
      → byte_of b a ≡ slice_index b (4096 + (a - 0xFFFFFFFF80000000))
  unfolding byte_of
  text_byte a low high =
      let here : loads text_segment a ≡ true = and_from _ _ (le-leb _ _ low) (lt-ltb _ _ high) in
      ap (λ (segs : List ProgramHeader). byte_from b a (find (λ s. loads s a) segs)) are
      ∙ ap (byte_from b a) (cond-true (loads text_segment a) (Some text_segment) _ here)

  blank_byte : (a : ℕ) → 0xFFFFFFFF80000045 ≤ a → a < 0xFFFFFFFF80001000 → byte_of b a ≡ 0
  unfolding byte_of
  blank_byte a low high =
      let past : loads text_segment a ≡ false = and_right _ _ (le-ltb _ _ low) in
      let before : loads (data_segment (script_pages n)) a ≡ false = and_left _ _ (lt-leb _ _ high) in
      ap (λ (segs : List ProgramHeader). byte_from b a (find (λ s. loads s a) segs)) are
      ∙ rw (past, before) refl

  module _ (plain : (k : ℕ) → k < 69 → nat_eq (slice_index b (4096 + k)) 15 ≡ false) where
    plain_byte : (a : ℕ) → a / 4096 ≡ 0xFFFFFFFF80000 → nat_eq (byte_of b a) 15 ≡ false
    plain_byte a page = elim (cases_lt a 0xFFFFFFFF80000045) [
      | inl within ↦ ap (λ (x : ℕ). nat_eq x 15) (text_byte a (omega arith) within) ∙ plain (a - 0xFFFFFFFF80000000) (omega arith)
      | inr past ↦ ap (λ (x : ℕ). nat_eq x 15) (blank_byte a past (omega arith))
    ]

    plain_code : (a : ℕ) → IsPlain (code_at b a)
    plain_code a = cond_both (is_executable b (a / 4096)) (Some (byte_of b a)) None IsPlain
        (λ on. plain_byte a (only_text (a / 4096) on)) (λ off. tt)

    pub nothing_protected : (a : ℕ) → is_protected_at (code_at b) a ≡ false
    nothing_protected a = none_begins (code_at b a) (code_at b (a + 1)) (code_at b (a + 2)) (plain_code a)

-- no byte of the text is 0F
text_plain : (n : ℕ) → agree_below (λ k. nat_eq (image_byte n (4096 + k)) 15) (λ _. false) 69 ≡ true
unfolding image_byte
text_plain n = refl

pub made_plain : (n k : ℕ) → k < 69 → nat_eq (slice_index (image_of_number n) (4096 + k)) 15 ≡ false
made_plain n k below =
    ap (λ (x : ℕ). nat_eq x 15) (made_byte n (4096 + k) (omega arith))
    ∙ agree_below_at (λ i. nat_eq (image_byte n (4096 + i)) 15) (λ _. false) 69 k (text_plain n) below
