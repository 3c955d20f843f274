-- A listing shows what the bytes of the code decode to, and a text that does is the listing.
use Rattle.std.proofs.Common.{◌≡◌, ℕ, zero, suc, ◌+◌, ◌-◌, ◌/◌, ◌<◌, ◌≤◌, ◌==◌, true, List, [], ◌∷◌, ◌++◌, length, Option, Some, None, find, inl, inr, refl, sym, ap, ◌∙◌, arith, lit<}
use Rattle.std.specs.Prelude.{IfSome, slice_index}
use Rattle.std.proofs.lemmas.Bool.{cases_Bool, cond_both, eqb-true}
use Rattle.std.proofs.lemmas.List.{nil_from_length}
use Rattle.std.proofs.lemmas.List.Elements.{All-cons, All-nil}
use Rattle.elf_image.specs.declared.program_header.ProgramHeader.{ProgramHeader}
use Rattle.elf_image.specs.Elf.{segments}
use Rattle.elf_image.specs.Home.{page_size}
use Rattle.elf_image.specs.Pages.{byte_from, byte_of, is_executable}
use Rattle.elf_image.specs.Segments.{loads}
use Rattle.byte_scanner.specs.ImageCode.{code_at}
use Rattle.x86_decode.specs.declared.instruction.Decoded.{Decoded}
use Rattle.x86_decode.specs.Decoding.{Decodes}
use Rattle.x86_decode.specs.Reader.{decoded_of}
use Rattle.x86_decode.specs.Spelling.{AreBytes}
use Rattle.x86_decode.specs.SpellingLaws.{DecodingLaws}
use Rattle.report_text.specs.CodeListingLaws.{IsListing}
use Rattle.report_text.specs.ListingLines.{byte_before, code_listing, code_run, found_line, found_size}
use Rattle.report_text.proofs.ListedCode.{none_listed, nothing_listed, some_listed, some_run}

-- the code of a file of bytes is made of bytes
module _ (b : List ℕ) (bytes : (i : ℕ) → slice_index b i < 256) where
  loaded_byte : (va : ℕ) (s : Option ProgramHeader) → byte_from b va s < 256
  loaded_byte va None = lit< tt
  loaded_byte va (Some s) = bytes (s.offset + (va - s.address))

  byte_small : (va : ℕ) → byte_of b va < 256
  unfolding byte_of
  byte_small va = loaded_byte va (find (λ s. loads s va) (segments b))

  byte_run : (byte : Option ℕ) (behind : List ℕ) → IfSome byte (λ n. n < 256) → AreBytes behind
      → AreBytes (byte_before byte behind)
  byte_run None behind small rest = All-nil (λ (n : ℕ). n < 256)
  byte_run (Some n) behind small rest = All-cons (λ (n : ℕ). n < 256) n behind small rest

  code_small : (at : ℕ) → IfSome (code_at b at) (λ n. n < 256)
  code_small at =
      cond_both (is_executable b (at / page_size)) (Some (byte_of b at)) None (λ (o : Option ℕ). IfSome o (λ n. n < 256))
      (λ on. byte_small at) (λ off. tt)

  run_bytes : (at most : ℕ) → AreBytes (code_run b at most)
  unfolding code_run
  run_bytes at zero = All-nil (λ (n : ℕ). n < 256)
  run_bytes at (suc most) = byte_run (code_at b at) (code_run b (at + 1) most) (code_small at) (run_bytes (at + 1) most)

  byte_few : (byte : Option ℕ) (behind : List ℕ) (most : ℕ) → length behind ≤ most
      → length (byte_before byte behind) ≤ suc most
  byte_few None behind most few = omega arith
  byte_few (Some n) behind most few = omega (arith, few)

  run_few : (at most : ℕ) → length (code_run b at most) ≤ most
  unfolding code_run
  run_few at zero = omega arith
  run_few at (suc most) = byte_few (code_at b at) (code_run b (at + 1) most) most (run_few (at + 1) most)

  no_run : (run : List ℕ) → (length run == 0) ≡ true → run ≡ []
  no_run run none = nil_from_length run (eqb-true (length run) 0 none)

  stands_some : (run : List ℕ) → (run ≡ [] → ⊥) → 0 < length run
  stands_some [] some = absurd (some refl)
  stands_some (byte ∷ run) some = omega arith

  module _ (laws : DecodingLaws) where
    run_decodes : (at : ℕ) → Decodes (code_run b at 15) (decoded_of (code_run b at 15))
    run_decodes at = laws.right (code_run b at 15) (run_bytes at 15) (run_few at 15)

    pub listing_right : (at count : ℕ) → IsListing b at count (code_listing b at count)
    listing_right at zero = nothing_listed b at
    listing_right at (suc count) = elim (cases_Bool (length (code_run b at 15) == 0)) [
      | inl none ↦
          let nothing : code_run b at 15 ≡ [] = no_run (code_run b at 15) none in
          inl (record { none = nothing; empty = none_listed b at (suc count) (ap length nothing) })
      | inr some ↦
          let found : Decoded = decoded_of (code_run b at 15) in
          let stands : 0 < length (code_run b at 15) = some_run (code_run b at 15) some in
          inr (record {
            some = λ nothing. let size = ap length nothing in absurd (omega (arith, size, stands));
            found = found;
            decodes = run_decodes at;
            rest = code_listing b (at + found_size found) count;
            split = some_listed b at count stands;
            goes_on = listing_right (at + found_size found) count;
          })
    ]

    pub listing_only : (at count : ℕ) (text : List ℕ) → IsListing b at count text → text ≡ code_listing b at count
    listing_only at zero text is = is ∙ sym (nothing_listed b at)
    listing_only at (suc count) text (inl ends) = ends.empty ∙ sym (none_listed b at (suc count) (ap length ends.none))
    listing_only at (suc count) text (inr begins) =
        let run : List ℕ = code_run b at 15 in
        let found_is : begins.found ≡ decoded_of run = laws.only run begins.found (run_bytes at 15) (run_few at 15) begins.decodes in
        let rest_is : begins.rest ≡ code_listing b (at + found_size begins.found) count =
        listing_only (at + found_size begins.found) count begins.rest begins.goes_on in
        begins.split ∙ ap (λ (rest : List ℕ). found_line at run begins.found ++ rest) rest_is
        ∙ ap (λ (found : Decoded). found_line at run found ++ code_listing b (at + found_size found) count) found_is
        ∙ sym (some_listed b at count (stands_some run begins.some))
