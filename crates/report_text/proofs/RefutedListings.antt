-- Texts that list no code as it stands, each named by the sentence that it guards.
use Rattle.std.proofs.Common.{◌≡◌, ◌≢◌, ℕ, ◌+◌, suc, List, [], ◌++◌, inl, inr, sym, ◌∙◌}
use Rattle.x86_decode.specs.declared.instruction.Decoded.{Decoded}
use Rattle.x86_decode.specs.Decoding.{Decodes}
use Rattle.report_text.specs.CodeListingLaws.{IsListing}
use Rattle.report_text.specs.ListingLines.{code_run, found_line, found_size}

module _ (b : List ℕ) (at count : ℕ) (text : List ℕ) where
  -- nothing is listed in no line
  a_line_of_none : text ≢ [] → IsListing b at 0 text → ⊥
  a_line_of_none some it = some it

  -- nor where no code stands
  a_line_without_code : code_run b at 15 ≡ [] → text ≢ [] → IsListing b at (suc count) text → ⊥
  a_line_without_code none some (inl ends) = some ends.empty
  a_line_without_code none some (inr begins) = begins.some none

  -- where code stands, the listing isn't empty of lines
  no_line_of_code : code_run b at 15 ≢ [] → text ≡ []
      → ((found : Decoded) (rest : List ℕ) → [] ≢ found_line at (code_run b at 15) found ++ rest)
      → IsListing b at (suc count) text → ⊥
  no_line_of_code stands empty full (inl ends) = stands ends.none
  no_line_of_code stands empty full (inr begins) = full begins.found begins.rest (sym empty ∙ begins.split)

  -- nor does its first line show what the bytes don't decode to
  another_line : code_run b at 15 ≢ []
      → ((found : Decoded) (rest : List ℕ) → Decodes (code_run b at 15) found → text ≢ found_line at (code_run b at 15) found ++ rest)
      → IsListing b at (suc count) text → ⊥
  another_line stands other (inl ends) = stands ends.none
  another_line stands other (inr begins) = other begins.found begins.rest begins.decodes begins.split

  -- and the next one doesn't begin anywhere but behind it
  another_next : code_run b at 15 ≢ []
      → ((found : Decoded) (rest : List ℕ) → text ≡ found_line at (code_run b at 15) found ++ rest
      → IsListing b (at + found_size found) count rest → ⊥) → IsListing b at (suc count) text → ⊥
  another_next stands other (inl ends) = stands ends.none
  another_next stands other (inr begins) = other begins.found begins.rest begins.split begins.goes_on
