-- What is proved of the listing of code: each of its lines shows what the relation of bytes and instructions allows.
use Rattle.std.specs.Prelude.{◌≡◌, ◌⊎◌, ℕ, ◌+◌, ◌<◌, zero, suc, List, [], ◌++◌, slice_index}
use Rattle.x86_decode.specs.declared.instruction.Decoded.{Decoded}
use Rattle.x86_decode.specs.Decoding.{Decodes}
use Rattle.report_text.specs.ListingLines.{code_listing, code_run, found_line, found_size}

-- no code stands at the address, and the text is empty
pub record EndsListing (b : List ℕ) (at : ℕ) (text : List ℕ) : Type 0 where
  pub none : code_run b at 15 ≡ []
  pub empty : text ≡ []

-- the code at the address decodes to something, of which the first line of the text is; and the rest of the text is what
-- belongs to the address behind that
pub record BeginsListing (b : List ℕ) (at : ℕ) (text : List ℕ) (Goes : ℕ → List ℕ → Type 0) : Type 0 where
  pub some : code_run b at 15 ≡ [] → ⊥
  pub found : Decoded
  pub decodes : Decodes (code_run b at 15) found
  pub rest : List ℕ
  pub split : text ≡ found_line at (code_run b at 15) found ++ rest
  pub goes_on : Goes (at + found_size found) rest

-- the text lists the code from the address on, in so many lines at most
abbrev pub IsListing : List ℕ → ℕ → ℕ → List ℕ → Type 0
IsListing b at zero text = text ≡ []
IsListing b at (suc count) text =
    EndsListing b at text ⊎ BeginsListing b at text (λ next rest. IsListing b next count rest)

-- the listing of a file of bytes is such a text, and no other text is
pub record CodeListingLaws : Type 0 where
  pub right : (b : List ℕ) (at count : ℕ) → ((i : ℕ) → slice_index b i < 256)
      → IsListing b at count (code_listing b at count)
  pub only : (b : List ℕ) (at count : ℕ) (text : List ℕ) → ((i : ℕ) → slice_index b i < 256)
      → IsListing b at count text → text ≡ code_listing b at count
