-- Files in memory that are made of bytes: one after another, and by their names.
use Rattle.std.proofs.Common.{◌≡◌, ℕ, ◌+◌, ◌<◌, ◌≤◌, List, length, get_or, Option, Some, None, IfSome, inl, inr, refl, sym, ap, subst, ◌∙◌, arith}
use Rattle.std.specs.Prelude.{String, Vec, option_and_then, option_map, slice_get}
use Rattle.std.specs.String.{string_bytes}
use Rattle.std.specs.declared.alloc.Global.{Global}
use Rattle.std.proofs.lemmas.Bool.{cases_eq}
use Rattle.std.proofs.lemmas.List.{get_or-map, length-map}
use Rattle.std.proofs.lemmas.Option.{slice_get-get_or}
use Rattle.nk_host.specs.Files.{AreFilesOfBytes, IsFileOfBytes}
use Rattle.nk_host.specs.ShelfInMemory.{NamedFile, file_of, name_place, named_files}
use Rattle.nk_host.proofs.Places.{no_file, place_below}

-- the first so many files are made of bytes
abbrev pub AreBytesBelow : ℕ → List NamedFile → Type 0
AreBytesBelow n files = (i : ℕ) → i < n → IsFileOfBytes (get_or files i no_file).bytes

abbrev as_named : String Global × Vec ℕ Global → NamedFile
as_named file = record { name = string_bytes file.0; bytes = file.1.items }

pub none_below : (files : List NamedFile) → AreBytesBelow 0 files
none_below files i below = absurd (omega (arith, below))

pub one_more : (held : List (String Global × Vec ℕ Global)) (n : ℕ) (file : String Global × Vec ℕ Global)
    → n < length held → file ≡ get_or held n file → IsFileOfBytes file.1.items
    → AreBytesBelow n (named_files held) → AreBytesBelow (n + 1) (named_files held)
one_more held n file within is bytes so_far i below = elim (cases_eq i n) [
  | inl here ↦
      let named : get_or (named_files held) n no_file ≡ as_named (get_or held n file) =
      get_or-map as_named held n file no_file within in
      let same : file.1.items ≡ (get_or (named_files held) i no_file).bytes =
      ap (λ (it : String Global × Vec ℕ Global). it.1.items) is ∙ ap (λ (it : NamedFile). it.bytes) (sym named)
      ∙ ap (λ (j : ℕ). (get_or (named_files held) j no_file).bytes) (sym here) in
      subst IsFileOfBytes same bytes
  | inr before ↦ so_far i (omega (arith, below, before))
]

pub all_of_bytes : (held : List (String Global × Vec ℕ Global)) (n : ℕ) → length held ≤ n
    → AreBytesBelow n (named_files held) → AreFilesOfBytes (file_of (named_files held))
all_of_bytes held n all each name = at (name_place (named_files held) name) refl
  where
    at : (place : Option ℕ) → name_place (named_files held) name ≡ place
        → IfSome (option_and_then (λ i. option_map (λ (file : NamedFile). file.bytes) (slice_get (named_files held) i)) place) IsFileOfBytes
    at None is = tt
    at (Some i) is =
        let within : i < length (named_files held) = place_below (named_files held) name i is in
        let P : Option NamedFile → Type 0 = λ o. IfSome (option_map (λ (file : NamedFile). file.bytes) o) IsFileOfBytes in
        subst P (sym (slice_get-get_or (named_files held) i no_file within))
        (let size : length (named_files held) ≡ length held = length-map held as_named in
        each i (omega (arith, within, size, all)))
