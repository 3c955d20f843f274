-- The bytes of a source's word, read into a buffer of as many.
use Rattle.std.proofs.Common.{◌≡◌, ℕ, ◌/◌, ◌%◌, ◌==◌, Bool, true, false, List, length, ◌++◌, Option, None, Some, Result, Ok, Err, codes, refl, sym, ap, ◌∙◌, if◌then◌else◌, inl, inr, arith}
use Rattle.std.specs.Prelude.{◌&&◌, is_some, take}
use Rattle.std.specs.List.{list_all}
use Rattle.std.specs.Option.{option_map}
use Rattle.std.specs.Str.{bytes_eq}
use Rattle.std.proofs.lemmas.Bool.{and_from, and_left, and_right, cases_Bool, cond-true, cond-false, eq-eqb, ne_eqb}
use Rattle.std.proofs.lemmas.List.{take_at}
use Rattle.std.proofs.lemmas.List.Folds.{list_all_at}
use Rattle.std.proofs.lemmas.List.Sums.{list_all-from_AllPass}
use Rattle.std.proofs.lemmas.Slice.Eq.{bytes_eq-Decides}
use Rattle.hex.proofs.HexLemmas.{decode_of-err, decode_of-ok, decode_pairs-ok}
use Rattle.hex.specs.declared.error.FromHexError.{FromHexError}
use Rattle.hex.specs.declared.error.FromHexError.TheVariants.{OddLength, InvalidStringLength}
use Rattle.hex.specs.Hex.{decode_of, decode_pairs, decode_sized, is_hex_digit}
use Rattle.nk_body.specs.CallRules.{Bytes, Sourced, Unreadable}
use Rattle.replay_core.specs.HeardLines.{given_source, put_in, so_many, source_where}
use Rattle.replay_core.specs.JournalLines.{bytes_of_word, decoded, is_lower, source_of_word}

decoded_by : (odd fits : Bool) (pairs : Result (List ℕ) FromHexError) (count : ℕ)
    → ((bytes : List ℕ) → pairs ≡ Ok bytes → (length bytes == count) ≡ fits)
    → decoded (if odd then Err OddLength else if fits then pairs else Err InvalidStringLength)
    ≡ so_many count (decoded (if odd then Err OddLength else pairs))
decoded_by true fits pairs count is = refl
decoded_by false true (Ok bytes) count is = rw (is bytes refl) refl
decoded_by false false (Ok bytes) count is = rw (is bytes refl) refl
decoded_by false true (Err fault) count is = refl
decoded_by false false (Err fault) count is = refl

-- decoding into room for so many bytes gives those of a word that has so many
pub decoded_sized : (word : List ℕ) (count : ℕ)
    → decoded (decode_sized word count) ≡ so_many count (decoded (decode_of word))
decoded_sized word count =
    decoded_by (length word % 2 == 1) (length word / 2 == count) (decode_pairs 0 word) count (λ bytes is.
    let twice = (decode_pairs-ok 0 word bytes is).1 in
    let half : length bytes ≡ length word / 2 = omega arith in
    ap (λ n. n == count) half)

-- a word in lower case
pub read_lower : (done : Bool) (word front : List ℕ) (count : ℕ) → is_lower word ≡ true
    → put_in done front ≡ decoded (decode_sized word count) → put_in done front ≡ so_many count (bytes_of_word word)
read_lower done word front count lower put =
    put ∙ decoded_sized word count
    ∙ ap (so_many count) (sym (cond-true (is_lower word) (decoded (decode_of word)) None lower))

-- what is read of bytes that a word has, or hasn't
module _ (count : ℕ) (front back : List ℕ) (size : length front ≡ count) where
  abbrev given : Bool → Option Sourced
  given done = if done then Some (Bytes (take count (front ++ back))) else None

  of_so_many : (done fits : Bool) (bytes : List ℕ) → put_in done front ≡ (if fits then Some bytes else None)
      → given done ≡ (if fits then Some (Bytes bytes) else None)
  of_so_many true true bytes put =
      let same : front ≡ bytes = cc in
      ap (λ xs. Some (Bytes xs)) (take_at front back count size ∙ same)
  of_so_many true false bytes put = absurd (cc)
  of_so_many false true bytes put = absurd (cc)
  of_so_many false false bytes put = refl

  of_bytes : (done : Bool) (noted : Option (List ℕ)) → put_in done front ≡ so_many count noted
      → given done ≡ given_source (Some count) (option_map Bytes noted)
  of_bytes true None put = absurd (cc)
  of_bytes false None put = refl
  of_bytes done (Some bytes) put = of_so_many done (length bytes == count) bytes put

  -- the word isn't `!`
  pub taken_bytes : (done : Bool) (word : List ℕ) → false ≡ bytes_eq word (codes "!")
      → put_in done front ≡ so_many count (bytes_of_word word)
      → source_where done (front ++ back) (Some count) word ≡ given_source (Some count) (source_of_word word)
  taken_bytes done word other put =
      ap (λ b. if done then Some (if b then Unreadable else Bytes (take count (front ++ back))) else None) (sym other)
      ∙ elim (cases_Bool (bytes_eq word (codes "-"))) [
        | inl nothing ↦
            let is : word ≡ codes "-" = (bytes_eq-Decides word (codes "-")).0 nothing in
            of_bytes done None (put ∙ ap (λ w. so_many count (bytes_of_word w)) is)
            ∙ ap (given_source (Some count)) (sym (cond-true _ _ _ nothing))
        | inr some ↦
            of_bytes done (bytes_of_word word) put
            ∙ ap (given_source (Some count)) (sym (cond-false _ _ _ some ∙ cond-false _ _ _ (sym other)))
      ]

-- a word decodes where it has an even number of digits
module _ (word : List ℕ) where
  abbrev even : Bool
  even = length word % 2 == 0

  abbrev digits : Bool
  digits = list_all is_hex_digit word

  decodes_by : (r : Result (List ℕ) FromHexError) → decode_of word ≡ r → is_some (decoded r) ≡ (even && digits)
  decodes_by (Ok bytes) is =
      let ok = decode_of-ok word bytes is in
      sym (and_from even digits (eq-eqb (length word % 2) 0 ok.0) (list_all-from_AllPass is_hex_digit word ok.1))
  decodes_by (Err fault) is = elim (decode_of-err word fault is) [
    | inl odd ↦ sym (and_left even digits (ne_eqb (length word % 2) 0 (λ none. absurd (omega arith))))
    | inr bad ↦ sym (and_right even digits (list_all_at is_hex_digit word bad.0 0 bad.2 bad.3))
  ]

  pub decodes : is_some (decoded (decode_of word)) ≡ (length word % 2 == 0 && list_all is_hex_digit word)
  decodes = decodes_by (decode_of word) refl

-- bytes that are noted are noted as a source
pub notes_bytes : (o : Option (List ℕ)) → is_some (option_map Bytes o) ≡ is_some o
notes_bytes None = refl
notes_bytes (Some bytes) = refl
