-- The lines of a journal by their words, spelled as a run's text spells them: those of calls, those of the console and
-- of deliveries, and the line that ends it. Digits are in lower case, and no zero leads a number but in words of a fixed
-- length.
use Rattle.std.specs.Prelude.{ℕ, Bool, false, not, ◌&&◌, ◌||◌, ◌==◌, nat_le, is_some, if◌then◌else◌, List, [], ◌∷◌, length, codes, Option, None, Some, Result, Ok, Err}
use Rattle.std.specs.List.{list_any}
use Rattle.std.specs.Option.{option_map}
use Rattle.std.specs.Str.{bytes_eq}
use Rattle.hex.specs.Hex.{decode_of}
use Rattle.hex.specs.declared.error.FromHexError.{FromHexError}
use Rattle.nk_bits.specs.declared.call.CallWords.{CallWords}
use Rattle.nk_body.specs.CallRules.{Bytes, NotTaken, Sourced, Unreadable}
use Rattle.text_lines.specs.Numerals.{is_least, numeral}

-- what a line says of a call: its number and arguments, what it took, its answer, and the place of a region
pub record Noted : Type 0 where
  pub call : CallWords
  pub source : Sourced
  pub value : ℕ
  pub place : Option ℕ

-- a line that has no effect; a call; the end, behind which nothing is looked at
pub data Heard : Type 0 where
  Passes : Heard
  Calls : Noted → Heard
  Ends : Heard

-- no letter from `A` to `Z` stands in the word
abbrev pub is_lower : List ℕ → Bool
is_lower word = not (list_any (λ c. nat_le 65 c && nat_le c 90) word)

-- the word is this text
abbrev pub is_text : List ℕ → List ℕ → Bool
is_text text word = bytes_eq word text

-- a hexadecimal number without leading zeros; one of sixteen digits; a decimal number without leading zeros
abbrev pub least_hex : List ℕ → Option ℕ
least_hex word = if is_lower word && is_least word then numeral 16 16 word else None

abbrev pub hex_of_16 : List ℕ → Option ℕ
hex_of_16 word = if is_lower word && length word == 16 then numeral 16 16 word else None

abbrev pub least_decimal : List ℕ → Option ℕ
least_decimal word = if is_least word then numeral 10 20 word else None

-- the bytes of a word of two digits each
abbrev pub decoded : Result (List ℕ) FromHexError → Option (List ℕ)
decoded (Ok bytes) = Some bytes
decoded (Err fault) = None

abbrev pub bytes_of_word : List ℕ → Option (List ℕ)
bytes_of_word word = if is_lower word then decoded (decode_of word) else None

-- what a call took: `-` for nothing, `!` for a source that couldn't be read, else its bytes
abbrev pub source_of_word : List ℕ → Option Sourced
source_of_word word =
    if is_text (codes "-") word then Some NotTaken
    else if is_text (codes "!") word then Some Unreadable
    else option_map Bytes (bytes_of_word word)

-- the place of a region, `-` for none
abbrev pub place_of_word : List ℕ → Option (Option ℕ)
place_of_word word = if is_text (codes "-") word then Some None else option_map Some (hex_of_16 word)

-- `c HH`: a byte in two digits
abbrev pub is_byte : List ℕ → Bool
is_byte word = is_lower word && (length word == 2 && is_some (numeral 16 2 word))

-- `i V E RIP CR2`: a vector from 0 to 47; an error code or `-`; an address; and CR2 for vector 14, else `-`
abbrev pub is_code_word : List ℕ → Bool
is_code_word word = is_text (codes "-") word || is_some (least_hex word)

abbrev pub is_vector : ℕ → List ℕ → Bool
is_vector vector cr2 = nat_le vector 47 && (if vector == 14 then is_some (hex_of_16 cr2) else is_text (codes "-") cr2)

abbrev pub is_vector_word : Option ℕ → List ℕ → Bool
is_vector_word None cr2 = false
is_vector_word (Some vector) cr2 = is_vector vector cr2

abbrev pub is_delivery : List ℕ → List ℕ → List ℕ → List ℕ → Bool
is_delivery vector code rip cr2 =
    is_vector_word (least_decimal vector) cr2 && (is_code_word code && is_some (hex_of_16 rip))

-- `k N A B C D`: five numbers
abbrev pub call_with : Option ℕ → Option ℕ → Option ℕ → Option ℕ → Option ℕ → Option CallWords
call_with (Some number) (Some a) (Some b) (Some c) (Some d) =
    Some (record { number = number; a = a; b = b; c = c; d = d })
call_with _ _ _ _ _ = None

-- and `SRC ANS PLACE` behind them
abbrev pub noted_with : Option CallWords → Option Sourced → Option ℕ → Option (Option ℕ) → Option Heard
noted_with (Some call) (Some source) (Some value) (Some place) =
    Some (Calls (record { call = call; source = source; value = value; place = place }))
noted_with _ _ _ _ = None

abbrev pub passing : Bool → Option Heard
passing is_so = if is_so then Some Passes else None

abbrev pub ending : Bool → Option Heard
ending is_so = if is_so then Some Ends else None

-- what a line says, by its words; None where it is out of form
abbrev pub heard_of : List (List ℕ) → Option Heard
heard_of (verb ∷ word ∷ []) =
    if is_text (codes "c") verb then passing (is_byte word)
    else ending (is_text (codes "end") verb && (is_text (codes "halted") word || is_text (codes "steps") word))
heard_of (verb ∷ vector ∷ code ∷ rip ∷ cr2 ∷ []) = passing (is_text (codes "i") verb && is_delivery vector code rip cr2)
heard_of (verb ∷ number ∷ a ∷ b ∷ c ∷ d ∷ source ∷ value ∷ place ∷ []) =
    if is_text (codes "k") verb
    then noted_with (call_with (least_hex number) (least_hex a) (least_hex b) (least_hex c) (least_hex d))
    (source_of_word source) (least_decimal value) (place_of_word place)
    else None
heard_of _ = None
