-- What the lines of a run say to a replay.
use Rattle.std.proofs.Common.{◌≡◌, ◌≢◌, ℕ, zero, suc, ◌^◌, ◌<◌, ◌≤◌, Bool, true, false, List, [], ◌∷◌, ◌++◌, length, All, refl, sym, ap, subst, ◌∙◌, arith}
use Rattle.std.specs.Prelude.{Option, None, Some, IfSome, ◌==◌, ◌&&◌, nat_le, is_some, codes, if◌then◌else◌, slice_index}
use Rattle.std.specs.Fmt.{decimal, digits}
use Rattle.std.specs.Option.{option_map}
use Rattle.std.specs.Str.{bytes_eq}
use Rattle.std.specs.Str.Parse.{digits_value}
use Rattle.std.proofs.lemmas.Bool.{and_from, false_from_ne_true, le-leb, or_right}
use Rattle.std.proofs.lemmas.Int.Digits.{digits_value-lt}
use Rattle.std.proofs.lemmas.List.Elements.{All-cons, All-nil}
use Rattle.std.proofs.lemmas.Slice.Eq.{bytes_eq-Decides}
use Rattle.hex.specs.Hex.{encode_lower, encode_with, lower_digits}
use Rattle.hex.proofs.HexLemmas.{decode_of-encode_lower, length-encode_with}
use Rattle.nk_bits.specs.declared.call.Answer.{Answer}
use Rattle.nk_bits.specs.declared.call.CallWords.{CallWords}
use Rattle.nk_bits.specs.declared.call.Delivery.{Delivery}
use Rattle.nk_body.specs.CallRules.{Bytes, NotTaken, Sourced, Unreadable, bytes_read}
use Rattle.text_lines.specs.Numerals.{numeral}
use Rattle.text_lines.specs.TextLines.{lines, words}
use Rattle.report_text.specs.RunLines.{call_line, console_line, delivery_line, ending_line, hex_16, hex_16_word, hex_word, source_word}
use Rattle.replay_core.specs.JournalLines.{Calls, Ends, Heard, Noted, Passes, call_with, decoded, heard_of, hex_of_16, is_byte, is_code_word, is_text, is_vector, is_vector_word, least_decimal, least_hex, noted_with, passing, place_of_word, source_of_word}
use Rattle.nk_run.proofs.Glyphs.{AreGlyphs, bytes_glyphs, glyphs_digits, glyphs_lower, glyphs_word}
use Rattle.nk_run.proofs.Splits.{AreWords, IsWord, lines_told, spelled, text_word, told, words_spelled}
use Rattle.nk_run.proofs.SpelledNumbers.{decimal_back, glyphs_decimal, hex_16_back, hex_16_is, hex_back, hex_digits, numeral_is}

-- Words that aren't a text of another length.

other_text : (text word : List ℕ) → length text ≢ length word → is_text text word ≡ false
other_text text word apart =
    false_from_ne_true (bytes_eq word text) (λ same. apart (ap length (sym ((bytes_eq-Decides word text).0 same))))

-- what the line says that a text begins with
pub record IsHeard (line : List ℕ) (says : Option Heard) : Type 0 where
  pub front : List ℕ
  pub first : (rest : List ℕ) → lines (line ++ rest) ≡ front ∷ lines rest
  pub heard : heard_of (words front) ≡ says

-- a line that is put together of words
heard_line : (line word : List ℕ) (later : List (List ℕ)) (says : Option Heard) → line ≡ told word later
    → IsWord word → AreWords later → heard_of (word ∷ later) ≡ says → IsHeard line says
heard_line line word later says is verb are heard = record {
  front = spelled word later;
  first = λ rest. ap (λ l. lines (l ++ rest)) is ∙ lines_told word later rest verb are;
  heard = ap heard_of (words_spelled word later verb are) ∙ heard;
}

-- a word before others
before : {A B : Type 0} → A → B → A × B
before word later = (word, later)

-- The source of a call.

are_bytes : (bytes : List ℕ) → All (λ b. b < 256) bytes → (i : ℕ) → slice_index bytes i < 256
are_bytes [] small i = omega arith
are_bytes (b ∷ later) small zero = small 0 0 (omega arith)
are_bytes (b ∷ later) small (suc i) = are_bytes later (λ k d below. small (suc k) d (omega (arith, below))) i

even_length : (bytes word : List ℕ) → length word ≡ 1 → length word ≢ length (encode_lower bytes)
even_length bytes word one same = omega (arith, one, same, length-encode_with lower_digits bytes)

source_back : (source : Sourced) → All (λ b. b < 256) (bytes_read source)
    → source_of_word (source_word source) ≡ Some source
source_back NotTaken small = refl
source_back Unreadable small = refl
source_back (Bytes bytes) small =
    (λ i. if other_text (codes "-") (encode_lower bytes) (even_length bytes (codes "-") refl) i then Some NotTaken
    else if other_text (codes "!") (encode_lower bytes) (even_length bytes (codes "!") refl) i then Some Unreadable
    else option_map Bytes (if glyphs_lower (encode_lower bytes) (bytes_glyphs bytes small) i
    then decoded (decode_of-encode_lower bytes (are_bytes bytes small) i) else None))

source_is_word : (source : Sourced) → All (λ b. b < 256) (bytes_read source) → IsWord (source_word source)
source_is_word NotTaken small = text_word (codes "-") refl
source_is_word Unreadable small = text_word (codes "!") refl
source_is_word (Bytes bytes) small = glyphs_word (encode_lower bytes) (bytes_glyphs bytes small)

-- Numbers of sixteen digits, where there is one, and of as few as there are.

place_back : (place : Option ℕ) → IfSome place (λ p. p < 2 ^ 64) → place_of_word (hex_16_word place) ≡ Some place
place_back None small = refl
place_back (Some p) small =
    (λ i. if other_text (codes "-") (hex_16 p) (λ same. omega (arith, same, (hex_16_is p small).1)) i then Some None
    else option_map Some (hex_16_back p small i))

place_is_word : (place : Option ℕ) → IfSome place (λ p. p < 2 ^ 64) → IsWord (hex_16_word place)
place_is_word None small = text_word (codes "-") refl
place_is_word (Some p) small = glyphs_word (hex_16 p) (hex_16_is p small).0.glyphs

hex_is_word : (n : ℕ) → n < 2 ^ 64 → IsWord (digits 16 false n)
hex_is_word n small = glyphs_word (digits 16 false n) (hex_digits n small).glyphs

decimal_is_word : (n : ℕ) → n < 2 ^ 64 → IsWord (decimal n)
decimal_is_word n small = glyphs_word (decimal n) (glyphs_decimal n small)

-- A call.

-- words, answer and place have 64 bits, and what was read are bytes
pub record IsSmallCall (call : CallWords) (source : Sourced) (answer : Answer) : Type 0 where
  pub number : call.number < 2 ^ 64
  pub a : call.a < 2 ^ 64
  pub b : call.b < 2 ^ 64
  pub c : call.c < 2 ^ 64
  pub d : call.d < 2 ^ 64
  pub taken : All (λ b. b < 256) (bytes_read source)
  pub value : answer.value < 2 ^ 64
  pub place : IfSome answer.place (λ p. p < 2 ^ 64)

-- what the line of a call says
abbrev pub noted_of : CallWords → Sourced → Answer → Noted
noted_of call source answer = record { call = call; source = source; value = answer.value; place = answer.place }

call_words : CallWords → Sourced → Answer → List (List ℕ)
call_words call source answer =
    digits 16 false call.number ∷ digits 16 false call.a ∷ digits 16 false call.b ∷ digits 16 false call.c
    ∷ digits 16 false call.d ∷ source_word source ∷ decimal answer.value ∷ hex_16_word answer.place ∷ []

call_are_words : (call : CallWords) (source : Sourced) (answer : Answer) → IsSmallCall call source answer
    → AreWords (call_words call source answer)
unfolding call_words
call_are_words call source answer small =
    before (hex_is_word call.number small.number)
    (before (hex_is_word call.a small.a)
    (before (hex_is_word call.b small.b)
    (before (hex_is_word call.c small.c)
    (before (hex_is_word call.d small.d)
    (before (source_is_word source small.taken)
    (before (decimal_is_word answer.value small.value)
    (before (place_is_word answer.place small.place) tt)))))))

call_told : (call : CallWords) (source : Sourced) (answer : Answer)
    → call_line call source answer ≡ told (codes "k") (call_words call source answer)
unfolding call_words call_line
call_told call source answer = refl

call_back : (call : CallWords) (source : Sourced) (answer : Answer) → IsSmallCall call source answer
    → heard_of (codes "k" ∷ call_words call source answer) ≡ Some (Calls (noted_of call source answer))
unfolding call_words
call_back call source answer small =
    λ i. noted_with (call_with (hex_back call.number small.number i) (hex_back call.a small.a i)
    (hex_back call.b small.b i)
    (hex_back call.c small.c i) (hex_back call.d small.d i))
    (source_back source small.taken i) (decimal_back answer.value small.value i) (place_back answer.place small.place i)

pub call_heard : (call : CallWords) (source : Sourced) (answer : Answer) → IsSmallCall call source answer
    → IsHeard (call_line call source answer) (Some (Calls (noted_of call source answer)))
call_heard call source answer small =
    heard_line (call_line call source answer) (codes "k") (call_words call source answer) _
    (call_told call source answer)
    (text_word (codes "k") refl) (call_are_words call source answer small) (call_back call source answer small)

-- A byte of the console.

one_byte : (byte : ℕ) → byte < 256 → AreGlyphs (encode_lower (byte ∷ []))
one_byte byte small = bytes_glyphs (byte ∷ []) (All-cons (λ b. b < 256) byte [] small (All-nil (λ b. b < 256)))

-- two digits are a number
pair_is : (byte : ℕ) → byte < 256 → is_some (numeral 16 2 (encode_lower (byte ∷ []))) ≡ true
pair_is byte small =
    let word = encode_lower (byte ∷ []) in
    let two : length word ≡ 2 = length-encode_with lower_digits (byte ∷ []) in
    let are = glyphs_digits word (one_byte byte small) in
    let most : digits_value 16 word < 2 ^ 64 = omega (arith, digits_value-lt 16 word are, ap (λ n. 16 ^ n) two) in
    ap is_some (numeral_is 16 2 (digits_value 16 word) word (omega (arith, two)) (omega (arith, two)) are refl most)

byte_back : (byte : ℕ) → byte < 256 → is_byte (encode_lower (byte ∷ [])) ≡ true
unfolding encode_with
byte_back byte small =
    λ i. glyphs_lower (encode_lower (byte ∷ [])) (one_byte byte small) i && pair_is byte small i

pub console_heard : (byte : ℕ) → byte < 256 → IsHeard (console_line byte) (Some Passes)
unfolding console_line
console_heard byte small =
    heard_line (console_line byte) (codes "c") (encode_lower (byte ∷ []) ∷ []) (Some Passes) refl
    (text_word (codes "c") refl) (glyphs_word (encode_lower (byte ∷ [])) (one_byte byte small), tt)
    (ap passing (byte_back byte small))

-- A delivery.

-- a vector of the table, numbers of 64 bits, and CR2 for vector 14 alone
pub record IsSmallDelivery (it : Delivery) : Type 0 where
  pub vector : it.vector ≤ 47
  pub code : IfSome it.code (λ code. code < 2 ^ 64)
  pub rip : it.rip < 2 ^ 64
  pub cr2 : (c : ℕ) × (c < 2 ^ 64) × (it.cr2 ≡ (if it.vector == 14 then Some c else None))

code_back : (code : Option ℕ) → IfSome code (λ code. code < 2 ^ 64) → is_code_word (hex_word code) ≡ true
code_back None small = refl
code_back (Some code) small =
    or_right (is_text (codes "-") (digits 16 false code)) (is_some (least_hex (digits 16 false code)))
    (ap is_some (hex_back code small))

code_is_word : (code : Option ℕ) → IfSome code (λ code. code < 2 ^ 64) → IsWord (hex_word code)
code_is_word None small = text_word (codes "-") refl
code_is_word (Some code) small = hex_is_word code small

cr2_back : (vector c : ℕ) → vector ≤ 47 → c < 2 ^ 64 → is_vector vector
    (hex_16_word (if vector == 14 then Some c else None)) ≡ true
cr2_back vector c within small = and_from (nat_le vector 47) _ (le-leb vector 47 within) (by_vector (vector == 14))
  where
    by_vector : (b : Bool) → (if b then is_some (hex_of_16 (hex_16_word (if b then Some c else None)))
        else is_text (codes "-") (hex_16_word (if b then Some c else None))) ≡ true
    by_vector true = ap is_some (hex_16_back c small)
    by_vector false = refl

cr2_is_word : (b : Bool) (c : ℕ) → c < 2 ^ 64 → IsWord (hex_16_word (if b then Some c else None))
cr2_is_word true c small = place_is_word (Some c) small
cr2_is_word false c small = text_word (codes "-") refl

delivery_words : Delivery → List (List ℕ)
delivery_words it = decimal it.vector ∷ hex_word it.code ∷ hex_16 it.rip ∷ hex_16_word it.cr2 ∷ []

delivery_told : (it : Delivery) → delivery_line it ≡ told (codes "i") (delivery_words it)
unfolding delivery_words delivery_line
delivery_told it = refl

delivery_are_words : (it : Delivery) → IsSmallDelivery it → AreWords (delivery_words it)
unfolding delivery_words
delivery_are_words it small =
    before (decimal_is_word it.vector (omega (arith, small.vector)))
    (before (code_is_word it.code small.code)
    (before (glyphs_word (hex_16 it.rip) (hex_16_is it.rip small.rip).0.glyphs)
    (before (subst (λ o. IsWord (hex_16_word o)) (sym small.cr2.2)
    (cr2_is_word (it.vector == 14) small.cr2.0 small.cr2.1)) tt)))

delivery_back : (it : Delivery) → IsSmallDelivery it → heard_of (codes "i" ∷ delivery_words it) ≡ Some Passes
unfolding delivery_words
delivery_back it small =
    let fits : it.vector < 2 ^ 64 = omega (arith, small.vector) in
    let vector : is_vector_word (least_decimal (decimal it.vector)) (hex_16_word it.cr2) ≡ true =
    (λ i. is_vector_word (decimal_back it.vector fits i) (hex_16_word (small.cr2.2 i)))
    ∙ cr2_back it.vector small.cr2.0 small.vector small.cr2.1 in
    λ i. passing (vector i && (code_back it.code small.code i && is_some (hex_16_back it.rip small.rip i)))

pub delivery_heard : (it : Delivery) → IsSmallDelivery it → IsHeard (delivery_line it) (Some Passes)
delivery_heard it small =
    heard_line (delivery_line it) (codes "i") (delivery_words it) (Some Passes) (delivery_told it)
    (text_word (codes "i") refl) (delivery_are_words it small) (delivery_back it small)

-- The end.

pub ending_heard : (halted : Bool) → IsHeard (ending_line halted) (Some Ends)
unfolding ending_line
ending_heard true =
    heard_line (codes "end halted\n") (codes "end") (codes "halted" ∷ []) (Some Ends) refl
    (text_word (codes "end") refl) (text_word (codes "halted") refl, tt) refl
ending_heard false =
    heard_line (codes "end steps\n") (codes "end") (codes "steps" ∷ []) (Some Ends) refl
    (text_word (codes "end") refl) (text_word (codes "steps") refl, tt) refl
