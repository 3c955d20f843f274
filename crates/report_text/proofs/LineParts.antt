-- Lines in three parts, of which the middle one may be long.
use Rattle.std.proofs.Common.{◌≡◌, ℕ, zero, suc, ◌+◌, List, [], ◌∷◌, ◌++◌, length, map, codes, false, refl, sym, ap, ◌∙◌, append_assoc, arith}
use Rattle.std.specs.Prelude.{decimal, slice_index}
use Rattle.std.specs.Fmt.{digits}
use Rattle.std.specs.List.{range_with_len}
use Rattle.hex.specs.Hex.{encode_lower, encode_with}
use Rattle.nk_bits.specs.declared.call.Answer.{Answer}
use Rattle.nk_bits.specs.declared.call.CallWords.{CallWords}
use Rattle.nk_body.specs.CallRules.{Sourced}
use Rattle.region_book.specs.declared.regions.Region.{Region}
use Rattle.region_book.specs.RegionRecords.{RegionRecord, shown_region}
use Rattle.write_log.specs.declared.log.Noted.{Noted}
use Rattle.write_log.specs.LogRecords.{LogRecord, noted}
use Rattle.report_text.specs.ClosingSection.{lines_of}
use Rattle.report_text.specs.RunLines.{call_line, hex_16, hex_16_word, log_line, region_line, source_word}

-- a text and another one before the rest
behind : (x l m rest : List ℕ) → l ++ rest ≡ m → (x ++ l) ++ rest ≡ x ++ m
behind x l m rest e = append_assoc x l rest ∙ ap (λ l. x ++ l) e

six : (a b c d e f rest : List ℕ)
    → (a ++ (b ++ (c ++ (d ++ (e ++ f))))) ++ rest ≡ a ++ (b ++ (c ++ (d ++ (e ++ (f ++ rest)))))
six a b c d e f rest =
    behind a (b ++ (c ++ (d ++ (e ++ f)))) (b ++ (c ++ (d ++ (e ++ (f ++ rest))))) rest
    (behind b (c ++ (d ++ (e ++ f))) (c ++ (d ++ (e ++ (f ++ rest)))) rest
    (behind c (d ++ (e ++ f)) (d ++ (e ++ (f ++ rest))) rest
    (behind d (e ++ f) (e ++ (f ++ rest)) rest (append_assoc e f rest))))

-- the lines of a record and of a region up to their bytes, by what is shown of them, and of a call up to its source
abbrev record_head : ℕ → Noted → List ℕ
record_head number it =
    codes "l " ++ (decimal number ++ (codes " " ++ (decimal it.region
    ++ (codes " " ++ (decimal it.offset ++ codes " ")))))

abbrev region_head : Region → List ℕ
region_head r =
    codes "r " ++ (decimal r.id ++ (codes " " ++ (decimal r.policy
    ++ (codes " " ++ (hex_16 r.place ++ (codes " " ++ (decimal r.size ++ codes " ")))))))

abbrev call_head : CallWords → List ℕ
call_head call =
    codes "k " ++ (digits 16 false call.number ++ (codes " "
    ++ (digits 16 false call.a ++ (codes " " ++ (digits 16 false call.b ++ (codes " "
    ++ (digits 16 false call.c ++ (codes " " ++ (digits 16 false call.d ++ codes " ")))))))))

abbrev call_tail : Answer → List ℕ
call_tail answer = codes " " ++ (decimal answer.value ++ (codes " " ++ (hex_16_word answer.place ++ codes "\n")))

-- what stands before the bytes of a record, these, and the line's end
pub log_parts : (number : ℕ) (of : LogRecord) (it : Noted) (x : List ℕ) → it ≡ noted of → x ≡ record_head number it
    → log_line number of ≡ x ++ (encode_lower of.bytes ++ codes "\n")
unfolding log_line
log_parts number of it x same e =
    let rest = encode_lower of.bytes ++ codes "\n" in
    let whole : record_head number (noted of) ++ rest ≡ log_line number of =
    behind (codes "l ") (decimal number ++ (codes " " ++ (decimal of.region
    ++ (codes " " ++ (decimal of.offset ++ codes " "))))) _ rest
    (six (decimal number) (codes " ") (decimal of.region) (codes " ") (decimal of.offset) (codes " ") rest) in
    sym (ap (λ l. l ++ rest) (e ∙ ap (record_head number) same) ∙ whole)

-- of a region
pub region_parts : (r : RegionRecord) (it : Region) (bytes x : List ℕ) → it ≡ shown_region r → x ≡ region_head it
    → region_line r bytes ≡ x ++ (encode_lower bytes ++ codes "\n")
unfolding region_line
region_parts r it bytes x same e =
    let rest = encode_lower bytes ++ codes "\n" in
    let later = six (decimal r.policy) (codes " ") (hex_16 r.first) (codes " ") (decimal r.size) (codes " ") rest in
    let whole : region_head (shown_region r) ++ rest ≡ region_line r bytes =
    behind (codes "r ") _ _ rest (behind (decimal r.id) _ _ rest (behind (codes " ") _ _ rest later)) in
    sym (ap (λ l. l ++ rest) (e ∙ ap region_head same) ∙ whole)

-- what stands before the source of a call, this, and the rest
pub call_parts : (call : CallWords) (source : Sourced) (answer : Answer) (x z : List ℕ) → x ≡ call_head call
    → z ≡ call_tail answer
    → call_line call source answer ≡ x ++ (source_word source ++ z)
unfolding call_line
call_parts call source answer x z e f =
    let rest = source_word source ++ call_tail answer in
    let later = six (digits 16 false call.b) (codes " ") (digits 16 false call.c) (codes " ") (digits 16 false call.d)
    (codes " ") rest in
    let whole : call_head call ++ rest ≡ call_line call source answer =
    behind (codes "k ") _ _ rest (behind (digits 16 false call.number) _ _ rest (behind (codes " ") _ _ rest
    (behind (digits 16 false call.a) _ _ rest (behind (codes " ") _ _ rest later)))) in
    sym (ap (λ l. l ++ (source_word source ++ z)) e ∙ ap (λ l. call_head call ++ (source_word source ++ l)) f ∙ whole)

-- Bytes one by one, each as two digits.

-- of a range of numbers
pub range_taken : (byte : ℕ → ℕ) (n place : ℕ)
    → lines_of (λ o. encode_lower (byte o ∷ [])) n place ≡ encode_lower (map byte (range_with_len place n))
unfolding lines_of encode_with
range_taken byte zero place = refl
range_taken byte (suc n) place = ap (λ l. encode_lower (byte place ∷ []) ++ l) (range_taken byte n (place + 1))

-- of a list, by place
list_taken : (bytes : List ℕ) (before : ℕ → ℕ) (place : ℕ) → ((i : ℕ) → before (place + i) ≡ slice_index bytes i)
    → lines_of (λ o. encode_lower (before o ∷ [])) (length bytes) place ≡ encode_lower bytes
unfolding lines_of encode_with
list_taken [] before place same = refl
list_taken (b ∷ bytes) before place same =
    let here : before place ≡ b = ap before (omega arith) ∙ same 0 in
    ap (λ x. encode_lower (x ∷ []) ++ lines_of (λ o. encode_lower (before o ∷ [])) (length bytes) (place + 1)) here
    ∙ ap (λ l. encode_lower (b ∷ []) ++ l)
    (list_taken bytes before (place + 1) (λ i. let next : place + 1 + i ≡ place + suc i = omega arith in ap before next
    ∙ same (suc i)))

pub bytes_taken : (bytes : List ℕ)
    → lines_of (λ o. encode_lower (slice_index bytes o ∷ [])) (length bytes) 0 ≡ encode_lower bytes
bytes_taken bytes =
    list_taken bytes (slice_index bytes) 0 (λ i. let same : 0 + i ≡ i = omega arith in ap (slice_index bytes) same)
