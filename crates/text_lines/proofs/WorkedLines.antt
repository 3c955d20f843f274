-- Lines, words and numbers at worked values.
use Rattle.std.proofs.Common.{◌≡◌, ◌-◌, ◌^◌, [], ◌∷◌, None, Some, codes, refl}
use Rattle.text_lines.specs.Numerals.{numeral}
use Rattle.text_lines.specs.TextLines.{lines, words}

-- LF ends a line, and nothing else does; the last line may lack it
lines_worked :
    (lines [] ≡ []) ×
    (lines (codes "\n") ≡ [] ∷ []) ×
    (lines (codes "ab") ≡ codes "ab" ∷ []) ×
    (lines (codes "ab\n") ≡ codes "ab" ∷ []) ×
    (lines (codes "ab\n\nc") ≡ codes "ab" ∷ [] ∷ codes "c" ∷ []) ×
    (lines (97 ∷ 13 ∷ 10 ∷ 98 ∷ []) ≡ (97 ∷ 13 ∷ []) ∷ (98 ∷ []) ∷ [])
lines_worked = (refl, refl, refl, refl, refl, refl)

-- a space ends a word, and nothing else does; two of them stand around an empty one
words_worked :
    (words [] ≡ [] ∷ []) ×
    (words (codes "ab") ≡ codes "ab" ∷ []) ×
    (words (codes "ab c") ≡ codes "ab" ∷ codes "c" ∷ []) ×
    (words (codes "ab  c") ≡ codes "ab" ∷ [] ∷ codes "c" ∷ []) ×
    (words (codes " ab ") ≡ [] ∷ codes "ab" ∷ [] ∷ []) ×
    (words (97 ∷ 9 ∷ 98 ∷ []) ≡ (97 ∷ 9 ∷ 98 ∷ []) ∷ [])
words_worked = (refl, refl, refl, refl, refl, refl)

-- digits alone, as many as may be, of either case; a number has at most 64 bits
numerals_worked :
    (numeral 10 10 (codes "0") ≡ Some 0) ×
    (numeral 10 10 (codes "0000000042") ≡ Some 42) ×
    (numeral 10 10 (codes "00000000042") ≡ None) ×
    (numeral 10 10 [] ≡ None) ×
    (numeral 10 10 (codes "4a") ≡ None) ×
    (numeral 10 10 (codes "-4") ≡ None) ×
    (numeral 10 20 (codes "18446744073709551615") ≡ Some (2 ^ 64 - 1)) ×
    (numeral 10 20 (codes "18446744073709551616") ≡ None) ×
    (numeral 16 16 (codes "aBcDeF09") ≡ Some 0xABCDEF09) ×
    (numeral 16 16 (codes "ffffffffffffffff") ≡ Some (2 ^ 64 - 1)) ×
    (numeral 16 16 (codes "fg") ≡ None)
numerals_worked = (refl, refl, refl, refl, refl, refl, refl, refl, refl, refl, refl)
