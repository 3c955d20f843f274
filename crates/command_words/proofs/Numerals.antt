-- What std reads as a number, at a word that is a numeral.
use Rattle.std.proofs.Common.{◌≡◌, ℕ, ◌-◌, ◌^◌, ◌<◌, ◌≤◌, Bool, true, cond, inl, inr, List, [], ◌∷◌, drop, Some, None, Result, Ok, Err, ◌==◌, refl, sym, ap, ◌∙◌, subst, arith}
use Rattle.std.proofs.lemmas.Bool.{cases_Bool, cases_lt, eqb-true, ltb-true, le-leb, and_parts}
use Rattle.std.proofs.lemmas.Grind.{common_steps}
use Rattle.std.specs.Char.{is_digit, digit_value}
use Rattle.std.specs.List.{list_all}
use Rattle.std.specs.Result.{OkIff, result_ok}
use Rattle.std.specs.Str.Parse.{AllDigits, IsNumeral, ParsesUnsigned, digits_value, without_leading_plus}
use Rattle.command_words.specs.NumberWords.{bounded, is_numeral}

-- each byte passes the test, so it is a digit
digits_from : (radix : ℕ) (ds : List ℕ) → list_all (λ c. is_digit c radix) ds ≡ true → AllDigits radix ds
digits_from radix [] h = tt
digits_from radix (c ∷ cs) h = let parts = and_parts _ _ h in (ltb-true _ _ parts.0, digits_from radix cs parts.1)

-- a numeral begins with no plus
no_plus : (radix : ℕ) (word : List ℕ) → radix ≤ 36 → is_numeral radix word ≡ true → without_leading_plus word ≡ word
no_plus radix [] small h = refl
no_plus radix (c ∷ cs) small h =
    let digit : digit_value c < radix = ltb-true _ _ (and_parts _ _ (and_parts _ _ h).1).0 in
    elim (cases_Bool (c == 43)) [
      | inl plus ↦ let P : ℕ → Type 0 = λ x. digit_value x < radix in absurd (omega (arith, subst P (eqb-true c 43 plus) digit))
      | inr other ↦ let f = λ (x : Bool). drop (cond x 1 0) (c ∷ cs) in ap f other
    ]

numeral_from : (radix : ℕ) (word : List ℕ) → is_numeral radix word ≡ true → IsNumeral radix word
numeral_from radix word h = let parts = and_parts _ _ h in (ltb-true _ _ parts.0, digits_from radix word parts.1)

inside : (low high v : ℕ) → low ≤ v → v ≤ high → bounded low high v ≡ Some v
inside low high v above below = rw (le-leb low v above, le-leb v high below) refl

outside : (low high v : ℕ) → high < v → bounded low high v ≡ None
outside low high v past = grind (arith, common_steps)

-- the same reading, of the word itself
parsed_itself : {E : Type 0} (radix : ℕ) (word : List ℕ) (r : Result ℕ E) → is_numeral radix word ≡ true
    → OkIff r (IsNumeral radix word × (digits_value radix word < 2 ^ 64)) (digits_value radix word) → result_ok r ≡ bounded 0 (2 ^ 64 - 1) (digits_value radix word)
parsed_itself radix word (Ok n) numeral reads =
    ap (λ (x : ℕ). Some x) reads.1 ∙ sym (inside 0 (2 ^ 64 - 1) (digits_value radix word) (omega arith) (omega (arith, reads.0.1)))
parsed_itself radix word (Err e) numeral reads =
    elim (cases_lt (digits_value radix word) (2 ^ 64)) [
      | inl fits ↦ absurd (reads (numeral_from radix word numeral, fits))
      | inr past ↦ sym (outside 0 (2 ^ 64 - 1) (digits_value radix word) (omega arith))
    ]

-- what the reading gives
pub parsed : {E : Type 0} (radix : ℕ) (word : List ℕ) (r : Result ℕ E) → radix ≤ 36 → is_numeral radix word ≡ true → ParsesUnsigned 64 radix word r
    → result_ok r ≡ bounded 0 (2 ^ 64 - 1) (digits_value radix word)
parsed {E = E} radix word r small numeral reads =
    let P : List ℕ → Type 0 = λ w. OkIff r (IsNumeral radix w × (digits_value radix w < 2 ^ 64)) (digits_value radix w) in
    parsed_itself radix word r numeral (subst P (no_plus radix word small numeral) reads)
