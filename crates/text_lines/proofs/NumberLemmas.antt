-- The number that digits write, a digit at a time, while it has 64 bits.
use Rattle.std.proofs.Common.{◌≡◌, ℕ, ◌+◌, ◌*◌, ◌^◌, ◌<◌, ◌≤◌, List, length, take, get_or, Some, None, sym, ap, ◌∙◌, subst, arith}
use Rattle.std.proofs.lemmas.Grind.{common_steps}
use Rattle.std.proofs.lemmas.List.{take_all}
use Rattle.std.proofs.lemmas.Int.Digits.{digits_value_more}
use Rattle.std.proofs.lemmas.Str.Parse.{digits_value-take-le}
use Rattle.std.specs.Char.{digit_value}
use Rattle.std.specs.Str.Parse.{digits_value}
use Rattle.text_lines.specs.Numerals.{in_64_bits}

-- a number that fits is itself
same_number : (n m : ℕ) → Some m ≡ in_64_bits n → m ≡ n
same_number n m here = grind (arith, common_steps)

pub fits : (n m : ℕ) → Some m ≡ in_64_bits n → m < 2 ^ 64
fits n m here = grind (arith, common_steps)

past_64_bits : (n : ℕ) → None ≡ in_64_bits n → 2 ^ 64 ≤ n
past_64_bits n past = grind (arith, common_steps)

none_past : (n : ℕ) → 2 ^ 64 ≤ n → None ≡ in_64_bits n
none_past n past = grind (arith, common_steps)

some_below : (n : ℕ) → n < 2 ^ 64 → Some n ≡ in_64_bits n
some_below n fits = grind (arith, common_steps)

-- the number of one more digit
pub one_more : (radix : ℕ) (word : List ℕ) (i value more : ℕ) → i < length word
    → value ≡ digits_value radix (take i word) → Some more ≡ in_64_bits (value * radix + digit_value (get_or word i 0))
    → more ≡ digits_value radix (take (i + 1) word)
one_more radix word i value more inside so_far fits =
    same_number _ more fits
    ∙ ap (λ n. n * radix + digit_value (get_or word i 0)) so_far
    ∙ sym (digits_value_more radix word i inside)

-- once it is too large, so is the whole
pub too_large : (radix : ℕ) (word : List ℕ) (i value : ℕ) → i < length word → 1 ≤ radix
    → value ≡ digits_value radix (take i word) → None ≡ in_64_bits (value * radix + digit_value (get_or word i 0))
    → None ≡ in_64_bits (digits_value radix word)
too_large radix word i value inside above so_far past =
    let here : 2 ^ 64 ≤ digits_value radix (take (i + 1) word) =
    rw (digits_value_more radix word i inside, ← so_far) (past_64_bits _ past) in
    none_past _ (omega (arith, digits_value-take-le radix word (i + 1) above))

-- behind the last digit, it is the word's
pub whole : (radix : ℕ) (word : List ℕ) (i value : ℕ) → length word ≤ i → value < 2 ^ 64
    → value ≡ digits_value radix (take i word) → Some value ≡ in_64_bits (digits_value radix word)
whole radix word i value behind fits so_far =
    let all : value ≡ digits_value radix word = so_far ∙ ap (digits_value radix) (take_all i word behind) in
    subst (λ n. Some value ≡ in_64_bits n) all (some_below value fits)
