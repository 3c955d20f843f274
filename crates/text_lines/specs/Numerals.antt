-- Numbers as words of a line spell them: digits alone, of either case, zeros in front allowed.
use Rattle.std.specs.Prelude.{ℕ, ◌^◌, Bool, not, ◌&&◌, ◌||◌, ◌==◌, nat_lt, nat_le, if◌then◌else◌, List, length, slice_index, Option, Some, None}
use Rattle.std.specs.Char.{is_digit}
use Rattle.std.specs.List.{list_all}
use Rattle.std.specs.Str.Parse.{digits_value}

-- 1 to `most` digits in the radix, and nothing else
abbrev pub are_digits : ℕ → ℕ → List ℕ → Bool
are_digits radix most word =
    nat_lt 0 (length word) && nat_le (length word) most && list_all (λ c. is_digit c radix) word

-- no zero leads other digits
abbrev pub is_least : List ℕ → Bool
is_least word = length word == 1 || not (slice_index word 0 == 48)

-- a number of at most 64 bits
abbrev pub in_64_bits : ℕ → Option ℕ
in_64_bits n = if nat_lt n (2 ^ 64) then Some n else None

-- the number that a word writes
abbrev pub numeral : ℕ → ℕ → List ℕ → Option ℕ
numeral radix most word = if are_digits radix most word then in_64_bits (digits_value radix word) else None
