-- Numbers as words of the command line spell them.
use Rattle.std.specs.Prelude.{ℕ, Bool, ◌&&◌, nat_lt, nat_le, if◌then◌else◌, List, length, Option, Some, None}
use Rattle.std.specs.Char.{is_digit}
use Rattle.std.specs.List.{list_all}
use Rattle.std.specs.Str.Parse.{digits_value}
use Rattle.nk_bits.specs.Paging.{is_canonical}
use Rattle.text_lines.specs.Numerals.{is_least}

-- one digit in the radix or more, and nothing else
abbrev pub is_numeral : ℕ → List ℕ → Bool
is_numeral radix word = nat_lt 0 (length word) && list_all (λ c. is_digit c radix) word

-- a number, where it lies within bounds
abbrev pub bounded : ℕ → ℕ → ℕ → Option ℕ
bounded low high n = if nat_le low n && nat_le n high then Some n else None

-- a decimal number without sign and without leading zeros, within bounds
abbrev pub decimal_within : ℕ → ℕ → List ℕ → Option ℕ
decimal_within low high word =
    if is_numeral 10 word && is_least word then bounded low high (digits_value 10 word) else None

-- a canonical linear address
abbrev pub canonical_only : ℕ → Option ℕ
canonical_only va = if is_canonical va then Some va else None

-- a canonical linear address of 1 to 16 hexadecimal digits of either case
abbrev pub address_word : List ℕ → Option ℕ
address_word word =
    if is_numeral 16 word && nat_le (length word) 16 then canonical_only (digits_value 16 word) else None
