-- Numbers of w bits, unsigned and signed.
use Rattle.std.specs.Prelude.{ℕ, ◌+◌, ◌-◌, ◌/◌, ◌%◌, ◌^◌, Bool, true, false, not, ◌==◌, if◌then◌else◌}

-- the low w bits of n
abbrev pub cut : ℕ → ℕ → ℕ
cut w n = n % 2 ^ w

-- whether bit k of n is 1
abbrev pub bit : ℕ → ℕ → Bool
bit n k = n / 2 ^ k % 2 == 1

-- the highest of w bits, which says that a signed number is negative
abbrev pub sign : ℕ → ℕ → Bool
sign w n = bit n (w - 1)

-- 1 for true and 0 for false
abbrev pub one_if : Bool → ℕ
one_if true = 1
one_if false = 0

-- exactly one of the two is true
abbrev pub differ : Bool → Bool → Bool
differ true b = not b
differ false b = b

-- zero minus n, in w bits
abbrev pub negated : ℕ → ℕ → ℕ
negated w n = (2 ^ w - n) % 2 ^ w

-- how far the signed number that n spells in w bits is from zero
abbrev pub size : ℕ → ℕ → ℕ
size w n = (if sign w n then 2 ^ w - n else n)

-- how far the signed number that n spells in w bits is above the least one, which is - 2 ^ (w - 1)
abbrev pub above_least : ℕ → ℕ → ℕ
above_least w n = (n + 2 ^ (w - 1)) % 2 ^ w

-- the w bits of the signed number with this sign and this size
abbrev pub spelled : ℕ → Bool → ℕ → ℕ
spelled w true n = negated w n
spelled w false n = n
