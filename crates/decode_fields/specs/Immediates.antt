-- Numbers in an instruction: least byte first, and extended by their sign.
use Rattle.std.specs.Prelude.{ℕ, ◌+◌, ◌-◌, ◌*◌, ◌/◌, ◌^◌, Option, Some, None, List, [], ◌∷◌, zero, suc, length, nat_lt, if◌then◌else◌}

-- the number of the first n bytes, least first; a byte past the end counts as 0
abbrev pub number_of : ℕ → List ℕ → ℕ
number_of zero bytes = 0
number_of (suc n) [] = 0
number_of (suc n) (byte ∷ bytes) = byte + 256 * number_of n bytes

-- a number of this width, extended to 64 bits by its sign
abbrev pub sign_extended : ℕ → ℕ → ℕ
sign_extended width number = if nat_lt number (2 ^ (width - 1)) then number else number + (2 ^ 64 - 2 ^ width)

-- the first bytes, as a number of this width with its sign
abbrev pub signed_number : ℕ → List ℕ → ℕ
signed_number width bytes = sign_extended width (number_of (width / 8) bytes)

-- the immediate of this width, unless the bytes end before its last
abbrev pub immediate_of : List ℕ → ℕ → Option ℕ
immediate_of bytes width = if nat_lt (length bytes) (width / 8) then None else Some (signed_number width bytes)
