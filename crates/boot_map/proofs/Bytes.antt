-- The bytes of a number, least significant first.
use Rattle.std.proofs.Common.{◌≡◌, ℕ, zero, suc, ◌+◌, ◌%◌, ◌<◌, get_or, refl, sym, ap, ◌∙◌, arith, w64}
use Rattle.std.specs.Int.{to_le_bytes, bytes_low_first, byte_at}
use Rattle.std.proofs.Math.Nat.{div-one}
use Rattle.boot_map.specs.Opening.{byte_of_number}

byte_at-number : (k v : ℕ) → byte_at k v ≡ byte_of_number v k
unfolding byte_of_number
byte_at-number zero v = ap (λ x. x % 256) (sym (div-one v))
byte_at-number (suc k) v = refl

low_first : (n i v k : ℕ) → k < n → get_or (bytes_low_first i n v) k 0 ≡ byte_of_number v (i + k)
low_first zero i v k small = absurd (omega (arith, small))
low_first (suc n) i v zero small = byte_at-number i v ∙ ap (byte_of_number v) (omega arith)
low_first (suc n) i v (suc k) small = low_first n (suc i) v k (omega arith) ∙ ap (byte_of_number v) (omega arith)

pub byte_of_le_bytes : (v k : ℕ) → k < 8 → get_or (to_le_bytes w64 v) k 0 ≡ byte_of_number v k
byte_of_le_bytes v k small = low_first 8 0 v k small ∙ ap (byte_of_number v) (omega arith)
