-- One bit of two numbers at once.
use Rattle.std.proofs.Common.{◌≡◌, ◌==◌, ◌&&◌, ◌<◌, ℕ, ◌+◌, ◌%◌, arith, ap, ◌∙◌, bit_and}
use Rattle.std.proofs.lemmas.Nat.Bits.{bit_at-lt, bit_at_and, bit_at_xor}
use Rattle.std.specs.Int.{bit_at}
use Rattle.std.specs.Int.Bits.{bit_xor}
use Rattle.std.specs.Prelude.{min}
use Rattle.x86_alu.specs.SignedNumbers.{bit, differ}

odd_sum : (m n : ℕ) → m < 2 → n < 2 → ((m + n) % 2 == 1) ≡ differ (m == 1) (n == 1)
odd_sum m n = grind arith

both_ones : (m n : ℕ) → m < 2 → n < 2 → (min m n == 1) ≡ ((m == 1) && (n == 1))
both_ones m n = grind arith

pub xor_bit : (a b k : ℕ) → bit (bit_xor a b) k ≡ differ (bit a k) (bit b k)
xor_bit a b k = ap (λ n. n == 1) (bit_at_xor a b k) ∙ odd_sum (bit_at a k) (bit_at b k) (bit_at-lt a k) (bit_at-lt b k)

pub and_bit : (a b k : ℕ) → bit (bit_and a b) k ≡ (bit a k && bit b k)
and_bit a b k = ap (λ n. n == 1) (bit_at_and a b k) ∙ both_ones (bit_at a k) (bit_at b k) (bit_at-lt a k) (bit_at-lt b k)
