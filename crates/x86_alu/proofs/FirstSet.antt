-- The counts of zeros below and above find the first set bit.
use Rattle.std.proofs.Common.{◌≡◌, ◌<◌, ◌≤◌, ℕ, ◌-◌, ◌/◌, ◌^◌, ◌==◌, true, false, suc, arith, ap, one-add}
use Rattle.std.proofs.lemmas.Nat.{leading_top, pow_pos, shr_below, le-div}
use Rattle.std.proofs.lemmas.Nat.Bits.{bit_at-trailing_zeros, bit_at_above}
use Rattle.std.specs.Int.{bit_at, trailing_zeros, leading_zeros, w64}
use Rattle.x86_alu.specs.Scans.{IsFirstSet}

pub least : (a : ℕ) → 0 < a → a < 2 ^ 64 → IsFirstSet true a (trailing_zeros w64 a)
least a some fits =
    let found = bit_at-trailing_zeros w64 a some fits in
    record {
      set = ap (λ n. n == 1) found.1;
      passed = λ j below. ap (λ n. n == 1) (found.2 j below);
    }

-- a number from 2 ^ j on, and below twice that, has bit j
pub bit_at_top : (a j : ℕ) → 2 ^ j ≤ a → a < 2 ^ (suc j) → bit_at a j ≡ 1
bit_at_top a j low high =
    let above : 1 ≤ a / 2 ^ j = le-div 1 a (2 ^ j) (pow_pos j) (omega arith) in
    let below : a / 2 ^ j < 2 = shr_below a 1 j (rw (one-add j) high) in
    grind arith

pub greatest : (a : ℕ) → 0 < a → a < 2 ^ 64 → IsFirstSet false a (63 - leading_zeros w64 a)
greatest a some fits =
    let top = leading_top 64 a some fits in
    let j = top.0 in
    let place : 63 - leading_zeros w64 a ≡ j = omega (arith, top.1) in
    rw place (record {
      set = ap (λ n. n == 1) (bit_at_top a j top.2 top.3);
      passed = λ i above. ap (λ n. n == 1) (bit_at_above a (suc j) i top.3 above);
    })
