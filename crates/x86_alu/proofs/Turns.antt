-- The low bits of a number moved above the others.
use Rattle.std.proofs.Common.{◌≡◌, ◌<◌, ◌≤◌, ℕ, ◌+◌, ◌-◌, ◌*◌, ◌/◌, ◌%◌, ◌^◌, bit_and, arith, ap, sym, ◌∙◌}
use Rattle.std.proofs.lemmas.Nat.{one_shl, pow-add, and_mask, mul-add-lt, mod_below, pow_pos, shr_below, shl_whole}
use Rattle.std.proofs.Math.Pow.{pow_mono}
use Rattle.x86_alu.specs.Shifts.{low_above}

-- the sum has no more bits than the number had
pub exchanged-Below : (w a k : ℕ) → a < 2 ^ w → k ≤ w → low_above w a k < 2 ^ w
exchanged-Below w a k fits within =
    let rejoined : w - k + k ≡ w = omega arith in
    let power : 2 ^ (w - k) * 2 ^ k ≡ 2 ^ w = sym (pow-add 2 (w - k) k) ∙ ap (λ j. 2 ^ j) rejoined in
    let high : a / 2 ^ k < 2 ^ (w - k) = shr_below a (w - k) k (rw rejoined fits) in
    let low : a % 2 ^ k < 2 ^ k = mod_below a (2 ^ k) (pow_pos k) in
    rw power at (mul-add-lt (a % 2 ^ k) (2 ^ (w - k)) (a / 2 ^ k) (2 ^ k) low high)

-- what the mask and the shifts compute
pub exchanged-by_shifts : (w a k : ℕ) → k ≤ w → w ≤ 64 →
    bit_and a (1 * 2 ^ k % 2 ^ 128 - 1) * 2 ^ (w - k) % 2 ^ 128 + a / 2 ^ k ≡ low_above w a k
exchanged-by_shifts w a k within narrow =
    let low : a % 2 ^ k < 2 ^ k = mod_below a (2 ^ k) (pow_pos k) in
    rw (one_shl k 128 (omega arith), and_mask a k, shl_whole (a % 2 ^ k) k (w - k) 128 low (omega arith))

-- so they fit 64 bits
pub shifts-Below : (w a k : ℕ) → a < 2 ^ w → k ≤ w → w ≤ 64 →
    bit_and a (1 * 2 ^ k % 2 ^ 128 - 1) * 2 ^ (w - k) % 2 ^ 128 + a / 2 ^ k < 2 ^ 64
shifts-Below w a k fits within narrow =
    let below = exchanged-Below w a k fits within in
    let wide : 2 ^ w ≤ 2 ^ 64 = pow_mono narrow in
    rw (exchanged-by_shifts w a k within narrow) (omega arith)
