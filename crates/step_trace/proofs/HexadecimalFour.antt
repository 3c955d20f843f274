-- Sixteen hexadecimal digits are the text of eight bytes, by a law, and four that of two bytes: the last four of sixteen.
use Rattle.std.proofs.Common.{◌≡◌, ℕ, ◌/◌, ◌%◌, ◌^◌, ◌<◌, ◌++◌, drop, replicate, sym, ap, ◌∙◌, arith}
use Rattle.std.specs.Int.{bytes_high_first}
use Rattle.hex.specs.Hex.{encode_lower, encode_with}
use Rattle.report_text.specs.RunLines.{hex_16}
use Rattle.step_trace.specs.StepTexts.{hex_4}

-- of two bytes' number the six bytes before them are zeros
front_of_zeros : (n : ℕ) → n < 2 ^ 16
    → encode_lower (bytes_high_first 8 n) ≡ replicate 12 48 ++ encode_lower (bytes_high_first 2 n)
unfolding encode_with
front_of_zeros n small =
    let e7 : n / 256 ^ 7 % 256 ≡ 0 = omega arith in
    let e6 : n / 256 ^ 6 % 256 ≡ 0 = omega arith in
    let e5 : n / 256 ^ 5 % 256 ≡ 0 = omega arith in
    let e4 : n / 256 ^ 4 % 256 ≡ 0 = omega arith in
    let e3 : n / 256 ^ 3 % 256 ≡ 0 = omega arith in
    let e2 : n / 256 ^ 2 % 256 ≡ 0 = omega arith in
    rw (e7, e6, e5, e4, e3, e2)

-- what the law says
abbrev pub HasSixteen : Type 0
HasSixteen = (n : ℕ) → n < 2 ^ 64 → encode_lower (bytes_high_first 8 n) ≡ hex_16 n

pub hex_16_of_bytes : HasSixteen → (n : ℕ) → n < 2 ^ 64 → encode_lower (bytes_high_first 8 n) ≡ hex_16 n
hex_16_of_bytes law = law

-- so the text of two bytes is what stands behind twelve zeros
pub hex_4_of_bytes : HasSixteen → (n : ℕ) → n < 2 ^ 16 → encode_lower (bytes_high_first 2 n) ≡ hex_4 n
unfolding hex_4
hex_4_of_bytes law n small = ap (drop 12) (sym (front_of_zeros n small) ∙ law n (omega arith))
