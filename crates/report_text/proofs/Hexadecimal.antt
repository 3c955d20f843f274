-- Sixteen hexadecimal digits: by their places, as padded digits, and as the text of eight bytes.
use Rattle.std.proofs.Common.{◌≡◌, ℕ, zero, suc, ◌+◌, ◌-◌, ◌/◌, ◌%◌, ◌^◌, ◌<◌, Bool, true, false, inl, inr, List, [], ◌∷◌, ◌++◌, length, replicate, slice_index, sym, ap, ◌∙◌, refl, append_assoc, append-nil, arith}
use Rattle.std.specs.Prelude.{◌==◌, ◌&&◌, if◌then◌else◌}
use Rattle.std.specs.Fmt.{digit_glyph, digits, digits_onto, padded_integral, char_count}
use Rattle.std.specs.Int.{byte_at, bytes_high_first}
use Rattle.std.proofs.Math.Nat.{div-div-eq-div-mul, pow-suc, pow-succ', zero-div}
use Rattle.std.proofs.lemmas.Bool.{and_parts, cases_lt, eqb-false, eqb-true}
use Rattle.std.proofs.lemmas.Nat.{mul-pow, pow-add}
use Rattle.hex.specs.Hex.{encode_lower, encode_with, lower_digits}
use Rattle.report_text.specs.RunLines.{hex_16}

-- the k lowest digits of n, the highest of them first
by_places : ℕ → ℕ → List ℕ
by_places zero n = []
by_places (suc k) n = digit_glyph false (n / 16 ^ k % 16) ∷ by_places k n

-- the last of them apart
last_apart : (k n : ℕ) → by_places (suc k) n ≡ by_places k (n / 16) ++ (digit_glyph false (n % 16) ∷ [])
unfolding by_places
last_apart zero n = let e : n / 1 ≡ n = omega arith in rw e
last_apart (suc k) n =
    let above : n / 16 ^ suc k ≡ n / 16 / 16 ^ k =
    ap (λ m. n / m) (pow-succ' 16 k) ∙ sym (div-div-eq-div-mul n 16 (16 ^ k)) in
    ap (λ m. digit_glyph false (m % 16) ∷ by_places (suc k) n) above
    ∙ ap (λ l. digit_glyph false (n / 16 / 16 ^ k % 16) ∷ l) (last_apart k n)

-- no digit but zeros
all_zeros : (k : ℕ) → by_places k 0 ≡ replicate k 48
unfolding by_places
all_zeros zero = refl
all_zeros (suc k) = rw (zero-div (16 ^ k), all_zeros k)

-- so many zeros before some digits are the k digits by their places, and then what stood behind
record IsPadded (k n : ℕ) (shown behind : List ℕ) : Type 0 where
  zeros : ℕ
  count : zeros + length shown ≡ k + length behind
  same : replicate zeros 48 ++ shown ≡ by_places k n ++ behind

-- the digits of the front, with the last behind them
with_last : (k n : ℕ) (shown behind : List ℕ) → IsPadded k (n / 16) shown (digit_glyph false (n % 16) ∷ behind)
    → IsPadded (suc k) n shown behind
with_last k n shown behind p = record {
  zeros = p.zeros;
  count = omega (arith, p.count);
  same = p.same ∙ sym (ap (λ l. l ++ behind) (last_apart k n) ∙ append_assoc (by_places k (n / 16))
      (digit_glyph false (n % 16) ∷ []) behind);
}

-- a front of zeros
with_zeros : (k n : ℕ) (behind : List ℕ) → n ≡ 0 → IsPadded k n behind behind
with_zeros k n behind none = record {
  zeros = k;
  count = refl;
  same = ap (λ l. l ++ behind) (sym (ap (by_places k) none ∙ all_zeros k));
}

-- no digit is left, or one more
chosen : (k n : ℕ) (b : Bool) (behind later : List ℕ) → ((n / 16 == 0) ≡ b → b ≡ true → n / 16 ≡ 0)
    → (b ≡ false → IsPadded k (n / 16) later (digit_glyph false (n % 16) ∷ behind)) → (n / 16 == 0) ≡ b
    → IsPadded k (n / 16) (if b then digit_glyph false (n % 16) ∷ behind else later)
    (digit_glyph false (n % 16) ∷ behind)
chosen k n true behind later none more e = with_zeros k (n / 16) _ (none e refl)
chosen k n false behind later none more e = more refl

-- a number below 16 has one digit alone
one_alone : (n : ℕ) → n < 16 → (n / 16 == 0) ≡ false → ⊥
one_alone n small other = eqb-false (n / 16) 0 other (omega arith)

padded_by : (f k n : ℕ) (behind : List ℕ) → k < f → n < 16 ^ suc k
    → IsPadded (suc k) n (digits_onto f 16 false n behind) behind
padded_by zero k n behind short small = absurd (omega arith)
padded_by (suc f) zero n behind short small =
    with_last zero n _ behind (chosen zero n (n / 16 == 0) behind _ (λ e t. eqb-true (n / 16) 0 (e ∙ t))
    (λ e. absurd (one_alone n small e)) refl)
padded_by (suc f) (suc k) n behind short small =
    let front : n / 16 < 16 ^ suc k = omega (arith, small, pow-succ' 16 (suc k)) in
    with_last (suc k) n _ behind (chosen (suc k) n (n / 16 == 0) behind _ (λ e t. eqb-true (n / 16) 0 (e ∙ t))
    (λ e. padded_by f k (n / 16) (digit_glyph false (n % 16) ∷ behind) (omega arith) front) refl)

-- padded to sixteen
hex_16_by_places : (n : ℕ) → n < 2 ^ 64 → hex_16 n ≡ by_places 16 n
unfolding hex_16 padded_integral char_count digits
hex_16_by_places n small =
    let p = padded_by 64 15 n [] (omega arith) small in
    let shown = digits_onto 64 16 false n [] in
    let zeros : 16 - length shown - 0 - 0 ≡ p.zeros = omega (arith, p.count) in
    ap (λ k. replicate k 48 ++ (shown ++ [])) zeros
    ∙ ap (λ l. replicate p.zeros 48 ++ l) (append-nil shown) ∙ p.same ∙ append-nil (by_places 16 n)

-- the first n digits of the table, which compute
are_glyphs : ℕ → Bool
are_glyphs zero = true
are_glyphs (suc n) = slice_index lower_digits n == digit_glyph false n && are_glyphs n

glyph_below : (n d : ℕ) → are_glyphs n ≡ true → d < n → slice_index lower_digits d ≡ digit_glyph false d
unfolding are_glyphs
glyph_below zero d h below = absurd (omega arith)
glyph_below (suc n) d h below =
    let parts = and_parts (slice_index lower_digits n == digit_glyph false n) (are_glyphs n) h in
    elim (cases_lt d n) [
      | inl lower ↦ glyph_below n d parts.1 lower
      | inr top ↦
          let e : d ≡ n = omega arith in
          rw e (eqb-true (slice_index lower_digits n) (digit_glyph false n) parts.0)
    ]

digit_of : (d : ℕ) → d < 16 → slice_index lower_digits d ≡ digit_glyph false d
unfolding are_glyphs
digit_of d small = glyph_below 16 d refl small

powers : (k : ℕ) → 256 ^ k ≡ 16 ^ (k + k)
powers k = mul-pow 16 16 k ∙ sym (pow-add 16 k k)

byte_by_power : (k n : ℕ) → byte_at k n ≡ n / 256 ^ k % 256
byte_by_power zero n = let e : n / 1 ≡ n = omega arith in ap (λ m. m % 256) (sym e)
byte_by_power (suc k) n = refl

-- the k-th byte by the power that stands below its digits
byte_by_digits : (k n : ℕ) → byte_at k n ≡ n / 16 ^ (k + k) % 256
byte_by_digits k n = byte_by_power k n ∙ ap (λ m. n / m % 256) (powers k)

high_digit : (k n : ℕ) → slice_index lower_digits (byte_at k n / 16) ≡ digit_glyph false (n / 16 ^ suc (k + k) % 16)
high_digit k n =
    let q = n / 16 ^ (k + k) in
    let front : q / 16 ≡ n / 16 ^ suc (k + k) =
    div-div-eq-div-mul n (16 ^ (k + k)) 16 ∙ ap (λ m. n / m) (sym (pow-suc 16 (k + k))) in
    let digit : q % 256 / 16 ≡ q / 16 % 16 = omega arith in
    ap (λ b. slice_index lower_digits (b / 16)) (byte_by_digits k n)
    ∙ digit_of (q % 256 / 16) (omega arith)
    ∙ ap (digit_glyph false) (digit ∙ ap (λ m. m % 16) front)

low_digit : (k n : ℕ) → slice_index lower_digits (byte_at k n % 16) ≡ digit_glyph false (n / 16 ^ (k + k) % 16)
low_digit k n =
    let q = n / 16 ^ (k + k) in
    let digit : q % 256 % 16 ≡ q % 16 = omega arith in
    ap (λ b. slice_index lower_digits (b % 16)) (byte_by_digits k n)
    ∙ digit_of (q % 256 % 16) (omega arith)
    ∙ ap (digit_glyph false) digit

-- the text of k bytes
bytes_by_places : (k n : ℕ) → encode_lower (bytes_high_first k n) ≡ by_places (k + k) n
unfolding by_places encode_with
bytes_by_places zero n = refl
bytes_by_places (suc k) n =
    let high = digit_glyph false (n / 16 ^ suc (k + k) % 16) in
    let low = digit_glyph false (n / 16 ^ (k + k) % 16) in
    let two_more : suc (suc (k + k)) ≡ suc k + suc k = omega arith in
    ap (λ d. d ∷ slice_index lower_digits (byte_at k n % 16) ∷ encode_with lower_digits (bytes_high_first k n))
    (high_digit k n)
    ∙ ap (λ d. high ∷ d ∷ encode_with lower_digits (bytes_high_first k n)) (low_digit k n)
    ∙ ap (λ l. high ∷ low ∷ l) (bytes_by_places k n)
    ∙ ap (λ j. by_places j n) two_more

pub hex_16_of_bytes : (n : ℕ) → n < 2 ^ 64 → encode_lower (bytes_high_first 8 n) ≡ hex_16 n
hex_16_of_bytes n small = bytes_by_places 8 n ∙ sym (hex_16_by_places n small)
