-- The digits of numbers and bytes: `0` to `9` and `a` to `f`.
use Rattle.std.proofs.Common.{◌≡◌, ◌⊎◌, ℕ, zero, suc, ◌/◌, ◌%◌, ◌<◌, ◌≤◌, Bool, true, false, List, [], ◌∷◌, All, inl, inr, refl, ap, subst, arith}
use Rattle.std.specs.Prelude.{◌==◌, ◌&&◌, ◌||◌, nat_le, not, slice_index}
use Rattle.std.specs.Char.{digit_value}
use Rattle.std.specs.Fmt.{digit_glyph}
use Rattle.std.specs.Str.Parse.{AllDigits}
use Rattle.std.proofs.lemmas.Bool.{and_parts, cases_lt}
use Rattle.std.proofs.lemmas.Bool.Decides.{nat_tests}
use Rattle.std.proofs.lemmas.List.Elements.{All-cons, All-head, All-nil, All-tail, All-weaker}
use Rattle.std.proofs.lemmas.List.Folds.{list_any_none}
use Rattle.hex.specs.Hex.{encode_lower, encode_with, lower_digits}
use Rattle.replay_core.specs.JournalLines.{is_lower}
use Rattle.nk_run.proofs.Splits.{IsWord}

-- the byte is a digit, in lower case
abbrev pub IsGlyph : ℕ → Type 0
IsGlyph c = ((48 ≤ c) × (c ≤ 57)) ⊎ ((97 ≤ c) × (c ≤ 102))

abbrev pub AreGlyphs : List ℕ → Type 0
AreGlyphs word = All IsGlyph word

not_line : (c : ℕ) → IsGlyph c → (c == 10) ≡ false
not_line c is = grind (arith, nat_tests)

not_space : (c : ℕ) → IsGlyph c → (c == 32) ≡ false
not_space c is = grind (arith, nat_tests)

not_upper : (c : ℕ) → IsGlyph c → (nat_le 65 c && nat_le c 90) ≡ false
not_upper c is = grind (arith, nat_tests)

pub glyphs_word : (word : List ℕ) → AreGlyphs word → IsWord word
glyphs_word word are = record {
  one_line = All-weaker IsGlyph (λ c. (c == 10) ≡ false) not_line word are;
  no_space = All-weaker IsGlyph (λ c. (c == 32) ≡ false) not_space word are;
}

pub glyphs_lower : (word : List ℕ) → AreGlyphs word → is_lower word ≡ true
glyphs_lower word are =
    ap not (list_any_none (λ c. nat_le 65 c && nat_le c 90) word
    (All-weaker IsGlyph (λ c. (nat_le 65 c && nat_le c 90) ≡ false) not_upper word are))

glyph_value : (c : ℕ) → IsGlyph c → digit_value c < 16
glyph_value c is = grind (arith, nat_tests)

pub glyphs_digits : (word : List ℕ) → AreGlyphs word → AllDigits 16 word
glyphs_digits [] are = tt
glyphs_digits (c ∷ later) are = (
  glyph_value c (All-head IsGlyph c later are),
  glyphs_digits later
      (All-tail IsGlyph c later are),
)

-- a digit below 16
pub glyph_is : (d : ℕ) → d < 16 → IsGlyph (digit_glyph false d)
glyph_is d small = grind (arith, nat_tests)

-- the digits of the table, one after the other
abbrev is_glyph : ℕ → Bool
is_glyph c = nat_le 48 c && nat_le c 57 || nat_le 97 c && nat_le c 102

are_glyphs : ℕ → Bool
are_glyphs zero = true
are_glyphs (suc n) = is_glyph (slice_index lower_digits n) && are_glyphs n

glyph_by : (c : ℕ) → is_glyph c ≡ true → IsGlyph c
glyph_by c is = grind (arith, nat_tests)

glyph_below : (n d : ℕ) → are_glyphs n ≡ true → d < n → IsGlyph (slice_index lower_digits d)
unfolding are_glyphs
glyph_below zero d h below = absurd (omega arith)
glyph_below (suc n) d h below =
    let parts = and_parts (is_glyph (slice_index lower_digits n)) (are_glyphs n) h in
    elim (cases_lt d n) [
      | inl lower ↦ glyph_below n d parts.1 lower
      | inr top ↦
          let e : n ≡ d = omega arith in
          subst (λ k. IsGlyph (slice_index lower_digits k)) e (glyph_by (slice_index lower_digits n) parts.0)
    ]

digit_of : (d : ℕ) → d < 16 → IsGlyph (slice_index lower_digits d)
unfolding are_glyphs
digit_of d small = glyph_below 16 d refl small

-- the text of bytes
pub bytes_glyphs : (bytes : List ℕ) → All (λ b. b < 256) bytes → AreGlyphs (encode_lower bytes)
unfolding encode_with
bytes_glyphs [] small = All-nil IsGlyph
bytes_glyphs (b ∷ later) small =
    let fits : b < 256 = All-head (λ b. b < 256) b later small in
    let high = slice_index lower_digits (b / 16) in
    let low = slice_index lower_digits (b % 16) in
    All-cons IsGlyph high (low ∷ encode_lower later) (digit_of (b / 16) (omega (arith, fits)))
    (All-cons IsGlyph low (encode_lower later) (digit_of (b % 16) (omega (arith, fits)))
    (bytes_glyphs later (All-tail (λ b. b < 256) b later small)))
