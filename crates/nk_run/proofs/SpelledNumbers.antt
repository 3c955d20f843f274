-- Numbers that are spelled as a run's text spells them are read back.
use Rattle.std.proofs.Common.{◌≡◌, ℕ, zero, suc, ◌+◌, ◌-◌, ◌/◌, ◌%◌, ◌^◌, ◌<◌, ◌≤◌, true, false, List, [], ◌∷◌, ◌++◌, length, replicate, get_or, refl, sym, ap, subst, ◌∙◌, append_assoc, append-nil, arith}
use Rattle.std.specs.Prelude.{None, Some, ◌==◌, ◌&&◌, ◌||◌, not, slice_index, if◌then◌else◌}
use Rattle.std.specs.Char.{digit_value, is_digit}
use Rattle.std.specs.Fmt.{char_count, decimal, digit_glyph, digits, digits_onto, padded_integral}
use Rattle.std.specs.List.{list_all}
use Rattle.std.specs.Str.Parse.{AllDigits, digits_value}
use Rattle.std.proofs.lemmas.Bool.{eq-eqb, cond_both, eqb-false, eqb-true, le-leb, lt-ltb, ne_eqb, not_from_false, or_right}
use Rattle.std.proofs.lemmas.Bool.Decides.{nat_tests}
use Rattle.std.proofs.lemmas.Fmt.{decimal_is_IsNumeral, digits_is_IsNumeral, first_decimal, length-decimal-le}
use Rattle.std.proofs.Math.Nat.{pow-suc}
use Rattle.std.proofs.lemmas.List.{get_or_append_left, length-append, length-replicate}
use Rattle.std.proofs.lemmas.List.Elements.{All-append, All-cons, All-nil, All-replicate}
use Rattle.std.proofs.lemmas.Str.Parse.{digit_from_value}
use Rattle.text_lines.specs.Numerals.{in_64_bits, is_least, numeral}
use Rattle.report_text.specs.RunLines.{hex_16}
use Rattle.replay_core.specs.JournalLines.{hex_of_16, least_decimal, least_hex}
use Rattle.nk_run.proofs.Glyphs.{AreGlyphs, IsGlyph, glyph_is, glyphs_lower}

-- a word of digits is the number that they write
all_digits : (radix : ℕ) (word : List ℕ) → AllDigits radix word → list_all (λ c. is_digit c radix) word ≡ true
all_digits radix [] are = refl
all_digits radix (c ∷ later) are = λ i. lt-ltb (digit_value c) radix are.0 i && all_digits radix later are.1 i

pub numeral_is : (radix most n : ℕ) (word : List ℕ) → 0 < length word → length word ≤ most → AllDigits radix word
    → digits_value radix word ≡ n → n < 2 ^ 64 → numeral radix most word ≡ Some n
numeral_is radix most n word some short are value small =
    (λ i. if lt-ltb 0 (length word) some i && le-leb (length word) most short i && all_digits radix word are i
    then in_64_bits (value i) else None)
    ∙ (λ i. if lt-ltb n (2 ^ 64) small i then Some n else None)

-- Decimal numbers.

decimal_glyphs : (word : List ℕ) → AllDigits 10 word → AreGlyphs word
decimal_glyphs [] are = All-nil IsGlyph
decimal_glyphs (c ∷ later) are =
    let range = digit_from_value c are.0 in All-cons IsGlyph c later (grind (arith, range)) (decimal_glyphs later are.1)

pub glyphs_decimal : (n : ℕ) → n < 2 ^ 64 → AreGlyphs (decimal n)
glyphs_decimal n small = decimal_glyphs (decimal n) (decimal_is_IsNumeral n small).0.1

-- a first digit of a decimal number isn't `0` but where it is alone
least_by : (n : ℕ) (word : List ℕ) → (n ≡ 0 → length word ≡ 1) → (0 < n → 48 < get_or word 0 0) → is_least word ≡ true
least_by zero word one other = λ i. eq-eqb (length word) 1 (one refl) i || not (slice_index word 0 == 48)
least_by (suc n) word one other =
    or_right (length word == 1) (not (slice_index word 0 == 48))
    (not_from_false (slice_index word 0 == 48) (ne_eqb (slice_index word 0) 48
    (λ same. omega (arith, same, other (omega arith)))))

pub decimal_back : (n : ℕ) → n < 2 ^ 64 → least_decimal (decimal n) ≡ Some n
unfolding digits
decimal_back n small =
    let is = decimal_is_IsNumeral n small in
    let least : is_least (decimal n) ≡ true = least_by n (decimal n) (λ none. ap (λ m. length (decimal m)) none ∙ refl)
    (λ some. first_decimal n some small) in
    ap (λ b. if b then numeral 10 20 (decimal n) else None) least
    ∙ numeral_is 10 20 n (decimal n) is.0.0 (length-decimal-le 20 n (omega arith)
    (omega (arith, small)) small) is.0.1 is.1 small

-- Hexadecimal numbers.

-- the digits of a number below 16 ^ most, before what stands behind them
record IsShown (most n : ℕ) (behind whole : List ℕ) : Type 0 where
  shown : List ℕ
  whole_is : whole ≡ shown ++ behind
  glyphs : AreGlyphs shown
  some : 0 < length shown
  short : length shown ≤ most
  one : n ≡ 0 → length shown ≡ 1
  first : 0 < n → 48 < get_or shown 0 0

glyph_above : (d : ℕ) → 0 < d → 48 < digit_glyph false d
glyph_above d some = grind (arith, nat_tests)

one_digit : (most n : ℕ) (behind : List ℕ) → 0 < most → n / 16 ≡ 0
    → IsShown most n behind (digit_glyph false (n % 16) ∷ behind)
one_digit most n behind some none = record {
  shown = digit_glyph false (n % 16) ∷ [];
  whole_is = refl;
  glyphs = All-cons IsGlyph (digit_glyph false (n % 16)) [] (glyph_is (n % 16) (omega arith)) (All-nil IsGlyph);
  some = omega arith;
  short = omega arith;
  one = λ is. refl;
  first = λ above. glyph_above (n % 16) (omega (arith, none, above));
}

more_digits : (most n : ℕ) (behind whole : List ℕ) → 0 < n / 16
    → IsShown most (n / 16) (digit_glyph false (n % 16) ∷ behind) whole
    → IsShown (suc most) n behind whole
more_digits most n behind whole above it =
    let last = digit_glyph false (n % 16) in
    let count : length (it.shown ++ (last ∷ [])) ≡ length it.shown + 1 = length-append it.shown (last ∷ []) in
    record {
      shown = it.shown ++ (last ∷ []);
      whole_is = it.whole_is ∙ sym (append_assoc it.shown (last ∷ []) behind);
      glyphs = All-append IsGlyph it.shown (last ∷ []) it.glyphs
          (All-cons IsGlyph last [] (glyph_is (n % 16) (omega arith)) (All-nil IsGlyph));
      some = omega (arith, count);
      short = omega (arith, count, it.short);
      one = λ none. absurd (omega (arith, above, none));
      first = λ some. omega (arith, get_or_append_left it.shown (last ∷ []) 0 0 it.some, it.first above);
    }

shown_by : (fuel most n : ℕ) (behind : List ℕ) → most ≤ fuel → 0 < most → n < 16 ^ most
    → IsShown most n behind (digits_onto fuel 16 false n behind)
shown_by zero most n behind enough some small = absurd (omega arith)
shown_by (suc fuel) zero n behind enough some small = absurd (omega arith)
shown_by (suc fuel) (suc most) n behind enough some small =
    let fewer : n / 16 < 16 ^ most = omega (arith, small, pow-suc 16 most) in
    cond_both (n / 16 == 0) (digit_glyph false (n % 16) ∷ behind)
    (digits_onto fuel 16 false (n / 16) (digit_glyph false (n % 16) ∷ behind))
    (IsShown (suc most) n behind)
    (λ e. one_digit (suc most) n behind (omega arith) (eqb-true (n / 16) 0 e))
    (λ e.
    let above : 0 < n / 16 = omega (arith, eqb-false (n / 16) 0 e) in
    more_digits most n behind _ above (shown_by fuel most (n / 16) (digit_glyph false (n % 16) ∷ behind)
    (omega (arith, enough)) (left_over most (n / 16) above fewer) fewer))
  where
    left_over : (most m : ℕ) → 0 < m → m < 16 ^ most → 0 < most
    left_over zero m above fewer = absurd (omega (arith, above, fewer))
    left_over (suc most) m above fewer = omega arith

-- a word of sixteen digits at most
pub record IsHex (n : ℕ) (word : List ℕ) : Type 0 where
  pub glyphs : AreGlyphs word
  pub some : 0 < length word
  pub short : length word ≤ 16
  pub digits_are : AllDigits 16 word
  pub value : digits_value 16 word ≡ n

-- the digits alone, and those with zeros before them
shown_alone : (n : ℕ) → n < 2 ^ 64 → IsShown 16 n [] (digits 16 false n)
unfolding digits
shown_alone n small = shown_by 64 16 n [] (omega arith) (omega arith) (omega (arith, small))

pub hex_digits : (n : ℕ) → n < 2 ^ 64 → IsHex n (digits 16 false n)
hex_digits n small =
    let it = shown_alone n small in
    let is = digits_is_IsNumeral 16 false (omega arith) (omega arith) n (omega (arith, small)) in
    let same : digits 16 false n ≡ it.shown = it.whole_is ∙ append-nil it.shown in
    record {
      glyphs = subst AreGlyphs (sym same) it.glyphs;
      some = is.0.0;
      short = omega (arith, ap length same, it.short);
      digits_are = is.0.1;
      value = is.1;
    }

hex_least : (n : ℕ) → n < 2 ^ 64 → is_least (digits 16 false n) ≡ true
hex_least n small =
    let it = shown_alone n small in
    let same : digits 16 false n ≡ it.shown = it.whole_is ∙ append-nil it.shown in
    ap is_least same ∙ least_by n it.shown it.one it.first

hex_numeral : (n : ℕ) (word : List ℕ) → n < 2 ^ 64 → IsHex n word → numeral 16 16 word ≡ Some n
hex_numeral n word small it = numeral_is 16 16 n word it.some it.short it.digits_are it.value small

pub hex_back : (n : ℕ) → n < 2 ^ 64 → least_hex (digits 16 false n) ≡ Some n
hex_back n small =
    let it = hex_digits n small in
    (λ i. if glyphs_lower (digits 16 false n) it.glyphs i && hex_least n small i then numeral 16 16 (digits 16 false n)
    else None)
    ∙ hex_numeral n (digits 16 false n) small it

-- zeros before digits
zeros_digits : (zeros : ℕ) (word : List ℕ) → AllDigits 16 word → AllDigits 16 (replicate zeros 48 ++ word)
zeros_digits zero word are = are
zeros_digits (suc zeros) word are = (omega arith, zeros_digits zeros word are)

zeros_value : (zeros : ℕ) (word : List ℕ) → digits_value 16 (replicate zeros 48 ++ word) ≡ digits_value 16 word
zeros_value zero word = refl
zeros_value (suc zeros) word = zeros_value zeros word

padded : (n : ℕ) → n < 2 ^ 64 → hex_16 n ≡ replicate (16 - length (digits 16 false n)) 48 ++ digits 16 false n
unfolding hex_16 padded_integral char_count
padded n small =
    let shown = digits 16 false n in
    let zeros : 16 - length shown - 0 - 0 ≡ 16 - length shown = omega arith in
    ap (λ k. replicate k 48 ++ (shown ++ [])) zeros ∙ ap (λ l. replicate (16 - length shown) 48 ++ l) (append-nil shown)

pub hex_16_is : (n : ℕ) → n < 2 ^ 64 → IsHex n (hex_16 n) × (length (hex_16 n) ≡ 16)
hex_16_is n small =
    let it = hex_digits n small in
    let shown = digits 16 false n in
    let zeros = 16 - length shown in
    let same : hex_16 n ≡ replicate zeros 48 ++ shown = padded n small in
    let count : length (hex_16 n) ≡ 16 = omega (
      arith,
      ap length same,
      length-append
          (replicate zeros 48) shown,
      length-replicate {A = ℕ} zeros 48,
      it.short,
    ) in
    let zero_is : IsGlyph 48 = grind arith in (
      record {
        glyphs = subst AreGlyphs (sym same) (All-append IsGlyph (replicate zeros 48) shown
            (All-replicate IsGlyph zeros 48 zero_is) it.glyphs);
        some = omega (arith, count);
        short = omega (arith, count);
        digits_are = subst (AllDigits 16) (sym same) (zeros_digits zeros shown it.digits_are);
        value = ap (digits_value 16) same ∙ zeros_value zeros shown ∙ it.value;
      },
      count,
    )

pub hex_16_back : (n : ℕ) → n < 2 ^ 64 → hex_of_16 (hex_16 n) ≡ Some n
hex_16_back n small =
    let it = hex_16_is n small in
    (λ i. if glyphs_lower (hex_16 n) it.0.glyphs i && eq-eqb (length (hex_16 n)) 16 it.1 i then numeral 16 16 (hex_16 n)
    else None)
    ∙ hex_numeral n (hex_16 n) small it.0
