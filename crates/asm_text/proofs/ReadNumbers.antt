-- Numbers are read back from their digits.
use Rattle.std.proofs.Common.{◌≡◌, ℕ, ◌%◌, ◌^◌, ◌<◌, ◌≤◌, true, false, List, [], ◌∷◌, length, refl, ap, ◌∙◌, arith}
use Rattle.std.specs.Prelude.{None, Some, ◌&&◌, if◌then◌else◌, codes, decimal, unwrap_or}
use Rattle.std.specs.Char.{digit_value, is_digit}
use Rattle.std.specs.List.{list_all}
use Rattle.std.specs.Str.{bytes_eq}
use Rattle.std.specs.Str.Parse.{AllDigits, digits_value}
use Rattle.std.proofs.lemmas.Bool.{le-leb, lt-ltb, ne_eqb}
use Rattle.std.proofs.lemmas.Fmt.{decimal_is_IsNumeral, digits_is_IsNumeral, length-decimal-le}
use Rattle.text_lines.specs.Numerals.{in_64_bits, numeral}
use Rattle.asm_text.specs.InstructionTexts.{hex_digits}
use Rattle.asm_text.specs.ParsedTexts.{byte_said, number_said}
use Rattle.asm_text.proofs.HexDigits.{hex_short}
use Rattle.asm_text.proofs.WordMarks.{lacks, lacks_digits}

-- a word of digits is the number that they write
all_digits : (radix : ℕ) (word : List ℕ) → AllDigits radix word → list_all (λ c. is_digit c radix) word ≡ true
all_digits radix [] are = refl
all_digits radix (c ∷ later) are = λ i. lt-ltb (digit_value c) radix are.0 i && all_digits radix later are.1 i

numeral_is : (radix most n : ℕ) (word : List ℕ) → 0 < length word → length word ≤ most → AllDigits radix word
    → digits_value radix word ≡ n → n < 2 ^ 64 → numeral radix most word ≡ Some n
numeral_is radix most n word some short are value small =
    (λ i. if lt-ltb 0 (length word) some i && le-leb (length word) most short i && all_digits radix word are i
    then in_64_bits (value i) else None)
    ∙ (λ i. if lt-ltb n (2 ^ 64) small i then Some n else None)

-- a number of 8 bits
pub byte_back : (n : ℕ) → n < 2 ^ 8 → byte_said (decimal n) ≡ n
byte_back n small =
    let wide : n < 2 ^ 64 = omega (arith, small) in
    let is = decimal_is_IsNumeral n wide in
    let word : numeral 10 3 (decimal n) ≡ Some n =
    numeral_is 10 3 n (decimal n) is.0.0 (length-decimal-le 3 n (omega arith) (omega (arith, small)) wide) is.0.1 is.1
    wide in
    let cut : n % 256 ≡ n = omega (arith, small) in
    ap (λ said. unwrap_or said 0 % 256) word ∙ cut

pub byte_digits : (n : ℕ) → n < 2 ^ 8 → AllDigits 10 (decimal n)
byte_digits n small = (decimal_is_IsNumeral n (omega (arith, small))).0.1

pub byte_lacks : (mark n : ℕ) → n < 2 ^ 8 → digit_value mark ≡ 36 → lacks mark (decimal n) ≡ true
byte_lacks mark n small none = lacks_digits 10 mark (decimal n) (omega arith) none (byte_digits n small)

-- a number of 64 bits
pub hex_back : (n : ℕ) → n < 2 ^ 64 → number_said (hex_digits n) ≡ n
hex_back n small =
    let is = digits_is_IsNumeral 16 false (omega arith) (omega arith) n (omega (arith, small)) in
    ap (λ said. unwrap_or said 0) (numeral_is 16 16 n (hex_digits n) is.0.0 (hex_short n small) is.0.1 is.1 small)

pub hex_lacks : (mark n : ℕ) → n < 2 ^ 64 → digit_value mark ≡ 36 → lacks mark (hex_digits n) ≡ true
hex_lacks mark n small none =
    let is = digits_is_IsNumeral 16 false (omega arith) (omega arith) n (omega (arith, small)) in
    lacks_digits 16 mark (hex_digits n) (omega arith) none is.0.1

-- `r` and digits aren't `rip`
pub digits_no_rip : (word : List ℕ) → AllDigits 10 word → bytes_eq (114 ∷ word) (codes "rip") ≡ false
digits_no_rip [] are = refl
digits_no_rip (c ∷ later) are =
    rw (ne_eqb c 105 (λ same. omega (arith, are.0, ap digit_value same))) refl
