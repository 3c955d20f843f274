-- Hexadecimal digits: how many a number has, and which is the last.
use Rattle.std.proofs.Common.{◌≡◌, ℕ, zero, suc, ◌+◌, ◌/◌, ◌%◌, ◌^◌, ◌<◌, ◌≤◌, Bool, true, false, List, [], ◌∷◌, ◌++◌, length, refl, sym, ap, ◌∙◌, arith}
use Rattle.std.specs.Prelude.{◌==◌, if◌then◌else◌}
use Rattle.std.specs.Fmt.{digit_glyph, digits, digits_onto}
use Rattle.std.proofs.Math.Nat.{pow-suc}
use Rattle.std.proofs.lemmas.Bool.{cond_both, eqb-false, ne_eqb}
use Rattle.std.proofs.lemmas.Fmt.{hex_one_digit}
use Rattle.std.proofs.lemmas.List.{append_assoc, length-append}
use Rattle.asm_text.specs.InstructionTexts.{hex_digits}

-- a choice between the same, and between what is the same where it is chosen
joined : (b : Bool) (x y shown more behind : List ℕ) → x ≡ shown ++ behind → y ≡ more ++ behind
    → (if b then x else y) ≡ (if b then shown else more) ++ behind
joined true x y shown more behind one other = one
joined false x y shown more behind one other = other

same_later : (b : Bool) (x y z : List ℕ) → (b ≡ false → y ≡ z) → (if b then x else y) ≡ (if b then x else z)
same_later true x y z same = refl
same_later false x y z same = same refl

-- what stands behind the digits stays behind them
onto_append : (k n : ℕ) (shown behind : List ℕ)
    → digits_onto k 16 false n (shown ++ behind) ≡ digits_onto k 16 false n shown ++ behind
onto_append zero n shown behind = refl
onto_append (suc k) n shown behind =
    joined (n / 16 == 0) _ _ (digit_glyph false (n % 16) ∷ shown)
    (digits_onto k 16 false (n / 16) (digit_glyph false (n % 16) ∷ shown)) behind refl
    (onto_append k (n / 16) (digit_glyph false (n % 16) ∷ shown) behind)

some_left : (k m : ℕ) → 0 < m → m < 16 ^ k → 0 < k
some_left zero m some small = absurd (omega (arith, some, small))
some_left (suc k) m some small = omega arith

fewer : (k n : ℕ) → n < 16 ^ suc k → n / 16 < 16 ^ k
fewer k n small = omega (arith, small, pow-suc 16 k)

-- room for more digits than there are changes nothing
onto_more : (k n : ℕ) (behind : List ℕ) → 0 < k → n < 16 ^ k
    → digits_onto (suc k) 16 false n behind ≡ digits_onto k 16 false n behind
onto_more zero n behind some small = absurd (omega arith)
onto_more (suc k) n behind some small =
    same_later (n / 16 == 0) (digit_glyph false (n % 16) ∷ behind)
    (digits_onto (suc k) 16 false (n / 16) (digit_glyph false (n % 16) ∷ behind))
    (digits_onto k 16 false (n / 16) (digit_glyph false (n % 16) ∷ behind))
    (λ e.
    let above : 0 < n / 16 = omega (arith, eqb-false (n / 16) 0 e) in
    onto_more k (n / 16) (digit_glyph false (n % 16) ∷ behind) (some_left k (n / 16) above (fewer k n small))
    (fewer k n small))

-- a number below 16 ^ k has at most k digits
onto_short : (room k n : ℕ) (behind : List ℕ) → 0 < k → n < 16 ^ k
    → length (digits_onto room 16 false n behind) ≤ k + length behind
onto_short zero k n behind some small = omega arith
onto_short (suc room) zero n behind some small = absurd (omega arith)
onto_short (suc room) (suc k) n behind some small =
    cond_both (n / 16 == 0) (digit_glyph false (n % 16) ∷ behind)
    (digits_onto room 16 false (n / 16) (digit_glyph false (n % 16) ∷ behind))
    (λ shown. length shown ≤ suc k + length behind)
    (λ e. omega arith)
    (λ e.
    let above : 0 < n / 16 = omega (arith, eqb-false (n / 16) 0 e) in
    let rest : length (digits_onto room 16 false (n / 16) (digit_glyph false (n % 16) ∷ behind))
    ≤ k + length (digit_glyph false (n % 16) ∷ behind) =
    onto_short room k (n / 16) (digit_glyph false (n % 16) ∷ behind) (some_left k (n / 16) above (fewer k n small))
    (fewer k n small) in
    omega (arith, rest))

pub hex_short : (n : ℕ) → n < 2 ^ 64 → length (hex_digits n) ≤ 16
unfolding digits
hex_short n small = omega (arith, onto_short 64 16 n [] (omega arith) (omega (arith, small)))

pub hex_one : (n : ℕ) → n < 16 → hex_digits n ≡ digit_glyph false n ∷ []
hex_one n small = hex_one_digit false n small

onto_step : (k n : ℕ) (behind : List ℕ) → (n / 16 ≡ 0 → ⊥)
    → digits_onto (suc k) 16 false n behind ≡ digits_onto k 16 false (n / 16) (digit_glyph false (n % 16) ∷ behind)
onto_step k n behind more = rw (ne_eqb (n / 16) 0 more) refl

-- the last digit behind those of the number without it
pub hex_step : (n : ℕ) → 16 ≤ n → n < 2 ^ 64 → hex_digits n ≡ hex_digits (n / 16) ++ (digit_glyph false (n % 16) ∷ [])
unfolding digits
hex_step n more small =
    let last = digit_glyph false (n % 16) ∷ [] in
    onto_step 63 n [] (λ none. omega (arith, none, more))
    ∙ (onto_append 63 (n / 16) [] last
    ∙ ap (λ shown. shown ++ last) (sym (onto_more 63 (n / 16) [] (omega arith) (omega (arith, small)))))

pub hex_one_long : (n : ℕ) → n < 16 → length (hex_digits n) ≡ 1
hex_one_long n small = ap length (hex_one n small)

pub hex_longer : (n : ℕ) → 16 ≤ n → n < 2 ^ 64 → length (hex_digits n) ≡ length (hex_digits (n / 16)) + 1
hex_longer n more small =
    ap length (hex_step n more small) ∙ length-append (hex_digits (n / 16)) (digit_glyph false (n % 16) ∷ [])

-- the last digit is put behind what stands already
pub behind_one : (front : List ℕ) (n : ℕ) → n < 16 → front ++ (digit_glyph false n ∷ []) ≡ front ++ hex_digits n
behind_one front n small = ap (λ shown. front ++ shown) (sym (hex_one n small))

pub behind_more : (front : List ℕ) (n : ℕ) → 16 ≤ n → n < 2 ^ 64
    → (front ++ hex_digits (n / 16)) ++ (digit_glyph false (n % 16) ∷ []) ≡ front ++ hex_digits n
behind_more front n more small =
    append_assoc front (hex_digits (n / 16)) (digit_glyph false (n % 16) ∷ [])
    ∙ ap (λ shown. front ++ shown) (sym (hex_step n more small))
