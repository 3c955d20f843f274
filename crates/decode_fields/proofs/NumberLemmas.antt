-- One more byte in front of a number, and the powers that bound it.
use Rattle.std.proofs.Common.{◌≡◌, ℕ, suc, ◌+◌, ◌-◌, ◌*◌, ◌^◌, ◌<◌, ◌≤◌, List, ◌∷◌, length, drop, get_or, sym, subst, arith}
use Rattle.std.proofs.Math.Nat.{pow-le-pow_right}
use Rattle.std.proofs.Math.Seq.{drop-cons}
use Rattle.std.proofs.lemmas.Nat.{pow-add}
use Rattle.decode_fields.specs.Immediates.{number_of}

-- the byte at i - 1 joins those from i on
pub number_step : (bytes : List ℕ) (size i number : ℕ) → 0 < i → i ≤ size → size ≤ length bytes → number ≡ number_of (size - i) (drop i bytes) → 256 * number + get_or bytes (i - 1) 0 ≡ number_of (size - (i - 1)) (drop (i - 1) bytes)
number_step bytes size i number some within there known =
    let count : size - (i - 1) ≡ suc (size - i) = omega arith in
    let same : suc (i - 1) ≡ i = omega arith in
    let inside : i - 1 < length bytes = omega arith in
    let front : drop (i - 1) bytes ≡ get_or bytes (i - 1) 0 ∷ drop (suc (i - 1)) bytes = drop-cons bytes (i - 1) 0 inside in
    let P : List ℕ → Type 0 = λ rest. 256 * number + get_or bytes (i - 1) 0 ≡ number_of (size - (i - 1)) rest in
    let Q : ℕ → Type 0 = λ n. 256 * number + get_or bytes (i - 1) 0 ≡ number_of n (get_or bytes (i - 1) 0 ∷ drop (suc (i - 1)) bytes) in
    let R : ℕ → Type 0 = λ j. 256 * number + get_or bytes (i - 1) 0 ≡ get_or bytes (i - 1) 0 + 256 * number_of (size - i) (drop j bytes) in
    subst P (sym front) (subst Q (sym count) (subst R (sym same) (omega (arith, known))))

pub byte_above : (k number byte : ℕ) → number < 2 ^ (8 * k) → byte < 256 → 256 * number + byte < 2 ^ (8 * suc k)
byte_above k number byte low small =
    let e : 2 ^ (8 * k + 8) ≡ 2 ^ (8 * k) * 256 = pow-add 2 (8 * k) 8 in
    let same : 8 * suc k ≡ 8 * k + 8 = omega arith in
    let P : ℕ → Type 0 = λ n. 256 * number + byte < 2 ^ n in
    subst P (sym same) (omega (arith, e))

pub below_word : (bits number : ℕ) → number < 2 ^ bits → bits ≤ 64 → number < 2 ^ 64
below_word bits number low few =
    let two : 0 < 2 = omega arith in
    omega (arith, pow-le-pow_right two few)
