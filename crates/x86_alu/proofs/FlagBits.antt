-- Masks that set or clear one bit of a flags word.
use Rattle.std.proofs.Common.{◌≡◌, ◌≢◌, ◌==◌, ◌<◌, ℕ, ◌+◌, ◌-◌, ◌*◌, ◌/◌, ◌%◌, ◌^◌, Bool, true, false, bit_and, bit_or, arith, add_comm, add-one, ap, sym, ◌∙◌, refl, inl, inr}
use Rattle.std.proofs.lemmas.Bool.{cases_lt}
use Rattle.std.proofs.lemmas.Nat.{shr_split, one_shl, pow_below, pow_pos, mod_below, mod-pow-add, mul-add-lt, and-not, and_comm, and_le_r}
use Rattle.std.proofs.lemmas.Nat.Bits.{and_pow, bit_at_cat_high, bit_at_cat_low, bit_at_lowest}
use Rattle.std.proofs.Math.Nat.{pow-suc}
use Rattle.std.specs.Int.Bits.{or_add_and}
use Rattle.std.specs.Int.{bit_at}
use Rattle.x86_alu.specs.Flags.{with_flag}
use Rattle.x86_alu.specs.SignedNumbers.{bit, one_if}

-- a number from the bits above bit k, bit k, and the bits below it
pub from_parts : (n k : ℕ) → n ≡ n / 2 ^ (k + 1) * 2 ^ (k + 1) + bit_at n k * 2 ^ k + n % 2 ^ k
from_parts n k =
    let whole = shr_split n (k + 1) in
    let low : n % 2 ^ (k + 1) ≡ bit_at n k * 2 ^ k + n % 2 ^ k = rw (add_comm k 1) (mod-pow-add n 1 k) in
    omega arith

and_not_mask : (n k : ℕ) → n < 2 ^ 64 → k < 64 → bit_and n (2 ^ 64 - 1 - 1 * 2 ^ k % 2 ^ 64) ≡ with_flag k false n
unfolding with_flag
and_not_mask n k fits h =
    let parts = from_parts n k in
    let both = and-not 64 (2 ^ k) n (pow_below k 64 h) fits in
    let common = and_pow n k in
    let turned = and_comm n (2 ^ k) in
    let turned' = and_comm n (2 ^ 64 - 1 - 2 ^ k) in
    rw (one_shl k 64 h) (omega arith)

-- bit k of a number in two parts, and the bits below it and above it
one_is : (set : Bool) → (one_if set == 1) ≡ set
one_is true = refl
one_is false = refl

one_below : (set : Bool) → one_if set < 2
one_below true = omega arith
one_below false = omega arith

grouped : (h p q s l : ℕ) → q ≡ p * 2 → h * q + s * p + l ≡ (h * 2 + s) * p + l
grouped h p q s l e = rw e (omega arith)

written : (k : ℕ) (set : Bool) (n : ℕ) → with_flag k set n ≡ (n / 2 ^ (k + 1) * 2 + one_if set) * 2 ^ k + n % 2 ^ k
unfolding with_flag
written k set n = grouped (n / 2 ^ (k + 1)) (2 ^ k) (2 ^ (k + 1)) (one_if set) (n % 2 ^ k) (ap (λ j. 2 ^ j) (add-one k) ∙ pow-suc 2 k)

rest_below : (n k : ℕ) → n % 2 ^ k < 2 ^ k
rest_below n k = mod_below n (2 ^ k) (pow_pos k)

-- the flag that is written reads as written
pub flag_same : (k n : ℕ) (set : Bool) → bit (with_flag k set n) k ≡ set
flag_same k n set =
    let h : ℕ = n / 2 ^ (k + 1) * 2 + one_if set in
    let top : bit_at (h * 2 ^ k + n % 2 ^ k) k ≡ bit_at h (k - k) = bit_at_cat_high h k (n % 2 ^ k) k (rest_below n k) (omega arith) in
    let none : k - k ≡ 0 = omega arith in
    let small : one_if set < 2 = one_below set in
    let digit : h % 2 ≡ one_if set = omega arith in
    ap (λ m. bit m k) (written k set n) ∙ ap (λ x. x == 1) (top ∙ ap (bit_at h) none ∙ bit_at_lowest h ∙ digit) ∙ one_is set

-- below it nothing changes
below_flag : (j k n : ℕ) (set : Bool) → j < k → bit_at (with_flag k set n) j ≡ bit_at n j
below_flag j k n set low =
    let h : ℕ = n / 2 ^ (k + 1) * 2 + one_if set in
    ap (λ m. bit_at m j) (written k set n) ∙ bit_at_cat_low h k (n % 2 ^ k) j low
    ∙ sym (ap (λ m. bit_at m j) (sym (shr_split n k)) ∙ bit_at_cat_low (n / 2 ^ k) k (n % 2 ^ k) j low)

-- nor above it
above_flag : (j k n : ℕ) (set : Bool) → k < j → bit_at (with_flag k set n) j ≡ bit_at n j
unfolding with_flag
above_flag j k n set high =
    let power : 2 ^ (k + 1) ≡ 2 ^ k * 2 = ap (λ i. 2 ^ i) (add-one k) ∙ pow-suc 2 k in
    let rest : n % 2 ^ k < 2 ^ k = rest_below n k in
    let low : one_if set * 2 ^ k + n % 2 ^ k < 2 ^ (k + 1) = rw power (mul-add-lt (one_if set) (2 ^ k) (n % 2 ^ k) 2 (one_below set) rest) in
    let group : n / 2 ^ (k + 1) * 2 ^ (k + 1) + one_if set * 2 ^ k + n % 2 ^ k ≡ n / 2 ^ (k + 1) * 2 ^ (k + 1) + (one_if set * 2 ^ k + n % 2 ^ k) = omega arith in
    ap (λ m. bit_at m j) group ∙ bit_at_cat_high (n / 2 ^ (k + 1)) (k + 1) (one_if set * 2 ^ k + n % 2 ^ k) j low (omega arith)
    ∙ sym (ap (λ m. bit_at m j) (sym (shr_split n (k + 1))) ∙ bit_at_cat_high (n / 2 ^ (k + 1)) (k + 1) (n % 2 ^ (k + 1)) j (rest_below n (k + 1)) (omega arith))

-- the other bits stay
pub flag_other : (j k n : ℕ) (set : Bool) → j ≢ k → bit (with_flag k set n) j ≡ bit n j
flag_other j k n set other = elim (cases_lt j k) [
  | inl low ↦ ap (λ x. x == 1) (below_flag j k n set low)
  | inr from ↦ ap (λ x. x == 1) (above_flag j k n set (omega arith))
]

-- so a bit that is cleared and then added is written
cleared_then_set : (n k : ℕ) → k < 64 → bit_or (with_flag k false n) (1 * 2 ^ k % 2 ^ 64) ≡ with_flag k true n
unfolding with_flag
cleared_then_set n k h =
    let none : (bit_at (with_flag k false n) k == 1) ≡ false = flag_same k n false in
    let both = or_add_and (with_flag k false n) (2 ^ k) in
    let common = and_pow (with_flag k false n) k in
    let digit : bit_at (with_flag k false n) k < 2 = mod_below (with_flag k false n / 2 ^ k) 2 (omega arith) in
    let zero : bit_at (with_flag k false n) k ≡ 0 = grind arith in
    let empty : bit_and (with_flag k false n) (2 ^ k) ≡ 0 = rw common (rw zero (omega arith)) in
    rw (one_shl k 64 h) (omega arith)

or_zero : (n : ℕ) → bit_or n 0 ≡ n
or_zero n = omega (arith, or_add_and n 0, and_le_r n 0)

-- what the masks compute
pub by_masks : (n k : ℕ) (set : Bool) → n < 2 ^ 64 → k < 64
    → bit_or (bit_and n (2 ^ 64 - 1 - 1 * 2 ^ k % 2 ^ 64)) (one_if set * 2 ^ k % 2 ^ 64) ≡ with_flag k set n
by_masks n k true fits h = rw (and_not_mask n k fits h) (cleared_then_set n k h)
by_masks n k false fits h =
    let none : 0 * 2 ^ k % 2 ^ 64 ≡ 0 = omega arith in
    rw (and_not_mask n k fits h) (rw none (or_zero (with_flag k false n)))
