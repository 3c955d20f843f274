-- The bits of an entry by masks, as the code reads them, against division and modulo.
use Rattle.std.proofs.Common.{◌≡◌, ℕ, zero, suc, ◌+◌, ◌-◌, ◌*◌, ◌/◌, ◌%◌, ◌^◌, ◌<◌, ◌≤◌, ◌==◌, not, arith, refl, sym, ap, ◌∙◌, bit_and}
use Rattle.std.proofs.lemmas.Grind.{common_steps}
use Rattle.std.proofs.lemmas.Nat.{and_block, and_mask, pow_pos, pow-add}
use Rattle.std.proofs.Math.Nat.{div-one, div-div-eq-div-mul, pow-succ'}
use Rattle.std.proofs.lemmas.Nat.Bits.{and_pow}
use Rattle.nk_bits.specs.Paging.{is_present, is_large, named_bits, grants_writes, is_user, grants_fetches, page_index, page_of}

-- the mask of the named bits
pub named_by_mask : (e : ℕ) → bit_and e 9223372036854776319 ≡ named_bits e
unfolding named_bits
named_by_mask e =
    let parts : e ≡ e / 2 ^ 63 * 2 ^ 63 + e % 2 ^ 63 = omega arith in
    let split : bit_and (e / 2 ^ 63 * 2 ^ 63 + e % 2 ^ 63) (1 * 2 ^ 63 + 511) ≡ bit_and (e / 2 ^ 63) 1 * 2 ^ 63 + bit_and (e % 2 ^ 63) 511 =
    and_block 63 (e / 2 ^ 63) 1 (e % 2 ^ 63) 511 (omega arith) (omega arith) in
    let high : bit_and (e / 2 ^ 63) 1 ≡ e / 2 ^ 63 % 2 = and_mask (e / 2 ^ 63) 1 in
    let low : bit_and (e % 2 ^ 63) 511 ≡ e % 2 ^ 63 % 512 = and_mask (e % 2 ^ 63) 9 in
    ap (λ x. bit_and x 9223372036854776319) parts ∙ split ∙ omega (arith, high, low)

-- a test of one bit by its mask
scaled : (b p : ℕ) → 0 < p → b < 2 → (b * p == p) ≡ (b == 1)
scaled b p pos small = grind (arith, common_steps)

flag_by_mask : (n k : ℕ) → (bit_and n (2 ^ k) == 2 ^ k) ≡ (n / 2 ^ k % 2 == 1)
flag_by_mask n k = ap (λ x. x == 2 ^ k) (and_pow n k) ∙ scaled (n / 2 ^ k % 2) (2 ^ k) (pow_pos k) (omega arith)

-- the three tests that the rights are made of
pub writable_by_flag : (e : ℕ) → (bit_and (named_bits e) 2 == 2) ≡ grants_writes e
unfolding named_bits grants_writes
writable_by_flag e =
    let same : named_bits e / 2 % 2 ≡ e / 2 % 2 = omega arith in
    flag_by_mask (named_bits e) 1 ∙ ap (λ x. x == 1) same

pub user_by_flag : (e : ℕ) → (bit_and (named_bits e) 4 == 4) ≡ is_user e
unfolding named_bits is_user
user_by_flag e =
    let same : named_bits e / 4 % 2 ≡ e / 4 % 2 = omega arith in
    flag_by_mask (named_bits e) 2 ∙ ap (λ x. x == 1) same

pub exec_by_flag : (e : ℕ) → not (bit_and (named_bits e) 9223372036854775808 == 9223372036854775808) ≡ grants_fetches e
unfolding named_bits grants_fetches
exec_by_flag e =
    let same : named_bits e / 2 ^ 63 % 2 ≡ e / 2 ^ 63 % 2 = omega arith in
    ap not (flag_by_mask (named_bits e) 63 ∙ ap (λ x. x == 1) same)

-- the tests of P and of PS
pub present_by_flag : (e : ℕ) → (bit_and (named_bits e) 1 == 1) ≡ is_present e
unfolding named_bits is_present
present_by_flag e =
    let same : named_bits e / 1 % 2 ≡ e % 2 = omega (arith, div-one (named_bits e)) in
    flag_by_mask (named_bits e) 0 ∙ ap (λ x. x == 1) same

pub large_by_flag : (e : ℕ) → (bit_and (named_bits e) 128 == 128) ≡ is_large e
unfolding named_bits is_large
large_by_flag e =
    let same : named_bits e / 128 % 2 ≡ e / 128 % 2 = omega arith in
    flag_by_mask (named_bits e) 7 ∙ ap (λ x. x == 1) same

-- nine bits are a digit in base 512
power_512 : (k : ℕ) → 2 ^ (9 * k) ≡ 512 ^ k
power_512 zero = refl
power_512 (suc k) =
    let place : 9 * suc k ≡ 9 + 9 * k = omega arith in
    ap (λ x. 2 ^ x) place ∙ pow-add 2 9 (9 * k) ∙ ap (λ x. 512 * x) (power_512 k) ∙ sym (pow-succ' 512 k)

-- the index of an entry by a shift and a mask
pub index_by_bits : (va level : ℕ) → 1 ≤ level → va / 2 ^ (3 + 9 * level) % 2 ^ 9 ≡ page_index (page_of va) level
unfolding page_index
index_by_bits va zero low = absurd (omega (arith, low))
index_by_bits va (suc k) low =
    let place : 3 + 9 * suc k ≡ 12 + 9 * k = omega arith in
    let power : 2 ^ (12 + 9 * k) ≡ 4096 * 512 ^ k = pow-add 2 12 (9 * k) ∙ ap (λ x. 4096 * x) (power_512 k) in
    let shift : va / 2 ^ (3 + 9 * suc k) ≡ va / 4096 / 512 ^ k = ap (λ x. va / 2 ^ x) place ∙ ap (λ x. va / x) power ∙ sym (div-div-eq-div-mul va 4096 (512 ^ k)) in
    let digit : k ≡ suc k - 1 = omega arith in
    ap (λ x. x % 512) shift ∙ ap (λ j. va / 4096 / 512 ^ j % 512) digit

pub index_by_shift : (va level : ℕ) → 1 ≤ level → bit_and (va / 2 ^ (3 + 9 * level)) 511 ≡ page_index (page_of va) level
index_by_shift va level low = and_mask (va / 2 ^ (3 + 9 * level)) 9 ∙ index_by_bits va level low
