-- The first of the addresses that share an upper entry, modulo 2 ^ 64.
use Rattle.std.proofs.Common.{◌≡◌, ℕ, ◌+◌, ◌-◌, ◌*◌, ◌^◌, ◌≤◌, arith, ap, ◌∙◌, mul_assoc, mul_comm}
use Rattle.std.proofs.lemmas.Nat.{pow-add, mul-mod_first}
use Rattle.x86_regs.specs.Operands.{wrapped}
use Rattle.nk_bits.specs.UpperEntries.{first_of_span}

-- 4096 * 512 ^ 6 is 2 ^ 66, a multiple of 2 ^ 64
multiple : (n : ℕ) → wrapped (4096 * (512 ^ 6 * n)) ≡ 0
multiple n = omega arith

-- how many addresses share an entry, modulo 2 ^ 64: from level 7 on nothing is left
pub none_left : (level : ℕ) → 7 ≤ level → wrapped (4096 * 512 ^ (level - 1)) ≡ 0
none_left level least =
    let split : level - 1 ≡ 6 + (level - 7) = omega (arith, least) in
    ap (λ n. wrapped (4096 * 512 ^ n)) split ∙ ap (λ n. wrapped (4096 * n)) (pow-add 512 6 (level - 7)) ∙ multiple (512 ^ (level - 7))

-- the first address, from how many share an entry
pub start : (level bits : ℕ) → wrapped (wrapped (4096 * 512 ^ (level - 1)) * bits) ≡ wrapped (4096 * first_of_span level bits)
unfolding first_of_span
start level bits =
    let size = 512 ^ (level - 1) in
    mul-mod_first (4096 * size) bits (2 ^ 64) ∙ ap wrapped (mul_assoc 4096 size bits ∙ ap (λ n. 4096 * n) (mul_comm size bits))
