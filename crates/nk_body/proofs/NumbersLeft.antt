-- Numbers in memory whose bytes agree.
use Rattle.std.proofs.Common.{◌≡◌, ℕ, zero, suc, ◌+◌, ◌*◌, ◌<◌, ◌≤◌, List, arith, refl}
use Rattle.phys_mem.specs.Memory.{byte_at, number_at}

pub number_same : (l m : List ℕ) (n p : ℕ) → ((q : ℕ) → p ≤ q → q < p + n → byte_at l q ≡ byte_at m q)
    → number_at l n p ≡ number_at m n p
unfolding number_at
number_same l m zero p agree = refl
number_same l m (suc n) p agree =
    λ i. agree p (omega arith) (omega arith) i
    + 256 * number_same l m n (p + 1) (λ q low high. agree q (omega (arith, low)) (omega (arith, high))) i
