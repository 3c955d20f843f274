-- What is known of two things that are compared part by part, where nothing was told.
use Rattle.std.proofs.Common.{◌≡◌, ℕ, zero, suc, ◌+◌, ◌*◌, ◌<◌, ◌≤◌, List, refl, ap, ◌∙◌, arith}
use Rattle.phys_mem.specs.Memory.{byte_at, number_at}

-- numbers of alike bytes are one
pub same_number : (m n : List ℕ) (count place : ℕ)
    → ((k : ℕ) → place ≤ k → k < place + count → byte_at m k ≡ byte_at n k) → number_at m count place ≡ number_at n count place
unfolding number_at
same_number m n zero place same = refl
same_number m n (suc count) place same =
    ap (λ (x : ℕ). x + 256 * number_at m count (place + 1)) (same place (omega arith) (omega arith))
    ∙ ap (λ (x : ℕ). byte_at n place + 256 * x)
    (same_number m n count (place + 1) (λ k from below. same k (omega (arith, from)) (omega (arith, below))))
