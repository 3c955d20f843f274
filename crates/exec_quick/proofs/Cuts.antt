-- A number that is cut twice.
use Rattle.std.proofs.Common.{rules, ◌≡◌, ℕ}
use Rattle.x86_alu.specs.SignedNumbers.{cut}

pub cut_again : (w n : ℕ) → cut w (cut w n) ≡ cut w n
cut_again w n = search rules
