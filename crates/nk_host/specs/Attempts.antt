-- Attempts by their numbers, which count from 1 and stay at the end of `u64`.
use Rattle.std.specs.Prelude.{ℕ, Bool, List, ◌==◌}
use Rattle.std.specs.List.{list_any}

-- a number is among the numbers of the attempts that are to fail
abbrev pub is_due : List ℕ → ℕ → Bool
is_due failing number = list_any (λ n. n == number) failing
