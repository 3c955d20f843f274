-- Runs of bytes in a list of bytes.
use Rattle.std.specs.Prelude.{ℕ, ◌+◌, List, ◌++◌, length, take, drop}

-- the n bytes of m from place p on
abbrev pub run_at : List ℕ → ℕ → ℕ → List ℕ
run_at m p n = take n (drop p m)

-- m with the bytes bs from place p on, cut to the length of m
abbrev pub with_run : List ℕ → ℕ → List ℕ → List ℕ
with_run m p bs = take (length m) (take p m ++ bs ++ drop (p + length bs) m)
