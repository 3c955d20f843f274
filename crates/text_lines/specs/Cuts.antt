-- A text cut at the first byte of a value.
use Rattle.std.specs.Prelude.{◌≡◌, ℕ, ◌==◌, false, List, ◌∷◌, ◌++◌}
use Rattle.std.specs.List.{All}

-- no byte of the text has this value
abbrev pub Lacks : ℕ → List ℕ → Type 0
Lacks mark text = All (λ c. (c == mark) ≡ false) text

-- the bytes before the first byte of this value, and those behind it
pub record IsCut (mark : ℕ) (text before behind : List ℕ) : Type 0 where
  pub whole : text ≡ before ++ (mark ∷ behind)
  pub first : Lacks mark before
