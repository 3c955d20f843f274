-- The bytes that a scanner keeps, as a list.
use Rattle.std.specs.Prelude.{ℕ, List, [], ◌∷◌}
use Rattle.byte_scanner.specs.declared.kept.Kept.{Kept}
use Rattle.byte_scanner.specs.declared.kept.Kept.TheVariants.{Nothing, One, Two}

-- in the order in which they stand
abbrev pub kept_bytes : Kept → List ℕ
kept_bytes Nothing = []
kept_bytes (One last) = last ∷ []
kept_bytes (Two next last) = next ∷ last ∷ []
