-- What moves on where bytes are taken up, wait, and go out in pieces.
use Rattle.std.specs.Prelude.{◌≡◌, ℕ, List, ◌++◌, Option}
use Rattle.std.specs.Io.KnownBytes.{Appends}

-- bytes were taken up: what went out and what still waits are what waited before and these bytes
pub record MovedOn (before after : Option (List ℕ)) (held later bytes : List ℕ) : Type 0 where
  pub done : List ℕ
  pub appended : Appends before after done
  pub whole : done ++ later ≡ held ++ bytes
