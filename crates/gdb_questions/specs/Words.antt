-- A word at the front of a text.
use Rattle.std.specs.Prelude.{ℕ, if◌then◌else◌, List, drop, length, take, Option, None, Some}
use Rattle.std.specs.Str.{bytes_eq}

-- what stands behind a word at the front
abbrev pub behind_word : List ℕ → List ℕ → Option (List ℕ)
behind_word word text = if bytes_eq (take (length word) text) word then Some (drop (length word) text) else None
