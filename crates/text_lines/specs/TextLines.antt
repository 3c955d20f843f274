-- The lines of a text of bytes, and the words of a line.
use Rattle.std.specs.Prelude.{ℕ, ◌==◌, if◌then◌else◌, List, [], ◌∷◌}
use Rattle.std.specs.List.{onto_first, slice_split}

-- LF ends a line, and the last may lack it: a text of no bytes has no line, and one LF is an empty line
abbrev pub lines : List ℕ → List (List ℕ)
lines [] = []
lines (c ∷ rest) = if c == 10 then [] ∷ lines rest else onto_first c (lines rest)

-- the words of a line, one more than it has spaces; a word is empty where two spaces meet, and where a space stands at
-- either end of the line
abbrev pub words : List ℕ → List (List ℕ)
words line = slice_split (λ c. c == 32) line
