-- How many bytes the lines of a text take.
use Rattle.std.proofs.Common.{ℕ, ◌+◌, ◌==◌, ◌≤◌, Bool, true, false, List, [], ◌∷◌, length, arith}
use Rattle.std.specs.Prelude.{if◌then◌else◌}
use Rattle.std.specs.List.{onto_first}
use Rattle.text_lines.specs.TextLines.{lines}

-- each with the LF behind it
abbrev pub size_of : List (List ℕ) → ℕ
size_of [] = 0
size_of (line ∷ later) = length line + 1 + size_of later

-- a byte more
one_more : (ends : Bool) (c n : ℕ) (ls : List (List ℕ)) → size_of ls ≤ n + 1
    → size_of (if ends then [] ∷ ls else onto_first c ls) ≤ n + 2
one_more true c n ls fits = omega arith
one_more false c n [] fits = omega arith
one_more false c n (line ∷ ls) fits = omega arith

-- no more than the text and one LF, which the last line may lack
pub size_lines : (text : List ℕ) → size_of (lines text) ≤ length text + 1
size_lines [] = omega arith
size_lines (c ∷ rest) =
    let more = one_more (c == 10) c (length rest) (lines rest) (size_lines rest) in
    omega arith
