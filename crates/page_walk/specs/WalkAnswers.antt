-- What a walk answers, in the words of its definition.
use Rattle.std.specs.Prelude.{ℕ, Result, Ok, Err}
use Rattle.nk_bits.specs.declared.leaf.Leaf.{Leaf}
use Rattle.page_walk.specs.declared.levels.Missing.{Missing}

-- the leaf, or the level whose entry is missing
abbrev pub leaf_or_level : Result Leaf Missing → Result Leaf ℕ
leaf_or_level (Ok leaf) = Ok leaf
leaf_or_level (Err missing) = Err missing.level
