-- Which of the spellings of an instruction is the least: the shortest, and of those that are equally short the one that
-- comes first byte by byte.
use Rattle.std.specs.Prelude.{◌≡◌, ℕ, ◌==◌, Bool, true, false, ◌&&◌, ◌||◌, nat_lt, List, [], ◌∷◌, length}
use Rattle.x86_decode.specs.declared.instruction.Instr.{Instr}
use Rattle.x86_decode.specs.Spelling.{IsLawful, Spells}

-- byte by byte, the first isn't greater than the second: the first bytes that differ decide
abbrev pub is_bytewise_least : List ℕ → List ℕ → Bool
is_bytewise_least [] other = true
is_bytewise_least (byte ∷ bytes) [] = false
is_bytewise_least (byte ∷ bytes) (first ∷ other) =
    nat_lt byte first || (byte == first && is_bytewise_least bytes other)

-- shorter, or equally long and byte by byte not greater
abbrev pub is_not_behind : List ℕ → List ℕ → Bool
is_not_behind bytes other =
    nat_lt (length bytes) (length other)
    || (length bytes == length other && is_bytewise_least bytes other)

-- the bytes spell the instruction, lawfully, and no spelling of any length comes before them
pub record IsLeastSpelling (instr : Instr) (bytes : List ℕ) : Type 0 where
  pub lawful : IsLawful instr bytes
  pub least : (other : List ℕ) → Spells instr other → is_not_behind bytes other ≡ true
