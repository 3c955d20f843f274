-- The computed answer, and what a spelling says.
use Rattle.std.specs.Prelude.{◌≡◌, ◌≤◌, ◌++◌, List, ℕ, true, length}
use Rattle.x86_decode.specs.Conditions.{is_protected}
use Rattle.x86_decode.specs.Decoding.{BeginsProtected, Decodes}
use Rattle.x86_decode.specs.declared.instruction.Decoded.{Decoded}
use Rattle.x86_decode.specs.declared.instruction.Instr.{Instr}
use Rattle.x86_decode.specs.WellFormed.{IsWellFormed}
use Rattle.x86_decode.specs.Spelling.{AreBytes, SameSpelling, Spells}
use Rattle.x86_decode.specs.Reader.{decoded_of}

-- the computed answer is right, and no other is
pub record DecodingLaws : Type 0 where
  pub right : (bytes : List ℕ) → AreBytes bytes → length bytes ≤ 15
      → Decodes bytes (decoded_of bytes)
  pub only : (bytes : List ℕ) (other : Decoded) → AreBytes bytes → length bytes ≤ 15
      → Decodes bytes other → other ≡ decoded_of bytes

-- bytes spell at most one instruction, and no spelling is a proper prefix of another
pub record SpellingLaws : Type 0 where
  pub one : (instr other : Instr) (bytes more : List ℕ)
      → Spells instr bytes → Spells other (bytes ++ more) → SameSpelling instr other more
  pub formed : (instr : Instr) (bytes : List ℕ) → Spells instr bytes → IsWellFormed instr
  pub protected : (instr : Instr) (bytes : List ℕ) → Spells instr bytes
      → is_protected instr.op ≡ true → BeginsProtected bytes
