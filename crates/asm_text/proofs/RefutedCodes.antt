-- What isn't the code of lines, and which line isn't the first without code.
use Rattle.std.proofs.Common.{◌≢◌, ℕ, List, [], ◌∷◌, ◌++◌, length, inl, inr}
use Rattle.x86_decode.specs.declared.instruction.Decoded.TheVariants.{Whole}
use Rattle.x86_decode.specs.declared.instruction.Instr.{Instr}
use Rattle.x86_decode.specs.Decoding.{Decodes}
use Rattle.asm_text.specs.AssemblyLaws.{HasNoCode, IsCodeOfLines, IsFirstWithout, IsLineCode}

-- no byte is the code of no line
code_of_none : (code : List ℕ) → code ≢ [] → IsCodeOfLines [] code → ⊥
code_of_none code some it = some it

module _ (line : List ℕ) (later : List (List ℕ)) (code : List ℕ) where
  -- a line without code isn't passed over
  passed_over : HasNoCode line → IsCodeOfLines (line ∷ later) code → ⊥
  passed_over none it = none it.of_line.instr it.bytes it.of_line.read it.of_line.least.lawful

  -- nor do other bytes stand in its code's place, or such as decode to less than all of them
  other_bytes : ((bytes rest : List ℕ) → IsLineCode line bytes → code ≢ bytes ++ rest) → IsCodeOfLines (line ∷ later) code → ⊥
  other_bytes none it = none it.bytes it.rest it.of_line it.split

  other_decoded : ((instr : Instr) (bytes : List ℕ) → Decodes bytes (Whole instr (length bytes)) → ⊥)
      → IsCodeOfLines (line ∷ later) code → ⊥
  other_decoded none it = none it.of_line.instr it.bytes it.decodes

  -- and what comes behind it is the code of the later lines
  other_rest : ((rest : List ℕ) → IsCodeOfLines later rest → ⊥) → IsCodeOfLines (line ∷ later) code → ⊥
  other_rest none it = none it.rest it.goes_on

-- no line of none is the first without code, nor one behind a line without
first_of_none : (number wrong : ℕ) → IsFirstWithout number [] wrong → ⊥
first_of_none number wrong it = it

behind_another : (line : List ℕ) (later : List (List ℕ)) (number wrong : ℕ) → HasNoCode line → wrong ≢ number
    → IsFirstWithout number (line ∷ later) wrong → ⊥
behind_another line later number wrong none other (inl it) = other it.1
behind_another line later number wrong none other (inr it) =
    none it.of_line.instr it.bytes it.of_line.read it.of_line.least.lawful
