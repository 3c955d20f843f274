-- What is proved of texts: two instructions never have one, and each instruction that is spelled has one.
use Rattle.std.specs.Prelude.{◌≡◌, List, ℕ}
use Rattle.x86_decode.specs.declared.instruction.Instr.{Instr}
use Rattle.x86_decode.specs.Spelling.{Spells}
use Rattle.asm_text.specs.InstructionTexts.{HasText, instr_text}

pub record TextLaws : Type 0 where
  pub one : (instr other : Instr) → HasText instr → HasText other → instr_text instr ≡ instr_text other → instr ≡ other
  pub spelled : (instr : Instr) (bytes : List ℕ) → Spells instr bytes → HasText instr
