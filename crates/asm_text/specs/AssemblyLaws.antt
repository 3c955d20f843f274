-- What is proved of assembled code: that of a line is the least spelling of the instruction whose text the line is, and a
-- line without code is the text of no instruction that bytes spell; and that of a text is its lines', one after another.
use Rattle.std.specs.Prelude.{◌≡◌, ◌⊎◌, ℕ, ◌+◌, List, [], ◌∷◌, ◌++◌, length, MatchOption, MatchResult}
use Rattle.text_lines.specs.TextLines.{lines}
use Rattle.x86_decode.specs.declared.instruction.Decoded.TheVariants.{Whole}
use Rattle.x86_decode.specs.declared.instruction.Instr.{Instr}
use Rattle.x86_decode.specs.Decoding.{Decodes}
use Rattle.x86_decode.specs.Spelling.{IsLawful}
use Rattle.asm_text.specs.AssembledText.{assembled_of, line_code}
use Rattle.asm_text.specs.InstructionTexts.{IsRead}
use Rattle.asm_text.specs.LeastSpelling.{IsLeastSpelling}

-- the bytes are the code of a line
pub record IsLineCode (line bytes : List ℕ) : Type 0 where
  pub instr : Instr
  pub read : IsRead line instr
  pub least : IsLeastSpelling instr bytes

-- a line has none
abbrev pub HasNoCode : List ℕ → Type 0
HasNoCode line = (instr : Instr) (bytes : List ℕ) → IsRead line instr → IsLawful instr bytes → ⊥

-- the code of a line stands in front, all of which decodes to the line's instruction; and the rest is what belongs to the
-- later lines
pub record BeginsCode (line code : List ℕ) (Goes : List ℕ → Type 0) : Type 0 where
  pub bytes : List ℕ
  pub of_line : IsLineCode line bytes
  pub decodes : Decodes bytes (Whole of_line.instr (length bytes))
  pub rest : List ℕ
  pub split : code ≡ bytes ++ rest
  pub goes_on : Goes rest

-- the code is that of these lines, one after another
abbrev pub IsCodeOfLines : List (List ℕ) → List ℕ → Type 0
IsCodeOfLines [] code = code ≡ []
IsCodeOfLines (line ∷ later) code = BeginsCode line code (λ rest. IsCodeOfLines later rest)

-- a line has code, and this holds of the later ones
pub record HasCodeBefore (line : List ℕ) (Goes : Type 0) : Type 0 where
  pub bytes : List ℕ
  pub of_line : IsLineCode line bytes
  pub goes_on : Goes

-- one of these lines, of which the first has this number, is the first without code, and its number is `wrong`
abbrev pub IsFirstWithout : ℕ → List (List ℕ) → ℕ → Type 0
IsFirstWithout number [] wrong = ⊥
IsFirstWithout number (line ∷ later) wrong =
    (HasNoCode line × (wrong ≡ number)) ⊎ HasCodeBefore line (IsFirstWithout (number + 1) later wrong)

pub record AssemblyLaws : Type 0 where
  pub line : (line : List ℕ) → MatchOption (line_code line) (HasNoCode line) (IsLineCode line)
  pub text : (text : List ℕ) → MatchResult (assembled_of text)
      (λ code. IsCodeOfLines (lines text) code) (λ wrong. IsFirstWithout 1 (lines text) wrong)
