-- What the laws on assembled code leave no room for.
use Rattle.std.proofs.Common.{◌≡◌, ℕ, List, None, Some, Ok, Err, Option, Result, subst}
use Rattle.std.specs.Prelude.{MatchOption, MatchResult}
use Rattle.text_lines.specs.TextLines.{lines}
use Rattle.asm_text.specs.AssembledText.{assembled_of, line_code}
use Rattle.asm_text.specs.AssemblyLaws.{AssemblyLaws, HasNoCode, IsCodeOfLines, IsFirstWithout, IsLineCode}

module _ (it : AssemblyLaws) where
  -- code of a line that isn't the least spelling of its instruction, and a line that has code and is given none
  another_code : (line bytes : List ℕ) → line_code line ≡ Some bytes → (IsLineCode line bytes → ⊥) → ⊥
  another_code line bytes is none =
      none (subst (λ (code : Option (List ℕ)). MatchOption code (HasNoCode line) (IsLineCode line)) is (it.line line))

  code_withheld : (line : List ℕ) → line_code line ≡ None → (HasNoCode line → ⊥) → ⊥
  code_withheld line is none =
      none (subst (λ (code : Option (List ℕ)). MatchOption code (HasNoCode line) (IsLineCode line)) is (it.line line))

  -- code of a text that isn't that of its lines, and a line that is told and isn't the first without code
  another_text : (text code : List ℕ) → assembled_of text ≡ Ok code → (IsCodeOfLines (lines text) code → ⊥) → ⊥
  another_text text code is none =
      none (subst (λ (answer : Result (List ℕ) ℕ). MatchResult answer (λ all. IsCodeOfLines (lines text) all)
      (λ wrong. IsFirstWithout 1 (lines text) wrong)) is (it.text text))

  another_line : (text : List ℕ) (wrong : ℕ) → assembled_of text ≡ Err wrong → (IsFirstWithout 1 (lines text) wrong → ⊥) → ⊥
  another_line text wrong is none =
      none (subst (λ (answer : Result (List ℕ) ℕ). MatchResult answer (λ all. IsCodeOfLines (lines text) all)
      (λ wrong. IsFirstWithout 1 (lines text) wrong)) is (it.text text))
