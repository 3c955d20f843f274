-- The code of a text is that of its lines, one after another, or the first line without code is told.
use Rattle.std.proofs.Common.{ℕ, ◌+◌, List, [], ◌∷◌, length, Option, None, Some, Result, Ok, Err, MatchOption, inl, inr, refl, sym, subst, arith}
use Rattle.std.specs.Prelude.{MatchResult}
use Rattle.std.proofs.lemmas.List.{take_all}
use Rattle.text_lines.specs.TextLines.{lines}
use Rattle.x86_decode.specs.declared.instruction.Decoded.TheVariants.{Whole}
use Rattle.x86_decode.specs.declared.instruction.Instr.{Instr}
use Rattle.x86_decode.specs.Decoding.{Decodes}
use Rattle.x86_decode.specs.Spelling.{IsLawful}
use Rattle.asm_text.specs.AssembledText.{assembled_of, code_from, code_then, line_code}
use Rattle.asm_text.specs.AssemblyLaws.{HasNoCode, IsCodeOfLines, IsFirstWithout, IsLineCode}

-- a lawful spelling decodes to its instruction, all of it
whole_decodes : (instr : Instr) (bytes : List ℕ) → IsLawful instr bytes → Decodes bytes (Whole instr (length bytes))
whole_decodes instr bytes lawful = record {
  within = omega arith;
  lawful = subst (IsLawful instr) (sym (take_all (length bytes) bytes (omega arith))) lawful;
}

line_before : (line : List ℕ) (later : List (List ℕ)) (number : ℕ) (code : Option (List ℕ))
    → MatchOption code (HasNoCode line) (IsLineCode line) → (rest : Result (List ℕ) ℕ)
    → MatchResult rest (λ code. IsCodeOfLines later code) (λ wrong. IsFirstWithout (number + 1) later wrong)
    → MatchResult (code_then number code rest) (λ code. IsCodeOfLines (line ∷ later) code)
    (λ wrong. IsFirstWithout number (line ∷ later) wrong)
line_before line later number None none rest goes_on = inl (none, refl)
line_before line later number (Some bytes) is (Ok code) goes_on = record {
  bytes = bytes;
  of_line = is;
  decodes = whole_decodes is.instr bytes is.least.lawful;
  rest = code;
  split = refl;
  goes_on = goes_on;
}
line_before line later number (Some bytes) is (Err wrong) goes_on =
    inr (record { bytes = bytes; of_line = is; goes_on = goes_on })

module _ (says : (line : List ℕ) → MatchOption (line_code line) (HasNoCode line) (IsLineCode line)) where
  lines_say : (number : ℕ) (those : List (List ℕ)) → MatchResult (code_from number those)
      (λ code. IsCodeOfLines those code) (λ wrong. IsFirstWithout number those wrong)
  unfolding code_from
  lines_say number [] = refl
  lines_say number (line ∷ later) =
      line_before line later number (line_code line) (says line) (code_from (number + 1) later) (lines_say (number + 1) later)

  pub text_says : (text : List ℕ) → MatchResult (assembled_of text)
      (λ code. IsCodeOfLines (lines text) code) (λ wrong. IsFirstWithout 1 (lines text) wrong)
  text_says text = lines_say 1 (lines text)
