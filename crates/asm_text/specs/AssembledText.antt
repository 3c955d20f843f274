-- The code of a text of lines, each of them the text of an instruction: the first of all strings of bytes that spell it.
use Rattle.std.specs.Prelude.{◌≡◌, ℕ, ◌+◌, ◌==◌, zero, suc, ⊤, Bool, false, ◌&&◌, List, [], ◌∷◌, ◌++◌, length, map, find, Option, None, Some, Result, Ok, Err}
use Rattle.std.specs.List.{flat_map, range_with_len}
use Rattle.std.specs.Str.{bytes_eq}
use Rattle.text_lines.specs.TextLines.{lines}
use Rattle.x86_decode.specs.declared.instruction.Decoded.{Decoded}
use Rattle.x86_decode.specs.declared.instruction.Decoded.TheVariants.{Whole, Short, TooLong, Unknown}
use Rattle.x86_decode.specs.Reader.{decoded_of}
use Rattle.asm_text.specs.declared.assembling.TextFault.{TextFault}
use Rattle.asm_text.specs.declared.assembling.TextFault.TheVariants.{Line, Memory}
use Rattle.asm_text.specs.InstructionTexts.{instr_text}

-- what a decoding finds is an instruction of just so many bytes, and the line is its text
abbrev pub finds_text : List ℕ → ℕ → Decoded → Bool
finds_text line count (Whole instr size) = size == count && bytes_eq (instr_text instr) line
finds_text line count Short = false
finds_text line count TooLong = false
finds_text line count Unknown = false

-- the bytes spell an instruction whose text the line is
abbrev pub is_spelled_line : List ℕ → List ℕ → Bool
is_spelled_line line bytes = finds_text line (length bytes) (decoded_of bytes)

-- all strings of so many bytes, in ascending order
unfoldable pub byte_strings : ℕ → List (List ℕ)
byte_strings zero = [] ∷ []
byte_strings (suc count) =
    flat_map (λ byte. map (λ rest. byte ∷ rest) (byte_strings count)) (range_with_len 0 256)

-- those of at most fifteen bytes, the shorter ones first
unfoldable pub short_strings : List (List ℕ)
short_strings = flat_map byte_strings (range_with_len 0 16)

-- the code of a line: the first of them that spells an instruction whose text it is
unfoldable pub line_code : List ℕ → Option (List ℕ)
line_code line = find (is_spelled_line line) short_strings

-- the bytes of a line before those of the later lines
abbrev pub code_before : List ℕ → Result (List ℕ) ℕ → Result (List ℕ) ℕ
code_before bytes (Ok later) = Ok (bytes ++ later)
code_before bytes (Err number) = Err number

-- what a line, where it has bytes, and the later ones make
abbrev pub code_then : ℕ → Option (List ℕ) → Result (List ℕ) ℕ → Result (List ℕ) ℕ
code_then number None later = Err number
code_then number (Some bytes) later = code_before bytes later

-- the bytes of these lines, the first of which has this number; or the number of the first that has none
unfoldable pub code_from : ℕ → List (List ℕ) → Result (List ℕ) ℕ
code_from number [] = Ok []
code_from number (line ∷ later) = code_then number (line_code line) (code_from (number + 1) later)

-- the bytes of a text; or the number, from 1 on, of its first line that has none
abbrev pub assembled_of : List ℕ → Result (List ℕ) ℕ
assembled_of text = code_from 1 (lines text)

-- a text may fail to be assembled so: want of memory is free
abbrev pub IsTextFault : List ℕ → TextFault → Type 0
IsTextFault text (Line number) = assembled_of text ≡ Err number
IsTextFault text Memory = ⊤
