-- The listing of an image's code: a line for each instruction from an address on, and for each byte that begins none.
use Rattle.std.specs.Prelude.{ℕ, ◌+◌, ◌==◌, zero, suc, if◌then◌else◌, List, [], ◌∷◌, ◌++◌, length, take, codes, Option, None, Some}
use Rattle.hex.specs.Hex.{encode_lower}
use Rattle.byte_scanner.specs.ImageCode.{code_at}
use Rattle.x86_decode.specs.declared.instruction.Decoded.{Decoded}
use Rattle.x86_decode.specs.declared.instruction.Decoded.TheVariants.{Whole, Short, TooLong, Unknown}
use Rattle.x86_decode.specs.Reader.{decoded_of}
use Rattle.asm_text.specs.InstructionTexts.{instr_text}
use Rattle.report_text.specs.RunLines.{hex_16}

-- a byte of code before those behind it: where none stands, the run ends
abbrev pub byte_before : Option ℕ → List ℕ → List ℕ
byte_before None behind = []
byte_before (Some byte) behind = byte ∷ behind

-- the code in turn from an address on, at most so many bytes, up to the end of its run
unfoldable pub code_run : List ℕ → ℕ → ℕ → List ℕ
code_run b at zero = []
code_run b at (suc most) = byte_before (code_at b at) (code_run b (at + 1) most)

-- an address, the bytes that stand there, and what they are
unfoldable pub code_line : ℕ → List ℕ → List ℕ → List ℕ
code_line at bytes text =
    hex_16 at ++ (codes " " ++ (encode_lower bytes ++ (codes " " ++ (text ++ codes "\n"))))

-- the line of what a decoding finds in front of these bytes: an instruction, or a byte that begins none
abbrev pub found_line : ℕ → List ℕ → Decoded → List ℕ
found_line at bytes (Whole instr size) = code_line at (take size bytes) (instr_text instr)
found_line at bytes Short = code_line at (take 1 bytes) (codes "?")
found_line at bytes TooLong = code_line at (take 1 bytes) (codes "?")
found_line at bytes Unknown = code_line at (take 1 bytes) (codes "?")

-- and how many bytes that are
abbrev pub found_size : Decoded → ℕ
found_size (Whole instr size) = size
found_size Short = 1
found_size TooLong = 1
found_size Unknown = 1

-- at most so many lines, from an address on up to the end of its run; an instruction has at most fifteen bytes
unfoldable pub code_listing : List ℕ → ℕ → ℕ → List ℕ
code_listing b at zero = []
code_listing b at (suc count) =
    let bytes = code_run b at 15 in
    if length bytes == 0 then []
    else found_line at bytes (decoded_of bytes) ++ code_listing b (at + found_size (decoded_of bytes)) count
