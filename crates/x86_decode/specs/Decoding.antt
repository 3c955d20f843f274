-- What the answer of a decoding says of the bytes, and where a load of a protected register has its protected encoding.
use Rattle.std.specs.Prelude.{◌≡◌, ℕ, ◌<◌, ◌≤◌, true, ⊤, List, length, take, slice_get}
use Rattle.decode_fields.specs.Prefixes.{prefix_bytes}
use Rattle.decode_fields.specs.Protected.{is_protected_at}
use Rattle.x86_decode.specs.declared.instruction.Instr.{Instr}
use Rattle.x86_decode.specs.declared.instruction.Decoded.{Decoded}
use Rattle.x86_decode.specs.declared.instruction.Decoded.TheVariants.{Whole, Short, TooLong, Unknown}
use Rattle.x86_decode.specs.Spelling.{IsCutOff, IsLawful}

-- the first bytes, this many, are a lawful spelling of the instruction
pub record IsFront (instr : Instr) (bytes : List ℕ) (size : ℕ) : Type 0 where
  pub within : size ≤ length bytes
  pub lawful : IsLawful instr (take size bytes)

-- no lawful spelling is in front, and the bytes begin no spelling
pub record IsUnknown (bytes : List ℕ) : Type 0 where
  pub no_front : (instr : Instr) (size : ℕ) → IsFront instr bytes size → ⊥
  pub no_cut : IsCutOff bytes → ⊥

-- an answer is right
abbrev pub Decodes : List ℕ → Decoded → Type 0
Decodes bytes (Whole instr size) = IsFront instr bytes size
Decodes bytes Short = IsCutOff bytes × (length bytes < 15)
Decodes bytes TooLong = IsCutOff bytes × (15 ≤ length bytes)
Decodes bytes Unknown = IsUnknown bytes

-- a fact of the instruction, where there is one
abbrev pub IfWhole : Decoded → (Instr → ℕ → Type 0) → Type 0
IfWhole (Whole instr size) P = P instr size
IfWhole Short P = ⊤
IfWhole TooLong P = ⊤
IfWhole Unknown P = ⊤

-- a protected encoding stands right behind the prefix bytes
abbrev pub BeginsProtected : List ℕ → Type 0
BeginsProtected bytes = is_protected_at (slice_get bytes) (length (prefix_bytes bytes)) ≡ true
