-- Which bytes spell which instruction, and what bytes begin.
use Rattle.std.specs.Prelude.{◌≡◌, ◌≢◌, ℕ, ◌<◌, ◌≤◌, true, List, [], ◌∷◌, ◌++◌, length, All, Contains}
use Rattle.std.specs.List.{list_all}
use Rattle.decode_fields.specs.Prefixes.{is_prefix, prefixes_of}
use Rattle.x86_decode.specs.declared.instruction.Instr.{Instr}
use Rattle.x86_decode.specs.declared.reader.Map.{Map}
use Rattle.x86_decode.specs.declared.reader.Map.TheVariants.{OneByte, TwoByte}
use Rattle.x86_decode.specs.OpcodeTable.{OpcodeRow, rows_at}
use Rattle.x86_decode.specs.Meaning.{instr_of, operand_length, row_stands}

-- each of them is a byte
abbrev pub AreBytes : List ℕ → Type 0
AreBytes bytes = All (λ byte. byte < 256) bytes

-- an opcode of a map: the byte, behind 0F or not
abbrev pub opcode_bytes : Map → ℕ → List ℕ
opcode_bytes OneByte opcode = opcode ∷ []
opcode_bytes TwoByte opcode = 0x0F ∷ (opcode ∷ [])

-- the parts of a spelling: prefix bytes, an opcode of a map, a row of the table, and the bytes behind the opcode
pub record Parts : Type 0 where
  pub front : List ℕ
  pub map : Map
  pub opcode : ℕ
  pub row : OpcodeRow
  pub operands : List ℕ

-- the bytes of these parts
abbrev pub bytes_of : Parts → List ℕ
bytes_of parts = parts.front ++ (opcode_bytes parts.map parts.opcode ++ parts.operands)

-- the parts fit: prefix bytes in front, a row that the table has at the opcode, what the row asks for, and as many
-- bytes behind the opcode as the row needs
pub record Fit (parts : Parts) : Type 0 where
  pub prefixes : list_all is_prefix parts.front ≡ true
  pub listed : Contains (rows_at parts.map parts.opcode) parts.row
  pub stands : row_stands parts.row (prefixes_of parts.front) parts.operands ≡ true
  pub whole : length parts.operands ≡ operand_length parts.row.shape (prefixes_of parts.front) parts.operands

-- the bytes spell the instruction: they are those of parts that fit, and the instruction is what the parts say; a
-- spelling has any number of prefix bytes
pub record Spells (instr : Instr) (bytes : List ℕ) : Type 0 where
  pub parts : Parts
  pub fit : Fit parts
  pub spelled : bytes ≡ bytes_of parts
  pub are_bytes : AreBytes bytes
  pub meaning : instr ≡ instr_of parts.row.op parts.row.shape (prefixes_of parts.front) parts.opcode parts.operands

-- a lawful spelling has at most 15 bytes (SDM volume 2, 2.3.11)
pub record IsLawful (instr : Instr) (bytes : List ℕ) : Type 0 where
  pub spells : Spells instr bytes
  pub few : length bytes ≤ 15

-- the bytes are cut off: a spelling begins with them and goes on
pub record IsCutOff (bytes : List ℕ) : Type 0 where
  pub more : List ℕ
  pub some : more ≢ []
  pub instr : Instr
  pub spells : Spells instr (bytes ++ more)

-- of two spellings of which one begins the other
pub record SameSpelling (instr other : Instr) (more : List ℕ) : Type 0 where
  pub none_more : more ≡ []
  pub same : instr ≡ other
