-- The answer of a decoding as a computation, step by step as the code goes. It is no part of the grammar: a law says
-- that `decoded_of` is the right answer, and the only one.
use Rattle.std.specs.Prelude.{ℕ, ◌+◌, ◌/◌, ◌==◌, Bool, true, false, if◌then◌else◌, nat_lt, Option, Some, None, List, [], ◌∷◌, length, drop, slice_get, slice_index_or}
use Rattle.decode_fields.specs.declared.parts.Prefixes.{Prefixes}
use Rattle.decode_fields.specs.Prefixes.{prefix_bytes, prefixes_of}
use Rattle.decode_fields.specs.ModRm.{reg_field, rex_b}
use Rattle.x86_decode.specs.declared.instruction.Decoded.{Decoded}
use Rattle.x86_decode.specs.declared.instruction.Decoded.TheVariants.{Whole, Short, TooLong, Unknown}
use Rattle.x86_decode.specs.declared.operation.Op.{Op}
use Rattle.x86_decode.specs.declared.shape.Shape.{Shape}
use Rattle.x86_decode.specs.declared.shape.RowLayout.{RowLayout}
use Rattle.x86_decode.specs.declared.shape.RowLayout.TheVariants.{Plain, AnyForm, Memory, Register, Ignored}
use Rattle.x86_decode.specs.declared.entry.OpcodeEntry.{OpcodeEntry}
use Rattle.x86_decode.specs.declared.entry.OpcodeEntry.TheVariants as entry
use Rattle.x86_decode.specs.declared.entry.Slot.{Slot}
use Rattle.x86_decode.specs.declared.entry.Slot.TheVariants as slot
use Rattle.x86_decode.specs.declared.entry.Selector.{Selector}
use Rattle.x86_decode.specs.declared.entry.Selector.TheVariants.{Digit, Size, RexB}
use Rattle.x86_decode.specs.declared.choice.Choice.{Choice}
use Rattle.x86_decode.specs.declared.choice.Choice.TheVariants.{Row, Missing, Absent}
use Rattle.x86_decode.specs.declared.reader.Map.{Map}
use Rattle.x86_decode.specs.declared.reader.Map.TheVariants.{OneByte, TwoByte}
use Rattle.x86_decode.specs.Grid.{entry_at, slots_from}
use Rattle.x86_decode.specs.Meaning.{instr_of, layout_stands, operand_length, operand_size, rex_number}

-- the layout asks for a form of ModRM
abbrev pub asks_form : RowLayout → Bool
asks_form Plain = false
asks_form AnyForm = false
asks_form Memory = true
asks_form Register = true
asks_form Ignored = false

-- a row, once its form of ModRM is looked at
abbrev pub tested : Op → Shape → Option ℕ → Choice
tested op shape None = if asks_form shape.layout then Missing else Row op shape
tested op shape (Some modrm) = if layout_stands shape.layout (modrm ∷ []) then Row op shape else Absent

abbrev pub picked : Slot → Option ℕ → Choice
picked slot.Empty modrm = Absent
picked (slot.Row op shape) modrm = tested op shape modrm

-- the place in a group
abbrev pub place_in_group : Selector → Prefixes → Option ℕ → Option ℕ
place_in_group Digit prefixes None = None
place_in_group Digit prefixes (Some modrm) = Some (reg_field modrm)
place_in_group Size prefixes modrm = Some (operand_size prefixes / 32)
place_in_group RexB prefixes modrm = Some (rex_b (rex_number prefixes))

abbrev pub picked_at : List Slot → Option ℕ → Option ℕ → Choice
picked_at slots None modrm = Missing
picked_at slots (Some place) modrm = picked (slice_index_or slots place slot.Empty) modrm

-- the row that an entry has at these prefixes and this ModRM byte
abbrev pub chosen : OpcodeEntry → Prefixes → Option ℕ → Choice
chosen entry.Absent prefixes modrm = Absent
chosen (entry.One op shape) prefixes modrm = tested op shape modrm
chosen (entry.Many by first) prefixes modrm = picked_at (slots_from first) (place_in_group by prefixes modrm) modrm

-- a row and the bytes behind its opcode, of which there are enough or not; the bytes in front are counted
abbrev pub finished : Op → Shape → Prefixes → ℕ → List ℕ → ℕ → Decoded
finished op shape prefixes opcode operands front =
    if nat_lt (length operands) (operand_length shape prefixes operands) then Short
    else Whole (instr_of op shape prefixes opcode operands) (front + operand_length shape prefixes operands)

abbrev pub read_choice : Choice → Prefixes → ℕ → List ℕ → ℕ → Decoded
read_choice (Row op shape) prefixes opcode operands front = finished op shape prefixes opcode operands front
read_choice Missing prefixes opcode operands front = Short
read_choice Absent prefixes opcode operands front = Unknown

-- an opcode and the bytes behind it
abbrev pub read_row : Map → Prefixes → ℕ → List ℕ → ℕ → Decoded
read_row where_from prefixes opcode operands front =
    read_choice (chosen (entry_at where_from opcode) prefixes (slice_get operands 0)) prefixes opcode operands front

-- what follows 0F
abbrev pub read_escaped : Prefixes → List ℕ → ℕ → Decoded
read_escaped prefixes [] front = Short
read_escaped prefixes (opcode ∷ operands) front = read_row TwoByte prefixes opcode operands (front + 1)

-- what follows the prefix bytes
abbrev pub read_rest : Prefixes → List ℕ → ℕ → Decoded
read_rest prefixes [] front = Short
read_rest prefixes (byte ∷ rest) front =
    if byte == 0x0F then read_escaped prefixes rest (front + 1) else read_row OneByte prefixes byte rest (front + 1)

-- all bytes; cut bytes read as Short, whatever their number
abbrev pub read_of : List ℕ → Decoded
read_of bytes =
    read_rest (prefixes_of (prefix_bytes bytes)) (drop (length (prefix_bytes bytes)) bytes) (length (prefix_bytes bytes))

-- with 15 bytes the answer is that a spelling would be too long
abbrev pub answer_of : Decoded → ℕ → Decoded
answer_of (Whole instr size) length = Whole instr size
answer_of Short length = if nat_lt length 15 then Short else TooLong
answer_of TooLong length = TooLong
answer_of Unknown length = Unknown

-- the answer of a decoding
abbrev pub decoded_of : List ℕ → Decoded
decoded_of bytes = answer_of (read_of bytes) (length bytes)
