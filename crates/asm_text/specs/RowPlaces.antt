-- The rows of the table of opcodes by places, eight for each opcode of both maps; and an index of them by operation.
use Rattle.std.specs.Prelude.{◌≡◌, ℕ, ◌+◌, ◌/◌, ◌%◌, ◌<◌, ◌≤◌, ◌==◌, Bool, true, false, ◌||◌, nat_lt, if◌then◌else◌, Option, Some, None, List, slice_index, slice_index_or}
use Rattle.std.specs.List.{flat_map, range_with_len}
use Rattle.x86_decode.specs.declared.instruction.Instr.{Instr}
use Rattle.x86_decode.specs.declared.reader.Map.{Map}
use Rattle.x86_decode.specs.declared.reader.Map.TheVariants.{OneByte, TwoByte}
use Rattle.x86_decode.specs.declared.row_list.TableRow.{TableRow}
use Rattle.x86_decode.specs.declared.shape.Operand.{Operand}
use Rattle.x86_decode.specs.declared.shape.Operand.TheVariants.{Zb, Zv}
use Rattle.x86_decode.specs.Grid.{entry_at}
use Rattle.x86_decode.specs.RowList.{entry_row, places_of}
use Rattle.asm_text.specs.declared.operation.TheConstants.{NUMBERS}
use Rattle.asm_text.specs.declared.row_index.RowIndex.{RowIndex}
use Rattle.asm_text.specs.Candidates.{by_place_row}
use Rattle.asm_text.specs.Operations.{number_of_operation}

-- map and opcode of a place
unfoldable pub map_at : ℕ → Map
map_at place = if nat_lt place 2048 then OneByte else TwoByte

unfoldable pub opcode_at : ℕ → ℕ
opcode_at place = place / 8 % 256

-- the row that stands at a place
unfoldable pub table_row : ℕ → Option TableRow
table_row place =
    if nat_lt (place % 8) (places_of (entry_at (map_at place) (opcode_at place)))
    then entry_row (entry_at (map_at place) (opcode_at place)) (place % 8)
    else None

-- what is tried of a place, and of all before one
unfoldable pub by_row_place : Instr → ℕ → List (List ℕ)
by_row_place instr place = by_place_row instr (map_at place) (opcode_at place) (table_row place)

unfoldable pub by_places : Instr → ℕ → List (List ℕ)
by_places instr count = flat_map (by_row_place instr) (range_with_len 0 count)

-- a row whose operation has this number
abbrev pub has_number : Option TableRow → ℕ → Bool
has_number None number = false
has_number (Some row) number = number_of_operation row.op == number

-- a register by the low bits of the opcode
abbrev pub is_by_opcode : Operand → Bool
is_by_opcode Zb = true
is_by_opcode Zv = true
is_by_opcode _ = false

abbrev pub has_register : Option TableRow → Bool
has_register None = false
has_register (Some row) = is_by_opcode row.shape.to || is_by_opcode row.shape.from

-- from a place on, the first row with this number is there; or none is, and the place is the end
pub record IsNext (number from next : ℕ) : Type 0 where
  pub after : from ≤ next
  pub within : next ≤ 4096
  pub there : next < 4096 → has_number (table_row next) number ≡ true
  pub none : (place : ℕ) → from ≤ place → place < next → has_number (table_row place) number ≡ false

-- the index is right for the rows from a place on
pub record IsIndexFrom (from : ℕ) (index : RowIndex) : Type 0 where
  pub first : (number : ℕ) → number < NUMBERS → IsNext number from (slice_index index.first number)
  pub next : (place number : ℕ) → from ≤ place → place < 4096 → has_number (table_row place) number ≡ true
      → IsNext number (place + 1) (slice_index index.next place)
  pub by_opcode : (place : ℕ) → place < 4096 → slice_index_or index.by_opcode place false ≡ true
      → has_register (table_row place) ≡ true
