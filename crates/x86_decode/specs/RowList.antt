-- The rows of an opcode as a list of at most eight places.
use Rattle.std.specs.Prelude.{ℕ, Option, Some, None, slice_index_or}
use Rattle.x86_decode.specs.declared.entry.OpcodeEntry.{OpcodeEntry}
use Rattle.x86_decode.specs.declared.entry.OpcodeEntry.TheVariants.{Absent, One, Many}
use Rattle.x86_decode.specs.declared.entry.Selector.{Selector}
use Rattle.x86_decode.specs.declared.entry.Selector.TheVariants.{Digit, RexB, Size}
use Rattle.x86_decode.specs.declared.entry.Slot.{Slot}
use Rattle.x86_decode.specs.declared.entry.Slot.TheVariants.{Empty, Row}
use Rattle.x86_decode.specs.declared.row_list.TableRow.{TableRow}
use Rattle.x86_decode.specs.Grid.{slots_from}

-- how many places the rows have
abbrev pub places_of : OpcodeEntry → ℕ
places_of Absent = 0
places_of (One op shape) = 1
places_of (Many by first) = 8

-- what reg of ModRM has to be, where it tells rows apart
abbrev pub digit_by : Selector → ℕ → Option ℕ
digit_by Digit place = Some place
digit_by Size place = None
digit_by RexB place = None

abbrev pub slot_row : Selector → ℕ → Slot → Option TableRow
slot_row by place Empty = None
slot_row by place (Row op shape) = Some (record { op = op; shape = shape; digit = digit_by by place })

-- the row at a place; an only row stands at each
abbrev pub entry_row : OpcodeEntry → ℕ → Option TableRow
entry_row Absent place = None
entry_row (One op shape) place = Some (record { op = op; shape = shape; digit = None })
entry_row (Many by first) place = slot_row by place (slice_index_or (slots_from first) place Empty)
