-- The rows of the code's opcode maps, beside those of the table.
use Rattle.std.specs.Prelude.{ℕ, zero, suc, ◌+◌, List, [], ◌∷◌, take, drop, slice_index_or}
use Rattle.x86_decode.specs.declared.one_byte.TheConstants.{ONE_BYTE}
use Rattle.x86_decode.specs.declared.two_byte.TheConstants.{TWO_BYTE}
use Rattle.x86_decode.specs.declared.entry.TheConstants.{GROUPS}
use Rattle.x86_decode.specs.declared.entry.OpcodeEntry.{OpcodeEntry}
use Rattle.x86_decode.specs.declared.entry.OpcodeEntry.TheVariants.{Absent, One, Many}
use Rattle.x86_decode.specs.declared.entry.Slot.{Slot}
use Rattle.x86_decode.specs.declared.entry.Slot.TheVariants as slot
use Rattle.x86_decode.specs.declared.entry.Selector.{Selector}
use Rattle.x86_decode.specs.declared.entry.Selector.TheVariants as selector
use Rattle.x86_decode.specs.declared.reader.Map.{Map}
use Rattle.x86_decode.specs.declared.reader.Map.TheVariants.{OneByte, TwoByte}
use Rattle.x86_decode.specs.OpcodeTable.{OpcodeRow, When, Always, Digit, AtSize, AtRexB}

unfoldable pub entry_at : Map → ℕ → OpcodeEntry
entry_at OneByte opcode = slice_index_or ONE_BYTE opcode Absent
entry_at TwoByte opcode = slice_index_or TWO_BYTE opcode Absent

-- the operand sizes in the order of a group
abbrev pub size_at : ℕ → ℕ
size_at zero = 16
size_at (suc zero) = 32
size_at (suc (suc zero)) = 64
size_at (suc (suc (suc n))) = 0

-- when the row at a place of a group stands
abbrev pub when_at : Selector → ℕ → When
when_at selector.Digit place = Digit place
when_at selector.Size place = AtSize (size_at place)
when_at selector.RexB place = AtRexB place

-- the rows of a group, from a place on
abbrev pub group_rows : Selector → ℕ → List Slot → List OpcodeRow
group_rows by place [] = []
group_rows by place (slot.Empty ∷ slots) = group_rows by (place + 1) slots
group_rows by place (slot.Row op shape ∷ slots) = record { when = when_at by place; op = op; shape = shape } ∷ group_rows by (place + 1) slots

-- the eight places of a group
unfoldable pub slots_from : ℕ → List Slot
slots_from first = take 8 (drop first GROUPS)

-- the rows of an entry
abbrev pub entry_rows : OpcodeEntry → List OpcodeRow
entry_rows Absent = []
entry_rows (One op shape) = record { when = Always; op = op; shape = shape } ∷ []
entry_rows (Many by first) = group_rows by 0 (slots_from first)
