-- Each row of the table is among the rows that are listed by places.
use Rattle.std.specs.Prelude.{◌≡◌, ℕ, ◌<◌, Option, Some, None, Contains}
use Rattle.x86_decode.specs.declared.reader.Map.{Map}
use Rattle.x86_decode.specs.declared.row_list.TableRow.{TableRow}
use Rattle.x86_decode.specs.Grid.{entry_at}
use Rattle.x86_decode.specs.OpcodeTable.{OpcodeRow, When, Always, Digit, AtSize, AtRexB, rows_at}
use Rattle.x86_decode.specs.RowList.{places_of, entry_row}

-- what a row asks of reg
abbrev pub digit_of : When → Option ℕ
digit_of Always = None
digit_of (Digit number) = Some number
digit_of (AtSize size) = None
digit_of (AtRexB bit) = None

abbrev pub as_table_row : OpcodeRow → TableRow
as_table_row row = record { op = row.op; shape = row.shape; digit = digit_of row.when }

-- the row stands at a place of its opcode, one of eight
pub record HasPlace (map : Map) (opcode : ℕ) (row : OpcodeRow) : Type 0 where
  pub place : ℕ
  pub within : place < places_of (entry_at map opcode)
  pub small : place < 8
  pub is : entry_row (entry_at map opcode) place ≡ Some (as_table_row row)

pub record RowListLaws : Type 0 where
  pub placed : (map : Map) (opcode : ℕ) (row : OpcodeRow) → opcode < 256
      → Contains (rows_at map opcode) row → HasPlace map opcode row
