-- Each row of the table stands at a place of its opcode's entry.
use Rattle.std.proofs.Common.{◌≡◌, ℕ, ◌<◌, ◌+◌, Some, Option, refl, ap, sym, ◌∙◌, arith, inl, inr}
use Rattle.std.specs.Prelude.{Contains}
use Rattle.x86_decode.specs.declared.entry.OpcodeEntry.{OpcodeEntry}
use Rattle.x86_decode.specs.declared.entry.OpcodeEntry.TheVariants as entry
use Rattle.x86_decode.specs.declared.entry.Selector.{Selector}
use Rattle.x86_decode.specs.declared.entry.Selector.TheVariants as selector
use Rattle.x86_decode.specs.declared.reader.Map.{Map}
use Rattle.x86_decode.specs.declared.row_list.TableRow.{TableRow}
use Rattle.x86_decode.specs.Grid.{entry_at, entry_rows, slots_from, when_at}
use Rattle.x86_decode.specs.OpcodeTable.{OpcodeRow, rows_at}
use Rattle.x86_decode.specs.RowList.{digit_by, places_of, entry_row, slot_row}
use Rattle.x86_decode.specs.RowListLaws.{HasPlace, as_table_row, digit_of}
use Rattle.x86_decode.proofs.Examples.{place_small}
use Rattle.x86_decode.proofs.RowReading.{listed_in}
use Rattle.x86_decode.proofs.Rows.{At, IsIn, in_group}

-- what an entry has at a place
record Placed (it : OpcodeEntry) (row : OpcodeRow) : Type 0 where
  place : ℕ
  within : place < places_of it
  small : place < 8
  is : entry_row it place ≡ Some (as_table_row row)

digit_when : (by : Selector) (place : ℕ) → digit_of (when_at by place) ≡ digit_by by place
digit_when selector.Digit place = refl
digit_when selector.Size place = refl
digit_when selector.RexB place = refl

placed : (it : OpcodeEntry) (row : OpcodeRow) → IsIn row (entry_rows it) → Placed it row
placed entry.Absent row h = absurd h
placed (entry.One op shape) row (inl is) =
    record { place = 0; within = omega arith; small = omega arith; is = ap (λ r. Some (as_table_row r)) is }
placed (entry.One op shape) row (inr h) = absurd h
placed (entry.Many by first) row h =
    let at : At row by 0 (slots_from first) = in_group by 0 (slots_from first) row h in
    let small : at.further < 8 = place_small first at.further row.op row.shape at.slot in
    let same : 0 + at.further ≡ at.further = omega arith in
    let digit : digit_by by at.further ≡ digit_of row.when =
    sym (digit_when by at.further) ∙ ap digit_of (sym (at.when ∙ ap (when_at by) same)) in
    let one : Option ℕ → Option TableRow = λ d. Some (record { op = row.op; shape = row.shape; digit = d }) in
    record {
      place = at.further;
      within = small;
      small = small;
      is = ap (slot_row by at.further) at.slot ∙ ap one digit;
    }

pub row_placed : (map : Map) (opcode : ℕ) (row : OpcodeRow) → opcode < 256 → Contains (rows_at map opcode) row → HasPlace map opcode row
row_placed map opcode row byte listed =
    let p : Placed (entry_at map opcode) row = placed (entry_at map opcode) row (listed_in map opcode row byte listed) in
    record { place = p.place; within = p.within; small = p.small; is = p.is }
