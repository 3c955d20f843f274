use Rattle.std.proofs.Common.{◌-◌}
use Rattle.asm_text.specs.RowPlaces.{IsIndexFrom}
use Rattle.asm_text.proofs.row_index.row_index.Given as goal

-- the index is right for the rows that were put
abbrev pub invariant-loop-i : goal.invariant-loop-i
invariant-loop-i l = IsIndexFrom (4096 - l.i) l.index
