use Rattle.std.proofs.Common.{◌≡◌, ◌-◌, ◌≤◌, ◌<◌, [], true}
use Rattle.asm_text.specs.Candidates.{best_of}
use Rattle.asm_text.specs.Operations.{number_of_operation}
use Rattle.asm_text.specs.RowPlaces.{by_places, has_number, table_row}
use Rattle.asm_text.proofs.search.find_best.Given as goal

-- the best of what stands before the place, where a row of the operation stands, unless it is the end
abbrev pub invariant-loop-place : goal.invariant-loop-place
invariant-loop-place l = record {
  so_far : l.best.items ≡ best_of l.instr [] (by_places l.instr l.place);
  within : l.place ≤ 4096;
  there : l.place < 4096 → has_number (table_row l.place) (number_of_operation l.instr.op) ≡ true;
}

abbrev pub decreases-loop-place : goal.decreases-loop-place
decreases-loop-place l = 4096 - l.place
