use Rattle.x86_decode.proofs.RowPlaces.{row_placed}
use Rattle.x86_decode.proofs.row_list.rows_law.Goals as goal

pub returns : goal.returns
returns c = record { placed = λ map opcode row byte listed. row_placed map opcode row byte listed }
