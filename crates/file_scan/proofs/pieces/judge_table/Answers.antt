use Rattle.file_scan.proofs.HeaderPieces.{headers_within}
use Rattle.file_scan.proofs.pieces.judge_table.Goals as goal

pub returns : goal.returns
returns c = λ b shaped is. headers_within b shaped.within c.headers.result (c.headers_law.ensures.table b c.args.table.now c.args.shape c.headers.result shaped.shape_is is c.headers.ensures)
