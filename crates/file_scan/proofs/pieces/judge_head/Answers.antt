use Rattle.file_scan.proofs.HeaderPieces.{shape_within}
use Rattle.file_scan.proofs.pieces.judge_head.Goals as goal

pub returns : goal.returns
returns c = λ b sized is. shape_within b sized.within c.new.result (c.headers_law.ensures.head b c.args.head.now c.args.size c.new.result sized.is is c.new.ensures)
