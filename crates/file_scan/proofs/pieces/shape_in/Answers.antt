use Rattle.file_scan.proofs.HeaderPieces.{head_read}
use Rattle.file_scan.proofs.pieces.shape_in.Goals as goal

pub returns-in-Ok-clause-shape : goal.returns-in-Ok-clause-shape
returns-in-Ok-clause-shape g c = λ b held.
    let sized = c.requires.size b held in
    c.in-Ok.ensures b sized (head_read c.args.size _ _ b sized c.requires.head (c.in_default.ensures.piece b held))

pub returns-in-Err-judge_head-clause-shape : goal.returns-in-Err-judge_head-clause-shape
returns-in-Err-judge_head-clause-shape g c = λ b held.
    let sized = c.requires.size b held in
    c.in-Err-judge_head.ensures b sized (head_read c.args.size _ _ b sized c.requires.head (c.in_default.ensures.piece b held))
