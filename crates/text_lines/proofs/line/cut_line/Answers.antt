use Rattle.text_lines.proofs.LineLemmas.{lines_cut, last_line}
use Rattle.text_lines.proofs.line.cut_line.Goals as goal

pub returns-in-Some-clause-lines : goal.returns-in-Some-clause-lines
returns-in-Some-clause-lines c = lines_cut _ _ _ c.in-Some.ensures

pub returns-in-None-clause-lines : goal.returns-in-None-clause-lines
returns-in-None-clause-lines c =
    last_line _ _ _ c.requires c.in-None.ensures c.split_at.ensures.front c.split_at.ensures.back
