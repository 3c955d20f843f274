use Rattle.std.proofs.Common.{sym}
use Rattle.text_lines.proofs.CutLemmas.{cut_at_first, nowhere}
use Rattle.text_lines.proofs.cut.cut_at.Goals as goal

pub returns-in-Some : goal.returns-in-Some
returns-in-Some c =
    cut_at_first _ _ _ _ _ (sym c.in-Some.ensures) c.split_at.ensures.front c.split_at-in-Some.ensures.back

pub returns-in-None : goal.returns-in-None
returns-in-None c = nowhere _ _ (sym c.in-None.ensures)
