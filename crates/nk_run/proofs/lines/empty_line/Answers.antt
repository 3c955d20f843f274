use Rattle.std.proofs.Common.{rules}
use Rattle.std.specs.Fmt.{digits}
use Rattle.nk_run.specs.Lines.{empty_line}
use Rattle.nk_run.proofs.lines.empty_line.Goals as goal

pub returns : goal.returns
unfolding empty_line digits
returns c = search rules
