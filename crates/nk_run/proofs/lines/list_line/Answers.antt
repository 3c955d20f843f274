use Rattle.std.proofs.Common.{rules}
use Rattle.std.specs.Fmt.{digits}
use Rattle.nk_run.specs.Lines.{list_line}
use Rattle.nk_run.proofs.lines.list_line.Goals as goal

pub returns : goal.returns
unfolding list_line digits
returns c = search rules
