use Rattle.std.proofs.Common.{rules}
use Rattle.std.specs.Fmt.{digits}
use Rattle.nk_run.specs.Lines.{plan_line}
use Rattle.nk_run.proofs.lines.plan_line.Goals as goal

pub returns : goal.returns
unfolding plan_line digits
returns c = search rules
