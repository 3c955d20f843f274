use Rattle.std.proofs.Common.{rules}
use Rattle.std.specs.Fmt.{digits}
use Rattle.nk_run.specs.Lines.{longer_line}
use Rattle.nk_run.proofs.lines.longer_line.Goals as goal

pub returns-in-Image : goal.returns-in-Image
unfolding longer_line digits
returns-in-Image c = search rules

pub returns-in-Input : goal.returns-in-Input
unfolding longer_line digits
returns-in-Input c = search rules

pub returns-in-Plan : goal.returns-in-Plan
unfolding longer_line digits
returns-in-Plan c = search rules

pub returns-in-Journal : goal.returns-in-Journal
unfolding longer_line digits
returns-in-Journal c = search rules

pub returns-in-ModuleList : goal.returns-in-ModuleList
unfolding longer_line digits
returns-in-ModuleList c = search rules

pub returns-in-Module : goal.returns-in-Module
unfolding longer_line digits
returns-in-Module c = search rules

pub returns-in-Text : goal.returns-in-Text
unfolding longer_line digits
returns-in-Text c = search rules
