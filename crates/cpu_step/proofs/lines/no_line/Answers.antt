use Rattle.std.proofs.Common.{refl}
use Rattle.cpu_step.proofs.LineForms.{bare_line}
use Rattle.cpu_step.proofs.lines.no_line.Goals as goal

pub returns : goal.returns
returns c = bare_line _ c.no_forms-forms.ensures.length c.no_forms-forms.ensures.forms refl refl refl
