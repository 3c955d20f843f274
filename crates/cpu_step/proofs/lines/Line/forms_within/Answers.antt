use Rattle.std.proofs.Common.{◌<◌, ◌≤◌, arith, subst, sym}
use Rattle.cpu_step.proofs.LineForms.{first_forms}
use Rattle.cpu_step.proofs.lines.Line.forms_within.Goals as goal
use Rattle.cpu_step.proofs.lines.Line.forms_within.Goals.{then-self-most, else-self-most}

pub returns-clause-row : goal.returns-clause-row
returns-clause-row c =
    first_forms c.args.self.now.at c.if-self-most.count c.args.self.now.count c.args.self.now.forms c.requires.row
    (elim c.if-self-most.branch [
      | then-self-most w ↦ omega (arith, w.count-is)
      | else-self-most w ↦ omega (arith, w.count-is, w.if-self-most.false)
    ])
