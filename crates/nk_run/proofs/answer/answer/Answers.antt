use Rattle.std.proofs.Common.{Some, ap, refl, sym, ◌∙◌}
use Rattle.command_words.specs.declared.command_line.Command.{Command}
use Rattle.nk_run.proofs.answer.answer.Goals as goal

pub returns-in-Some-Make-clause-answered : goal.returns-in-Some-Make-clause-answered
returns-in-Some-Make-clause-answered g c =
    c.make.ensures c.args.request.now _
    (sym c.in-Some-Make.ensures.command ∙ ap (λ (it : Command). Some it) c.in-Some-Make.field-0-is) refl

pub returns-in-Some-Work-clause-answered : goal.returns-in-Some-Work-clause-answered
returns-in-Some-Work-clause-answered g c =
    c.work.ensures c.args.request.now _
    (sym c.in-Some-Work.ensures.command ∙ ap (λ (it : Command). Some it) c.in-Some-Work.field-0-is) refl
