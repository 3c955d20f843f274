use Rattle.cpu_step.proofs.LineForms.{form_in}
use Rattle.cpu_step.proofs.lines.form_at.Goals as goal

pub returns-clause-form : goal.returns-clause-form
returns-clause-form c =
    form_in c.args.code.now c.args.at c.quick_by-quick.result c.decode.result c.told-code c.requires.within
    c.decode.ensures.value c.quick_by-quick.ensures.ready c.quick_by-quick.ensures.register c.quick_by-quick.ensures.stands
