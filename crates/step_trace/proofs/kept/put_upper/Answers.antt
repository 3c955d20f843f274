use Rattle.std.proofs.lemmas.Result.{on_ok_weaker}
use Rattle.step_trace.specs.StepChanges.{forgets, keeps}
use Rattle.step_trace.proofs.ChangeTexts.{then_changes}
use Rattle.step_trace.proofs.kept.put_upper.Goals as goal

pub returns : goal.returns
returns c =
    on_ok_weaker c.put_forgets.result
    (then_changes c.args.line.now.items c.put_keeps.new.line.items c.put_forgets.new.line.items
    (keeps c.args.before.now c.args.after.now) (forgets c.args.before.now c.args.after.now) c.in_ok-put_keeps.ensures)
    c.put_forgets.ensures
