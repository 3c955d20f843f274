use Rattle.std.proofs.lemmas.Result.{on_ok_weaker}
use Rattle.step_trace.specs.StepChanges.{drops, fills}
use Rattle.step_trace.proofs.ChangeTexts.{then_changes}
use Rattle.step_trace.proofs.kept.put_pairs.Goals as goal

pub returns : goal.returns
returns c =
    on_ok_weaker c.put_drops.result
    (then_changes c.args.line.now.items c.put_fills.new.line.items c.put_drops.new.line.items
    (fills c.args.before.now c.args.after.now) (drops c.args.before.now c.args.after.now) c.in_ok-put_fills.ensures)
    c.put_drops.ensures
