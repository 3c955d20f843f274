use Rattle.std.proofs.Common.{◌==◌, not}
use Rattle.std.proofs.lemmas.Result.{on_ok_weaker}
use Rattle.step_trace.specs.StepChanges.{Flags, cleared, flag_changes, named_flags, where_so}
use Rattle.step_trace.proofs.ChangeTexts.{then_changes}
use Rattle.step_trace.proofs.registers.put_flags.Goals as goal

pub returns : goal.returns
returns c =
    on_ok_weaker c.put_word.result
    (then_changes c.args.line.now.items c.put_named_flags.new.line.items c.put_word.new.line.items
    (flag_changes named_flags c.args.before c.args.after)
    (where_so (not (cleared named_flags c.args.before == cleared named_flags c.args.after)) (Flags c.args.after))
    c.in_ok-put_named_flags.ensures)
    c.put_word.ensures
