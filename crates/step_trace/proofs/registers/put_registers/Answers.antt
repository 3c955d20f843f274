use Rattle.std.proofs.Common.{◌==◌, not, ◌++◌}
use Rattle.std.proofs.lemmas.Result.{on_ok_weaker}
use Rattle.step_trace.specs.StepChanges.{Flags, Privilege, Stack, cleared, flag_changes, general_changes, named_flags, where_so}
use Rattle.step_trace.proofs.ChangeTexts.{three_changes}
use Rattle.step_trace.proofs.registers.put_registers.Goals as goal

pub returns : goal.returns
returns c =
    let before = c.args.before.now in
    let after = c.args.after.now in
    on_ok_weaker c.put_privilege.result
    (three_changes c.args.line.now.items c.put_general.new.line.items c.put_flags.new.line.items
    c.put_privilege.new.line.items
    (general_changes 0 before.general after.general)
    (flag_changes named_flags before.flags after.flags)
    (where_so (not (cleared named_flags before.flags == cleared named_flags after.flags)) (Flags after.flags))
    (where_so (not (before.cpl == after.cpl)) (Privilege after.cpl)
    ++ where_so (not (before.ss == after.ss)) (Stack after.ss))
    c.in_ok-put_general.ensures c.in_ok-put_flags.ensures)
    c.put_privilege.ensures
