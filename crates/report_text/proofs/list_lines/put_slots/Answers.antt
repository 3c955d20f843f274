use Rattle.std.proofs.Common.{arith, subst}
use Rattle.std.specs.Io.KnownBytes.{Appends}
use Rattle.nk_host.specs.Taken.{AppendsPrefix}
use Rattle.proc_audit.specs.ProcessList.{slot_count}
use Rattle.report_text.proofs.AuditParts.{same_change}
use Rattle.report_text.proofs.ListedLines.{lines_begin, lines_ended, lines_go_on, lines_were_cut}
use Rattle.report_text.proofs.Texts.{later_cut, whole_put}
use Rattle.report_text.proofs.Known.{on_ok}
use Rattle.report_text.proofs.list_lines.put_slots.Goals as goal

pub loop-slot-init : goal.loop-slot-init
loop-slot-init g c =
    lines_begin g.O.Sink.taken g.O.Sink.faults c.args.sink.now c.args.sink.now _ (slot_count c.args.before.now)

pub returns-in-Err : goal.returns-in-Err
returns-in-Err g c =
    let here = subst (AppendsPrefix (g.O.Sink.taken c.loop-slot.sink) (g.O.Sink.taken c.put_slot.new.sink))
    (same_change c.args.number c.loop-slot.slot _ _ c.args.before.now c.args.after.now c.hidden-old.ensures c.hidden-new.ensures)
    c.in-Err.ensures.some in
    later_cut g.O.Sink.taken g.O.Sink.faults _ _ _ _ _ c.loop-slot.invariant.never_fell c.in-Err.ensures
    (lines_were_cut g.O.Sink.taken g.O.Sink.faults _ _ _ _ _ _ c.loop-slot.invariant c.put_slot.new.sink (omega arith)
    here)

pub loop-slot-preserved : goal.loop-slot-preserved
loop-slot-preserved g c =
    let here = subst (Appends (g.O.Sink.taken c.loop-slot.sink) (g.O.Sink.taken c.put_slot.new.sink))
    (same_change c.args.number c.loop-slot.slot _ _ c.args.before.now c.args.after.now c.hidden-old.ensures c.hidden-new.ensures)
    (on_ok c.in_default.is c.put_slot.ensures.all) in
    lines_go_on g.O.Sink.taken g.O.Sink.faults _ _ _ _ _ _ c.loop-slot.invariant c.put_slot.new.sink (omega arith) here
    c.put_slot.ensures.never_falls

pub returns : goal.returns
returns g c =
    whole_put g.O.Sink.taken g.O.Sink.faults _ _ _ c.loop-slot.invariant.never_fell
    (lines_ended g.O.Sink.taken g.O.Sink.faults _ _ _ _ _ _ c.loop-slot.invariant (omega arith))
