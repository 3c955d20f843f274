use Rattle.std.proofs.Common.{codes, refl}
use Rattle.report_text.specs.RunSummary.{count_line}
use Rattle.report_text.specs.SlotLines.{list_end}
use Rattle.report_text.proofs.AuditParts.{end_parts}
use Rattle.report_text.proofs.Texts.{both_cut, both_put, same_put}
use Rattle.report_text.proofs.list_lines.put_end.Goals as goal

pub returns-in-Ok : goal.returns-in-Ok
returns-in-Ok g c =
    let b = c.args.audit.now in
    same_put g.O.Sink.taken g.O.Sink.faults (end_parts c.args.records b)
    (both_put g.O.Sink.taken g.O.Sink.faults c.put_list_end.result _ _ _ _ (count_line (codes "records ") c.args.records) _
    (list_end b) c.one_count.ensures refl c.in-Ok.ensures.put c.put_list_end.ensures)

pub returns-in-Err : goal.returns-in-Err
returns-in-Err g c =
    let b = c.args.audit.now in
    same_put g.O.Sink.taken g.O.Sink.faults (end_parts c.args.records b)
    (both_cut g.O.Sink.taken g.O.Sink.faults _ _ _ (count_line (codes "records ") c.args.records) (list_end b) c.one_count.ensures
    c.in-Err.ensures.put)
