use Rattle.std.proofs.Common.{refl}
use Rattle.report_text.specs.AuditLines.{hidden_line, line_unless, unhidden_line}
use Rattle.report_text.specs.SlotLines.{slot_line}
use Rattle.report_text.proofs.Texts.{both_cut, both_put}
use Rattle.report_text.proofs.list_lines.put_slot.Goals as goal

pub returns-in-Ok : goal.returns-in-Ok
unfolding hidden_line slot_line unhidden_line
returns-in-Ok g c =
    both_put g.O.Sink.taken g.O.Sink.faults c.put_unless-in-Ok.result _ _ _ _
    (line_unless (unhidden_line c.args.number c.args.slot) c.args.before c.args.after) _
    (line_unless (hidden_line c.args.number c.args.slot) c.args.after c.args.before) refl refl c.in-Ok.ensures
    c.put_unless-in-Ok.ensures

pub returns-in-Err : goal.returns-in-Err
unfolding hidden_line slot_line unhidden_line
returns-in-Err g c =
    both_cut g.O.Sink.taken g.O.Sink.faults _ _ _ (line_unless (unhidden_line c.args.number c.args.slot) c.args.before c.args.after)
    (line_unless (hidden_line c.args.number c.args.slot) c.args.after c.args.before) refl c.in-Err.ensures
