use Rattle.std.proofs.Common.{refl}
use Rattle.proc_audit.specs.ProcessList.{is_chain_good, slot_count}
use Rattle.report_text.specs.AuditLines.{chain_change, record_change, slot_change}
use Rattle.report_text.specs.ClosingSection.{lines_of}
use Rattle.report_text.proofs.AuditParts.{same_chain}
use Rattle.report_text.proofs.Texts.{both_put, both_cut}
use Rattle.report_text.proofs.list_lines.put_change.Goals as goal

pub returns-in-Ok : goal.returns-in-Ok
unfolding record_change
returns-in-Ok g c =
    let before = c.args.before.now in
    let after = c.args.after.now in
    both_put g.O.Sink.taken g.O.Sink.faults c.put_slots.result _ _ _ _
    (chain_change c.args.number (is_chain_good before) (is_chain_good after)) _
    (lines_of (slot_change c.args.number before after) (slot_count before) 0)
    (same_chain c.args.number _ _ before after c.has_good_chain.ensures c.has_good_chain-2.ensures) refl
    c.in-Ok.ensures c.put_slots.ensures

pub returns-in-Err : goal.returns-in-Err
unfolding record_change
returns-in-Err g c =
    let before = c.args.before.now in
    let after = c.args.after.now in
    both_cut g.O.Sink.taken g.O.Sink.faults _ _ _
    (chain_change c.args.number (is_chain_good before) (is_chain_good after))
    (lines_of (slot_change c.args.number before after) (slot_count before) 0)
    (same_chain c.args.number _ _ before after c.has_good_chain.ensures c.has_good_chain-2.ensures) c.in-Err.ensures
