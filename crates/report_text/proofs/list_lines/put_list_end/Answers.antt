use Rattle.std.proofs.Common.{codes, ap, ◌∙◌}
use Rattle.proc_audit.specs.ProcessList.{is_chain_good}
use Rattle.report_text.specs.AuditLines.{chain_text, hidden_count}
use Rattle.report_text.specs.RunSummary.{count_line}
use Rattle.report_text.specs.SlotLines.{list_end}
use Rattle.report_text.proofs.Texts.{both_put, both_cut}
use Rattle.report_text.proofs.list_lines.put_list_end.Goals as goal

pub returns-in-Ok : goal.returns-in-Ok
unfolding list_end
returns-in-Ok g c =
    let b = c.args.audit.now in
    both_put g.O.Sink.taken g.O.Sink.faults c.put_all-in-Ok.result _ _ _ _ (count_line (codes "hidden ") (hidden_count b)) _
    (chain_text (is_chain_good b))
    (c.one_count.ensures ∙ ap (count_line (codes "hidden ")) (c.from-count.ensures ∙ c.count_hidden.ensures))
    (c.as_bytes.ensures.value ∙ c.chain_text.ensures ∙ ap chain_text c.has_good_chain.ensures) c.in-Ok.ensures.put
    c.put_all-in-Ok.ensures.put

pub returns-in-Err : goal.returns-in-Err
unfolding list_end
returns-in-Err g c =
    let b = c.args.audit.now in
    both_cut g.O.Sink.taken g.O.Sink.faults _ _ _ (count_line (codes "hidden ") (hidden_count b)) (chain_text (is_chain_good b))
    (c.one_count.ensures ∙ ap (count_line (codes "hidden ")) (c.from-count.ensures ∙ c.count_hidden.ensures))
    c.in-Err.ensures.put
