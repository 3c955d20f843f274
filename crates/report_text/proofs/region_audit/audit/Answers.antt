use Rattle.std.proofs.Common.{List, ℕ, length, replicate, ap, ◌∙◌}
use Rattle.write_log.specs.LogBytes.{log_in}
use Rattle.report_text.specs.AuditLines.{audit_end, audit_lines, audited, region_records}
use Rattle.report_text.proofs.Texts.{both_cut, both_put}
use Rattle.report_text.proofs.region_audit.audit.Goals as goal

pub returns-in-Ok-clause-put : goal.returns-in-Ok-clause-put
returns-in-Ok-clause-put g c =
    let log = log_in c.args.log.now c.args.mem.now in
    let zeros : List ℕ = replicate (length c.args.auditing.now) 0 in
    both_put g.O.Sink.taken g.O.Sink.faults c.put_end.result _ _ _ _ (audit_lines c.args.id 0 zeros log) _
    (audit_end (region_records c.args.id log) (audited c.args.id zeros log))
    (ap (λ b. audit_lines c.args.id 0 b log) c.requires.fresh)
    (ap (λ n. audit_end n c.put_records.new.auditing) c.count_records.ensures
    ∙ ap (audit_end (region_records c.args.id log))
    (c.in-Ok.ensures.told ∙ ap (λ b. audited c.args.id b log) c.requires.fresh))
    c.in-Ok.ensures.put c.put_end.ensures

pub returns-in-Err-clause-put : goal.returns-in-Err-clause-put
returns-in-Err-clause-put g c =
    let log = log_in c.args.log.now c.args.mem.now in
    let zeros : List ℕ = replicate (length c.args.auditing.now) 0 in
    both_cut g.O.Sink.taken g.O.Sink.faults _ _ _ (audit_lines c.args.id 0 zeros log)
    (audit_end (region_records c.args.id log) (audited c.args.id zeros log))
    (ap (λ b. audit_lines c.args.id 0 b log) c.requires.fresh) c.in-Err.ensures.put
