use Rattle.std.proofs.Common.{length, ap, ◌∙◌, subst}
use Rattle.nk_host.specs.TextPuts.{IsTextPut}
use Rattle.proc_audit.specs.ProcessList.{overwritten}
use Rattle.report_text.specs.AuditLines.{record_change}
use Rattle.report_text.proofs.CountedLists.{length_overwritten}
use Rattle.report_text.proofs.two_states.put_bytes.Goals as goal

pub put_change-put-requires : goal.put_change-put-requires
put_change-put-requires g c =
    ap length (c.apply.ensures ∙ ap (λ b. overwritten b c.args.offset c.args.bytes.now) c.requires.same)
    ∙ length_overwritten c.args.before.now c.args.offset c.args.bytes.now c.requires.within

pub returns-clause-put : goal.returns-clause-put
returns-clause-put g c =
    let is = c.apply.ensures ∙ ap (λ b. overwritten b c.args.offset c.args.bytes.now) c.requires.same in
    subst (λ after. IsTextPut g.O.Sink.taken g.O.Sink.faults c.args.sink.now c.put_change-put.new.sink
    (record_change c.args.number c.args.before.now after) c.put_change-put.result) is c.put_change-put.ensures

pub returns-clause-size : goal.returns-clause-size
returns-clause-size g c =
    ap length c.apply-2.ensures
    ∙ length_overwritten c.args.before.now c.args.offset c.args.bytes.now c.requires.within
