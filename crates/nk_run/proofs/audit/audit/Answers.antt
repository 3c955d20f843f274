use Rattle.std.proofs.Common.{inr, length, refl}
use Rattle.write_log.specs.LogBytes.{log_in}
use Rattle.report_text.specs.AuditLines.{audit_text}
use Rattle.nk_run.proofs.AuditRows.{audited_says}
use Rattle.nk_run.proofs.Texts.{put_written}
use Rattle.nk_run.proofs.audit.audit.Goals as goal

pub returns-in-Err : goal.returns-in-Err
returns-in-Err g c = record {
  status = _;
  text = _;
  says = inr c.in-Err.ensures.made;
  written = c.write.ensures.written;
  files_stay = c.make_audit.ensures.files_stay;
}

pub returns : goal.returns
returns g c =
    let it = c.in-Ok.auditable in
    record {
      status = 0;
      text = audit_text c.args.id (length it.auditing) (log_in it.replayed.left.kernel.log it.replayed.left.memory);
      says = inr (audited_says c.args.request.now c.args.frames c.args.id c.requires.asked _ _ c.in-Ok.ensures.made.outcome_is);
      written = put_written g.O.Sink.taken g.O.Sink.faults _ _ _ _ _ _ _ refl c.show.ensures c.unless_cut.ensures;
      files_stay = c.make_audit.ensures.files_stay;
    }
