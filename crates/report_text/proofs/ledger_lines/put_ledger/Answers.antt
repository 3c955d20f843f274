use Rattle.std.proofs.Common.{ap, refl}
use Rattle.nk_body.specs.NestedRecord.{Nested, nested_held}
use Rattle.write_log.specs.LogBytes.{LogCounts, log_in}
use Rattle.report_text.specs.ClosingSection.{bytes_of_region, log_lines, region_lines}
use Rattle.report_text.proofs.Texts.{both_cut, both_put}
use Rattle.report_text.proofs.ledger_lines.put_ledger.Goals as goal

pub returns-in-Ok : goal.returns-in-Ok
returns-in-Ok g c =
    let nk : Nested = nested_held c.args.kernel.now c.args.mem.now in
    both_put g.O.Sink.taken g.O.Sink.faults c.put_log.result _ _ _ _
    (region_lines (bytes_of_region nk) nk.ledger.book.regions) _ (log_lines 0 nk.ledger.log) refl
    (ap (λ (counts : LogCounts). log_lines 0 (log_in counts c.args.mem.now)) c.log.ensures) c.in-Ok.ensures
    c.put_log.ensures

pub returns-in-Err : goal.returns-in-Err
returns-in-Err g c =
    let nk : Nested = nested_held c.args.kernel.now c.args.mem.now in
    both_cut g.O.Sink.taken g.O.Sink.faults _ _ _ (region_lines (bytes_of_region nk) nk.ledger.book.regions)
    (log_lines 0 nk.ledger.log) refl c.in-Err.ensures
