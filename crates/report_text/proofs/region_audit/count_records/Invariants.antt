use Rattle.std.proofs.Common.{◌≡◌, Bool, drop}
use Rattle.std.specs.Prelude.{◌==◌}
use Rattle.write_log.specs.LogBytes.{log_in, record_place}
use Rattle.write_log.specs.LogRecords.{LogRecord}
use Rattle.report_text.proofs.CountedLists.{IsCounted}
use Rattle.report_text.proofs.region_audit.count_records.Given as goal

abbrev pub invariant-loop-i : goal.invariant-loop-i
invariant-loop-i l =
    let log = log_in l.log l.mem in
    let of_region : LogRecord → Bool = λ it. it.region == l.id in
    record {
      counted : IsCounted of_region log (drop l.i log) l.i l.count;
      spot : l.spot.place ≡ record_place l.mem l.i;
    }
