use Rattle.std.proofs.Common.{◌≡◌}
use Rattle.write_log.specs.LogBytes.{log_in, record_place}
use Rattle.report_text.proofs.ToldRecords.{AreTold}
use Rattle.report_text.proofs.region_audit.put_records.Given as goal

abbrev pub invariant-loop-i : goal.invariant-loop-i
invariant-loop-i g l =
    record {
      told : AreTold g.O.Sink.taken g.O.Sink.faults l.initial.sink l.sink l.id (log_in l.log l.mem) l.initial.auditing
          l.auditing l.i;
      spot : l.spot.place ≡ record_place l.mem l.i;
    }
