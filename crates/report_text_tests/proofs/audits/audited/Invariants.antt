use Rattle.std.proofs.Common.{◌+◌, ◌≤◌, length}
use Rattle.std.specs.List.{Contains}
use Rattle.write_log.specs.LogBytes.{HoldsLog, log_in}
use Rattle.write_log.specs.LogRecords.{LogRecord}
use Rattle.report_text_tests.proofs.audits.audited.Given as goal

abbrev pub invariant-loop-it : goal.invariant-loop-it
invariant-loop-it l =
    record {
      held : HoldsLog l.log l.mem;
      within : (it : LogRecord) → Contains (log_in l.log l.mem) it → it.offset + length it.bytes ≤ l.size;
    }
