use Rattle.std.proofs.Common.{◌≡◌, ℕ, List, length}
use Rattle.std.specs.Prelude.{slice_get}
use Rattle.write_log.specs.LogBytes.{log_in, record_place}
use Rattle.report_text.specs.ClosingSection.{lines_of}
use Rattle.report_text.proofs.LedgerLines.{record_text}
use Rattle.report_text.proofs.ListedLines.{AreGoing}
use Rattle.report_text.proofs.ledger_lines.put_log.Given as goal

abbrev pub invariant-loop-i : goal.invariant-loop-i
invariant-loop-i g l =
    let log = log_in l.log l.mem in
    let text : ℕ → List ℕ = λ i. record_text i (slice_get log i) in
    record {
      going : AreGoing g.O.Sink.taken g.O.Sink.faults l.initial.sink l.sink (lines_of text (length log) 0) text
          (length log) l.i;
      spot : l.spot.place ≡ record_place l.mem l.i;
    }
