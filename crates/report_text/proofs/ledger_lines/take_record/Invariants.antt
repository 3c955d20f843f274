use Rattle.std.proofs.Common.{ℕ, ◌≤◌, List, [], ◌∷◌, IfSome}
use Rattle.std.specs.Prelude.{slice_get, slice_index}
use Rattle.hex.specs.Hex.{encode_lower}
use Rattle.write_log.specs.LogBytes.{log_in}
use Rattle.write_log.specs.LogRecords.{LogRecord}
use Rattle.report_text.specs.ClosingSection.{lines_of}
use Rattle.report_text.proofs.TakenUp.{AreTaken}
use Rattle.report_text.proofs.ledger_lines.take_record.Given as goal

abbrev pub invariant-loop-at : goal.invariant-loop-at
invariant-loop-at g l =
    let text : LogRecord → ℕ → List ℕ = λ of o. encode_lower (slice_index of.bytes o ∷ []) in
    record {
      taken : IfSome (slice_get (log_in l.log l.mem) l.i) (λ of. AreTaken g.O.Sink.taken g.O.Sink.faults l.initial.sink l.sink
          l.initial.pieces l.pieces (lines_of (text of) l.it.length 0) (text of) l.it.length l.at);
      counted : g.O.Sink.faults l.initial.sink ≤ g.O.Sink.faults l.sink;
    }
