use Rattle.std.proofs.Common.{ℕ, List, length}
use Rattle.std.specs.Prelude.{slice_get}
use Rattle.nk_body.specs.NestedRecord.{books_in, nested_held}
use Rattle.report_text.specs.ClosingSection.{lines_of}
use Rattle.report_text.proofs.LedgerLines.{region_text}
use Rattle.report_text.proofs.ListedLines.{AreGoing}
use Rattle.report_text.proofs.ledger_lines.put_regions.Given as goal

abbrev pub invariant-loop-i : goal.invariant-loop-i
invariant-loop-i g l =
    let regions = (books_in l.kernel l.mem).ledger.book.regions in
    let text : ℕ → List ℕ = λ i. region_text (nested_held l.kernel l.mem) (slice_get regions i) in
    AreGoing g.O.Sink.taken g.O.Sink.faults l.initial.sink l.sink (lines_of text (length regions) 0) text
    (length regions) l.i
