use Rattle.std.proofs.Common.{ℕ, List}
use Rattle.nk_body.specs.NestedRecord.{nested_held}
use Rattle.report_text.specs.ClosingSection.{lines_of, lines_of_table}
use Rattle.report_text.proofs.ListedLines.{AreGoing}
use Rattle.report_text.proofs.closing.put_entries.Given as goal

abbrev pub invariant-loop-frame : goal.invariant-loop-frame
invariant-loop-frame g l =
    let text : ℕ → List ℕ = lines_of_table l.image l.layout.frames (nested_held l.kernel l.mem) in
    AreGoing g.O.Sink.taken g.O.Sink.faults l.initial.sink l.sink (lines_of text l.layout.frames 0) text
    l.layout.frames l.frame
