use Rattle.std.proofs.Common.{ℕ, List}
use Rattle.phys_mem.specs.Memory.{entry_in}
use Rattle.boot_map.specs.OpeningEntries.{opening_entry}
use Rattle.report_text.specs.ClosingSection.{line_of_entry, lines_of}
use Rattle.report_text.proofs.ListedLines.{AreGoing}
use Rattle.report_text.proofs.closing.put_old_table.Given as goal

abbrev pub invariant-loop-index : goal.invariant-loop-index
invariant-loop-index g l =
    let text : ℕ → List ℕ =
    λ i. line_of_entry (opening_entry l.image l.layout.frames l.frame i) (entry_in l.mem l.frame i) l.frame i in
    AreGoing g.O.Sink.taken g.O.Sink.faults l.initial.sink l.sink (lines_of text 512 0) text 512 l.index
