use Rattle.std.proofs.Common.{ℕ, ◌≢◌, ◌<◌, ◌≤◌, ◌-◌, List}
use Rattle.phys_mem.specs.Memory.{entry_in}
use Rattle.report_text.specs.ClosingSection.{line_of_entry, lines_of}
use Rattle.report_text.proofs.ListedLines.{AreGoing}
use Rattle.report_text.proofs.closing.put_new_table.Given as goal

abbrev pub invariant-loop-index : goal.invariant-loop-index
invariant-loop-index g l =
    let text : ℕ → List ℕ = λ i. line_of_entry 0 (entry_in l.mem l.frame i) l.frame i in
    record {
      going : AreGoing g.O.Sink.taken g.O.Sink.faults l.initial.sink l.sink (lines_of text 512 0) text 512 l.index;
      low : l.index ≤ 512;
      used : l.index < 512 → entry_in l.mem l.frame l.index ≢ 0;
    }

abbrev pub decreases-loop-index : goal.decreases-loop-index
decreases-loop-index g l = 512 - l.index
