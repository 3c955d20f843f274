use Rattle.std.proofs.Common.{ℕ, List}
use Rattle.proc_audit.specs.ProcessList.{slot_count}
use Rattle.report_text.specs.AuditLines.{slot_change}
use Rattle.report_text.specs.ClosingSection.{lines_of}
use Rattle.report_text.proofs.ListedLines.{AreGoing}
use Rattle.report_text.proofs.list_lines.put_slots.Given as goal

abbrev pub invariant-loop-slot : goal.invariant-loop-slot
invariant-loop-slot g l =
    let text : ℕ → List ℕ = slot_change l.number l.before l.after in
    AreGoing g.O.Sink.taken g.O.Sink.faults l.initial.sink l.sink (lines_of text (slot_count l.before) 0) text
    (slot_count l.before) l.slot
