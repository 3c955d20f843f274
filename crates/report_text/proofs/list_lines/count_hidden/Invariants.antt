use Rattle.std.proofs.Common.{ℕ, ◌-◌, Bool}
use Rattle.std.specs.Prelude.{is_some}
use Rattle.std.specs.List.{range_with_len}
use Rattle.proc_audit.specs.ProcessList.{hidden_at, slot_count}
use Rattle.report_text.proofs.CountedLists.{IsCounted}
use Rattle.report_text.proofs.list_lines.count_hidden.Given as goal

abbrev pub invariant-loop-slot : goal.invariant-loop-slot
invariant-loop-slot l =
    let hides : ℕ → Bool = λ slot. is_some (hidden_at l.audit slot) in
    IsCounted hides (range_with_len 0 (slot_count l.audit)) (range_with_len l.slot (slot_count l.audit - l.slot)) l.slot
    l.count
