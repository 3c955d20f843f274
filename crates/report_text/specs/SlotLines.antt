-- The lines of a slot by what it hides, and how a list of processes is at the end.
use Rattle.std.specs.Prelude.{ℕ, ◌++◌, List, Option, codes}
use Rattle.std.specs.Fmt.{decimal}
use Rattle.proc_audit.specs.ProcessList.{is_chain_good}
use Rattle.report_text.specs.AuditLines.{chain_text, hidden_count, hidden_line, line_unless, unhidden_line}
use Rattle.report_text.specs.RunSummary.{count_line}

-- a line with a word before the numbers of the record, the slot and the process
unfoldable pub slot_line : List ℕ → ℕ → ℕ → ℕ → List ℕ
slot_line word number slot pid =
    word ++ (decimal number ++ (codes " " ++ (decimal slot ++ (codes " " ++ (decimal pid ++ codes "\n")))))

-- the lines of a slot that hid a process or none, and hides one or none
abbrev pub hiding_change : ℕ → ℕ → Option ℕ → Option ℕ → List ℕ
hiding_change number slot before after =
    line_unless (unhidden_line number slot) before after ++ line_unless (hidden_line number slot) after before

-- the lines behind that of the records
unfoldable pub list_end : List ℕ → List ℕ
list_end b = count_line (codes "hidden ") (hidden_count b) ++ chain_text (is_chain_good b)
