-- The summary of a run, in place of its lines: counts of what was shown in it, and of what the record has in the end.
use Rattle.std.specs.Prelude.{ℕ, ◌++◌, List, codes}
use Rattle.std.specs.Fmt.{decimal}
use Rattle.report_text.specs.declared.counts.RunCounts.{RunCounts}

-- a line of a word and a number, and one of two
unfoldable pub count_line : List ℕ → ℕ → List ℕ
count_line word n = word ++ (decimal n ++ codes "\n")

unfoldable pub counts_line : List ℕ → ℕ → List ℕ → ℕ → List ℕ
counts_line word n between m = word ++ (decimal n ++ (between ++ (decimal m ++ codes "\n")))

-- calls and how many of them were accepted; deliveries; page tables; live regions; records of the log, and the bytes that they
-- take there
unfoldable pub summary_lines : RunCounts → List ℕ
summary_lines it =
    counts_line (codes "calls ") it.calls (codes " accepted ") it.accepted
    ++ (count_line (codes "deliveries ") it.deliveries
    ++ (count_line (codes "tables ") it.tables
    ++ (count_line (codes "regions ") it.regions
    ++ counts_line (codes "log ") it.records (codes " ") it.log_bytes)))
