-- The text of an audit: what each record of a region's log changes for the list of processes in the region's bytes, and
-- how the list is after the last.
use Rattle.std.specs.Prelude.{ℕ, ◌+◌, ◌==◌, Bool, true, false, if◌then◌else◌, is_some, List, [], ◌∷◌, ◌++◌, length, filter, replicate, codes, Option, None, Some}
use Rattle.std.specs.Fmt.{decimal}
use Rattle.std.specs.List.{range_with_len}
use Rattle.write_log.specs.LogRecords.{LogRecord}
use Rattle.proc_audit.specs.ProcessList.{hidden_at, is_chain_good, overwritten, slot_count}
use Rattle.report_text.specs.ClosingSection.{lines_of}

-- by the record of this number the chain became broken, or good
unfoldable pub broken_line : ℕ → List ℕ
broken_line number = codes "b " ++ (decimal number ++ codes "\n")

unfoldable pub good_line : ℕ → List ℕ
good_line number = codes "g " ++ (decimal number ++ codes "\n")

-- by it a slot hides a process, or no longer does
unfoldable pub hidden_line : ℕ → ℕ → ℕ → List ℕ
hidden_line number slot pid =
    codes "h " ++ (decimal number ++ (codes " " ++ (decimal slot ++ (codes " " ++ (decimal pid ++ codes "\n")))))

unfoldable pub unhidden_line : ℕ → ℕ → ℕ → List ℕ
unhidden_line number slot pid =
    codes "u " ++ (decimal number ++ (codes " " ++ (decimal slot ++ (codes " " ++ (decimal pid ++ codes "\n")))))

-- the line of a chain that was good or not, and is good or not
abbrev pub chain_change : ℕ → Bool → Bool → List ℕ
chain_change number true false = broken_line number
chain_change number false true = good_line number
chain_change number _ _ = []

-- the line of a process that a slot hides with some bytes, and doesn't with others
abbrev pub line_unless : (ℕ → List ℕ) → Option ℕ → Option ℕ → List ℕ
line_unless line None other = []
line_unless line (Some pid) None = line pid
line_unless line (Some pid) (Some other) = if pid == other then [] else line pid

-- the lines of a slot, for the bytes before a record and after it: what it no longer hides, and then what it hides anew
abbrev pub slot_change : ℕ → List ℕ → List ℕ → ℕ → List ℕ
slot_change number before after slot =
    line_unless (unhidden_line number slot) (hidden_at before slot) (hidden_at after slot)
    ++ line_unless (hidden_line number slot) (hidden_at after slot) (hidden_at before slot)

-- the lines of a record
unfoldable pub record_change : ℕ → List ℕ → List ℕ → List ℕ
record_change number before after =
    chain_change number (is_chain_good before) (is_chain_good after)
    ++ lines_of (slot_change number before after) (slot_count before) 0

-- the bytes of the region of this identifier after a record of the log
abbrev pub after_record : ℕ → List ℕ → LogRecord → List ℕ
after_record id b it = if it.region == id then overwritten b it.offset it.bytes else b

-- the lines of a record of the log: there are none where it is of another region
abbrev pub record_lines : ℕ → ℕ → List ℕ → LogRecord → List ℕ
record_lines id number b it = if it.region == id then record_change number b (overwritten b it.offset it.bytes) else []

-- the lines of records, of which the first has this number, from these bytes of the region on; and its bytes after them
unfoldable pub audit_lines : ℕ → ℕ → List ℕ → List LogRecord → List ℕ
audit_lines id number b [] = []
audit_lines id number b (it ∷ later) =
    record_lines id number b it ++ audit_lines id (number + 1) (after_record id b it) later

unfoldable pub audited : ℕ → List ℕ → List LogRecord → List ℕ
audited id b [] = b
audited id b (it ∷ later) = audited id (after_record id b it) later

-- how many records are of the region
abbrev pub region_records : ℕ → List LogRecord → ℕ
region_records id log = length (filter (λ it. it.region == id) log)

-- how many processes are hidden
abbrev pub hidden_count : List ℕ → ℕ
hidden_count b = length (filter (λ slot. is_some (hidden_at b slot)) (range_with_len 0 (slot_count b)))

abbrev pub chain_text : Bool → List ℕ
chain_text true = codes "chain good\n"
chain_text false = codes "chain broken\n"

-- how the list is at the end
unfoldable pub audit_end : ℕ → List ℕ → List ℕ
audit_end records b =
    codes "records " ++ (decimal records ++ (codes "\nhidden " ++ (decimal (hidden_count b) ++ (codes "\n"
    ++ chain_text (is_chain_good b)))))

-- the text of the audit of a region of so many bytes, which were 0 before the first record of the log
abbrev pub audit_text : ℕ → ℕ → List LogRecord → List ℕ
audit_text id size log =
    audit_lines id 0 (replicate size 0) log
    ++ audit_end (region_records id log) (audited id (replicate size 0) log)
