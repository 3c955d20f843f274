-- Writing in a region: which rule a write breaks first, and what an accepted one makes of book, log and memory.
use Rattle.std.specs.Prelude.{ℕ, ◌+◌, Bool, false, not, ◌&&◌, ◌==◌, nat_lt, if◌then◌else◌, List, [], Option, None, Some}
use Rattle.nk_bits.specs.declared.rule.Rule.{Rule}
use Rattle.nk_bits.specs.declared.rule.Rule.TheVariants.{BadRegion, LogFull, NoWrite, NotAtEnd, OutOfBounds, WrittenOnce}
use Rattle.region_book.specs.RegionCalls.{else_rule, fits_region}
use Rattle.region_book.specs.RegionRecords.{Book, RegionRecord, is_written_in, marked, region_of, region_stores, with_region}
use Rattle.write_log.specs.LogRecords.{LogRecord, logged, room_of}

-- the policy admits the write of so many bytes from an offset on: 1 is write-once, 2 append-only, 3 no-write, 4 write-log
unfoldable pub policy_rule : List LogRecord → RegionRecord → ℕ → ℕ → Option Rule
policy_rule log r offset count =
    else_rule (r.policy == 3) NoWrite
    (else_rule (r.policy == 1 && is_written_in r offset count) WrittenOnce
    (else_rule (r.policy == 2 && not (offset == r.tail)) NotAtEnd
    (else_rule (r.policy == 4 && nat_lt (room_of log) (24 + count)) LogFull None)))

-- the region is live, and the range isn't empty and lies in it
abbrev pub bounds_of : Option RegionRecord → ℕ → ℕ → Option Rule
bounds_of None offset count = Some BadRegion
bounds_of (Some r) offset count = else_rule (not (fits_region (Some r) offset count)) OutOfBounds None

abbrev pub policy_of : List LogRecord → Option RegionRecord → ℕ → ℕ → Option Rule
policy_of log None offset count = None
policy_of log (Some r) offset count = policy_rule log r offset count

-- both, in order
abbrev pub first_rule : Option Rule → Option Rule → Option Rule
first_rule None later = later
first_rule (Some rule) later = Some rule

abbrev pub write_rule : Book → List LogRecord → ℕ → ℕ → ℕ → Option Rule
write_rule book log id offset count =
    first_rule (bounds_of (region_of book id) offset count) (policy_of log (region_of book id) offset count)

-- the book with the range written
abbrev pub book_by : Book → Option RegionRecord → ℕ → ℕ → Book
book_by book None offset count = book
book_by book (Some r) offset count = with_region book (marked r offset count)

abbrev pub book_written : Book → ℕ → ℕ → ℕ → Book
book_written book id offset count = book_by book (region_of book id) offset count

-- the region's writes are recorded: its policy is 4, write-log
abbrev pub is_logged : Option RegionRecord → Bool
is_logged None = false
is_logged (Some r) = r.policy == 4

-- the log: a write in a region of policy 4 is recorded
abbrev pub log_by : List LogRecord → Option RegionRecord → ℕ → List ℕ → List LogRecord
log_by log None offset bytes = log
log_by log (Some r) offset bytes = if r.policy == 4 then logged log r.id offset bytes else log

abbrev pub log_written : Book → List LogRecord → ℕ → ℕ → List ℕ → List LogRecord
log_written book log id offset bytes = log_by log (region_of book id) offset bytes

-- the stores that the write makes
abbrev pub stores_by : Option RegionRecord → ℕ → List ℕ → List (ℕ × ℕ)
stores_by None offset bytes = []
stores_by (Some r) offset bytes = region_stores r offset bytes

abbrev pub stores_written : Book → ℕ → ℕ → List ℕ → List (ℕ × ℕ)
stores_written book id offset bytes = stores_by (region_of book id) offset bytes
