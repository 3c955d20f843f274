-- Writes in regions of each policy at worked values.
use Rattle.std.proofs.Common.{◌≡◌, ℕ, ◌+◌, ◌-◌, ◌*◌, ◌^◌, Bool, true, false, List, [], ◌∷◌, None, Some, Option, replicate, refl}
use Rattle.nk_bits.specs.declared.rule.Rule.{Rule}
use Rattle.nk_bits.specs.declared.rule.Rule.TheVariants.{BadRegion, LogFull, NoWrite, NotAtEnd, OutOfBounds, WrittenOnce}
use Rattle.policy_book.specs.PolicyRules.{book_written, log_written, policy_rule, stores_written, write_rule}
use Rattle.region_book.specs.RegionRecords.{Book, RegionRecord, region_stores}
use Rattle.write_log.specs.LogRecords.{LogRecord, log_size}

-- eight bytes of the pool with a policy, of which these were written; the regions stand 16 bytes apart
abbrev eight : ℕ → List Bool → ℕ → RegionRecord
eight policy written tail = record {
  id = 256 + policy;
  policy = policy;
  pooled = true;
  first = 0xFFFFFF8000010000 + 16 * policy;
  size = 8;
  frames = 10 ∷ [];
  place = 16 * policy;
  written = written;
  tail = tail;
}

-- bytes 2, 3 and 4 were written
abbrev some_written : List Bool
some_written = false ∷ false ∷ true ∷ true ∷ true ∷ false ∷ false ∷ false ∷ []

-- a book of four regions
abbrev book_of_four : RegionRecord → RegionRecord → RegionRecord → RegionRecord → Book
book_of_four a b c d = record { regions = a ∷ b ∷ c ∷ d ∷ []; next = 261; declared = 0 }

-- region 257 is write-once, 258 append-only with the tail 5, 259 no-write, and 260 write-log
abbrev once : RegionRecord
once = eight 1 some_written 0

abbrev append : RegionRecord
append = eight 2 some_written 5

abbrev closed : RegionRecord
closed = eight 3 some_written 0

abbrev noting : RegionRecord
noting = eight 4 some_written 0

abbrev book : Book
book = book_of_four once append closed noting

-- a record of so many bytes
abbrev zeros : ℕ → LogRecord
zeros count = record { region = 260; offset = 0; bytes = replicate count 0 }

-- a record of so many bytes, and 2,619 of one byte, which take 65,475: what it leaves of 65,536 is 37 less its own bytes
abbrev log_of : ℕ → List LogRecord
log_of count = zeros count ∷ replicate 2619 (zeros 1)

-- the rule that writing so many bytes from an offset on breaks first, where the log is empty
abbrev writing : ℕ → ℕ → ℕ → Option Rule
writing = write_rule book []

-- a write-once region takes each byte once
once_rules :
    (writing 257 0 2 ≡ None) ×
    (writing 257 5 3 ≡ None) ×
    (writing 257 0 3 ≡ Some WrittenOnce) ×
    (writing 257 2 1 ≡ Some WrittenOnce) ×
    (writing 257 3 1 ≡ Some WrittenOnce) ×
    (writing 257 4 1 ≡ Some WrittenOnce) ×
    (writing 257 4 4 ≡ Some WrittenOnce) ×
    (writing 257 0 8 ≡ Some WrittenOnce)
unfolding policy_rule
once_rules = (refl, refl, refl, refl, refl, refl, refl, refl)

-- an append-only region is written at its tail
append_rules :
    (writing 258 5 1 ≡ None) ×
    (writing 258 5 3 ≡ None) ×
    (writing 258 4 1 ≡ Some NotAtEnd) ×
    (writing 258 6 1 ≡ Some NotAtEnd) ×
    (writing 258 0 2 ≡ Some NotAtEnd) ×
    (writing 258 0 8 ≡ Some NotAtEnd)
unfolding policy_rule
append_rules = (refl, refl, refl, refl, refl, refl)

-- a no-write region is never written
no_write_rules :
    (writing 259 0 1 ≡ Some NoWrite) ×
    (writing 259 5 1 ≡ Some NoWrite) ×
    (writing 259 0 8 ≡ Some NoWrite)
unfolding policy_rule
no_write_rules = (refl, refl, refl)

-- a write-log region is written while the log has room, 24 bytes beside its own: of eight bytes with 32 left, not with 31
log_rules :
    (writing 260 0 8 ≡ None) ×
    (writing 260 2 3 ≡ None) ×
    (write_rule book (log_of 5) 260 0 8 ≡ None) ×
    (write_rule book (log_of 6) 260 0 8 ≡ Some LogFull) ×
    (write_rule book (log_of 6) 260 0 7 ≡ None) ×
    (write_rule book (log_of 12) 260 3 1 ≡ None) ×
    (write_rule book (log_of 13) 260 3 1 ≡ Some LogFull)
unfolding policy_rule log_size
log_rules = (refl, refl, refl, refl, refl, refl, refl)

-- a full log hinders no other policy
other_policies :
    (write_rule book (log_of 37) 257 0 2 ≡ None) ×
    (write_rule book (log_of 37) 258 5 3 ≡ None) ×
    (write_rule book (log_of 37) 260 0 1 ≡ Some LogFull)
unfolding policy_rule log_size
other_policies = (refl, refl, refl)

-- the region comes first, then the range, which isn't empty and lies in it, and then the policy
orders :
    (writing 256 0 1 ≡ Some BadRegion) ×
    (writing 261 0 1 ≡ Some BadRegion) ×
    (writing 261 0 0 ≡ Some BadRegion) ×
    (writing 261 0 9 ≡ Some BadRegion) ×
    (writing 257 0 0 ≡ Some OutOfBounds) ×
    (writing 257 2 0 ≡ Some OutOfBounds) ×
    (writing 257 2 7 ≡ Some OutOfBounds) ×
    (writing 258 5 0 ≡ Some OutOfBounds) ×
    (writing 258 5 4 ≡ Some OutOfBounds) ×
    (writing 258 6 3 ≡ Some OutOfBounds) ×
    (writing 259 0 9 ≡ Some OutOfBounds) ×
    (writing 259 8 1 ≡ Some OutOfBounds) ×
    (writing 260 7 2 ≡ Some OutOfBounds) ×
    (writing 260 (2 ^ 64 - 1) 1 ≡ Some OutOfBounds) ×
    (writing 260 0 (2 ^ 64 - 1) ≡ Some OutOfBounds) ×
    (write_rule book (log_of 37) 260 1 8 ≡ Some OutOfBounds)
unfolding policy_rule log_size
orders = (refl, refl, refl, refl, refl, refl, refl, refl, refl, refl, refl, refl, refl, refl, refl, refl)

-- what an accepted write makes of the book: its bytes count as written, and an append-only region's tail moves
books :
    (book_written book 257 0 2
    ≡ book_of_four (eight 1 (true ∷ true ∷ true ∷ true ∷ true ∷ false ∷ false ∷ false ∷ []) 0) append closed noting) ×
    (book_written book 258 5 2
    ≡ book_of_four once (eight 2 (false ∷ false ∷ true ∷ true ∷ true ∷ true ∷ true ∷ false ∷ []) 7) closed noting) ×
    (book_written book 260 4 2
    ≡ book_of_four once append closed (eight 4 (false ∷ false ∷ true ∷ true ∷ true ∷ true ∷ false ∷ false ∷ []) 0))
books = (refl, refl, refl)

-- a write-log region alone gains a record
logs :
    (log_written book (zeros 1 ∷ []) 257 0 (7 ∷ 8 ∷ []) ≡ zeros 1 ∷ []) ×
    (log_written book (zeros 1 ∷ []) 258 5 (7 ∷ 8 ∷ []) ≡ zeros 1 ∷ []) ×
    (log_written book (zeros 1 ∷ []) 260 5 (7 ∷ 8 ∷ [])
    ≡ zeros 1 ∷ record { region = 260; offset = 5; bytes = 7 ∷ 8 ∷ [] } ∷ [])
logs = (refl, refl, refl)

-- where the bytes go
stores :
    (stores_written book 257 0 (7 ∷ 8 ∷ []) ≡ (0xA010, 7) ∷ (0xA011, 8) ∷ []) ×
    (stores_written book 260 5 (9 ∷ []) ≡ (0xA045, 9) ∷ [])
unfolding region_stores
stores = (refl, refl)
