-- The calls of the nested kernel: which rule a call breaks first, what an accepted call makes of the record, and the
-- answer.
use Rattle.std.specs.Prelude.{◌≡◌, ℕ, ◌+◌, ◌*◌, ◌/◌, ◌==◌, ◌&&◌, false, true, not, nat_lt, if◌then◌else◌, List, [], ◌∷◌, length, replicate, Option, None, Some, ⊤}
use Rattle.std.specs.List.{list_any}
use Rattle.phys_mem.specs.Memory.{byte_at, stored, stores}
use Rattle.nk_bits.specs.declared.call.Answer.{Answer}
use Rattle.nk_bits.specs.declared.rule.Rule.{Rule}
use Rattle.nk_bits.specs.declared.rule.Rule.TheVariants.{BadCall, BadSource, NotCanonical}
use Rattle.nk_bits.specs.Paging.{is_canonical}
use Rattle.nk_bits.specs.Rules.{rule_number}
use Rattle.page_desc.specs.PageTables.{loose_of, value_in}
use Rattle.table_rules.specs.ValueRules.{broken}
use Rattle.vmmu.specs.TableCalls.{declare_rule, declared, entry_rule, entry_written, memory_declared, memory_removed, memory_written, remove_rule, removed, root_loaded, root_rule}
use Rattle.region_book.specs.RegionCalls.{with_one_more, alloc_rule, fits_in, frames_from, free_rule, freed, guarded, mapped, page_region, pool_region, room}
use Rattle.region_book.specs.RegionCalls.{pages_rule}
use Rattle.nk_bits.specs.KernelLayout.{pool_start}
use Rattle.region_book.specs.RegionRecords.{Book, region_of, region_stores}
use Rattle.policy_book.specs.PolicyRules.{book_written, bounds_of, first_rule, log_written, policy_of, stores_written}
use Rattle.nk_body.specs.declared.call.Call.{Call}
use Rattle.nk_body.specs.declared.call.Call.TheVariants.{Allocate, DeclarePages, DeclareTable, Free, LoadRoot, NoCall, RemoveTable, SetHandler, Write, WriteEntry}
use Rattle.nk_body.specs.NestedRecord.{Nested}

-- what was read for a call: nothing, where it takes none; a source of which a byte couldn't be read; or its bytes
pub data Sourced : Type 0 where
  NotTaken : Sourced
  Unreadable : Sourced
  Bytes : List ℕ → Sourced

-- how many bytes a call takes: those of a write whose region lives and whose range lies in it
abbrev pub wants : Book → Call → Option ℕ
wants book (Write region offset place count) = if fits_in book region offset count then Some count else None
wants book _ = None

-- what is read is what the call takes
abbrev pub IsSourceOf : Option ℕ → Sourced → Type 0
IsSourceOf None source = source ≡ NotTaken
IsSourceOf (Some count) NotTaken = ⊥
IsSourceOf (Some count) Unreadable = ⊤
IsSourceOf (Some count) (Bytes bytes) = length bytes ≡ count

abbrev pub source_rule : Sourced → Option Rule
source_rule NotTaken = None
source_rule Unreadable = Some BadSource
source_rule (Bytes bytes) = None

abbrev pub bytes_read : Sourced → List ℕ
bytes_read NotTaken = []
bytes_read Unreadable = []
bytes_read (Bytes bytes) = bytes

-- where a page is mapped by the tables of the record
abbrev pub mapped_by : Nested → ℕ → Option ℕ
mapped_by nk page = mapped (value_in nk.tables) (length nk.tables.kinds) nk.tables.root page

-- the frames of a range of pages
abbrev pub frames_of_pages : Nested → ℕ → ℕ → Option (List ℕ)
frames_of_pages nk address size = frames_from (mapped_by nk) (address / 4096) (size / 4096)

-- the first rule that a write breaks
abbrev pub writing_rule : Nested → ℕ → ℕ → ℕ → Sourced → Option Rule
writing_rule nk region offset count source =
    first_rule (bounds_of (region_of nk.ledger.book region) offset count)
    (first_rule (source_rule source) (policy_of nk.ledger.log (region_of nk.ledger.book region) offset count))

-- and that a declaration of pages breaks
abbrev pub declaring_rule : Nested → ℕ → ℕ → ℕ → Option Rule
declaring_rule nk address size policy =
    pages_rule nk.ledger.book nk.tables.kinds (loose_of nk.tables) (mapped_by nk) address size policy

-- the first rule that a call breaks
abbrev pub verdict : Nested → Call → Sourced → Option Rule
verdict nk (SetHandler address) source = broken (not (is_canonical address)) NotCanonical None
verdict nk (DeclareTable level frame) source = declare_rule nk.tables level frame
verdict nk (WriteEntry table index value) source = entry_rule nk.tables table index value
verdict nk (RemoveTable frame) source = remove_rule nk.tables frame
verdict nk (LoadRoot frame) source = root_rule nk.tables frame
verdict nk (DeclarePages address size policy) source = declaring_rule nk address size policy
verdict nk (Allocate size policy) source = alloc_rule nk.ledger.book size policy
verdict nk (Free region) source = free_rule nk.ledger.book region
verdict nk (Write region offset place count) source = writing_rule nk region offset count source
verdict nk NoCall source = Some BadCall

-- the bytes of guarded frames after stores
unfoldable pub puts : (ℕ → ℕ → ℕ) → List (ℕ × ℕ) → ℕ → ℕ → ℕ
puts held [] f offset = held f offset
puts held (w ∷ ws) f offset =
    puts (λ g o. if nat_lt o 4096 && 4096 * g + o == w.0 then w.1 else held g o) ws f offset

-- pages that were declared: their frames are guarded and hold what stood there
abbrev pub with_pages : Nested → ℕ → ℕ → ℕ → (ℕ → ℕ → ℕ) → Option (List ℕ) → Nested
with_pages nk address size policy stand None = nk
with_pages nk address size policy stand (Some fs) = record nk {
  tables = record nk.tables { kinds = guarded nk.tables.kinds fs };
  held = λ f offset. if list_any (λ g. g == f) fs then stand f offset else nk.held f offset;
  ledger = record nk.ledger { book = with_one_more nk.ledger.book (page_region nk.ledger.book address size policy fs) (length fs) };
}

-- a new region of the pool, whose bytes are 0
abbrev pub zeros_of : Nested → ℕ → ℕ → Option ℕ → List (ℕ × ℕ)
zeros_of nk size policy None = []
zeros_of nk size policy (Some p) = region_stores (pool_region nk.ledger.book size policy p) 0 (replicate size 0)

abbrev pub with_pool : Nested → ℕ → ℕ → Option ℕ → Nested
with_pool nk size policy None = nk
with_pool nk size policy (Some p) = record nk {
  held = puts nk.held (zeros_of nk size policy (Some p));
  ledger = record nk.ledger { book = with_one_more nk.ledger.book (pool_region nk.ledger.book size policy p) 0 };
}

abbrev pub with_free : Nested → ℕ → Nested
with_free nk region = record nk { ledger = record nk.ledger { book = freed nk.ledger.book region } }

abbrev pub with_write : Nested → ℕ → ℕ → List ℕ → Nested
with_write nk region offset bytes = record nk {
  held = puts nk.held (stores_written nk.ledger.book region offset bytes);
  ledger = record {
    book = book_written nk.ledger.book region offset (length bytes);
    log = log_written nk.ledger.book nk.ledger.log region offset bytes;
  };
}

-- the record after a call that is accepted; stand has the bytes of the frames of pages that are declared
abbrev pub made : Nested → Call → Sourced → (ℕ → ℕ → ℕ) → Nested
made nk (SetHandler address) source stand = record nk { trap = address }
made nk (DeclareTable level frame) source stand = record nk { tables = declared nk.tables level frame }
made nk (WriteEntry table index value) source stand = record nk { tables = entry_written nk.tables table index value }
made nk (RemoveTable frame) source stand = record nk { tables = removed nk.tables frame }
made nk (LoadRoot frame) source stand = record nk { tables = root_loaded nk.tables frame }
made nk (DeclarePages address size policy) source stand =
    with_pages nk address size policy stand (frames_of_pages nk address size)
made nk (Allocate size policy) source stand = with_pool nk size policy (room nk.ledger.book.regions size)
made nk (Free region) source stand = with_free nk region
made nk (Write region offset place count) source stand = with_write nk region offset (bytes_read source)
made nk NoCall source stand = nk

-- and after any call: one that breaks a rule changes nothing
abbrev pub made_unless : Option Rule → Nested → Call → Sourced → (ℕ → ℕ → ℕ) → Nested
made_unless None nk call source stand = made nk call source stand
made_unless (Some rule) nk call source stand = nk

abbrev pub after_call : Nested → Call → Sourced → (ℕ → ℕ → ℕ) → Nested
after_call nk call source stand = made_unless (verdict nk call source) nk call source stand

-- the bytes that stand in the frames of pages that are declared; 0 elsewhere, and for every other call
abbrev pub bytes_standing : List ℕ → Option (List ℕ) → ℕ → ℕ → ℕ
bytes_standing m None f offset = 0
bytes_standing m (Some fs) f offset =
    if list_any (λ g. g == f) fs && nat_lt offset 4096 then byte_at m (4096 * f + offset) else 0

abbrev pub stand_of : Nested → Call → List ℕ → ℕ → ℕ → ℕ
stand_of nk (DeclarePages address size policy) m f offset = bytes_standing m (frames_of_pages nk address size) f offset
stand_of nk _ m f offset = 0

-- memory after a call that is accepted
abbrev pub accepted_memory : Nested → Call → Sourced → List ℕ → List ℕ
accepted_memory nk (SetHandler address) source m = stored m (stores 8 0x2000 address)
accepted_memory nk (DeclareTable level frame) source m = memory_declared m level frame
accepted_memory nk (WriteEntry table index value) source m = memory_written m table index value
accepted_memory nk (RemoveTable frame) source m = memory_removed m frame
accepted_memory nk (LoadRoot frame) source m = m
accepted_memory nk (DeclarePages address size policy) source m = m
accepted_memory nk (Allocate size policy) source m =
    stored m (zeros_of nk size policy (room nk.ledger.book.regions size))
accepted_memory nk (Free region) source m = m
accepted_memory nk (Write region offset place count) source m =
    stored m (stores_written nk.ledger.book region offset (bytes_read source))
accepted_memory nk NoCall source m = m

abbrev pub written_unless : Option Rule → Nested → Call → Sourced → List ℕ → List ℕ
written_unless None nk call source m = accepted_memory nk call source m
written_unless (Some rule) nk call source m = m

abbrev pub memory_after_call : Nested → Call → Sourced → List ℕ → List ℕ
memory_after_call nk call source m = written_unless (verdict nk call source) nk call source m

-- the place of a region of the pool
abbrev pub place_at : Option ℕ → Option ℕ
place_at None = None
place_at (Some p) = Some (pool_start + p)

-- the answer to a call that is accepted: the identifier of a new region, else 0; the place of an allocated one; and
-- whether every translation goes, since a frame's kind or the root changes
abbrev pub accepted_answer : Nested → Call → Answer
accepted_answer nk (SetHandler address) = record { value = 0; place = None; flush = false }
accepted_answer nk (DeclareTable level frame) = record { value = 0; place = None; flush = true }
accepted_answer nk (WriteEntry table index value) = record { value = 0; place = None; flush = false }
accepted_answer nk (RemoveTable frame) = record { value = 0; place = None; flush = true }
accepted_answer nk (LoadRoot frame) = record { value = 0; place = None; flush = true }
accepted_answer nk (DeclarePages address size policy) =
    record { value = nk.ledger.book.next; place = None; flush = true }
accepted_answer nk (Allocate size policy) =
    record { value = nk.ledger.book.next; place = place_at (room nk.ledger.book.regions size); flush = false }
accepted_answer nk (Free region) = record { value = 0; place = None; flush = false }
accepted_answer nk (Write region offset place count) = record { value = 0; place = None; flush = false }
accepted_answer nk NoCall = record { value = 0; place = None; flush = false }

-- the answer to any call: the number of the first rule that it breaks, where it breaks one
abbrev pub answer_by : Option Rule → Nested → Call → Answer
answer_by None nk call = accepted_answer nk call
answer_by (Some rule) nk call = record { value = rule_number rule; place = None; flush = false }

unfoldable pub answer_to : Nested → Call → Sourced → Answer
answer_to nk call source = answer_by (verdict nk call source) nk call
