-- What the nested kernel guards, as plain data, and how memory holds it.
use Rattle.std.specs.Prelude.{◌≡◌, ◌≤◌, ◌<◌, ℕ, ◌+◌, ◌*◌, true, ◌&&◌, nat_lt, if◌then◌else◌, List, length, All}
use Rattle.phys_mem.specs.MaskedMemory.{is_book_frame, seen}
use Rattle.phys_mem.specs.Memory.{byte_at, number_at}
use Rattle.nk_bits.specs.declared.kind.Kind.{Kind}
use Rattle.nk_bits.specs.declared.kind.Kind.TheVariants.{Fixed, Guarded, Hidden, Trap}
use Rattle.nk_bits.specs.Kinds.{is_guarded, kind_of}
use Rattle.nk_bits.specs.KernelLayout.{gate_text, handler_slot, idt_and_tss, nested_stack, pool_end, pool_frame, trap_stack}
use Rattle.page_desc.specs.FrameDescriptors.{Descriptors}
use Rattle.page_desc.specs.DescriptorBytes.{HoldsDescriptors, descriptors_in, kinds_in}
use Rattle.page_desc.specs.PageTables.{AreDescribed, Tables, tables_in}
use Rattle.region_book.specs.RegionBytes.{HoldsRegions, RegionIndex, book_in}
use Rattle.region_book.specs.RegionRecords.{Book, IsBook}
use Rattle.write_log.specs.LogBytes.{HoldsLog, LogCounts, log_in}
use Rattle.write_log.specs.LogRecords.{LogRecord, log_size}

-- the regions that live, and the log of writes
pub record Ledger : Type 0 where
  pub book : Book
  pub log : List LogRecord

-- kinds, page tables, fixed bytes and root; the address of the outer kernel's trap handler; by frame and offset the bytes of
-- guarded frames; regions and log
pub record Nested : Type 0 where
  pub tables : Tables
  pub trap : ℕ
  pub held : ℕ → ℕ → ℕ
  pub ledger : Ledger

-- the address of the trap handler: the eight bytes of the handler slot, at the beginning of frame 2
unfoldable pub handler_in : List ℕ → ℕ
handler_in m = number_at m 8 0x2000

-- the bytes of the guarded frames; 0 for every other frame, and past a frame's 4,096 bytes
unfoldable pub held_bytes : List Kind → List ℕ → ℕ → ℕ → ℕ
held_bytes kinds m f offset =
    if is_guarded (kind_of kinds f) && nat_lt offset 4096 then byte_at m (4096 * f + offset) else 0

-- the record that kinds, root, ledger and memory stand for
abbrev pub nested_in : List Kind → ℕ → Ledger → List ℕ → Nested
nested_in kinds root ledger m = record {
  tables = tables_in kinds root m;
  trap = handler_in m;
  held = held_bytes kinds m;
  ledger = ledger;
}

-- the ledger is sound, and each region lies in guarded frames; so does the pool
pub record IsLedgerKept (kinds : List Kind) (ledger : Ledger) : Type 0 where
  pub book : IsBook ledger.book
  pub frames : All (λ r. All (λ f. kind_of kinds f ≡ Guarded) r.frames) ledger.book.regions
  pub pool : (f : ℕ) → pool_frame ≤ f → f < pool_end → kind_of kinds f ≡ Guarded
  pub log : log_size ledger.log ≤ 65536

-- the nested area's frames that hold no page table have the kinds that they begin with: the interrupt descriptor table
-- with the task-state segment, the gates' text, the handler slot and the nested kernel's stack are fixed, and the trap stack
-- is Trap
pub record HasFixedFrames (kinds : List Kind) : Type 0 where
  pub descriptors : kind_of kinds idt_and_tss ≡ Fixed
  pub gates : kind_of kinds gate_text ≡ Fixed
  pub handler : kind_of kinds handler_slot ≡ Fixed
  pub traps : kind_of kinds trap_stack ≡ Trap
  pub stack : kind_of kinds nested_stack ≡ Fixed

-- the books of the nested kernel, as plain data
pub record Books : Type 0 where
  pub frames : Descriptors
  pub root : ℕ
  pub trap : ℕ
  pub ledger : Ledger

-- the record that books and memory stand for
abbrev pub nested_by : Books → List ℕ → Nested
nested_by books m = nested_in books.frames.kinds books.root books.ledger m

-- books and memory stand for one record: the descriptors are those of memory's tables, which are sound, of at least 512
-- frames, of which the nested area's have their kinds; memory holds the handler's address; and the ledger is sound, its
-- regions in guarded frames
pub record AreBooks (books : Books) (m : List ℕ) : Type 0 where
  pub described : AreDescribed books.frames books.root m
  pub least : 512 ≤ length books.frames.kinds
  pub fixed : HasFixedFrames books.frames.kinds
  pub trap : books.trap ≡ handler_in m
  pub kept : IsLedgerKept books.frames.kinds books.ledger

-- what the nested kernel keeps outside memory: how many frames there are, root and handler, in which slots regions live, and
-- how long the log is
pub record OwnState : Type 0 where
  pub frames : ℕ
  pub root : ℕ
  pub trap : ℕ
  pub regions : RegionIndex
  pub log : LogCounts

-- the books that it keeps there and in memory
abbrev pub books_in : OwnState → List ℕ → Books
books_in own m = record {
  frames = descriptors_in m;
  root = own.root;
  trap = own.trap;
  ledger = record { book = book_in own.regions m; log = log_in own.log m };
}

-- the record that they stand for, with the memory that is seen
abbrev pub nested_held : OwnState → List ℕ → Nested
nested_held own m = nested_by (books_in own m) (seen m)

-- memory holds the books, in frames that are hidden, in their forms and with 0 wherever they don't stand; and the books and
-- what is seen of memory stand for one record
pub record HoldsBooks (own : OwnState) (m : List ℕ) : Type 0 where
  pub books : AreBooks (books_in own m) (seen m)
  pub stored : HoldsDescriptors own.frames m
  pub hidden : (f : ℕ) → is_book_frame own.frames f ≡ true → kind_of (kinds_in m) f ≡ Hidden
  pub regions : HoldsRegions own.regions m
  pub log : HoldsLog own.log m
