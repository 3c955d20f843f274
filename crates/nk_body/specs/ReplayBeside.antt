-- What the accepted calls alone make of the opening, in a memory that doesn't take the stores of the outer kernel. The
-- record that it holds stands beside the one that they made in the run: both have the same kinds, entries, root, handler,
-- regions and log, and the same bytes in the pool and in declared pages wherever a call wrote. The other bytes of declared
-- pages are what the calls alone leave there.
use Rattle.std.specs.Prelude.{◌≡◌, ℕ, ◌+◌, ◌*◌, ◌/◌, ◌%◌, ◌<◌, ◌≤◌, Bool, true, false, ◌||◌, ◌==◌, if◌then◌else◌, List, length, None, slice_index, slice_index_or, All}
use Rattle.nk_body.specs.declared.call.Call.{Call}
use Rattle.nk_body.specs.declared.call.Call.TheVariants.{DeclareTable}
use Rattle.nk_bits.specs.declared.kind.Kind.TheVariants.{Data, Fixed}
use Rattle.nk_bits.specs.Kinds.{kind_of}
use Rattle.nk_bits.specs.KernelLayout.{handler_slot, pool_end, pool_frame}
use Rattle.phys_mem.specs.Memory.{byte_at}
use Rattle.boot_map.specs.Opening.{division_byte}
use Rattle.boot_map.specs.OpeningKinds.{kind_at}
use Rattle.page_desc.specs.PageTables.{is_table}
use Rattle.region_book.specs.RegionRecords.{RegionRecord}
use Rattle.nk_body.specs.CallRules.{IsSourceOf, Sourced, verdict, wants}
use Rattle.nk_body.specs.NestedRecord.{IsLedgerKept, Nested}

-- the byte of a frame at the opening of the image b, and whether the frame is a page table there
abbrev pub opening_byte : List ℕ → ℕ → ℕ → ℕ → ℕ
opening_byte b frames f offset = division_byte b frames (4096 * f + offset)

abbrev pub is_opening_table : List ℕ → ℕ → ℕ → Bool
is_opening_table b frames f = is_table (kind_at b frames f)

-- a call that declares the frame makes it a page table
abbrev pub declares_table : ℕ → Call → Bool
declares_table f (DeclareTable level frame) = frame == f
declares_table f _ = false

-- what the calls alone leave in a frame that is no page table and in which none of them wrote: 0 where it was a page table,
-- else the opening's byte
abbrev pub left_alone : (ℕ → ℕ → ℕ) → (ℕ → Bool) → ℕ → ℕ → ℕ
left_alone opened tabled f offset = if tabled f then 0 else opened f offset

-- the frame of a region's byte, and the byte's offset in it
abbrev pub frame_at : RegionRecord → ℕ → ℕ
frame_at r at = slice_index r.frames ((r.place + at) / 4096)

abbrev pub offset_at : RegionRecord → ℕ → ℕ
offset_at r at = (r.place + at) % 4096

-- a byte of a region: the run's where the region is of the pool or the byte was written, else what the calls alone leave
abbrev pub told_byte : (ℕ → ℕ → ℕ) → (ℕ → Bool) → (ℕ → ℕ → ℕ) → RegionRecord → ℕ → ℕ
told_byte opened tabled run r at =
    if r.pooled || slice_index_or r.written at false then run (frame_at r at) (offset_at r at)
    else left_alone opened tabled (frame_at r at) (offset_at r at)

-- each byte of a region is that
pub record IsTold (opened : ℕ → ℕ → ℕ) (tabled : ℕ → Bool) (run held : ℕ → ℕ → ℕ) (r : RegionRecord) : Type 0 where
  pub bytes : (at : ℕ) → at < r.size → held (frame_at r at) (offset_at r at) ≡ told_byte opened tabled run r at

-- the bytes of guarded frames and the memory that the calls alone made, beside the record that they made in the run, from
-- these bytes and with these frames as page tables at some time: frames of data are left alone, page tables are such
-- frames, the pool is the run's, and each byte of a region is as it is told
pub record IsBeside (opened : ℕ → ℕ → ℕ) (tabled : ℕ → Bool) (nk : Nested) (held : ℕ → ℕ → ℕ)
    (m : List ℕ) : Type 0 where
  pub size : length m ≡ 4096 * length nk.tables.kinds
  pub free : (f offset : ℕ) → kind_of nk.tables.kinds f ≡ Data → offset < 4096
      → byte_at m (4096 * f + offset) ≡ left_alone opened tabled f offset
  pub tables : (f : ℕ) → is_table (kind_of nk.tables.kinds f) ≡ true → tabled f ≡ true
  pub pool : (f offset : ℕ) → pool_frame ≤ f → f < pool_end → offset < 4096 → held f offset ≡ nk.held f offset
  pub regions : All (IsTold opened tabled nk.held held) nk.ledger.book.regions

-- a call is accepted: it breaks no rule, and what was read is what it takes; the handler's frame is fixed, and the ledger
-- is kept
pub record IsAccepted (nk : Nested) (call : Call) (source : Sourced) : Type 0 where
  pub none : verdict nk call source ≡ None
  pub sourced : IsSourceOf (wants nk.ledger.book call) source
  pub handler : kind_of nk.tables.kinds handler_slot ≡ Fixed
  pub kept : IsLedgerKept nk.tables.kinds nk.ledger

-- what an accepted call makes of the run's record, and of the other with its memory: they differ in the bytes of guarded
-- frames alone, and stand beside one another
pub record IsMadeBeside (opened : ℕ → ℕ → ℕ) (tabled : ℕ → Bool) (after other : Nested) (later : List ℕ) : Type 0 where
  pub same : other ≡ record after { held = other.held }
  pub beside : IsBeside opened tabled after other.held later
