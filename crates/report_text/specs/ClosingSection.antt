-- The closing section of a run: the root of the page tables and the trap handler, and then each frame whose kind differs
-- from the opening's, each entry of a page table that does, each region that lives, and each record of the log.
use Rattle.std.specs.Prelude.{ℕ, zero, suc, ◌+◌, ◌/◌, ◌%◌, Bool, true, false, ◌==◌, if◌then◌else◌, List, [], ◌∷◌, ◌++◌, map, slice_index}
use Rattle.std.specs.List.{range_with_len}
use Rattle.nk_bits.specs.declared.kind.Kind.{Kind}
use Rattle.nk_bits.specs.declared.kind.Kind.TheVariants.{Data, Code, Table, Fixed, Trap, Guarded, Hidden}
use Rattle.nk_bits.specs.Kinds.{kind_of}
use Rattle.boot_map.specs.OpeningEntries.{opening_entry}
use Rattle.boot_map.specs.OpeningKinds.{kind_at}
use Rattle.page_desc.specs.PageTables.{is_table}
use Rattle.nk_body.specs.NestedRecord.{Nested}
use Rattle.region_book.specs.RegionRecords.{RegionRecord}
use Rattle.write_log.specs.LogRecords.{LogRecord}
use Rattle.report_text.specs.RunLines.{entry_line, kind_line, log_line, region_line, root_line, trap_line}

-- two kinds are one
abbrev pub is_same_kind : Kind → Kind → Bool
is_same_kind Data Data = true
is_same_kind Code Code = true
is_same_kind (Table one) (Table other) = one == other
is_same_kind Fixed Fixed = true
is_same_kind Trap Trap = true
is_same_kind Guarded Guarded = true
is_same_kind Hidden Hidden = true
is_same_kind _ _ = false

-- what g gives for n numbers from a place on, one after the other
unfoldable pub lines_of : (ℕ → List ℕ) → ℕ → ℕ → List ℕ
lines_of g zero place = []
lines_of g (suc n) place = g place ++ lines_of g n (place + 1)

-- the line of a frame whose kind isn't what it was
abbrev pub line_of_kind : Kind → Kind → ℕ → List ℕ
line_of_kind before now frame = if is_same_kind before now then [] else kind_line frame now

-- the line of an entry whose value isn't what it was
abbrev pub line_of_entry : ℕ → ℕ → ℕ → ℕ → List ℕ
line_of_entry before now frame index = if before == now then [] else entry_line frame index now

-- entry i of frame f at the opening; 0 where the frame was no page table
abbrev pub table_value : List ℕ → ℕ → ℕ → ℕ → ℕ
table_value image frames f i = if is_table (kind_at image frames f) then opening_entry image frames f i else 0

-- the frames whose kind changed, ascending
unfoldable pub kind_lines : List ℕ → ℕ → Nested → List ℕ
kind_lines image frames nk =
    lines_of (λ f. line_of_kind (kind_at image frames f) (kind_of nk.tables.kinds f) f) frames 0

-- the entries that changed of one page table, by index, and of all of them, by frame
unfoldable pub lines_of_table : List ℕ → ℕ → Nested → ℕ → List ℕ
lines_of_table image frames nk f =
    if is_table (kind_of nk.tables.kinds f)
    then lines_of (λ i. line_of_entry (table_value image frames f i) (nk.tables.entries f i) f i) 512 0
    else []

unfoldable pub entry_lines : List ℕ → ℕ → Nested → List ℕ
entry_lines image frames nk = lines_of (lines_of_table image frames nk) frames 0

-- the bytes of a region, as its frames hold them
unfoldable pub bytes_of_region : Nested → RegionRecord → List ℕ
bytes_of_region nk r =
    map (λ o. nk.held (slice_index r.frames ((r.place + o) / 4096)) ((r.place + o) % 4096)) (range_with_len 0 r.size)

-- the regions that live, by identifier, each with its bytes as they are given, and the records of the log, in order
unfoldable pub region_lines : (RegionRecord → List ℕ) → List RegionRecord → List ℕ
region_lines bytes [] = []
region_lines bytes (r ∷ later) = region_line r (bytes r) ++ region_lines bytes later

unfoldable pub log_lines : ℕ → List LogRecord → List ℕ
log_lines number [] = []
log_lines number (it ∷ later) = log_line number it ++ log_lines (number + 1) later

-- the section of a record, for the opening of an image in a memory of so many frames, with these bytes of each region
abbrev pub section_with : (RegionRecord → List ℕ) → List ℕ → ℕ → Nested → List ℕ
section_with bytes image frames nk =
    root_line nk.tables.root ++ (trap_line nk.trap ++ (kind_lines image frames nk ++ (entry_lines image frames nk
    ++ (region_lines bytes nk.ledger.book.regions ++ log_lines 0 nk.ledger.log))))

-- and with those that the record has
abbrev pub section : List ℕ → ℕ → Nested → List ℕ
section image frames nk = section_with (bytes_of_region nk) image frames nk
