-- A replay beside a run, over the calls that set the handler and those on page tables.
use Rattle.std.proofs.Common.{◌≡◌, ◌≢◌, ℕ, ◌+◌, ◌*◌, ◌/◌, ◌<◌, ◌≤◌, Bool, true, false, List, length, All, inl, inr, refl, sym, ap, ◌∙◌, arith}
use Rattle.std.specs.Prelude.{◌==◌, ◌||◌, if◌then◌else◌, slice_index_or, slice_set}
use Rattle.std.proofs.Math.Bool.{or-false}
use Rattle.std.proofs.lemmas.Bool.{cases_eq, false≢true, eq-eqb, lt-ltb, ne_eqb, or_left, or_right}
use Rattle.std.proofs.lemmas.List.{get_or-set_other, get_or-set_same, length-set}
use Rattle.std.proofs.lemmas.List.Elements.{All-weaker}
use Rattle.nk_bits.specs.declared.kind.Kind.{Kind}
use Rattle.nk_bits.specs.declared.kind.Kind.TheVariants.{Data, Fixed, Guarded, Hidden, Table}
use Rattle.nk_bits.specs.Kinds.{is_data, kind_of, level_of}
use Rattle.phys_mem.specs.Memory.{byte_at, frame_zeroed, stored, stores}
use Rattle.page_desc.specs.FrameDescriptors.{last_value}
use Rattle.page_desc.specs.PageTables.{is_table}
use Rattle.region_book.specs.RegionRecords.{IsRegion, RegionRecord}
use Rattle.vmmu.specs.AcceptedCalls.{IsDeclarable, IsRemovable, IsWritable}
use Rattle.vmmu.specs.TableCalls.{declared, entry_written, memory_declared, memory_removed, memory_written, removed, root_loaded}
use Rattle.nk_body.specs.NestedRecord.{IsLedgerKept, Nested}
use Rattle.nk_body.specs.ReplayBeside.{IsBeside, IsTold, frame_at, left_alone, offset_at}
use Rattle.nk_body.proofs.GuardedFrames.{guarded_data}
use Rattle.nk_body.proofs.LowerLaws.{ByteLaws}
use Rattle.nk_body.proofs.RegionPlaces.{frame_holds}

fixed_data : Fixed ≡ Data → ⊥
fixed_data same = false≢true (ap is_data same)

module _ (laws : ByteLaws) (opened : ℕ → ℕ → ℕ) (tabled : ℕ → Bool) (nk : Nested) (held : ℕ → ℕ → ℕ) (m : List ℕ)
    (beside : IsBeside opened tabled nk held m) where
  abbrev kinds : List Kind
  kinds = nk.tables.kinds

  -- frames that aren't of data
  abbrev pub Spares : List (ℕ × ℕ) → Type 0
  Spares ws = All (λ w. kind_of kinds (w.0 / 4096) ≢ Data) ws

  pub spared : (ws : List (ℕ × ℕ)) → Spares ws → (f offset : ℕ) → kind_of kinds f ≡ Data → offset < 4096
      → byte_at (stored m ws) (4096 * f + offset) ≡ byte_at m (4096 * f + offset)
  spared ws spares f offset free inside =
      laws.memory.byte_elsewhere m ws (4096 * f + offset)
      (All-weaker (λ (w : ℕ × ℕ). kind_of kinds (w.0 / 4096) ≢ Data) (λ w. w.0 ≢ 4096 * f + offset)
      (λ w apart same.
      let frame : w.0 / 4096 ≡ f = omega (arith, same, inside) in apart (ap (kind_of kinds) frame ∙ free))
      ws spares)

  -- stores that spare data, and another handler, root or entries
  pub stays : (trap root : ℕ) (entries : ℕ → ℕ → ℕ) (later : List ℕ) → length later ≡ length m
      → ((f offset : ℕ) → kind_of kinds f ≡ Data → offset < 4096
      → byte_at later (4096 * f + offset) ≡ byte_at m (4096 * f + offset))
      → let tables = record nk.tables { entries = entries; root = root } in
      IsBeside opened tabled (record nk { trap = trap; tables = tables }) held later
  stays trap root entries later size same = record {
    size = size ∙ beside.size;
    free = λ f offset free inside. same f offset free inside ∙ beside.free f offset free inside;
    tables = beside.tables;
    pool = beside.pool;
    regions = beside.regions;
  }

  pub beside_trap : (a : ℕ) → kind_of kinds 2 ≡ Fixed → IsBeside opened tabled (record nk { trap = a }) held
      (stored m (stores 8 0x2000 a))
  beside_trap a fixed =
      stays a nk.tables.root nk.tables.entries (stored m (stores 8 0x2000 a)) (laws.memory.length m (stores 8 0x2000 a))
      (spared (stores 8 0x2000 a)
      (All-weaker (λ (w : ℕ × ℕ). (0x2000 ≤ w.0) × (w.0 < 0x2000 + 8)) (λ w. kind_of kinds (w.0 / 4096) ≢ Data)
      (λ w at free.
      let frame : w.0 / 4096 ≡ 2 = omega (arith, at.0, at.1) in
      fixed_data (sym fixed ∙ ap (kind_of kinds) (sym frame) ∙ free))
      (stores 8 0x2000 a) (laws.memory.places 8 0x2000 a)))

  pub beside_root : (frame : ℕ) → IsBeside opened tabled (record nk { tables = root_loaded nk.tables frame }) held m
  beside_root frame = stays nk.trap frame nk.tables.entries m refl (λ f offset free inside. refl)

  pub beside_entry : (frame index value : ℕ) → IsWritable nk.tables frame index value
      → IsBeside opened tabled (record nk { tables = entry_written nk.tables frame index value }) held
      (memory_written m frame index value)
  beside_entry frame index value is =
      let ws = stores 8 (4096 * frame + 8 * index) value in
      stays nk.trap nk.tables.root _ (stored m ws) (laws.memory.length m ws)
      (spared ws
      (All-weaker (λ (w : ℕ × ℕ). (4096 * frame + 8 * index ≤ w.0) × (w.0 < 4096 * frame + 8 * index + 8))
      (λ w. kind_of kinds (w.0 / 4096) ≢ Data)
      (λ w at free.
      let there : w.0 / 4096 ≡ frame = omega (arith, at.0, at.1, is.small) in
      let none : level_of (kind_of kinds frame) ≡ 0 = ap level_of (ap (kind_of kinds) (sym there) ∙ free) in
      omega (arith, none, is.table))
      ws (laws.memory.places 8 (4096 * frame + 8 * index) value)))

  -- a frame's kind changes
  kind_here : (a : ℕ) (kind : Kind) → a < length kinds → kind_of (slice_set kinds a kind) a ≡ kind
  kind_here a kind inside = get_or-set_same kinds a kind Hidden inside

  kind_there : (a : ℕ) (kind : Kind) (f : ℕ) → f ≢ a → kind_of (slice_set kinds a kind) f ≡ kind_of kinds f
  kind_there a kind f apart = get_or-set_other kinds a f kind Hidden apart

  whole_frame : (a : ℕ) → a < length kinds → 4096 * a + 4096 ≤ length m
  whole_frame a inside = omega (arith, inside, beside.size)

  frame_of_place : (f offset : ℕ) → offset < 4096 → (4096 * f + offset) / 4096 ≡ f
  frame_of_place f offset inside = omega (arith, inside)

  -- a table is removed: its frame is data again, all zeros
  pub beside_removed : (frame : ℕ) → IsRemovable nk.tables frame
      → IsBeside opened tabled (record nk { tables = removed nk.tables frame }) held (memory_removed m frame)
  beside_removed frame is = record {
    size = laws.frame.length_zeroed m frame whole ∙ beside.size ∙ ap (λ n. 4096 * n) (sym (length-set kinds frame Data));
    free = free;
    tables = tables;
    pool = beside.pool;
    regions = beside.regions;
  }
    where
      whole : 4096 * frame + 4096 ≤ length m
      whole = whole_frame frame is.inside

      free : (f offset : ℕ) → kind_of (slice_set kinds frame Data) f ≡ Data → offset < 4096
          → byte_at (frame_zeroed m frame) (4096 * f + offset) ≡ left_alone opened tabled f offset
      free f offset is_data_now inside = elim (cases_eq f frame) [
        | inl here ↦
            laws.frame.byte_zeroed m frame (4096 * f + offset) whole (frame_of_place f offset inside ∙ here)
            ∙ ap (λ b. if b then 0 else opened f offset)
            (sym (beside.tables f (ap (λ n. is_table (kind_of kinds n)) here
            ∙ lt-ltb 0 (level_of (kind_of kinds frame)) is.table)))
        | inr apart ↦
            laws.frame.byte_zeroed_elsewhere m frame (4096 * f + offset) whole
            (λ same. apart (sym (frame_of_place f offset inside) ∙ same))
            ∙ beside.free f offset (sym (kind_there frame Data f apart) ∙ is_data_now) inside
      ]

      tables : (f : ℕ) → is_table (kind_of (slice_set kinds frame Data) f) ≡ true → tabled f ≡ true
      tables f table = elim (cases_eq f frame) [
        | inl here ↦ absurd (false≢true (sym (ap is_table
            (ap (kind_of (slice_set kinds frame Data)) here ∙ kind_here frame Data is.inside)) ∙ table))
        | inr apart ↦ beside.tables f (sym (ap is_table (kind_there frame Data f apart)) ∙ table)
      ]

  -- a frame of data becomes a table
  module _ (level frame : ℕ) (is : IsDeclarable nk.tables level frame) (kept : IsLedgerKept kinds nk.ledger) where
    abbrev pub also : ℕ → Bool
    also f = tabled f || frame == f

    abbrev after : List Kind
    after = slice_set kinds frame (Table level)

    also_same : (f : ℕ) → f ≢ frame → also f ≡ tabled f
    also_same f apart = ap (λ b. tabled f || b) (ne_eqb frame f (λ same. apart (sym same))) ∙ or-false (tabled f)

    left_same : (f offset : ℕ) → f ≢ frame → left_alone opened tabled f offset ≡ left_alone opened also f offset
    left_same f offset apart = ap (λ b. if b then 0 else opened f offset) (sym (also_same f apart))

    ws : List (ℕ × ℕ)
    ws = stores 8 (4096 * frame + 8 * 511) (last_value level)

    elsewhere : (f offset : ℕ) → f ≢ frame → offset < 4096 → byte_at (memory_declared m level frame) (4096 * f + offset)
        ≡ byte_at m (4096 * f + offset)
    unfolding ws
    elsewhere f offset apart inside =
        laws.memory.byte_elsewhere (frame_zeroed m frame) ws (4096 * f + offset)
        (All-weaker (λ (w : ℕ × ℕ). (4096 * frame + 8 * 511 ≤ w.0) × (w.0 < 4096 * frame + 8 * 511 + 8))
        (λ w. w.0 ≢ 4096 * f + offset)
        (λ w at same. apart (omega (arith, same, inside, at.0, at.1)))
        ws (laws.memory.places 8 (4096 * frame + 8 * 511) (last_value level)))
        ∙ laws.frame.byte_zeroed_elsewhere m frame (4096 * f + offset) (whole_frame frame is.inside)
        (λ same. apart (sym (frame_of_place f offset inside) ∙ same))

    other_frame : (f : ℕ) → kind_of kinds f ≡ Guarded → f ≢ frame
    other_frame f guarded same = guarded_data (sym guarded ∙ ap (kind_of kinds) same ∙ is.free)

    still_told : (r : RegionRecord) → IsRegion nk.ledger.book.next r → All (λ f. kind_of kinds f ≡ Guarded) r.frames
        → IsTold opened tabled nk.held held r → IsTold opened also nk.held held r
    still_told r region guarded told = record {
      bytes = λ at inside. told.bytes at inside
          ∙ ap (λ b. if r.pooled || slice_index_or r.written at false then nk.held (frame_at r at) (offset_at r at) else b)
          (left_same (frame_at r at) (offset_at r at)
          (other_frame (frame_at r at)
          (frame_holds (λ f. kind_of kinds f ≡ Guarded) nk.ledger.book.next r region guarded at inside)));
    }

    pub beside_declared : IsBeside opened also (record nk { tables = declared nk.tables level frame }) held
        (memory_declared m level frame)
    unfolding ws
    beside_declared = record {
      size = laws.memory.length (frame_zeroed m frame) ws ∙ laws.frame.length_zeroed m frame (whole_frame frame is.inside) ∙ beside.size
          ∙ ap (λ n. 4096 * n) (sym (length-set kinds frame (Table level)));
      free = λ f offset is_data_now inside. elim (cases_eq f frame) [
        | inl here ↦ absurd (table_data (sym (ap (kind_of after) here ∙ kind_here frame (Table level) is.inside)
            ∙ is_data_now))
        | inr apart ↦
            elsewhere f offset apart inside
            ∙ beside.free f offset (sym (kind_there frame (Table level) f apart) ∙ is_data_now) inside
            ∙ left_same f offset apart
      ];
      tables = λ f table. elim (cases_eq f frame) [
        | inl here ↦ or_right (tabled f) (frame == f) (eq-eqb frame f (sym here))
        | inr apart ↦ or_left (tabled f) (frame == f)
            (beside.tables f (sym (ap is_table (kind_there frame (Table level) f apart)) ∙ table))
      ];
      pool = beside.pool;
      regions = λ k d below.
          still_told (slice_index_or nk.ledger.book.regions k d) (kept.book.each k d below) (kept.frames k d below)
          (beside.regions k d below);
    }
      where
        table_data : Table level ≡ Data → ⊥
        table_data same = false≢true (ap is_data same)
