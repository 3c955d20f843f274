-- A replay beside a run, over the calls on regions.
use Rattle.std.proofs.Common.{◌≡◌, ◌≢◌, ◌⊎◌, ℕ, ◌+◌, ◌/◌, ◌<◌, ◌≤◌, Bool, true, false, not, ◌&&◌, ◌||◌, List, length, All, inl, inr, refl, sym, ap, subst, ◌∙◌, arith}
use Rattle.std.specs.Prelude.{◌==◌, nat_le, nat_lt, replicate, Some, if◌then◌else◌, slice_index_or}
use Rattle.std.proofs.Math.Bool.{or-false}
use Rattle.std.proofs.lemmas.Bool.{and_from, and_parts, cases_Bool, eqb-false, false≢true, le-leb, leb-true, lt-ltb, ltb-true, or_right}
use Rattle.std.proofs.lemmas.List.{get_or-map, length-map, length-replicate}
use Rattle.std.proofs.lemmas.List.Elements.{All-filter, All-push, All-weaker}
use Rattle.std.proofs.lemmas.List.FromFn.{get_or-map-range_with_len}
use Rattle.nk_bits.specs.declared.kind.Kind.{Kind}
use Rattle.nk_bits.specs.declared.kind.Kind.TheVariants.{Data, Guarded}
use Rattle.nk_bits.specs.Kinds.{kind_of}
use Rattle.phys_mem.specs.Memory.{stored}
use Rattle.region_book.specs.RegionCalls.{with_one_more, freed, pool_region}
use Rattle.region_book.specs.RegionRecords.{Book, IsRegion, RegionRecord, byte_place, marked, region_of, region_stores, with_region}
use Rattle.nk_body.specs.CallRules.{puts}
use Rattle.nk_body.specs.NestedRecord.{IsLedgerKept, Ledger, Nested}
use Rattle.write_log.specs.LogRecords.{LogRecord}
use Rattle.nk_body.specs.ReplayBeside.{IsBeside, IsTold, frame_at, left_alone, offset_at}
use Rattle.nk_body.proofs.BesideTables.{spared}
use Rattle.nk_body.proofs.GuardedFrames.{guarded_data}
use Rattle.nk_body.proofs.HeldPuts.{hits, puts_alike, puts_hit, puts_missed}
use Rattle.nk_body.proofs.LowerLaws.{ReplayLaws}
use Rattle.nk_body.proofs.RegionPlaces.{found_id, frame_holds, frame_pooled, stores_all, stores_hit, stores_miss}

module _ (laws : ReplayLaws) (opened : ℕ → ℕ → ℕ) (tabled : ℕ → Bool) (nk : Nested) (held : ℕ → ℕ → ℕ) (m : List ℕ)
    (beside : IsBeside opened tabled nk held m) (kept : IsLedgerKept nk.tables.kinds nk.ledger) where
  abbrev kinds : List Kind
  kinds = nk.tables.kinds

  abbrev book : Book
  book = nk.ledger.book

  -- a region is let go
  pub beside_freed : (id : ℕ)
      → IsBeside opened tabled (record nk { ledger = record nk.ledger { book = freed book id } }) held m
  beside_freed id = record {
    size = beside.size;
    free = beside.free;
    tables = beside.tables;
    pool = beside.pool;
    regions = All-filter (λ r. not (r.id == id)) (IsTold opened tabled nk.held held) book.regions
        beside.regions;
  }

  -- stores in guarded frames, and what they leave of regions
  module _ (ws : List (ℕ × ℕ)) (guards : All (λ w. kind_of kinds (w.0 / 4096) ≡ Guarded) ws) where
    abbrev run_after : ℕ → ℕ → ℕ
    run_after = puts nk.held ws

    abbrev held_after : ℕ → ℕ → ℕ
    held_after = puts held ws

    -- the pool's bytes are the run's
    pool_after : (f offset : ℕ) → 10 ≤ f → f < 26 → offset < 4096 → held_after f offset ≡ run_after f offset
    pool_after f offset least most inside = puts_alike ws held nk.held f offset (beside.pool f offset least most inside)

    pooled_told : (next : ℕ) (r : RegionRecord) → IsRegion next r → r.pooled ≡ true
        → IsTold opened tabled run_after held_after r
    pooled_told next r is pooled = record {
      bytes = λ at inside.
          let frame = frame_pooled next r is pooled at inside in
          pool_after (frame_at r at) (offset_at r at) frame.0 frame.1 (omega arith)
          ∙ ap (λ b. if b || slice_index_or r.written at false then run_after (frame_at r at) (offset_at r at)
          else left_alone opened tabled (frame_at r at) (offset_at r at)) (sym pooled);
    }

    stored_beside : (after : Ledger) → All (IsTold opened tabled run_after held_after) after.book.regions
        → IsBeside opened tabled (record nk { held = run_after; ledger = after }) held_after (stored m ws)
    stored_beside after regions = record {
      size = laws.byte.memory.length m ws ∙ beside.size;
      free = λ f offset free inside.
          spared laws.byte opened tabled nk held m beside ws
          (All-weaker (λ (w : ℕ × ℕ). kind_of kinds (w.0 / 4096) ≡ Guarded) (λ w. kind_of kinds (w.0 / 4096) ≢ Data)
          (λ w is free. guarded_data (sym is ∙ free)) ws guards) f offset free inside
          ∙ beside.free f offset free inside;
      tables = beside.tables;
      pool = pool_after;
      regions = regions;
    }

    -- a region that no store hits
    missed_told : (r : RegionRecord) → ((at : ℕ) → at < r.size → hits (byte_place r at) ws ≡ false)
        → IsTold opened tabled nk.held held r → IsTold opened tabled run_after held_after r
    missed_told r missed told = record {
      bytes = λ at inside.
          puts_missed ws held (frame_at r at) (offset_at r at) (missed at inside)
          ∙ told.bytes at inside
          ∙ ap (λ b. if r.pooled || slice_index_or r.written at false then b
          else left_alone opened tabled (frame_at r at) (offset_at r at))
          (sym (puts_missed ws nk.held (frame_at r at) (offset_at r at) (missed at inside)));
    }

  -- stores in a region
  module _ (next : ℕ) (r : RegionRecord) (region : IsRegion next r) (guards : All (λ f. kind_of kinds f ≡ Guarded) r.frames)
      (offset : ℕ) (bytes : List ℕ) (fits : offset + length bytes ≤ r.size) where
    abbrev ws : List (ℕ × ℕ)
    ws = region_stores r offset bytes

    in_guarded : All (λ w. kind_of kinds (w.0 / 4096) ≡ Guarded) ws
    in_guarded =
        stores_all r (λ p. kind_of kinds (p / 4096) ≡ Guarded) offset bytes
        (λ k least most.
        let frame : byte_place r k / 4096 ≡ frame_at r k = omega arith in
        ap (kind_of kinds) frame ∙ frame_holds (λ f. kind_of kinds f ≡ Guarded) next r region guards k
        (omega (arith, most, fits)))

    -- no store hits a region whose bytes stand apart
    apart_told : (q : RegionRecord) → IsTold opened tabled nk.held held q
        → ((k at : ℕ) → k < r.size → at < q.size → byte_place r k ≢ byte_place q at)
        → IsTold opened tabled (puts nk.held ws) (puts held ws) q
    apart_told q told apart =
        missed_told ws in_guarded q
        (λ at inside. stores_miss r (byte_place q at) offset bytes
        (λ k least most. apart k at (omega (arith, most, fits)) inside)) told

    -- a region of the pool
    pool_told : r.pooled ≡ true → All (IsTold opened tabled (puts nk.held ws) (puts held ws)) book.regions
    pool_told pooled k d below =
        let q : RegionRecord = slice_index_or book.regions k d in
        let is : IsRegion book.next q = kept.book.each k d below in
        elim (cases_Bool q.pooled) [
          | inl also ↦ pooled_told ws in_guarded book.next q is also
          | inr declared ↦ apart_told q (beside.regions k d below)
              (λ k at within inside same.
              let pool = frame_pooled next r region pooled k within in
              let frame : frame_at r k ≡ frame_at q at = omega (arith, same) in
              elim (frame_holds (λ f. (f < 10) ⊎ (26 ≤ f)) book.next q is (is.declared declared).3 at inside) [
                | inl before ↦ omega (arith, pool.0, frame, before)
                | inr behind ↦ omega (arith, pool.1, frame, behind)
              ])
        ]

    -- a byte of the region as it is told, by whether it was written
    abbrev told_if : ℕ → Bool → ℕ
    told_if k b = if r.pooled || b then puts nk.held ws (frame_at r k) (offset_at r k)
        else left_alone opened tabled (frame_at r k) (offset_at r k)

    -- the region itself
    marked_told : (id : ℕ) → region_of book id ≡ Some r → IsTold opened tabled nk.held held r
        → IsTold opened tabled (puts nk.held ws) (puts held ws) (marked r offset (length bytes))
    marked_told id found told = record {
      bytes = bytes_told;
    }
      where
        out_of_range : (k : ℕ) → k < r.size → (nat_le offset k && nat_lt k (offset + length bytes)) ≡ false
            → hits (byte_place r k) ws ≡ false
        out_of_range k inside out =
            stores_miss r (byte_place r k) offset bytes
            (λ j least most. laws.region.within book id j k r kept.book found (omega (arith, most, fits)) inside
            (λ at. false≢true (sym out ∙ and_from (nat_le offset k) _ (le-leb offset k (omega (arith, at, least)))
            (lt-ltb k _ (omega (arith, at, most))))))

        by_range : (k : ℕ) → k < r.size → (was b : Bool) → (nat_le offset k && nat_lt k (offset + length bytes)) ≡ b
            → slice_index_or r.written k false ≡ was
            → puts held ws (frame_at r k) (offset_at r k) ≡ told_if k (was || b)
        by_range k inside was true within before =
            let parts = and_parts (nat_le offset k) (nat_lt k (offset + length bytes)) within in
            puts_hit ws held nk.held (frame_at r k) (offset_at r k) (omega arith)
            (stores_hit r offset bytes k (leb-true offset k parts.0) (ltb-true k (offset + length bytes) parts.1))
            ∙ ap (λ b. if b then puts nk.held ws (frame_at r k) (offset_at r k)
            else left_alone opened tabled (frame_at r k) (offset_at r k))
            (sym (or_right r.pooled (was || true) (or_right was true refl)))
        by_range k inside was false out before =
            let missed = out_of_range k inside out in
            puts_missed ws held (frame_at r k) (offset_at r k) missed
            ∙ told.bytes k inside
            ∙ ap (λ b. if r.pooled || slice_index_or r.written k false then b
            else left_alone opened tabled (frame_at r k) (offset_at r k))
            (sym (puts_missed ws nk.held (frame_at r k) (offset_at r k) missed))
            ∙ ap (told_if k) (before ∙ sym (or-false was))

        bytes_told : (k : ℕ) → k < r.size → puts held ws (frame_at r k) (offset_at r k)
            ≡ told_if k (slice_index_or (marked r offset (length bytes)).written k false)
        bytes_told k inside =
            by_range k inside (slice_index_or r.written k false)
            (nat_le offset k && nat_lt k (offset + length bytes)) refl refl
            ∙ ap (told_if k)
            (sym (get_or-map-range_with_len
            (λ k. slice_index_or r.written k false || (nat_le offset k && nat_lt k (offset + length bytes)))
            0 r.size k k false inside (omega arith)))

    -- a write
    module _ (id : ℕ) (found : region_of book id ≡ Some r) (told : IsTold opened tabled nk.held held r)
        (log : List LogRecord) where
      abbrev after : RegionRecord → RegionRecord
      after old = if old.id == r.id then marked r offset (length bytes) else old

      other_told : (q : RegionRecord) → (q.id == r.id) ≡ false → region_of book q.id ≡ Some q
          → IsTold opened tabled nk.held held q → IsTold opened tabled (puts nk.held ws) (puts held ws) q
      other_told q other q_found was =
          apart_told q was
          (λ k at. laws.region.between book id q.id k at r q kept.book
          (λ same. eqb-false q.id r.id other (sym same ∙ sym (found_id book id r found))) found q_found)

      after_told : (q : RegionRecord) (b : Bool) → (q.id == r.id) ≡ b → region_of book q.id ≡ Some q
          → IsTold opened tabled nk.held held q
          → IsTold opened tabled (puts nk.held ws) (puts held ws) (if b then marked r offset (length bytes) else q)
      after_told q true same q_found was = marked_told id found told
      after_told q false other q_found was = other_told q other q_found was

      abbrev ledger_after : Ledger
      ledger_after = record { book = with_region book (marked r offset (length bytes)); log = log }

      pub beside_written : IsBeside opened tabled (record nk { held = puts nk.held ws; ledger = ledger_after })
          (puts held ws) (stored m ws)
      beside_written =
          stored_beside ws in_guarded ledger_after
          (λ k d below.
          let short : k < length book.regions = omega (arith, below, length-map book.regions after) in
          let q : RegionRecord = slice_index_or book.regions k d in
          subst (IsTold opened tabled (puts nk.held ws) (puts held ws))
          (sym (get_or-map after book.regions k d d short))
          (after_told q (q.id == r.id) refl (laws.region.listed book k d kept.book short) (beside.regions k d short)))

  -- a new region of the pool
  abbrev with_added : RegionRecord → Ledger
  with_added r = record nk.ledger { book = with_one_more book r 0 }

  pub beside_allocated : (next size policy p : ℕ) → IsRegion next (pool_region book size policy p)
      → All (λ f. kind_of kinds f ≡ Guarded) (pool_region book size policy p).frames
      → let r : RegionRecord = pool_region book size policy p in
      let ws = region_stores r 0 (replicate size 0) in
      IsBeside opened tabled (record nk { held = puts nk.held ws; ledger = with_added r }) (puts held ws) (stored m ws)
  beside_allocated next size policy p region guards =
      let r : RegionRecord = pool_region book size policy p in
      let zeros : List ℕ = replicate size 0 in
      let ws = region_stores r 0 zeros in
      let fits : 0 + length zeros ≤ r.size = omega (arith, length-replicate {A = ℕ} size 0) in
      stored_beside ws (in_guarded next r region guards 0 zeros fits) (with_added r)
      (All-push (IsTold opened tabled (puts nk.held ws) (puts held ws)) book.regions r
      (pool_told next r region guards 0 zeros fits refl)
      (pooled_told ws (in_guarded next r region guards 0 zeros fits) next r region refl))
