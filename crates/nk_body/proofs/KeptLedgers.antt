-- The ledger stays sound, its regions in guarded frames, over each call on regions.
use Rattle.std.proofs.Common.{◌≡◌, ◌⊎◌, ℕ, ◌+◌, ◌-◌, ◌*◌, ◌/◌, ◌%◌, ◌<◌, ◌≤◌, Bool, true, false, not, ◌&&◌, List, [], ◌∷◌, length, arith, refl, sym, ap, ◌∙◌, subst, inl, inr}
use Rattle.std.specs.Prelude.{slice_index_or, ◌==◌, nat_lt, All, Option, Some, None, if◌then◌else◌}
use Rattle.std.specs.List.{list_any, range_with_len}
use Rattle.std.proofs.lemmas.Bool.{and_cases, cases_lt, false≢true, ltb-false, or_parts}
use Rattle.std.proofs.lemmas.List.{length-replicate}
use Rattle.std.proofs.lemmas.List.Elements.{All-cons, All-filter, All-nil, All-push, All-weaker}
use Rattle.std.proofs.lemmas.List.FromFn.{length-range_with_len}
use Rattle.nk_bits.specs.declared.kind.Kind.{Kind}
use Rattle.nk_bits.specs.declared.kind.Kind.TheVariants.{Data, Guarded}
use Rattle.nk_bits.specs.Kinds.{is_data, kind_of}
use Rattle.policy_book.specs.PolicyRules.{book_by, book_written, log_by, log_written, policy_rule}
use Rattle.region_book.specs.RegionCalls.{with_one_more, freed, guarded, meets, page_region, pool_region, room}
use Rattle.nk_bits.specs.KernelLayout.{pool_start}
use Rattle.region_book.specs.RegionRecords.{IsApart, IsEachOnce, IsRegion, RegionRecord, region_of}
use Rattle.write_log.specs.LogRecords.{log_size, logged}
use Rattle.nk_body.specs.NestedRecord.{IsLedgerKept, Ledger}
use Rattle.nk_body.proofs.GuardedFrames.{guarded_stays, guarded_there}
use Rattle.nk_body.proofs.RegionFrames.{in_memory, run_below}
use Rattle.nk_body.proofs.RegionRules.{IsAllocable, IsDeclarable, logged_size, policy_room, room_facts}
use Rattle.nk_body.proofs.SoundBooks.{added_sound, removed_sound, written_frames, written_sound}

-- the frames of a region are guarded
abbrev pub AreGuarded : List Kind → RegionRecord → Type 0
AreGuarded kinds r = All (λ f. kind_of kinds f ≡ Guarded) r.frames

none_meets : (p : RegionRecord → Bool) (rs : List RegionRecord) → list_any p rs ≡ false → All (λ r. p r ≡ false) rs
none_meets p [] none = All-nil (λ r. p r ≡ false)
none_meets p (r ∷ rs) none =
    let parts = or_parts (p r) (list_any p rs) none in All-cons (λ r. p r ≡ false) r rs parts.0 (none_meets p rs parts.1)

module _ (kinds : List Kind) (ledger : Ledger) (kept : IsLedgerKept kinds ledger) where
  -- a region of the pool is allocated
  module _ (size policy p : ℕ) (is : IsAllocable ledger.book size policy) (found : room ledger.book.regions size ≡ Some p) where
    abbrev region : RegionRecord
    region = pool_region ledger.book size policy p

    fits : p + size ≤ 65536
    fits = (room_facts ledger.book.regions size p found).0

    pool_is_region : IsRegion (ledger.book.next + 1) region
    pool_is_region =
        let place : pool_start + p - pool_start ≡ p = omega arith in
        let within : p + size ≤ 65536 = fits in
        record {
          least = kept.book.next;
          below = omega arith;
          policy = (is.low, is.high);
          size = (is.least, is.most);
          written = length-replicate size false;
          tail = omega arith;
          held = omega (arith, length-range_with_len (10 + p / 4096) ((p % 4096 + size + 4095) / 4096));
          pooled = λ e. (
            omega arith,
            omega (arith, within),
            ap (λ q. q % 4096) (sym place),
            ap (λ q. range_with_len (10 + q / 4096) ((p % 4096 + size + 4095) / 4096)) (sym place),
          );
          declared = λ e. absurd (false≢true (sym e));
        }

    apart : All (λ old. IsApart old region) ledger.book.regions
    apart k d below = record {
      pool = λ old_pooled pooled.
          go (slice_index_or ledger.book.regions k d) old_pooled (kept.book.each k d below)
          (none_meets (λ r. r.pooled && meets p size (r.first - pool_start) r.size) ledger.book.regions (room_facts ledger.book.regions size p found).1 k d below);
      pages = λ old_declared declared. absurd (false≢true (sym declared));
    }
      where
        go : (old : RegionRecord) → old.pooled ≡ true → IsRegion ledger.book.next old → (old.pooled && meets p size (old.first - pool_start) old.size) ≡ false
            → (old.first + old.size ≤ pool_start + p) ⊎ (pool_start + p + size ≤ old.first)
        go old old_pooled was free =
            let place = was.pooled old_pooled in
            let met : meets p size (old.first - pool_start) old.size ≡ false =
            sym (ap (λ b. b && meets p size (old.first - pool_start) old.size) old_pooled) ∙ free in
            elim (and_cases (nat_lt p (old.first - pool_start + old.size)) (nat_lt (old.first - pool_start) (p + size)) met) [
              | inl behind ↦ inl (omega (arith, place.0, ltb-false p (old.first - pool_start + old.size) behind))
              | inr before ↦ inr (omega (arith, place.0, ltb-false (old.first - pool_start) (p + size) before))
            ]

    pub pool_guarded : AreGuarded kinds region
    pool_guarded =
        let within : p + size ≤ 65536 = fits in
        run_below (λ f. kind_of kinds f ≡ Guarded) (10 + p / 4096) ((p % 4096 + size + 4095) / 4096)
        (λ f least most. kept.pool f (omega (arith, least)) (omega (arith, most, within)))

    pub pool_held : region.place + region.size ≤ 4096 * length region.frames
    pool_held = pool_is_region.held

    pub kept_pool : IsLedgerKept kinds (record ledger { book = with_one_more ledger.book region 0 })
    kept_pool = record {
      book = added_sound ledger.book kept.book region 0 is.few refl pool_is_region apart refl (omega (arith, kept.book.most));
      frames = All-push (AreGuarded kinds) ledger.book.regions region kept.frames pool_guarded;
      pool = kept.pool;
      log = kept.log;
    }

  -- pages are declared
  module _ (loose : ℕ → ℕ) (address size policy : ℕ) (fs : List ℕ) (is : IsDeclarable ledger.book kinds loose size policy fs)
      (once : IsEachOnce fs) (count : length fs ≡ size / 4096) where
    -- a frame of data is none that is guarded
    not_free : (f : ℕ) → kind_of kinds f ≡ Guarded → kind_of kinds f ≡ Data → ⊥
    not_free f guards free = false≢true (ap is_data (sym guards ∙ free))

    pub all_inside : All (λ f. f < length kinds) fs
    all_inside = All-weaker (λ f. kind_of kinds f ≡ Data) (λ f. f < length kinds) (λ f free. in_memory kinds f Data refl free) fs is.free

    pages_is_region : IsRegion (ledger.book.next + 1) (page_region ledger.book address size policy fs)
    pages_is_region = record {
      least = kept.book.next;
      below = omega arith;
      policy = (is.low, is.high);
      size = (is.least, is.most);
      written = length-replicate size false;
      tail = omega arith;
      held = omega (arith, is.whole, count);
      pooled = λ e. absurd (false≢true e);
      declared = λ e. (refl, omega (arith, is.whole, count), once, aside);
    }
      where
        aside : All (λ f. (f < 10) ⊎ (26 ≤ f)) fs
        aside k d below =
            let f : ℕ = slice_index_or fs k d in
            elim (cases_lt f 10) [
              | inl before ↦ inl before
              | inr from ↦ elim (cases_lt f 26) [
                | inl within ↦ absurd (not_free f (kept.pool f from within) (is.free k d below))
                | inr behind ↦ inr behind
              ]
            ]

    pages_apart : All (λ old. IsApart old (page_region ledger.book address size policy fs)) ledger.book.regions
    pages_apart k d below = record {
      pool = λ old_pooled pooled. absurd (false≢true pooled);
      pages = λ old_declared declared i f i_below j g j_below same.
          not_free (slice_index_or fs j g) (ap (kind_of kinds) (sym same) ∙ kept.frames k d below i f i_below) (is.free j g j_below);
    }

    pub kept_pages : IsLedgerKept (guarded kinds fs) (record ledger { book = with_one_more ledger.book (page_region ledger.book address size policy fs) (length fs) })
    kept_pages = record {
      book = added_sound ledger.book kept.book (page_region ledger.book address size policy fs) (length fs) is.few refl pages_is_region
          pages_apart refl is.pages;
      frames = All-push (AreGuarded (guarded kinds fs)) ledger.book.regions (page_region ledger.book address size policy fs)
          (All-weaker (AreGuarded kinds) (AreGuarded (guarded kinds fs))
          (λ r all. All-weaker (λ f. kind_of kinds f ≡ Guarded) (λ f. kind_of (guarded kinds fs) f ≡ Guarded)
          (λ f was. guarded_stays fs kinds f all_inside was) r.frames all) ledger.book.regions kept.frames)
          (guarded_there fs kinds all_inside);
      pool = λ f least most. guarded_stays fs kinds f all_inside (kept.pool f least most);
      log = kept.log;
    }

  -- a region of the pool is let go
  pub kept_free : (id : ℕ) (r : RegionRecord) → region_of ledger.book id ≡ Some r → r.pooled ≡ true
      → IsLedgerKept kinds (record ledger { book = freed ledger.book id })
  kept_free id r found pooled = record {
    book = removed_sound ledger.book kept.book id r found pooled;
    frames = All-filter (λ x. not (x.id == id)) (AreGuarded kinds) ledger.book.regions kept.frames;
    pool = kept.pool;
    log = kept.log;
  }

  -- a range is written
  module _ (id offset : ℕ) (bytes : List ℕ) (r : RegionRecord) (found : region_of ledger.book id ≡ Some r) (range : offset + length bytes ≤ r.size)
      (admitted : policy_rule ledger.log r offset (length bytes) ≡ None) where
    log_fits : (b : Bool) → (r.policy == 4) ≡ b → log_size (if b then logged ledger.log r.id offset bytes else ledger.log) ≤ 65536
    log_fits true logs =
        omega (arith, kept.log, logged_size ledger.log r.id offset bytes, policy_room ledger.log r offset (length bytes) admitted logs)
    log_fits false logs = kept.log

    pub kept_written : IsLedgerKept kinds (record { book = book_written ledger.book id offset (length bytes); log = log_written ledger.book ledger.log id offset bytes })
    kept_written =
        subst (λ (o : Option RegionRecord). IsLedgerKept kinds (record { book = book_by ledger.book o offset (length bytes); log = log_by ledger.log o offset bytes })) (sym found)
        (record {
          book = written_sound ledger.book kept.book id offset (length bytes) r found range;
          frames = written_frames ledger.book kept.book id offset (length bytes) r found range (λ fs. All (λ f. kind_of kinds f ≡ Guarded) fs) kept.frames;
          pool = kept.pool;
          log = log_fits (r.policy == 4) refl;
        })
