-- A replay beside a run, over a call that declares pages.
use Rattle.std.proofs.Common.{◌≡◌, ℕ, ◌+◌, ◌*◌, ◌<◌, Bool, true, false, List, length, All, inl, inr, sym, ap, ◌∙◌, arith}
use Rattle.std.specs.Prelude.{◌==◌, ◌||◌, if◌then◌else◌, slice_index_or}
use Rattle.std.proofs.lemmas.Bool.{cases_Bool, cond-false, cond-true, false≢true, ne_eqb}
use Rattle.std.proofs.lemmas.List.{get_or-replicate}
use Rattle.std.proofs.lemmas.List.Elements.{All-push, All-weaker}
use Rattle.std.proofs.lemmas.List.Folds.{list_any_none}
use Rattle.nk_bits.specs.declared.kind.Kind.{Kind}
use Rattle.nk_bits.specs.declared.kind.Kind.TheVariants.{Data, Guarded}
use Rattle.nk_bits.specs.Kinds.{kind_of}
use Rattle.phys_mem.specs.Memory.{byte_at}
use Rattle.page_desc.specs.PageTables.{is_table}
use Rattle.region_book.specs.RegionCalls.{with_one_more, guarded, page_region}
use Rattle.region_book.specs.RegionRecords.{Book, IsRegion, RegionRecord}
use Rattle.nk_body.specs.NestedRecord.{IsLedgerKept, Nested}
use Rattle.nk_body.specs.ReplayBeside.{IsBeside, IsTold, frame_at, left_alone, offset_at}
use Rattle.nk_body.proofs.CallChanges.{free_inside}
use Rattle.nk_body.proofs.GuardedFrames.{among, among_each, guarded_data, kind_guarded, length_guarded}
use Rattle.nk_body.proofs.RegionPlaces.{frame_holds}

module _ (opened : ℕ → ℕ → ℕ) (tabled : ℕ → Bool) (nk : Nested) (held : ℕ → ℕ → ℕ) (m : List ℕ)
    (beside : IsBeside opened tabled nk held m) (kept : IsLedgerKept nk.tables.kinds nk.ledger) where
  abbrev kinds : List Kind
  kinds = nk.tables.kinds

  abbrev book : Book
  book = nk.ledger.book

  module _ (fs : List ℕ) (is : All (λ f. kind_of kinds f ≡ Data) fs) (address size policy next : ℕ)
      (region : IsRegion next (page_region book address size policy fs))
      (run_stand stand : ℕ → ℕ → ℕ) (stands : (f offset : ℕ) → among f fs ≡ true → offset < 4096
      → stand f offset ≡ byte_at m (4096 * f + offset)) where
    abbrev pages : RegionRecord
    pages = page_region book address size policy fs

    abbrev run_after : ℕ → ℕ → ℕ
    run_after f offset = if among f fs then run_stand f offset else nk.held f offset

    abbrev held_after : ℕ → ℕ → ℕ
    held_after f offset = if among f fs then stand f offset else held f offset

    not_among : (f : ℕ) → kind_of kinds f ≡ Guarded → among f fs ≡ false
    not_among f other =
        list_any_none (λ g. g == f) fs
        (All-weaker (λ g. kind_of kinds g ≡ Data) (λ g. (g == f) ≡ false)
        (λ g free. ne_eqb g f (λ same. guarded_data (sym other ∙ ap (kind_of kinds) (sym same) ∙ free))) fs is)

    inside : All (λ f. f < length kinds) fs
    inside = free_inside kinds fs is

    -- the regions that were there
    old_told : (q : RegionRecord) → IsRegion book.next q → All (λ f. kind_of kinds f ≡ Guarded) q.frames
        → IsTold opened tabled nk.held held q → IsTold opened tabled run_after held_after q
    old_told q was guards told = record {
      bytes = λ at within.
          let f : ℕ = frame_at q at in
          let out : among f fs ≡ false = not_among f
          (frame_holds (λ f. kind_of kinds f ≡ Guarded) book.next q was guards at within) in
          cond-false (among f fs) (stand f (offset_at q at)) (held f (offset_at q at)) out
          ∙ told.bytes at within
          ∙ ap (λ b. if q.pooled || slice_index_or q.written at false then b else left_alone opened tabled f (offset_at q at))
          (sym (cond-false (among f fs) (run_stand f (offset_at q at)) (nk.held f (offset_at q at)) out));
    }

    -- the new one: nothing was written of it
    new_told : IsTold opened tabled run_after held_after pages
    new_told = record {
      bytes = λ at within.
          let f : ℕ = frame_at pages at in
          let offset : ℕ = offset_at pages at in
          let there : among f fs ≡ true = frame_holds (λ f. among f fs ≡ true) next pages region (among_each fs) at within in
          let free : kind_of kinds f ≡ Data = frame_holds (λ f. kind_of kinds f
          ≡ Data) next pages region is at within in
          cond-true (among f fs) (stand f offset) (held f offset) there
          ∙ stands f offset there (omega arith)
          ∙ beside.free f offset free (omega arith)
          ∙ sym (cond-false (slice_index_or pages.written at false) (run_after f offset) (left_alone opened tabled f offset)
          (get_or-replicate size at false false within));
    }

    kind_after : (f : ℕ) → kind_of (guarded kinds fs) f ≡ (if among f fs then Guarded else kind_of kinds f)
    kind_after f = kind_guarded fs kinds f inside

    pub beside_pages : IsBeside opened tabled
        (record nk {
          tables = record nk.tables { kinds = guarded kinds fs };
          held = run_after;
          ledger = record nk.ledger { book = with_one_more book pages (length fs) };
        })
        held_after m
    beside_pages = record {
      size = beside.size ∙ ap (λ n. 4096 * n) (sym (length_guarded fs kinds));
      free = λ f offset data_after within. elim (cases_Bool (among f fs)) [
        | inl there ↦ absurd (guarded_data (sym (kind_after f ∙ cond-true (among f fs) Guarded (kind_of kinds f) there)
            ∙ data_after))
        | inr out ↦ beside.free f offset (sym (kind_after f ∙ cond-false (among f fs) Guarded (kind_of kinds f) out)
            ∙ data_after) within
      ];
      tables = λ f table. elim (cases_Bool (among f fs)) [
        | inl there ↦ absurd (false≢true (sym (ap is_table
            (kind_after f ∙ cond-true (among f fs) Guarded (kind_of kinds f) there)) ∙ table))
        | inr out ↦ beside.tables f (sym (ap is_table
            (kind_after f ∙ cond-false (among f fs) Guarded (kind_of kinds f) out)) ∙ table)
      ];
      pool = λ f offset least most within.
          let out : among f fs ≡ false = not_among f (kept.pool f least most) in
          cond-false (among f fs) (stand f offset) (held f offset) out
          ∙ beside.pool f offset least most within
          ∙ sym (cond-false (among f fs) (run_stand f offset) (nk.held f offset) out);
      regions = All-push (IsTold opened tabled run_after held_after) book.regions pages
          (λ k d below. old_told (slice_index_or book.regions k d) (kept.book.each k d below)
          (kept.frames k d below) (beside.regions k d below))
          new_told;
    }
