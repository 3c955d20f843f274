-- The size of the region that an identifier was given to, and writes in it.
use Rattle.std.proofs.Common.{◌≡◌, ℕ, ◌+◌, ◌<◌, ◌≤◌, Bool, true, false, not, List, [], ◌∷◌, length, arith, subst}
use Rattle.std.specs.Prelude.{◌==◌, All, None, Some, cond, if◌then◌else◌}
use Rattle.std.specs.List.{find}
use Rattle.std.proofs.lemmas.Bool.{cond_both}
use Rattle.std.proofs.lemmas.List.Elements.{All-filter, All-head, All-map, All-nil, All-push, All-tail, All-weaker}
use Rattle.std.proofs.lemmas.Option.{same_Some}
use Rattle.nk_body.specs.declared.call.Call.{Call}
use Rattle.nk_body.specs.declared.call.Call.TheVariants.{Allocate}
use Rattle.region_book.specs.RegionCalls.{freed, with_one_more}
use Rattle.region_book.specs.RegionRecords.{RegionRecord, marked, region_of}
use Rattle.policy_book.specs.PolicyRules.{book_by, log_by}
use Rattle.write_log.specs.LogRecords.{LogRecord, logged}
use Rattle.nk_body.specs.NestedRecord.{Ledger}
use Rattle.nk_body.specs.SourceWords.{opening_ledger}
use Rattle.replay_core.proofs.LedgerMoves.{IsKeptBy}

-- a region that has the identifier has this size, and a write in one lies within it
abbrev pub HasSize : ℕ → ℕ → RegionRecord → Type 0
HasSize id size r = r.id ≡ id → r.size ≡ size

abbrev pub LiesWithin : ℕ → ℕ → LogRecord → Type 0
LiesWithin id size it = it.region ≡ id → it.offset + length it.bytes ≤ size

pub record IsSized (id size : ℕ) (ledger : Ledger) : Type 0 where
  pub live : All (HasSize id size) ledger.book.regions
  pub writes : All (LiesWithin id size) ledger.log

-- and the identifier was given
pub record IsGiven (id size : ℕ) (ledger : Ledger) : Type 0 where
  pub sized : IsSized id size ledger
  pub used : id < ledger.book.next

-- what holds of each region holds of the one that is found
found_holds : (P : RegionRecord → Type 0) (test : RegionRecord → Bool) (rs : List RegionRecord) (r : RegionRecord) → find test rs ≡ Some r → All P rs
    → P r
found_holds P test [] r found all = let no : None ≡ Some r = found in absurd (cc)
found_holds P test (first ∷ rs) r found all =
    go (test first) found (λ later. found_holds P test rs r later (All-tail P first rs all))
  where
    go : (here : Bool) → cond here (Some first) (find test rs) ≡ Some r → (find test rs ≡ Some r → P r) → P r
    go true is later = subst P (same_Some first r is) (All-head P first rs all)
    go false is later = later is

pub opening_sized : (id size : ℕ) → IsSized id size opening_ledger
opening_sized id size = record { live = All-nil (HasSize id size); writes = All-nil (LiesWithin id size) }

module _ (id size : ℕ) (before : Ledger) (sized : IsSized id size before) where
  pub grown_sized : (r : RegionRecord) (pages : ℕ) → HasSize id size r
      → IsSized id size (record before { book = with_one_more before.book r pages })
  grown_sized r pages has = record {
    live = All-push (HasSize id size) before.book.regions r sized.live has;
    writes = sized.writes;
  }

  freed_sized : (other : ℕ) → IsSized id size (record before { book = freed before.book other })
  freed_sized other = record {
    live = All-filter (λ r. not (r.id == other)) (HasSize id size) before.book.regions sized.live;
    writes = sized.writes;
  }

  written_sized : (other offset : ℕ) (bytes : List ℕ) (r : RegionRecord) → region_of before.book other ≡ Some r
      → offset + length bytes ≤ r.size
      → IsSized id size (record {
        book = book_by before.book (Some r) offset (length bytes);
        log = log_by before.log (Some r) offset bytes;
      })
  written_sized other offset bytes r found range =
      let has : HasSize id size r = found_holds (HasSize id size) (λ x. x.id == other) before.book.regions r found sized.live in
      let now : RegionRecord = marked r offset (length bytes) in
      record {
        live = All-map (HasSize id size) (λ x. if x.id == now.id then now else x) before.book.regions
            (All-weaker (HasSize id size) (λ x. HasSize id size (if x.id == now.id then now else x))
            (λ x was. cond_both (x.id == now.id) now x (HasSize id size) (λ is. has) (λ is. was)) before.book.regions sized.live);
        writes = cond_both (r.policy == 4) (logged before.log r.id offset bytes) before.log (All (LiesWithin id size))
            (λ is. All-push (LiesWithin id size) before.log (record { region = r.id; offset = offset; bytes = bytes }) sized.writes
            (λ same. omega (arith, has same))) (λ is. sized.writes);
      }

  -- before the identifier is given: a region that a call adds has this size, if it gets the identifier
  pub sized_by : (call : Call) (answer : ℕ)
      → ((r : RegionRecord) → r.id ≡ before.book.next → answer ≡ before.book.next
      → ((n policy : ℕ) → call ≡ Allocate n policy → r.size ≡ n) → HasSize id size r)
      → IsKeptBy (IsSized id size) before call answer
  sized_by call answer new = record {
    stays = sized;
    grows = λ r pages is next asked. grown_sized r pages (new r is next asked);
    shrinks = freed_sized;
    written = written_sized;
  }

  -- and behind that no region gets it
  pub given_by : (call : Call) (answer : ℕ) → id < before.book.next → IsKeptBy (IsGiven id size) before call answer
  given_by call answer used = record {
    stays = record { sized = sized; used = used };
    grows = λ r pages is next asked.
        record { sized = grown_sized r pages (λ same. absurd (omega arith)); used = omega arith };
    shrinks = λ other. record { sized = freed_sized other; used = used };
    written = λ other offset bytes r found range. record { sized = written_sized other offset bytes r found range; used = used };
  }
