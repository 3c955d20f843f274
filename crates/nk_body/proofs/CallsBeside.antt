-- A replay stays beside a run over every call that is accepted.
use Rattle.std.proofs.Common.{◌≡◌, ℕ, ◌+◌, ◌*◌, ◌/◌, ◌<◌, Bool, true, false, ◌||◌, List, [], ◌∷◌, ◌++◌, length, All, refl, sym, ap, subst, ◌∙◌, arith}
use Rattle.std.specs.Prelude.{nat_lt, Option, None, Some, if◌then◌else◌}
use Rattle.std.proofs.Math.Bool.{or-false}
use Rattle.std.proofs.lemmas.Bool.{and_from, lt-ltb}
use Rattle.std.proofs.lemmas.List.{get_or_push, length_push}
use Rattle.nk_bits.specs.declared.kind.Kind.{Kind}
use Rattle.nk_bits.specs.declared.kind.Kind.TheVariants.{Fixed}
use Rattle.nk_bits.specs.Kinds.{kind_of}
use Rattle.nk_bits.specs.KernelLayout.{handler_slot}
use Rattle.nk_bits.specs.declared.rule.Rule.{Rule}
use Rattle.phys_mem.specs.Memory.{byte_at, stored}
use Rattle.page_desc.specs.PageTables.{loose_of}
use Rattle.vmmu.specs.TableCalls.{entry_written, removed, root_loaded}
use Rattle.region_book.specs.RegionCalls.{alloc_rule, page_region, pool_region}
use Rattle.region_book.specs.RegionRecords.{IsRegion, RegionRecord}
use Rattle.policy_book.specs.PolicyRules.{book_by, log_by, stores_by}
use Rattle.nk_body.specs.declared.call.Call.{Call}
use Rattle.nk_body.specs.declared.call.Call.TheVariants.{Allocate, DeclarePages, DeclareTable, Free, LoadRoot, NoCall, RemoveTable, SetHandler, Write, WriteEntry}
use Rattle.nk_body.specs.CallRules.{IsSourceOf, Sourced, accepted_answer, accepted_memory, answer_by, answer_to, bytes_read, bytes_standing, declaring_rule, frames_of_pages, made, mapped_by, puts, stand_of, verdict, wants, with_free, with_pages, with_pool, writing_rule, zeros_of}
use Rattle.nk_body.specs.NestedRecord.{IsLedgerKept, Nested}
use Rattle.nk_body.specs.ReplayBeside.{IsAccepted, IsBeside, IsMadeBeside, IsTold, declares_table}
use Rattle.nk_body.proofs.BesidePages.{beside_pages}
use Rattle.nk_body.proofs.BesideRegions.{beside_allocated, beside_freed, beside_written}
use Rattle.nk_body.proofs.BesideTables.{beside_declared, beside_entry, beside_removed, beside_root, beside_trap}
use Rattle.nk_body.proofs.CallFacts.{write_facts}
use Rattle.nk_body.proofs.GuardedFrames.{among, frames_count}
use Rattle.nk_body.proofs.KeptLedgers.{AreGuarded, kept_pages, kept_pool, pool_guarded}
use Rattle.nk_body.proofs.LowerLaws.{ReplayLaws}
use Rattle.nk_body.proofs.RegionFrames.{found_holds}
use Rattle.nk_body.proofs.RegionRules.{alloc_facts, declare_facts}

-- verdict and answer go by tables and ledger alone
pub verdict_same : (nk : Nested) (held : ℕ → ℕ → ℕ) (call : Call) (source : Sourced)
    → verdict (record nk { held = held }) call source ≡ verdict nk call source
verdict_same nk held NoCall source = refl
verdict_same nk held _ source = refl

answered_same : (nk : Nested) (held : ℕ → ℕ → ℕ) (call : Call) → accepted_answer (record nk { held = held }) call ≡ accepted_answer nk call
answered_same nk held NoCall = refl
answered_same nk held _ = refl

pub answer_same : (nk : Nested) (held : ℕ → ℕ → ℕ) (call : Call) (source : Sourced)
    → answer_to (record nk { held = held }) call source ≡ answer_to nk call source
unfolding answer_to
answer_same nk held call source =
    ap (λ v. answer_by v (record nk { held = held }) call) (verdict_same nk held call source)
    ∙ by_verdict (verdict nk call source)
  where
    by_verdict : (v : Option Rule) → answer_by v (record nk { held = held }) call ≡ answer_by v nk call
    by_verdict None = answered_same nk held call
    by_verdict (Some rule) = refl

-- the last of a list
last_holds : (P : RegionRecord → Type 0) (rs : List RegionRecord) (r : RegionRecord) → All P (rs ++ r ∷ []) → P r
last_holds P rs r all =
    subst P (get_or_push rs r r (length rs) refl) (all (length rs) r (omega (arith, length_push rs r)))

module _ (laws : ReplayLaws) (opened : ℕ → ℕ → ℕ) (tabled : ℕ → Bool) (nk : Nested) (held : ℕ → ℕ → ℕ) (m : List ℕ)
    (source : Sourced) (stand : ℕ → ℕ → ℕ) (beside : IsBeside opened tabled nk held m)
    (handler : kind_of nk.tables.kinds handler_slot ≡ Fixed) (kept : IsLedgerKept nk.tables.kinds nk.ledger) where
  -- the replay's record
  abbrev also : Nested
  also = record nk { held = held }

  abbrev kinds : List Kind
  kinds = nk.tables.kinds

  abbrev Goal : Call → Type 0
  Goal call =
      IsMadeBeside opened (λ f. tabled f || declares_table f call) (made nk call source stand)
      (made also call source (stand_of also call m)) (accepted_memory also call source m)

  -- a call that declares no table
  abbrev Stays : Nested → Nested → List ℕ → Type 0
  Stays run replay memory = IsMadeBeside opened (λ f. tabled f || false) run replay memory

  along : (after : Nested) (h : ℕ → ℕ → ℕ) (later : List ℕ) → IsBeside opened tabled after h later → Stays after (record after { held = h }) later
  along after h later is = record {
    same = refl;
    beside = subst (λ (t : ℕ → Bool). IsBeside opened t after h later) (λ i f. sym (or-false (tabled f)) i) is;
  }

  of_pages : (address size policy : ℕ) → declaring_rule nk address size policy ≡ None → Goal (DeclarePages address size policy)
  of_pages address size policy rule =
      let also_stand : ℕ → ℕ → ℕ = stand_of also (DeclarePages address size policy) m in
      let facts = declare_facts nk.ledger.book kinds (loose_of nk.tables) (mapped_by nk) address size policy rule in
      let fs : List ℕ = facts.0 in
      let found : frames_of_pages nk address size ≡ Some fs = facts.1 in
      let later = kept_pages kinds nk.ledger kept (loose_of nk.tables) address size policy fs facts.2
      (laws.declared.once fs facts.2.distinct) (frames_count (mapped_by nk) (size / 4096) (address / 4096) fs found) in
      let region = last_holds (IsRegion (nk.ledger.book.next + 1)) nk.ledger.book.regions
      (page_region nk.ledger.book address size policy fs) later.book.each in
      let stands : (f offset : ℕ) → among f fs ≡ true → offset < 4096 → also_stand f offset ≡ byte_at m (4096 * f + offset) =
      λ f offset there inside. ap (λ o. bytes_standing m o f offset) found
      ∙ (λ i. if and_from (among f fs) (nat_lt offset 4096) there (lt-ltb offset 4096 inside) i
      then byte_at m (4096 * f + offset) else 0) in
      subst (λ o. Stays (with_pages nk address size policy stand o) (with_pages also address size policy also_stand o) m) (sym found)
      (along (with_pages nk address size policy stand (Some fs))
      (λ f offset. if among f fs then also_stand f offset else held f offset) m
      (beside_pages opened tabled nk held m beside kept fs facts.2.free address size policy
      (nk.ledger.book.next + 1) region stand also_stand stands))

  of_pool : (size policy : ℕ) → alloc_rule nk.ledger.book size policy ≡ None → Goal (Allocate size policy)
  of_pool size policy rule =
      let facts = alloc_facts nk.ledger.book size policy rule in
      let p : ℕ = facts.place.0 in
      let later = kept_pool kinds nk.ledger kept size policy p facts facts.place.1 in
      let region = last_holds (IsRegion (nk.ledger.book.next + 1)) nk.ledger.book.regions
      (pool_region nk.ledger.book size policy p) later.book.each in
      subst (λ (o : Option ℕ). Stays (with_pool nk size policy o) (with_pool also size policy o) (stored m (zeros_of also size policy o))) (sym facts.place.1)
      (along (with_pool nk size policy (Some p)) _ _
      (beside_allocated laws opened tabled nk held m beside kept (nk.ledger.book.next + 1) size policy p region
      (pool_guarded kinds nk.ledger kept size policy p facts facts.place.1)))

  -- a write in a region that lives, within it
  write_by : Nested → Option RegionRecord → ℕ → Nested
  write_by x o offset = record x {
    held = puts x.held (stores_by o offset (bytes_read source));
    ledger = record {
      book = book_by x.ledger.book o offset (length (bytes_read source));
      log = log_by x.ledger.log o offset (bytes_read source);
    };
  }

  of_written : (id offset place n : ℕ) → IsSourceOf (wants nk.ledger.book (Write id offset place n)) source
      → writing_rule nk id offset n source ≡ None → Goal (Write id offset place n)
  unfolding write_by
  of_written id offset place n sourced rule =
      let facts = write_facts nk id offset place n source sourced rule in
      let r : RegionRecord = facts.region in
      subst (λ (o : Option RegionRecord). Stays (write_by nk o offset) (write_by also o offset) (stored m (stores_by o offset (bytes_read source)))) (sym facts.found)
      (along (write_by nk (Some r) offset) _ _
      (beside_written laws opened tabled nk held m beside kept nk.ledger.book.next r
      (found_holds (IsRegion nk.ledger.book.next) nk.ledger.book id r facts.found kept.book.each)
      (found_holds (AreGuarded kinds) nk.ledger.book id r facts.found kept.frames)
      offset (bytes_read source) facts.range id facts.found
      (found_holds (IsTold opened tabled nk.held held) nk.ledger.book id r facts.found beside.regions)
      (log_by nk.ledger.log (Some r) offset (bytes_read source))))

  pub made_beside : (call : Call) → IsSourceOf (wants nk.ledger.book call) source → verdict nk call source ≡ None → Goal call
  made_beside (SetHandler address) sourced rule =
      along (record nk { trap = address }) held _ (beside_trap laws.byte opened tabled nk held m beside address handler)
  made_beside (DeclareTable level frame) sourced rule = record {
    same = refl;
    beside = beside_declared laws.byte opened tabled nk held m beside level frame
        (laws.accepted.declared nk.tables level frame rule) kept;
  }
  made_beside (WriteEntry table index value) sourced rule =
      along (record nk { tables = entry_written nk.tables table index value }) held _
      (beside_entry laws.byte opened tabled nk held m beside table index value (laws.accepted.written nk.tables table index value rule))
  made_beside (RemoveTable frame) sourced rule =
      along (record nk { tables = removed nk.tables frame }) held _
      (beside_removed laws.byte opened tabled nk held m beside frame (laws.accepted.removed nk.tables frame rule))
  made_beside (LoadRoot frame) sourced rule =
      along (record nk { tables = root_loaded nk.tables frame }) held m (beside_root laws.byte opened tabled nk held m beside frame)
  made_beside (DeclarePages address size policy) sourced rule = of_pages address size policy rule
  made_beside (Allocate size policy) sourced rule = of_pool size policy rule
  made_beside (Free region) sourced rule =
      along (with_free nk region) held m (beside_freed laws opened tabled nk held m beside kept region)
  made_beside (Write region offset place n) sourced rule = of_written region offset place n sourced rule
  made_beside NoCall sourced rule = cc

pub call_beside : (laws : ReplayLaws) (opened : ℕ → ℕ → ℕ) (tabled : ℕ → Bool) (nk : Nested) (held : ℕ → ℕ → ℕ) (m : List ℕ)
    (call : Call) (source : Sourced) (stand : ℕ → ℕ → ℕ) (beside : IsBeside opened tabled nk held m)
    (accepted : IsAccepted nk call source)
    → IsMadeBeside opened (λ f. tabled f || declares_table f call) (made nk call source stand)
    (made (record nk { held = held }) call source (stand_of (record nk { held = held }) call m))
    (accepted_memory (record nk { held = held }) call source m)
call_beside laws opened tabled nk held m call source stand beside accepted =
    made_beside laws opened tabled nk held m source stand beside accepted.handler accepted.kept call accepted.sourced accepted.none
