-- What each call on regions leaves, from what the part that makes it says.
use Rattle.std.proofs.Common.{◌≡◌, ℕ, ◌+◌, ◌-◌, ◌*◌, ◌<◌, ◌≤◌, List, length, true, false, arith, refl, sym, ap, subst, ◌∙◌}
use Rattle.std.specs.Prelude.{Bool, not, if◌then◌else◌, All, IfOk, IfSome, OnErr, OnOk, Result, Ok, Err, Option, None, Some, replicate}
use Rattle.std.proofs.lemmas.Bool.{false≢true}
use Rattle.std.proofs.lemmas.List.Elements.{All-weaker}
use Rattle.phys_mem.specs.Memory.{stored}
use Rattle.nk_bits.specs.declared.kind.Kind.TheVariants.{Guarded}
use Rattle.nk_bits.specs.declared.rule.Rule.{Rule}
use Rattle.nk_bits.specs.declared.rule.Rule.TheVariants.{BadSource, OutOfBounds}
use Rattle.nk_bits.specs.Kinds.{kind_of}
use Rattle.page_desc.specs.FrameDescriptors.{Descriptors}
use Rattle.page_desc.specs.PageTables.{AreDescribed}
use Rattle.page_desc.specs.PageTableLaws.{PageTablesLaws}
use Rattle.policy_book.specs.PolicyRules.{book_written, bounds_of, first_rule, log_written, policy_of, stores_written, write_rule}
use Rattle.region_book.specs.declared.regions.Granted.{Granted}
use Rattle.region_book.specs.RegionCalls.{with_one_more, alloc_rule, else_rule, fits_in, fits_region, free_rule, freed, pool_region, room}
use Rattle.nk_bits.specs.KernelLayout.{pool_start}
use Rattle.region_book.specs.RegionRecords.{Book, RegionRecord, region_of, region_stores}
use Rattle.nk_bits.specs.Rules.{rule_of}
use Rattle.write_log.specs.LogRecords.{LogRecord}
use Rattle.nk_body.specs.declared.call.Call.{Call}
use Rattle.nk_body.specs.declared.call.Call.TheVariants.{Allocate, Free, Write}
use Rattle.nk_body.specs.CallMade.{IsMade}
use Rattle.nk_body.specs.CallRules.{IsSourceOf, NotTaken, Sourced, Unreadable, source_rule, verdict, wants, with_pool, zeros_of}
use Rattle.nk_body.specs.CallRules.{Bytes}
use Rattle.nk_body.specs.NestedRecord.{AreBooks, Books, IsLedgerKept, Nested, nested_by}
use Rattle.nk_body.proofs.CallsMade.{accepted_made, books_of, refused_made}
use Rattle.nk_body.proofs.KeptLedgers.{AreGuarded, kept_free, kept_pool, kept_written}
use Rattle.nk_body.proofs.RegionFrames.{if_found, in_memory, unguarded}
use Rattle.nk_body.proofs.RegionRules.{alloc_facts, bounds_facts, free_facts, writing_facts}
use Rattle.nk_body.proofs.RegionStores.{written_guarded, zeros_guarded}

-- the frames of a live region lie in memory
pub frames_within : (books : Books) (m : List ℕ) (id : ℕ) → AreBooks books m
    → IfSome (region_of books.ledger.book id) (λ r. All (λ f. 4096 * f + 4096 ≤ length m) r.frames)
frames_within books m id are =
    if_found (AreGuarded books.frames.kinds) (λ r. All (λ f. 4096 * f + 4096 ≤ length m) r.frames)
    (λ r all. All-weaker (λ f. kind_of books.frames.kinds f ≡ Guarded) (λ f. 4096 * f + 4096 ≤ length m)
    (λ f is. omega (arith, in_memory books.frames.kinds f Guarded refl is, are.described.sound.size)) r.frames all)
    books.ledger.book id are.kept.frames

module _ (d : Descriptors) (root trap : ℕ) (book after : Book) (log later_log : List LogRecord) (m later : List ℕ) (source : Sourced)
    (are : AreBooks (books_of d root trap book log) m) where
  abbrev before : Books
  before = books_of d root trap book log

  abbrev nk : Nested
  nk = nested_by before m

  refused : (call : Call) (rule : Rule) → Some rule ≡ verdict nk call source → after ≡ book → later_log ≡ log → later ≡ m
      → IsMade before m call source (Some rule) (books_of d root trap after later_log) later
  refused call rule judged books logs memory =
      subst (λ (it : Book × List LogRecord × List ℕ). IsMade before m call source (Some rule) (books_of d root trap it.0 it.1) it.2)
      (λ i. (sym books i, sym logs i, sym memory i)) (refused_made before m call source rule are judged)

  -- a region of the pool is allocated
  pub pool_made : (size policy : ℕ) → PageTablesLaws → later_log ≡ log → (r : Result Granted Rule) → rule_of r ≡ alloc_rule book size policy
      → OnErr r ((after ≡ book) × (later ≡ m))
      → IfOk r (λ it. (it.id ≡ book.next) × (pool_start ≤ it.place) × (it.place < pool_start + 65536)
      × (room book.regions size ≡ Some (it.place - pool_start)))
      → IfOk r (λ it. after ≡ with_one_more book (pool_region book size policy (it.place - pool_start)) 0)
      → IfOk r (λ it. later ≡ stored m (region_stores (pool_region book size policy (it.place - pool_start)) 0 (replicate size 0)))
      → IsMade before m (Allocate size policy) source (rule_of r) (books_of d root trap after later_log) later
  pool_made size policy tables logs (Err rule) judged err found allocated memory =
      refused (Allocate size policy) rule judged err.0 logs err.1
  pool_made size policy tables logs (Ok it) judged err found allocated memory =
      let p : ℕ = it.place - pool_start in
      let is = alloc_facts book size policy (sym judged) in
      let ws : List (ℕ × ℕ) = region_stores (pool_region book size policy p) 0 (replicate size 0) in
      let kept : IsLedgerKept d.kinds (record { book = book; log = log }) = are.kept in
      accepted_made before m (Allocate size policy) source (books_of d root trap after later_log) later (with_pool nk size policy (Some p)) (stored m ws)
      (sym judged) (ap (with_pool nk size policy) found.3) (ap (λ (o : Option ℕ). stored m (zeros_of nk size policy o)) found.3)
      refl refl are.trap (λ i. record { book = allocated i; log = logs i }) memory
      (subst (AreDescribed d root) (sym memory)
      (tables.described d root m ws are.described (unguarded d.kinds ws (zeros_guarded d.kinds _ kept size policy p is found.3))))
      (subst (IsLedgerKept d.kinds) (λ i. record { book = sym allocated i; log = sym logs i })
      (kept_pool d.kinds _ kept size policy p is found.3))

  -- a region of the pool is let go
  pub free_made : (region : ℕ) → later_log ≡ log → later ≡ m → {A : Type 0} (r : Result A Rule) → rule_of r ≡ free_rule book region
      → OnErr r (after ≡ book) → OnOk r (after ≡ freed book region)
      → IsMade before m (Free region) source (rule_of r) (books_of d root trap after later_log) later
  free_made region logs memory (Err rule) judged err out = refused (Free region) rule judged err logs memory
  free_made region logs memory (Ok it) judged err out =
      let live = free_facts (region_of book region) (sym judged) in
      accepted_made before m (Free region) source (books_of d root trap after later_log) later _ m (sym judged) refl refl
      refl refl are.trap (λ i. record { book = out i; log = logs i }) memory
      (subst (AreDescribed d root) (sym memory) are.described)
      (subst (IsLedgerKept d.kinds) (λ i. record { book = sym out i; log = sym logs i })
      (kept_free d.kinds _ are.kept region live.0 live.1 live.2))

-- bytes are written in a region
module _ (d : Descriptors) (root trap : ℕ) (book after : Book) (log later_log : List LogRecord) (m later : List ℕ) (id offset place : ℕ) (bytes : List ℕ)
    (are : AreBooks (books_of d root trap book log) m) where
  abbrev writing : Call
  writing = Write id offset place (length bytes)

  pub write_made : PageTablesLaws → {A : Type 0} (r : Result A Rule) → rule_of r ≡ write_rule book log id offset (length bytes)
      → OnErr r ((after ≡ book) × (later_log ≡ log) × (later ≡ m)) → OnOk r (after ≡ book_written book id offset (length bytes))
      → OnOk r (later_log ≡ log_written book log id offset bytes)
      → OnOk r (later ≡ stored m (stores_written book id offset bytes))
      → IsMade (books_of d root trap book log) m writing (Bytes bytes) (rule_of r) (books_of d root trap after later_log) later
  write_made tables (Err rule) judged err book_is log_is memory =
      refused d root trap book after log later_log m later (Bytes bytes) are writing rule judged err.0 err.1 err.2
  write_made tables (Ok it) judged err book_is log_is memory =
      let facts = writing_facts (bounds_of (region_of book id) offset (length bytes)) None
      (policy_of log (region_of book id) offset (length bytes)) (sym judged) in
      let live = bounds_facts (region_of book id) offset (length bytes) facts.0 in
      let ws : List (ℕ × ℕ) = stores_written book id offset bytes in
      accepted_made (books_of d root trap book log) m writing (Bytes bytes) (books_of d root trap after later_log) later
      _ (stored m ws) (sym judged) refl refl
      refl refl are.trap (λ i. record { book = book_is i; log = log_is i }) memory
      (subst (AreDescribed d root) (sym memory)
      (tables.described d root m ws are.described
      (unguarded d.kinds ws (written_guarded d.kinds _ are.kept id offset bytes live.0 live.1 live.3))))
      (subst (IsLedgerKept d.kinds) (λ i. record { book = sym book_is i; log = sym log_is i })
      (kept_written d.kinds _ are.kept id offset bytes live.0 live.1 live.3
      (sym (ap (λ o. policy_of log o offset (length bytes)) live.1) ∙ facts.2)))

-- a write for which no bytes were read
module _ (books : Books) (m : List ℕ) (id offset place n : ℕ) (source : Sourced) (are : AreBooks books m) where
  abbrev bounds : Option Rule
  bounds = bounds_of (region_of books.ledger.book id) offset n

  abbrev judged_by : Option Rule → Sourced → Option Rule
  judged_by o it = first_rule o (first_rule (source_rule it) (policy_of books.ledger.log (region_of books.ledger.book id) offset n))

  pub bounds_refused : (rule : Rule) → Some rule ≡ bounds → IsMade books m (Write id offset place n) source (Some rule) books m
  bounds_refused rule is = refused_made books m _ source rule are (ap (λ o. judged_by o source) is)

  fits_bounds : (o : Option RegionRecord) → fits_region o offset n ≡ true → bounds_of o offset n ≡ None
  fits_bounds None fits = absurd (false≢true fits)
  fits_bounds (Some r) fits = ap (λ b. else_rule (not b) OutOfBounds None) fits

  pub source_refused : source ≡ Unreadable → IsSourceOf (wants books.ledger.book (Write id offset place n)) source
      → IsMade books m (Write id offset place n) source (Some BadSource) books m
  source_refused is sourced = by_fits (fits_in books.ledger.book id offset n) refl
    where
      by_fits : (b : Bool) → fits_in books.ledger.book id offset n ≡ b → IsMade books m (Write id offset place n) source (Some BadSource) books m
      by_fits true fits =
          refused_made books m _ source BadSource are
          (sym (λ i. judged_by (fits_bounds (region_of books.ledger.book id) fits i) (is i)))
      by_fits false out =
          let clash : source ≡ NotTaken = subst (λ b. IsSourceOf (if b then Some n else None) source) out sourced in
          let no : Unreadable ≡ NotTaken = sym is ∙ clash in cc

-- the bytes that were read for a write are as many as it takes
pub bytes_counted : (fits : Bool) (n : ℕ) (source : Sourced) (bytes : List ℕ) → source ≡ Bytes bytes
    → IsSourceOf (if fits then Some n else None) source → length bytes ≡ n
bytes_counted true n source bytes is sourced = subst (IsSourceOf (Some n)) is sourced
bytes_counted false n source bytes is sourced = let no : Bytes bytes ≡ NotTaken = sym is ∙ sourced in absurd (cc)
