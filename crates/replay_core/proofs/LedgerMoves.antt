-- What a call may make of the ledger: it stays, a region more lives under the next identifier, one is let go, or a range of
-- one was written.
use Rattle.std.proofs.Common.{◌≡◌, ℕ, ◌+◌, ◌≤◌, Bool, true, false, not, List, length, arith, refl, sym, ap, ◌∙◌}
use Rattle.std.specs.Prelude.{nat_le, Option, None, Some, if◌then◌else◌}
use Rattle.std.proofs.lemmas.Bool.{and_parts, eqb-true, false≢true, leb-true, not-false}
use Rattle.nk_bits.specs.declared.rule.Rule.{Rule}
use Rattle.nk_bits.specs.declared.rule.Rule.TheVariants.{BadRegion, BadSource, OutOfBounds}
use Rattle.region_book.specs.RegionCalls.{else_rule, fits_region, freed, page_region, pool_region, room, with_one_more}
use Rattle.region_book.specs.RegionRecords.{RegionRecord, region_of}
use Rattle.policy_book.specs.PolicyRules.{book_by, bounds_of, first_rule, log_by, policy_of}
use Rattle.nk_body.specs.declared.call.Call.{Call}
use Rattle.nk_body.specs.declared.call.Call.TheVariants.{Allocate, DeclarePages, Free, Write}
use Rattle.nk_body.specs.CallRules.{Bytes, NotTaken, Sourced, Unreadable, accepted_answer, after_call, answer_by, answer_to, bytes_read, frames_of_pages, made, made_unless, source_rule, verdict, wants, with_pages, with_pool}
use Rattle.nk_body.specs.NestedRecord.{Ledger, Nested}
use Rattle.replay_core.specs.ReplayedCalls.{is_given}

-- a property of the ledger afterwards, whichever of these the call made, by what it asked for and its answer
pub record IsKeptBy (P : Ledger → Type 0) (before : Ledger) (call : Call) (answer : ℕ) : Type 0 where
  pub stays : P before
  pub grows : (r : RegionRecord) (pages : ℕ) → r.id ≡ before.book.next → answer ≡ before.book.next → ((size policy : ℕ) → call ≡ Allocate size policy → r.size ≡ size)
      → P (record before { book = with_one_more before.book r pages })
  pub shrinks : (id : ℕ) → P (record before { book = freed before.book id })
  pub written : (id offset : ℕ) (bytes : List ℕ) (r : RegionRecord) → region_of before.book id ≡ Some r
      → offset + length bytes ≤ r.size
      → P (record { book = book_by before.book (Some r) offset (length bytes); log = log_by before.log (Some r) offset bytes })

-- a rule that isn't broken, and those behind it
pub else_none : (b : Bool) (rule : Rule) (later : Option Rule) → else_rule b rule later ≡ None → (b ≡ false) × (later ≡ None)
else_none true rule later is = let no : Some rule ≡ None = is in cc
else_none false rule later is = (refl, is)

first_none : (one later : Option Rule) → first_rule one later ≡ None → (one ≡ None) × (later ≡ None)
first_none None later is = (refl, is)
first_none (Some rule) later is = let no : Some rule ≡ None = is in cc

module _ (P : Ledger → Type 0) (nk : Nested) (source : Sourced) (stand : ℕ → ℕ → ℕ) where
  abbrev Kept : Call → Type 0
  Kept call = IsKeptBy P nk.ledger call (accepted_answer nk call).value

  pages_kept : (address size policy : ℕ) → Kept (DeclarePages address size policy) → (fs : Option (List ℕ))
      → P (with_pages nk address size policy stand fs).ledger
  pages_kept address size policy kept None = kept.stays
  pages_kept address size policy kept (Some fs) =
      kept.grows (page_region nk.ledger.book address size policy fs) (length fs) refl refl (λ s q is. absurd (cc))

  pool_kept : (size policy : ℕ) → Kept (Allocate size policy) → (p : Option ℕ) → P (with_pool nk size policy p).ledger
  pool_kept size policy kept None = kept.stays
  pool_kept size policy kept (Some p) = kept.grows (pool_region nk.ledger.book size policy p) 0 refl refl (λ s q is. cc)

  -- a write in a region that lives, of as many bytes as the call takes
  module _ (id offset place n : ℕ) (kept : Kept (Write id offset place n)) where
    abbrev after_write : Option RegionRecord → Sourced → Ledger
    after_write o it = record {
      book = book_by nk.ledger.book o offset (length (bytes_read it));
      log = log_by nk.ledger.log o offset (bytes_read it);
    }

    source_kept : (r : RegionRecord) → region_of nk.ledger.book id ≡ Some r → offset + n ≤ r.size → (it : Sourced) → source_rule it ≡ None
        → is_given (Some n) it ≡ true → P (after_write (Some r) it)
    source_kept r found range NotTaken rule given = absurd (false≢true given)
    source_kept r found range Unreadable rule given = let no : Some BadSource ≡ None = rule in absurd (cc)
    source_kept r found range (Bytes bytes) rule given =
        let count : length bytes ≡ n = eqb-true (length bytes) n given in kept.written id offset bytes r found (omega arith)

    region_kept : (o : Option RegionRecord) → region_of nk.ledger.book id ≡ o
        → first_rule (bounds_of o offset n) (first_rule (source_rule source) (policy_of nk.ledger.log o offset n)) ≡ None
        → is_given (if fits_region o offset n then Some n else None) source ≡ true → P (after_write o source)
    region_kept None found rule given = let no : Some BadRegion ≡ None = rule in absurd (cc)
    region_kept (Some r) found rule given =
        let admits = policy_of nk.ledger.log (Some r) offset n in
        let rules = first_none (bounds_of (Some r) offset n) (first_rule (source_rule source) admits) rule in
        let behind = first_none (source_rule source) admits rules.1 in
        let bound = else_none (not (fits_region (Some r) offset n)) OutOfBounds None rules.0 in
        let fits = not-false (fits_region (Some r) offset n) bound.0 in
        let parts = and_parts (nat_le 1 n) (nat_le (offset + n) r.size) fits in
        source_kept r found (leb-true (offset + n) r.size parts.1) source behind.0
        (ap (λ (b : Bool). is_given (if b then Some n else None) source) (sym fits) ∙ given)

  made_kept : (call : Call) → Kept call → verdict nk call source ≡ None → is_given (wants nk.ledger.book call) source ≡ true
      → P (made nk call source stand).ledger
  made_kept (DeclarePages address size policy) kept none given = pages_kept address size policy kept (frames_of_pages nk address size)
  made_kept (Allocate size policy) kept none given = pool_kept size policy kept (room nk.ledger.book.regions size)
  made_kept (Free region) kept none given = kept.shrinks region
  made_kept (Write id offset place n) kept none given = region_kept id offset place n kept (region_of nk.ledger.book id) refl none given
  made_kept _ kept none given = kept.stays

-- the ledger after a call that took what it takes
pub call_kept : (P : Ledger → Type 0) (nk : Nested) (call : Call) (source : Sourced) (stand : ℕ → ℕ → ℕ)
    → IsKeptBy P nk.ledger call (answer_to nk call source).value → is_given (wants nk.ledger.book call) source ≡ true
    → P (after_call nk call source stand).ledger
unfolding answer_to
call_kept P nk call source stand kept given = by_verdict (verdict nk call source) refl kept
  where
    by_verdict : (v : Option Rule) → verdict nk call source ≡ v → IsKeptBy P nk.ledger call (answer_by v nk call).value
        → P (made_unless v nk call source stand).ledger
    by_verdict None none kept = made_kept P nk source stand call kept none given
    by_verdict (Some rule) is kept = kept.stays
