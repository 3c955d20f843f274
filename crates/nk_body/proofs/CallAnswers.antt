-- The answer to a call: numbers of 64 bits, and whether translations go; and what no call changes.
use Rattle.std.proofs.Common.{◌≡◌, ℕ, ◌+◌, ◌^◌, ◌<◌, ◌≤◌, false, List, length, arith, refl, sym, ap}
use Rattle.std.specs.Prelude.{Option, None, Some, IfSome}
use Rattle.std.proofs.lemmas.Bool.{false≢true}
use Rattle.std.proofs.lemmas.List.{length-set}
use Rattle.nk_bits.specs.declared.kind.Kind.TheVariants.{Data, Table}
use Rattle.nk_bits.specs.declared.rule.Rule.{Rule}
use Rattle.nk_bits.specs.declared.rule.Rule.TheVariants.{BadCall}
use Rattle.nk_bits.specs.Rules.{rule_number}
use Rattle.policy_book.specs.PolicyRules.{book_by}
use Rattle.region_book.specs.RegionCalls.{room}
use Rattle.region_book.specs.RegionRecords.{RegionRecord, region_of}
use Rattle.nk_body.specs.declared.call.Call.{Call}
use Rattle.nk_body.specs.declared.call.Call.TheVariants.{Allocate, DeclarePages, DeclareTable, LoadRoot, RemoveTable, Write}
use Rattle.nk_body.specs.NestedRecord.{Nested}
use Rattle.nk_body.specs.CallRules.{Sourced, accepted_answer, after_call, answer_by, answer_to, bytes_read, frames_of_pages, made, made_unless, place_at, verdict, with_pages, with_pool}
use Rattle.nk_body.proofs.GuardedFrames.{length_guarded}
use Rattle.nk_body.proofs.RegionRules.{room_facts}

-- the number of a rule is at most 27
number_small : (rule : Rule) → rule_number rule < 2 ^ 64
number_small BadCall = omega arith
number_small _ = omega arith

-- the identifier of a new region is one
value_answered : (nk : Nested) (call : Call) → nk.ledger.book.next < 2 ^ 63 → (accepted_answer nk call).value < 2 ^ 64
value_answered nk (DeclarePages address size policy) small = omega (arith, small)
value_answered nk (Allocate size policy) small = omega (arith, small)
value_answered nk _ small = omega arith

place_found : (o : Option ℕ) → ((p : ℕ) → o ≡ Some p → p ≤ 65536) → IfSome (place_at o) (λ place. place < 2 ^ 64)
place_found None within = tt
place_found (Some p) within = omega (arith, within p refl)

place_answered : (nk : Nested) (call : Call) → IfSome (accepted_answer nk call).place (λ place. place < 2 ^ 64)
place_answered nk (Allocate size policy) =
    place_found (room nk.ledger.book.regions size)
    (λ p found. let within = (room_facts nk.ledger.book.regions size p found).0 in omega (arith, within))
place_answered nk _ = tt

-- kinds and root are those that a record has
abbrev IsSame : Nested → Nested → Type 0
IsSame nk after = (after.tables.kinds ≡ nk.tables.kinds) × (after.tables.root ≡ nk.tables.root)

-- no call changes the number of frames
abbrev count : Nested → ℕ
count after = length after.tables.kinds

abbrev next : Nested → ℕ
next after = after.ledger.book.next

module _ (nk : Nested) (stand : ℕ → ℕ → ℕ) where
  pages_count : (address size policy : ℕ) (o : Option (List ℕ)) → count (with_pages nk address size policy stand o) ≡ count nk
  pages_count address size policy None = refl
  pages_count address size policy (Some fs) = length_guarded fs nk.tables.kinds

  pages_next : (address size policy : ℕ) (o : Option (List ℕ)) → next (with_pages nk address size policy stand o) ≤ next nk + 1
  pages_next address size policy None = omega arith
  pages_next address size policy (Some fs) = omega arith

  pool_same : (size policy : ℕ) (o : Option ℕ) → IsSame nk (with_pool nk size policy o)
  pool_same size policy None = (refl, refl)
  pool_same size policy (Some p) = (refl, refl)

  pool_next : (size policy : ℕ) (o : Option ℕ) → next (with_pool nk size policy o) ≤ next nk + 1
  pool_next size policy None = omega arith
  pool_next size policy (Some p) = omega arith

  written_next : (o : Option RegionRecord) (offset n : ℕ) → (book_by nk.ledger.book o offset n).next ≡ next nk
  written_next None offset n = refl
  written_next (Some r) offset n = refl

  -- the calls that drop every translation are those that change a frame's kind or the root
  made_same : (call : Call) (source : Sourced) → (accepted_answer nk call).flush ≡ false → IsSame nk (made nk call source stand)
  made_same (DeclareTable level frame) source stays = absurd (false≢true (sym stays))
  made_same (RemoveTable frame) source stays = absurd (false≢true (sym stays))
  made_same (LoadRoot frame) source stays = absurd (false≢true (sym stays))
  made_same (DeclarePages address size policy) source stays = absurd (false≢true (sym stays))
  made_same (Allocate size policy) source stays = pool_same size policy (room nk.ledger.book.regions size)
  made_same _ source stays = (refl, refl)

  made_count : (call : Call) (source : Sourced) → count (made nk call source stand) ≡ count nk
  made_count (DeclareTable level frame) source = length-set nk.tables.kinds frame (Table level)
  made_count (RemoveTable frame) source = length-set nk.tables.kinds frame Data
  made_count (DeclarePages address size policy) source = pages_count address size policy (frames_of_pages nk address size)
  made_count (Allocate size policy) source = ap length (pool_same size policy (room nk.ledger.book.regions size)).0
  made_count _ source = refl

  -- at most one identifier more is used
  made_next : (call : Call) (source : Sourced) → next (made nk call source stand) ≤ next nk + 1
  made_next (DeclarePages address size policy) source = pages_next address size policy (frames_of_pages nk address size)
  made_next (Allocate size policy) source = pool_next size policy (room nk.ledger.book.regions size)
  made_next (Write region offset place n) source =
      omega (arith, written_next (region_of nk.ledger.book region) offset (length (bytes_read source)))
  made_next _ source = omega arith

module _ (nk : Nested) (call : Call) (source : Sourced) where
  pub value_small : nk.ledger.book.next < 2 ^ 63 → (answer_to nk call source).value < 2 ^ 64
  unfolding answer_to
  value_small small = by_verdict (verdict nk call source)
    where
      by_verdict : (v : Option Rule) → (answer_by v nk call).value < 2 ^ 64
      by_verdict None = value_answered nk call small
      by_verdict (Some rule) = number_small rule

  pub place_small : IfSome (answer_to nk call source).place (λ place. place < 2 ^ 64)
  unfolding answer_to
  place_small = by_verdict (verdict nk call source)
    where
      by_verdict : (v : Option Rule) → IfSome (answer_by v nk call).place (λ place. place < 2 ^ 64)
      by_verdict None = place_answered nk call
      by_verdict (Some rule) = tt

  module _ (stand : ℕ → ℕ → ℕ) where
    pub same_kinds : (answer_to nk call source).flush ≡ false → IsSame nk (after_call nk call source stand)
    unfolding answer_to
    same_kinds = by_verdict (verdict nk call source)
      where
        by_verdict : (v : Option Rule) → (answer_by v nk call).flush ≡ false → IsSame nk (made_unless v nk call source stand)
        by_verdict None stays = made_same nk stand call source stays
        by_verdict (Some rule) stays = (refl, refl)

    pub same_count : count (after_call nk call source stand) ≡ count nk
    same_count = by_verdict (verdict nk call source)
      where
        by_verdict : (v : Option Rule) → count (made_unless v nk call source stand) ≡ count nk
        by_verdict None = made_count nk stand call source
        by_verdict (Some rule) = refl

    pub next_most : next (after_call nk call source stand) ≤ next nk + 1
    next_most = by_verdict (verdict nk call source)
      where
        by_verdict : (v : Option Rule) → next (made_unless v nk call source stand) ≤ next nk + 1
        by_verdict None = made_next nk stand call source
        by_verdict (Some rule) = omega arith
