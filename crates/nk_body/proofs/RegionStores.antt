-- The stores of calls on regions lie in guarded frames.
use Rattle.std.proofs.Common.{◌≡◌, ℕ, ◌+◌, ◌≤◌, List, length, arith, sym, subst}
use Rattle.std.specs.Prelude.{All, Option, Some, None, replicate}
use Rattle.std.proofs.lemmas.List.{length-replicate}
use Rattle.std.proofs.lemmas.List.Elements.{All-nil}
use Rattle.nk_bits.specs.declared.kind.Kind.{Kind}
use Rattle.nk_bits.specs.declared.kind.Kind.TheVariants.{Guarded}
use Rattle.nk_bits.specs.Kinds.{kind_of}
use Rattle.policy_book.specs.PolicyRules.{stores_by, stores_written}
use Rattle.region_book.specs.RegionCalls.{pool_region, room}
use Rattle.region_book.specs.RegionRecords.{IsRegion, RegionRecord, region_of, region_stores}
use Rattle.nk_body.specs.NestedRecord.{IsLedgerKept, Ledger}
use Rattle.nk_body.proofs.KeptLedgers.{AreGuarded, pool_guarded, pool_held}
use Rattle.nk_body.proofs.RegionFrames.{InGuarded, found_holds, stores_bytes, stores_held}
use Rattle.nk_body.proofs.RegionRules.{IsAllocable}

module _ (kinds : List Kind) (ledger : Ledger) (kept : IsLedgerKept kinds ledger) where
  -- the zeros of a new region
  pub zeros_guarded : (size policy p : ℕ) → IsAllocable ledger.book size policy → room ledger.book.regions size ≡ Some p
      → InGuarded kinds (region_stores (pool_region ledger.book size policy p) 0 (replicate size 0))
  zeros_guarded size policy p is found =
      stores_held (λ f. kind_of kinds f ≡ Guarded) (pool_region ledger.book size policy p) 0 (replicate size 0)
      (pool_guarded kinds ledger kept size policy p is found) (pool_held kinds ledger kept size policy p is found)
      (omega (arith, length-replicate {A = ℕ} size 0))

  -- what is written in a live region
  pub written_guarded : (id offset : ℕ) (bytes : List ℕ) (r : RegionRecord) → region_of ledger.book id ≡ Some r → offset + length bytes ≤ r.size
      → InGuarded kinds (stores_written ledger.book id offset bytes)
  written_guarded id offset bytes r found range =
      subst (λ (o : Option RegionRecord). InGuarded kinds (stores_by o offset bytes)) (sym found)
      (stores_held (λ f. kind_of kinds f ≡ Guarded) r offset bytes
      (found_holds (AreGuarded kinds) ledger.book id r found kept.frames)
      (found_holds (IsRegion ledger.book.next) ledger.book id r found kept.book.each).held range)

-- its bytes are those that are given
pub written_bytes : (P : ℕ → Type 0) (ledger : Ledger) (id offset : ℕ) (bytes : List ℕ) → All P bytes
    → All (λ w. P w.1) (stores_written ledger.book id offset bytes)
written_bytes P ledger id offset bytes all = by_region (region_of ledger.book id)
  where
    by_region : (o : Option RegionRecord) → All (λ w. P w.1) (stores_by o offset bytes)
    by_region None = All-nil (λ (w : ℕ × ℕ). P w.1)
    by_region (Some r) = stores_bytes P r offset bytes all
