-- What a write does that breaks no rule.
use Rattle.std.proofs.Common.{◌≡◌, ℕ, ◌+◌, ◌<◌, ◌≤◌, true, length, arith, sym, ap, ◌∙◌, subst}
use Rattle.std.specs.Prelude.{All, Option, Some, None, replicate, if◌then◌else◌}
use Rattle.std.proofs.lemmas.List.Elements.{All-nil, All-replicate}
use Rattle.policy_book.specs.PolicyRules.{bounds_of, policy_of, policy_rule}
use Rattle.region_book.specs.RegionCalls.{fits_in, fits_region, pool_region}
use Rattle.region_book.specs.RegionRecords.{RegionRecord, region_of}
use Rattle.nk_body.specs.declared.call.Call.TheVariants.{Write}
use Rattle.nk_body.specs.CallRules.{IsSourceOf, Sourced, bytes_read, source_rule, wants, writing_rule, zeros_of}
use Rattle.nk_body.specs.NestedRecord.{Ledger, Nested}
use Rattle.nk_body.proofs.RegionFrames.{stores_bytes}
use Rattle.nk_body.proofs.RegionRules.{bounds_facts, source_facts, writing_facts}

-- bytes that are written in a live region
pub record IsWriting (ledger : Ledger) (id offset : ℕ) (source : Sourced) : Type 0 where
  pub region : RegionRecord
  pub found : region_of ledger.book id ≡ Some region
  pub range : offset + length (bytes_read source) ≤ region.size
  pub admitted : policy_rule ledger.log region offset (length (bytes_read source)) ≡ None

pub write_facts : (nk : Nested) (id offset place n : ℕ) (source : Sourced) → IsSourceOf (wants nk.ledger.book (Write id offset place n)) source
    → writing_rule nk id offset n source ≡ None → IsWriting nk.ledger id offset source
write_facts nk id offset place n source sourced none =
    let o : Option RegionRecord = region_of nk.ledger.book id in
    let facts = writing_facts (bounds_of o offset n) (source_rule source) (policy_of nk.ledger.log o offset n) none in
    let live = bounds_facts o offset n facts.0 in
    let fits : fits_in nk.ledger.book id offset n ≡ true = ap (λ r. fits_region r offset n) live.1 ∙ live.2 in
    let read = source_facts n source (subst (λ b. IsSourceOf (if b then Some n else None) source) fits sourced) facts.1 in
    let count : length (bytes_read source) ≡ n = ap (λ s. length (bytes_read s)) read.1 ∙ read.2 in
    record {
      region = live.0;
      found = live.1;
      range = omega (arith, live.3, count);
      admitted = ap (policy_rule nk.ledger.log live.0 offset) count
          ∙ sym (ap (λ r. policy_of nk.ledger.log r offset n) live.1) ∙ facts.2;
    }

-- zeros are bytes
pub zeros_small : (nk : Nested) (size policy : ℕ) (o : Option ℕ) → All (λ w. w.1 < 256) (zeros_of nk size policy o)
zeros_small nk size policy None = All-nil (λ (w : ℕ × ℕ). w.1 < 256)
zeros_small nk size policy (Some p) =
    stores_bytes (λ b. b < 256) (pool_region nk.ledger.book size policy p) 0 (replicate size 0) (All-replicate (λ b. b < 256) size 0 (omega arith))
