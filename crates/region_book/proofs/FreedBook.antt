-- The book after a region was let go, by its rows and bits.
use Rattle.std.proofs.Common.{◌≡◌, ℕ, Bool, true, false, not, ◌==◌, List, refl, ap, ◌∙◌}
use Rattle.std.specs.Prelude.{IfSome, Option, Some, None, filter}
use Rattle.std.proofs.lemmas.Bool.{eqb-true}
use Rattle.nk_bits.specs.declared.rule.Rule.TheVariants.{BadRegion, NotAllocated}
use Rattle.region_book.specs.declared.row.Row.{Row}
use Rattle.region_book.specs.RegionCalls.{else_rule, free_rule, free_rule_of, freed}
use Rattle.region_book.specs.RegionRecords.{Book, IsBook, RegionRecord, region_of}
use Rattle.region_book.specs.RegionRows.{book_of, region_at}
use Rattle.region_book.proofs.Found.{for_some, found_place, of_some}
use Rattle.region_book.proofs.ListEdits.{map_filter}
use Rattle.region_book.proofs.SoundBooks.{removed_sound}

-- where no rule is broken, the region is live and of the pool
pub free_rule_none : (o : Option RegionRecord) → free_rule_of o ≡ None → (r : RegionRecord) × (o ≡ Some r) × (r.pooled ≡ true)
free_rule_none None none = let no : Some BadRegion ≡ None = none in cc
free_rule_none (Some r) none = (r, refl, go r.pooled none)
  where
    go : (b : Bool) → else_rule (not b) NotAllocated None ≡ None → b ≡ true
    go true none = refl
    go false none = cc

module _ (rows : List Row) (bits : List ℕ) (next declared : ℕ) (now : Book) (id : ℕ)
    (view : book_of rows bits next declared ≡ now) where
  pub freed_is : book_of (filter (λ row. not (row.id == id)) rows) bits next declared ≡ freed now id
  freed_is =
      ap (λ rs. record (book_of rows bits next declared) { regions = rs })
      (map_filter (λ r. not (r.id == id)) (region_at bits) rows) ∙ ap (λ book. freed book id) view

-- a region that may be freed is of the pool, and has the identifier by which it was named; the book without it is sound
pub freed_pooled : (now : Book) (id : ℕ) → free_rule now id ≡ None → IfSome (region_of now id) (λ r. r.pooled ≡ true)
freed_pooled now id none =
    let live = free_rule_none (region_of now id) none in
    for_some (region_of now id) live.0 (λ r. r.pooled ≡ true) live.1 live.2

pub freed_sound : (now : Book) (id : ℕ) → IsBook now → free_rule now id ≡ None → IsBook (freed now id)
freed_sound now id sound none =
    let live = free_rule_none (region_of now id) none in
    removed_sound now sound id live.0 live.1 live.2

pub freed_named : (now after : Book) (id : ℕ) → free_rule now id ≡ None → IfSome (region_of now id) (λ r. after ≡ freed now r.id) →
    after ≡ freed now id
freed_named now after id none named =
    let live = free_rule_none (region_of now id) none in
    of_some (region_of now id) live.0 (λ r. after ≡ freed now r.id) live.1 named
    ∙ ap (freed now) (eqb-true live.0.id id (found_place (λ r. r.id == id) now.regions live.0 live.1).3)
