-- The table of translations, and the list of pairs that it stands for: a ring names slots, in the order in which they were
-- filled. The places of the ring are numbered modulo 2,048; a translation knows the number of its place, so that places of
-- translations that went, or were filled again, stand for nothing.
use Rattle.std.specs.Prelude.{◌≡◌, ◌<◌, ◌≤◌, ℕ, ◌+◌, ◌-◌, ◌%◌, Bool, true, ◌&&◌, ◌==◌, if◌then◌else◌, List, [], ◌∷◌, ◌++◌, Some, All, drop, length, slice_get, take}
use Rattle.nk_bits.specs.Translations.{Pairs, HasDistinctPages}
use Rattle.tlb_model.specs.declared.slot.Slot.{Slot}
use Rattle.tlb_model.specs.declared.table.Table.{Table}
use Rattle.tlb_model.specs.SlotBuckets.{IsChained, is_kept, slot_at}
use Rattle.tlb_model.specs.SlotOrder.{IsOrder, is_slot_used}

-- the slot's translation has this place
abbrev pub stands : ℕ → ℕ → Slot → Bool
stands generation number slot = (slot.generation == generation) && (slot.place == number % 2048)

-- the pairs of the places of a ring whose first one has this number
abbrev pub pairs_from : List Slot → ℕ → ℕ → List ℕ → Pairs
pairs_from slots generation number [] = []
pairs_from slots generation number (at ∷ ring) =
    let slot = slot_at slots at in
    let rest = pairs_from slots generation (number + 1) ring in
    if stands generation number slot then (slot.page, slot.leaf) ∷ rest else rest

abbrev pub pairs_of : Table → Pairs
pairs_of t = pairs_from t.slots t.generation t.front t.ages.items

-- each translation that is kept has its place in the ring, is its page's only one, and is found by its bucket
pub record IsTable (t : Table) : Type 0 where
  pub anchored : (at : ℕ) → is_kept t.generation (slot_at t.slots at) ≡ true →
      slice_get t.ages.items (((slot_at t.slots at).place + 2048 - t.front) % 2048) ≡ Some at
  pub apart : (one other : ℕ) → is_kept t.generation (slot_at t.slots one) ≡ true → is_kept t.generation (slot_at t.slots other) ≡ true →
      (slot_at t.slots one).page ≡ (slot_at t.slots other).page → one ≡ other
  pub chained : IsChained t.generation t.slots t.chains.firsts t.chains.nexts
  pub older : (at : ℕ) → (slot_at t.slots at).generation ≤ t.generation
  pub room : t.ages.capacity ≡ 2048
  pub fits : length t.ages.items ≤ 2048
  pub named : All (λ at. at < 1024) t.ages.items
  pub front : t.front < 2048
  pub ordered : IsOrder t.order
  pub taken : (at : ℕ) → at < 1024 → is_kept t.generation (slot_at t.slots at) ≡ is_slot_used t.order at
  pub listed : t.order.count ≡ length (pairs_of t)
  pub distinct : HasDistinctPages (pairs_of t)

-- a ring is being cleaned: of the places that it had, so many are still left at its front; behind them those that were
-- looked at have each a translation, and all together stand for what they stood for
pub record IsCleanedBy (slots : List Slot) (generation front : ℕ) (ring : List ℕ) (left : ℕ) (pairs : Pairs) : Type 0 where
  pub within : left ≤ length ring
  pub clean : length (pairs_from slots generation (front + left) (drop left ring)) ≡ length ring - left
  pub told : pairs_from slots generation (front + left) (drop left ring) ++ pairs_from slots generation front (take left ring) ≡ pairs
