-- The ring loses its first place, which stands for nothing.
use Rattle.std.proofs.Common.{◌≡◌, ◌≢◌, ℕ, suc, ◌+◌, ◌-◌, ◌%◌, ◌<◌, ◌≤◌, true, false, List, [], ◌∷◌, ◌++◌, length, drop, take, slice_get, Some, arith, refl, sym, ap, ap₂, subst, ◌∙◌}
use Rattle.std.proofs.lemmas.Bool.{false≢true}
use Rattle.std.proofs.lemmas.List.{length-drop}
use Rattle.std.proofs.lemmas.List.Elements.{All-drop}
use Rattle.std.proofs.lemmas.Option.{none-some, same_Some}
use Rattle.nk_bits.specs.Translations.{Pairs, HasDistinctPages}
use Rattle.tlb_model.specs.declared.slot.Slot.{Slot}
use Rattle.tlb_model.specs.declared.table.Table.{Table}
use Rattle.tlb_model.specs.SlotBuckets.{is_kept, slot_at}
use Rattle.tlb_model.specs.TranslationTable.{IsCleanedBy, IsTable, stands, pairs_from, pairs_of}
use Rattle.tlb_model.proofs.Ages.{kept_place, kept_stands, pairs_passed, pairs_round}

-- a ring by its first place and the rest
pub ring_parts : (ring : List ℕ) (at : ℕ) → slice_get ring 0 ≡ Some at → ring ≡ at ∷ drop 1 ring
ring_parts [] at found = absurd (none-some at found)
ring_parts (first ∷ ring) at found = ap (λ i. i ∷ ring) (same_Some first at found)

pub get_rest : (ring : List ℕ) (k : ℕ) → slice_get (drop 1 ring) k ≡ slice_get ring (suc k)
get_rest [] k = refl
get_rest (first ∷ ring) k = refl

-- what has its place in a ring, but not the first one, has it in the rest
pub anchored_rest : (ring : List ℕ) (front place at : ℕ) → front < 2048 → place < 2048 → slice_get ring ((place + 2048 - front) % 2048) ≡ Some at →
    place ≢ front → slice_get (drop 1 ring) ((place + 2048 - (front + 1) % 2048) % 2048) ≡ Some at
anchored_rest ring front place at below within found differ =
    let next : (place + 2048 - front) % 2048 ≡ suc ((place + 2048 - (front + 1) % 2048) % 2048) = omega (arith, below, within, differ) in
    get_rest ring ((place + 2048 - (front + 1) % 2048) % 2048) ∙ ap (slice_get ring) (sym next) ∙ found

-- the place of the front
pub anchored_first : (front : ℕ) → front < 2048 → (front + 2048 - front) % 2048 ≡ 0
anchored_first front below = omega (arith, below)

pub pairs_rest : (slots : List Slot) (g front at : ℕ) (ring : List ℕ) → slice_get ring 0 ≡ Some at → stands g front (slot_at slots at) ≡ false →
    pairs_from slots g ((front + 1) % 2048) (drop 1 ring) ≡ pairs_from slots g front ring
pairs_rest slots g front at ring found gone =
    let same : (front + 1) % 2048 % 2048 ≡ (front + 1) % 2048 = omega arith in
    pairs_round slots g ((front + 1) % 2048) (front + 1) (drop 1 ring) same
    ∙ sym (pairs_passed slots g front at (drop 1 ring) gone) ∙ ap (pairs_from slots g front) (sym (ring_parts ring at found))

abbrev pub popped : Table → Table
popped t = record t { ages = record { items = drop 1 t.ages.items; capacity = 2048 }; front = (t.front + 1) % 2048 }

pub passed_pairs : (t : Table) (at : ℕ) → slice_get t.ages.items 0 ≡ Some at → stands t.generation t.front (slot_at t.slots at) ≡ false → pairs_of (popped t) ≡ pairs_of t
passed_pairs t at found gone = pairs_rest t.slots t.generation t.front at t.ages.items found gone

pub passed : (t : Table) (at : ℕ) → IsTable t → slice_get t.ages.items 0 ≡ Some at → stands t.generation t.front (slot_at t.slots at) ≡ false → IsTable (popped t)
passed t at it found gone =
    record {
      anchored = λ own kept. anchored_rest t.ages.items t.front (slot_at t.slots own).place own it.front (kept_place t.generation (slot_at t.slots own) kept) (it.anchored own kept) (away own kept);
      apart = it.apart;
      chained = it.chained;
      older = it.older;
      room = refl;
      fits = omega (arith, length-drop 1 t.ages.items, it.fits);
      named = All-drop (λ i. i < 1024) 1 t.ages.items it.named;
      front = omega arith;
      ordered = it.ordered;
      taken = it.taken;
      listed = it.listed ∙ ap length (sym (passed_pairs t at found gone));
      distinct = subst HasDistinctPages (sym (passed_pairs t at found gone)) it.distinct;
    }
  where
    away : (own : ℕ) → is_kept t.generation (slot_at t.slots own) ≡ true → (slot_at t.slots own).place ≢ t.front
    away own kept same =
        let first : ((slot_at t.slots own).place + 2048 - t.front) % 2048 ≡ 0 = omega (arith, same, it.front) in
        let own_is : own ≡ at = same_Some own at (sym (it.anchored own kept) ∙ ap (slice_get t.ages.items) first ∙ found) in
        let round : (slot_at t.slots own).place ≡ t.front % 2048 = omega (arith, same, it.front) in
        false≢true (sym gone ∙ ap (λ i. stands t.generation t.front (slot_at t.slots i)) (sym own_is) ∙ kept_stands t.generation t.front (slot_at t.slots own) kept round)

-- one place less is left to be looked at
pub drop_next : (first : ℕ) (ring : List ℕ) (left : ℕ) → drop (left + 1) (first ∷ ring) ≡ drop left ring
drop_next first ring left =
    let more : left + 1 ≡ suc left = omega arith in
    ap (λ n. drop n (first ∷ ring)) more

pub take_next : (first : ℕ) (ring : List ℕ) (left : ℕ) → take (left + 1) (first ∷ ring) ≡ first ∷ take left ring
take_next first ring left =
    let more : left + 1 ≡ suc left = omega arith in
    ap (λ n. take n (first ∷ ring)) more

-- the pairs of the places behind those that are left
pub pairs_behind : (slots : List Slot) (g front at : ℕ) (ring : List ℕ) (left : ℕ) →
    pairs_from slots g (front + (left + 1)) (drop (left + 1) (at ∷ ring)) ≡ pairs_from slots g ((front + 1) % 2048 + left) (drop left ring)
pairs_behind slots g front at ring left =
    let same : (front + (left + 1)) % 2048 ≡ ((front + 1) % 2048 + left) % 2048 = omega arith in
    pairs_round slots g (front + (left + 1)) ((front + 1) % 2048 + left) (drop (left + 1) (at ∷ ring)) same ∙ ap (pairs_from slots g ((front + 1) % 2048 + left)) (drop_next at ring left)

cleaned_rest : (slots : List Slot) (g front at : ℕ) (ring : List ℕ) (left : ℕ) (pairs : Pairs) → stands g front (slot_at slots at) ≡ false →
    IsCleanedBy slots g front (at ∷ ring) (left + 1) pairs → IsCleanedBy slots g ((front + 1) % 2048) ring left pairs
cleaned_rest slots g front at ring left pairs gone it =
    let within : left + 1 ≤ suc (length ring) = it.within in
    let count : suc (length ring) - (left + 1) ≡ length ring - left = omega arith in
    let round : (front + 1) % 2048 % 2048 ≡ (front + 1) % 2048 = omega arith in
    record {
      within = omega (arith, within);
      clean = ap length (sym (pairs_behind slots g front at ring left)) ∙ it.clean ∙ count;
      told = ap₂ (λ (one : Pairs) (other : Pairs). one ++ other) (sym (pairs_behind slots g front at ring left))
          (pairs_round slots g ((front + 1) % 2048) (front + 1) (take left ring) round ∙ sym (pairs_passed slots g front at (take left ring) gone)
          ∙ ap (pairs_from slots g front) (sym (take_next at ring left))) ∙ it.told;
    }

pub cleaned_passed : (t : Table) (at left : ℕ) (pairs : Pairs) → slice_get t.ages.items 0 ≡ Some at → stands t.generation t.front (slot_at t.slots at) ≡ false →
    IsCleanedBy t.slots t.generation t.front t.ages.items (left + 1) pairs →
    IsCleanedBy t.slots t.generation ((t.front + 1) % 2048) (drop 1 t.ages.items) left pairs
cleaned_passed t at left pairs found gone it =
    cleaned_rest t.slots t.generation t.front at (drop 1 t.ages.items) left pairs gone
    (subst (λ ring. IsCleanedBy t.slots t.generation t.front ring (left + 1) pairs) (ring_parts t.ages.items at found) it)
