-- The bound on links loses nothing, and a slot that is met again breaks the chain.
use Rattle.std.proofs.Common.{◌≡◌, ◌≢◌, inl, inr, ℕ, zero, suc, ◌+◌, ◌-◌, ◌<◌, ◌≤◌, ◌==◌, true, false, List, None, Some, arith, refl, ap, ◌∙◌, sym}
use Rattle.std.specs.Option.{unwrap_or}
use Rattle.std.proofs.lemmas.Bool.{eq-eqb, eqb-true, false_from_ne_true, or_cases, or_right}
use Rattle.proc_audit.specs.ProcessLaws.{ProcessLaws}
use Rattle.proc_audit.specs.ProcessList.{is_chain_good, is_met, met_after, next_at, slot_count}
use Rattle.proc_audit.proofs.ChainLinks.{ended_by, ends, ends_at, meets, meets_at, met_alike, met_before, met_by, met_is_slot, met_none}
use Rattle.proc_audit.proofs.NumberTests.{any_at, any_below, least_below, pigeonhole, place_below}

-- the slot that is met after so many links, as a number
abbrev number_met : List ℕ → ℕ → ℕ
number_met b n = unwrap_or (met_after b n) 0

-- what is met first after m links is met after fewer links than there are slots: up to there no slot is met twice, since
-- from the second time on the chain would go on as from the first, and come to this slot sooner
met_once : (b : List ℕ) (slot m : ℕ) → met_after b m ≡ Some slot → ((j : ℕ) → j < m → meets b slot j ≡ false)
    → (i j : ℕ) → i < j → j ≤ m → met_after b i ≢ met_after b j
met_once b slot m met least i j before within same =
    let k : ℕ = m - j in
    let there : j + k ≡ m = omega arith in
    let sooner : met_after b (i + k) ≡ Some slot = met_alike b i j k same ∙ ap (met_after b) there ∙ met in
    let hit : meets b slot (i + k) ≡ true = meets_at b slot (i + k) slot sooner ∙ eq-eqb slot slot refl in
    let miss : meets b slot (i + k) ≡ false = least (i + k) (omega arith) in
    let e : true ≡ false = sym hit ∙ miss in
    cc

met_soon : (b : List ℕ) (slot m : ℕ) → met_after b m ≡ Some slot → ((j : ℕ) → j < m → meets b slot j ≡ false) → m < slot_count b
met_soon b slot m met least =
    pigeonhole (number_met b) (suc m) (slot_count b)
    (λ i below.
    let there : (s : ℕ) × (met_after b i ≡ Some s) = met_before b i m slot (omega arith) met in
    let e : number_met b i ≡ there.0 = ap (λ o. unwrap_or o 0) there.1 in
    omega (arith, e, met_is_slot b i there.0 there.1))
    (λ i j before within same.
    let first : (s : ℕ) × (met_after b i ≡ Some s) = met_before b i m slot (omega arith) met in
    let second : (s : ℕ) × (met_after b j ≡ Some s) = met_before b j m slot (omega arith) met in
    let one : number_met b i ≡ first.0 = ap (λ o. unwrap_or o 0) first.1 in
    let other : number_met b j ≡ second.0 = ap (λ o. unwrap_or o 0) second.1 in
    let equal : first.0 ≡ second.0 = sym one ∙ same ∙ other in
    met_once b slot m met least i j before (omega arith) (first.1 ∙ ap Some equal ∙ sym second.1))

-- what is met at all is in the chain
pub met_at_all : (b : List ℕ) (n slot : ℕ) → met_after b n ≡ Some slot → is_met b slot ≡ true
unfolding is_met
met_at_all b n slot met =
    let hit : meets b slot n ≡ true = meets_at b slot n slot met ∙ eq-eqb slot slot refl in
    let least : (k : ℕ) × (meets b slot k ≡ true) × ((j : ℕ) → j < k → meets b slot j ≡ false) = least_below (meets b slot) n hit in
    any_at (meets b slot) (slot_count b) least.0
    (met_soon b slot least.0 (met_by b slot least.0 least.1) least.2) least.1

-- a next of 0 that the chain comes to at all makes it good
pub good_at_all : (b : List ℕ) (n slot : ℕ) → met_after b n ≡ Some slot → next_at b slot ≡ 0 → is_chain_good b ≡ true
unfolding is_chain_good is_met
good_at_all b n slot met last =
    let found : (k : ℕ) × (k < slot_count b) × (meets b slot k ≡ true) =
    place_below (meets b slot) (slot_count b) (met_at_all b n slot met) in
    let end : ends b found.0 ≡ true =
    ends_at b found.0 slot (met_by b slot found.0 found.2) ∙ eq-eqb (next_at b slot) 0 last in
    or_right (slot_count b == 0) (any_below (ends b) (slot_count b)) (any_at (ends b) (slot_count b) found.0 found.1 end)

-- a slot that is met again is met again and again
met_again : (b : List ℕ) (n later slot : ℕ) → n < later → met_after b n ≡ Some slot → met_after b later ≡ Some slot
    → (t : ℕ) → (k : ℕ) × (t ≤ k) × (met_after b k ≡ Some slot)
met_again b n later slot before met again zero = (n, omega arith, met)
met_again b n later slot before met again (suc t) =
    let so_far : (k : ℕ) × (t ≤ k) × (met_after b k ≡ Some slot) = met_again b n later slot before met again t in
    let gap : ℕ = later - n in
    let there : n + gap ≡ later = omega arith in
    (so_far.0 + gap, omega arith, met_alike b so_far.0 n gap (so_far.2 ∙ sym met) ∙ ap (met_after b) there ∙ again)

-- so the chain has no end
pub broken_again : (b : List ℕ) (n later slot : ℕ) → n < later → met_after b n ≡ Some slot → met_after b later ≡ Some slot
    → is_chain_good b ≡ false
unfolding is_chain_good
broken_again b n later slot before met again =
    false_from_ne_true (is_chain_good b)
    (λ good.
    elim (or_cases (slot_count b == 0) (any_below (ends b) (slot_count b)) good) [
      | inl none ↦ omega (arith, eqb-true (slot_count b) 0 none, met_is_slot b n slot met)
      | inr some ↦
          let end : (k : ℕ) × (k < slot_count b) × (ends b k ≡ true) = place_below (ends b) (slot_count b) some in
          let far : (k : ℕ) × (suc end.0 ≤ k) × (met_after b k ≡ Some slot) = met_again b n later slot before met again (suc end.0) in
          let e : None ≡ Some slot = sym (met_none b (suc end.0) far.0 far.1 (ended_by b end.0 end.2)) ∙ far.2 in
          cc
    ])

pub laws : ProcessLaws
laws = record { met = met_at_all; again = broken_again }
