-- Where links lead, and what is met behind a place of the chain.
use Rattle.std.proofs.Common.{◌≡◌, ◌≢◌, ◌⊎◌, inl, inr, ℕ, zero, suc, ◌+◌, ◌<◌, ◌≤◌, ◌==◌, Bool, true, false, nat_lt, List, Option, None, Some, arith, refl, ap, subst, ◌∙◌, sym, add-zero, add-suc}
use Rattle.std.specs.Option.{option_map_or}
use Rattle.std.proofs.lemmas.Bool.{cases_lt, eqb-true, cond-true, cond-false, le-ltb, lt-ltb}
use Rattle.proc_audit.specs.ProcessList.{link_of, linked, met_after, next_at, slot_count}

-- a link that leads to no slot
pub link_ends : (count next : ℕ) → (next ≡ 0) ⊎ (count < next) → link_of count next ≡ None
link_ends count zero ends = refl
link_ends count (suc slot) ends =
    elim ends [
      | inl none ↦ absurd (omega arith)
      | inr past ↦ cond-false (nat_lt slot count) (Some slot) None (le-ltb slot count (omega arith))
    ]

-- a link that leads to a slot isn't 0
pub link_some : (count next slot : ℕ) → link_of count next ≡ Some slot → next ≢ 0
link_some count zero slot leads = cc
link_some count (suc next) slot leads = λ e. omega arith

-- a slot that a link leads to
pub link_below : (count next slot : ℕ) → link_of count next ≡ Some slot → slot < count
link_below count zero slot leads = cc
link_below count (suc next) slot leads =
    elim (cases_lt next count) [
      | inl below ↦
          let e : Some next ≡ Some slot = sym (cond-true (nat_lt next count) (Some next) None (lt-ltb next count below)) ∙ leads in
          let same : next ≡ slot = cc in
          omega arith
      | inr past ↦
          let e : None ≡ Some slot = sym (cond-false (nat_lt next count) (Some next) None (le-ltb next count past)) ∙ leads in
          cc
    ]

linked_below : (b : List ℕ) (from : Option ℕ) (slot : ℕ) → linked b from ≡ Some slot → slot < slot_count b
linked_below b None slot leads = cc
linked_below b (Some at) slot leads = link_below (slot_count b) (next_at b at) slot leads

-- what is met is a slot
pub met_is_slot : (b : List ℕ) (n slot : ℕ) → met_after b n ≡ Some slot → slot < slot_count b
unfolding met_after
met_is_slot b zero slot met =
    elim (cases_lt 0 (slot_count b)) [
      | inl some ↦
          let e : Some 0 ≡ Some slot = sym (cond-true (nat_lt 0 (slot_count b)) (Some 0) None (lt-ltb 0 (slot_count b) some)) ∙ met in
          let same : 0 ≡ slot = cc in
          omega arith
      | inr none ↦
          let e : None ≡ Some slot = sym (cond-false (nat_lt 0 (slot_count b)) (Some 0) None (le-ltb 0 (slot_count b) none)) ∙ met in
          cc
    ]
met_is_slot b (suc n) slot met = linked_below b (met_after b n) slot met

-- slot 0 is met where there is a slot
pub met_first : (b : List ℕ) → 0 < slot_count b → met_after b 0 ≡ Some 0
unfolding met_after
met_first b some = cond-true (nat_lt 0 (slot_count b)) (Some 0) None (lt-ltb 0 (slot_count b) some)

-- a link more
pub met_next : (b : List ℕ) (n slot : ℕ) → met_after b n ≡ Some slot → met_after b (suc n) ≡ link_of (slot_count b) (next_at b slot)
unfolding met_after
met_next b n slot met = ap (linked b) met

-- behind the chain's end nothing is met
pub met_none : (b : List ℕ) (n later : ℕ) → n ≤ later → met_after b n ≡ None → met_after b later ≡ None
unfolding met_after
met_none b n zero le none =
    let e : n ≡ zero = omega arith in subst (λ k. met_after b k ≡ None) e none
met_none b n (suc later) le none =
    elim (cases_lt later n) [
      | inl below ↦ let e : n ≡ suc later = omega arith in subst (λ k. met_after b k ≡ None) e none
      | inr from ↦ ap (linked b) (met_none b n later from none)
    ]

-- so something is met before each slot that is met
none_or_some : (o : Option ℕ) → (o ≡ None) ⊎ ((s : ℕ) × (o ≡ Some s))
none_or_some None = inl refl
none_or_some (Some s) = inr (s, refl)

pub met_before : (b : List ℕ) (n later slot : ℕ) → n ≤ later → met_after b later ≡ Some slot → (s : ℕ) × (met_after b n ≡ Some s)
met_before b n later slot le met =
    elim (none_or_some (met_after b n)) [
      | inl none ↦ let e : None ≡ Some slot = sym (met_none b n later le none) ∙ met in cc
      | inr some ↦ some
    ]

-- from the same slot the chain goes on in the same way
pub met_alike : (b : List ℕ) (i j k : ℕ) → met_after b i ≡ met_after b j → met_after b (i + k) ≡ met_after b (j + k)
unfolding met_after
met_alike b i j zero same = rw (add-zero i, add-zero j) same
met_alike b i j (suc k) same = rw (add-suc i k, add-suc j k) (ap (linked b) (met_alike b i j k same))

-- after so many links the chain meets this slot; it comes to its end
abbrev pub meets : List ℕ → ℕ → ℕ → Bool
meets b slot n = option_map_or (λ s. s == slot) (met_after b n) false

abbrev pub ends : List ℕ → ℕ → Bool
ends b n = option_map_or (λ s. next_at b s == 0) (met_after b n) false

tested : (test : ℕ → Bool) (o : Option ℕ) (s : ℕ) → o ≡ Some s → option_map_or test o false ≡ test s
tested test o s e = ap (λ o. option_map_or test o false) e

untested : (test : ℕ → Bool) (o : Option ℕ) → o ≡ None → option_map_or test o false ≡ false
untested test o e = ap (λ o. option_map_or test o false) e

passed : (test : ℕ → Bool) (o : Option ℕ) → option_map_or test o false ≡ true → (s : ℕ) × (o ≡ Some s) × (test s ≡ true)
passed test None passes = cc
passed test (Some s) passes = (s, refl, passes)

pub meets_at : (b : List ℕ) (slot n s : ℕ) → met_after b n ≡ Some s → meets b slot n ≡ (s == slot)
meets_at b slot n s met = tested (λ s. s == slot) (met_after b n) s met

pub meets_none : (b : List ℕ) (slot n : ℕ) → met_after b n ≡ None → meets b slot n ≡ false
meets_none b slot n none = untested (λ s. s == slot) (met_after b n) none

pub met_by : (b : List ℕ) (slot n : ℕ) → meets b slot n ≡ true → met_after b n ≡ Some slot
met_by b slot n meets =
    let found : (s : ℕ) × (met_after b n ≡ Some s) × ((s == slot) ≡ true) = passed (λ s. s == slot) (met_after b n) meets in
    found.1 ∙ ap Some (eqb-true found.0 slot found.2)

pub ends_at : (b : List ℕ) (n s : ℕ) → met_after b n ≡ Some s → ends b n ≡ (next_at b s == 0)
ends_at b n s met = tested (λ s. next_at b s == 0) (met_after b n) s met

pub ends_none : (b : List ℕ) (n : ℕ) → met_after b n ≡ None → ends b n ≡ false
ends_none b n none = untested (λ s. next_at b s == 0) (met_after b n) none

pub ended_by : (b : List ℕ) (n : ℕ) → ends b n ≡ true → met_after b (suc n) ≡ None
ended_by b n ends =
    let found : (s : ℕ) × (met_after b n ≡ Some s) × ((next_at b s == 0) ≡ true)
    = passed (λ s. next_at b s == 0) (met_after b n) ends in
    met_next b n found.0 found.1
    ∙ link_ends (slot_count b) (next_at b found.0) (inl (eqb-true (next_at b found.0) 0 found.2))
