-- The chain followed link by link: what is marked so far, and what the marks say once it can't go on.
use Rattle.std.proofs.Common.{◌≡◌, ◌≢◌, inl, inr, ℕ, suc, ◌<◌, ◌≤◌, ◌==◌, Bool, true, false, ◌||◌, List, length, get_or, set, replicate, None, Some, arith, refl, ap, ◌∙◌, sym}
use Rattle.std.proofs.Math.ListN.{length-set}
use Rattle.std.proofs.lemmas.Grind.{get_or-set_at}
use Rattle.std.proofs.lemmas.List.{get_or-replicate, get_or-set_other, length-replicate}
use Rattle.std.proofs.Math.Bool.{or-false, or-true}
use Rattle.std.proofs.lemmas.Bool.{cases_eq, eq-eqb, ne_eqb, or_left}
use Rattle.proc_audit.specs.FollowedChain.{IsFollowed}
use Rattle.proc_audit.specs.ProcessList.{is_chain_good, is_met, link_of, met_after, next_at, slot_count}
use Rattle.proc_audit.proofs.ChainLinks.{ends, ends_at, ends_none, link_below, link_some, meets, meets_at, meets_none, met_first, met_next, met_none}
use Rattle.proc_audit.proofs.NumberTests.{any_below, any_more, any_stays}

-- what is met within fewer than n links is marked and no more, the chain hasn't ended there, and now it is at this slot
pub record IsFollowing (b : List ℕ) (n slot : ℕ) (met : List Bool) : Type 0 where
  pub count : length met ≡ slot_count b
  pub here : met_after b n ≡ Some slot
  pub inside : slot < slot_count b
  pub marks : (s : ℕ) → s < slot_count b → get_or met s false ≡ any_below (meets b s) n
  pub going : any_below (ends b) n ≡ false

pub begun : (b : List ℕ) (met : List Bool) (size : ℕ) → size ≡ slot_count b → 0 < size → met ≡ replicate size false
    → IsFollowing b 0 0 met
begun b met size count some clear = record {
  count = ap length clear ∙ length-replicate size false ∙ count;
  here = met_first b (omega arith);
  inside = omega arith;
  marks = λ s below. ap (λ marks. get_or marks s false) clear ∙ get_or-replicate size s false false (omega arith);
  going = refl;
}

-- where there is a slot, the chain is good where it comes to its end
good_by_end : (b : List ℕ) (good : Bool) → 0 < slot_count b → any_below (ends b) (slot_count b) ≡ good → is_chain_good b ≡ good
unfolding is_chain_good
good_by_end b good some end =
    ap (λ x. x || any_below (ends b) (slot_count b)) (ne_eqb (slot_count b) 0 (λ e. omega arith)) ∙ end

-- the slot that the chain is at is marked
marked : (b : List ℕ) (n slot : ℕ) (met : List Bool) → IsFollowing b n slot met
    → (s : ℕ) → s < slot_count b → get_or (set met slot true) s false ≡ any_below (meets b s) (suc n)
marked b n slot met so_far s below =
    let tested : any_below (meets b s) (suc n) ≡ (any_below (meets b s) n || (slot == s)) =
    any_more (meets b s) n ∙ ap (λ x. any_below (meets b s) n || x) (meets_at b s n slot so_far.here) in
    elim (cases_eq s slot) [
      | inl same ↦
          let here : get_or (set met slot true) s false ≡ true =
          get_or-set_at met slot s true false same (omega (arith, so_far.count, so_far.inside)) in
          here ∙ sym (tested ∙ ap (λ x. any_below (meets b s) n || x) (eq-eqb slot s (sym same)) ∙ or-true (any_below (meets b s) n))
      | inr other ↦
          let there : get_or (set met slot true) s false ≡ get_or met s false =
          get_or-set_other met slot s true false other in
          there ∙ so_far.marks s below
          ∙ sym (tested ∙ ap (λ x. any_below (meets b s) n || x) (ne_eqb slot s (λ e. other (sym e))) ∙ or-false (any_below (meets b s) n))
    ]

-- of the chain's end so far its last slot decides
ended : (b : List ℕ) (n slot next : ℕ) (met : List Bool) → IsFollowing b n slot met → next ≡ next_at b slot
    → any_below (ends b) (suc n) ≡ (next == 0)
ended b n slot next met so_far read =
    any_more (ends b) n ∙ ap (λ x. x || ends b n) so_far.going
    ∙ ends_at b n slot so_far.here ∙ ap (λ x. x == 0) (sym read)

-- where the chain is a link later
linked_to : (b : List ℕ) (n slot next : ℕ) (met : List Bool) → IsFollowing b n slot met → next ≡ next_at b slot
    → met_after b (suc n) ≡ link_of (slot_count b) next
linked_to b n slot next met so_far read =
    met_next b n slot so_far.here ∙ ap (link_of (slot_count b)) (sym read)

-- a link that leads on
pub followed_on : (b : List ℕ) (n slot next to : ℕ) (met : List Bool) → IsFollowing b n slot met → next ≡ next_at b slot
    → link_of (slot_count b) next ≡ Some to → IsFollowing b (suc n) to (set met slot true)
followed_on b n slot next to met so_far read leads =
    let some : next ≢ 0 = link_some (slot_count b) next to leads in
    record {
      count = length-set met slot true ∙ so_far.count;
      here = linked_to b n slot next met so_far read ∙ leads;
      inside = link_below (slot_count b) next to leads;
      marks = marked b n slot met so_far;
      going = ended b n slot next met so_far read ∙ ne_eqb next 0 some;
    }

-- a link that leads to no slot
pub followed_whole : (b : List ℕ) (n slot next : ℕ) (met : List Bool) → IsFollowing b n slot met → n < slot_count b
    → next ≡ next_at b slot → link_of (slot_count b) next ≡ None → IsFollowed b (set met slot true) (next == 0)
unfolding is_met
followed_whole b n slot next met so_far within read last =
    let none : met_after b (suc n) ≡ None = linked_to b n slot next met so_far read ∙ last in
    let behind : (k : ℕ) → suc n ≤ k → met_after b k ≡ None = λ k from. met_none b (suc n) k from none in
    record {
      count = length-set met slot true ∙ so_far.count;
      marks = λ s below. marked b n slot met so_far s below
          ∙ sym (any_stays (meets b s) (suc n) (slot_count b) (omega arith) (λ k from. meets_none b s k (behind k from)));
      flag = sym (good_by_end b (next == 0) (omega arith)
          (any_stays (ends b) (suc n) (slot_count b) (omega arith) (λ k from. ends_none b k (behind k from))
          ∙ ended b n slot next met so_far read));
    }

-- as many links as there are slots
pub followed_long : (b : List ℕ) (n slot : ℕ) (met : List Bool) → IsFollowing b n slot met → n ≡ slot_count b
    → IsFollowed b met false
unfolding is_met
followed_long b n slot met so_far long = record {
  count = so_far.count;
  marks = λ s below. so_far.marks s below ∙ ap (any_below (meets b s)) long;
  flag = sym (good_by_end b false (omega (arith, so_far.inside)) (ap (any_below (ends b)) (sym long) ∙ so_far.going));
}

-- no slot
pub followed_none : (b : List ℕ) (met : List Bool) → length met ≡ slot_count b → slot_count b ≡ 0 → IsFollowed b met true
unfolding is_chain_good
followed_none b met count none = record {
  count = count;
  marks = λ s below. absurd (omega arith);
  flag = sym (or_left (slot_count b == 0) (any_below (ends b) (slot_count b)) (eq-eqb (slot_count b) 0 none));
}
