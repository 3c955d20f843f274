use Rattle.std.proofs.Common.{rules, ◌≡◌, ◌≢◌, ◌<◌, ◌≤◌, ℕ, ◌%◌, true, false, List, length, slice_index, slice_set, ap, ◌∙◌, subst, arith, get_or-set_other, get_or-set_same, length-set}
use Rattle.tlb_model.specs.declared.slot.Slot.{Slot}
use Rattle.tlb_model.specs.SlotBuckets.{IsChained, first_of, is_kept, is_member, slot_at}
use Rattle.tlb_model.proofs.Joined.{joined_behind, joined_first}
use Rattle.tlb_model.proofs.chains.Chains.insert.Goals as goal

behind_it : (g : ℕ) (slots : List Slot) (at : ℕ) (slot : Slot) (firsts nexts : List ℕ) (page before : ℕ) → IsChained g slots firsts nexts
    → at < length slots → length nexts ≡ 1024 → at < 1024 → is_kept g slot ≡ true → slot.page ≡ page → first_of g slots firsts (page % 1024) < at
    → is_kept g (slot_at slots at) ≡ false → is_member g slots (page % 1024) before ≡ true → before < at → at ≤ slice_index nexts before
    → IsChained g (slice_set slots at slot) firsts (slice_set (slice_set nexts at (slice_index nexts before)) before at)
behind_it g slots at slot firsts nexts page before chained fits long bound kept own first free member below last =
    let value : ℕ = slice_index nexts before in
    let apart : at ≢ before = λ e. omega (arith, e, below) in
    joined_behind g slots at slot fits firsts nexts chained (page % 1024) kept (ap (λ p. p % 1024) own) free (omega arith) bound
    (slice_set (slice_set nexts at value) before at) before first member below last
    (get_or-set_other (slice_set nexts at value) before at at 0 apart ∙ get_or-set_same nexts at value 0 (omega (arith, long, bound)))
    (get_or-set_same (slice_set nexts at value) before at 0 (omega (arith, length-set nexts at value, long, below, bound)))
    (λ k ne away. get_or-set_other (slice_set nexts at value) before k at 0 away ∙ get_or-set_other nexts at k value 0 ne)

first_of_all : (g : ℕ) (slots : List Slot) (at : ℕ) (slot : Slot) (firsts nexts : List ℕ) (page first : ℕ) → IsChained g slots firsts nexts
    → at < length slots → length firsts ≡ 1024 → length nexts ≡ 1024 → at < 1024 → is_kept g slot ≡ true → slot.page ≡ page
    → first ≡ first_of g slots firsts (page % 1024) → at ≤ first → is_kept g (slot_at slots at) ≡ false
    → IsChained g (slice_set slots at slot) (slice_set firsts (page % 1024) at) (slice_set nexts at first)
first_of_all g slots at slot firsts nexts page first chained fits long longer bound kept own is below free =
    joined_first g slots at slot fits firsts nexts chained (page % 1024) kept (ap (λ p. p % 1024) own) free (omega arith) bound
    (slice_set firsts (page % 1024) at) (slice_set nexts at first) (subst (λ n. at ≤ n) is below)
    (get_or-set_same firsts (page % 1024) at 0 (omega (arith, long)))
    (λ other ne. get_or-set_other firsts (page % 1024) other at 0 ne)
    (get_or-set_same nexts at first 0 (omega (arith, longer, bound)) ∙ is)
    (λ k ne. get_or-set_other nexts at k first 0 ne)

pub returns-then-first-at : goal.returns-then-first-at
returns-then-first-at c = record {
  chained = λ slot kept own.
      let first : first_of c.args.generation c.args.slots.now c.args.self.now.firsts (c.args.page % 1024) < c.args.at =
      subst (λ n. first_of c.args.generation c.args.slots.now c.args.self.now.firsts n < c.args.at) c.bucket_of.ensures (subst (λ n. n < c.args.at) c.first-first.ensures c.if-first-at.true) in
      let member : is_member c.args.generation c.args.slots.now (c.args.page % 1024) c.before-before.result ≡ true =
      subst (λ n. is_member c.args.generation c.args.slots.now n c.before-before.result ≡ true) c.bucket_of-then-first-at.ensures c.before-before.ensures.member in
      rw c.from.ensures (rw c.from-then-first-at.ensures (rw c.from-then-first-at-2.ensures
      (behind_it c.args.generation c.args.slots.now c.args.at slot c.args.self.now.firsts c.args.self.now.nexts c.args.page c.before-before.result c.requires.chained
      (search rules) (search rules) c.requires.slot kept own first c.requires.free member c.before-before.ensures.below c.before-before.ensures.last)));
}

pub returns-else-first-at : goal.returns-else-first-at
returns-else-first-at c = record {
  chained = λ slot kept own.
      let first : c.first-first.result ≡ first_of c.args.generation c.args.slots.now c.args.self.now.firsts (c.args.page % 1024) =
      c.first-first.ensures ∙ ap (first_of c.args.generation c.args.slots.now c.args.self.now.firsts) c.bucket_of.ensures in
      rw c.from-else-first-at.ensures (rw (c.from-else-first-at-2.ensures ∙ c.bucket_of-else-first-at.ensures)
      (first_of_all c.args.generation c.args.slots.now c.args.at slot c.args.self.now.firsts c.args.self.now.nexts c.args.page c.first-first.result c.requires.chained
      (search rules) (search rules) (search rules) c.requires.slot kept own first c.if-first-at.false c.requires.free));
}
