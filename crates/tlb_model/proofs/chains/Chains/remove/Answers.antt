use Rattle.std.proofs.Common.{rules, ◌≡◌, ◌<◌, ◌≤◌, ℕ, ◌%◌, true, false, List, length, slice_index, slice_set, ap, ◌∙◌, subst, arith, get_or-set_other, get_or-set_same}
use Rattle.tlb_model.specs.declared.slot.Slot.{Slot}
use Rattle.tlb_model.specs.SlotBuckets.{IsChained, first_of, is_kept, is_member, slot_at}
use Rattle.tlb_model.proofs.Parted.{parted_behind, parted_first}
use Rattle.tlb_model.proofs.chains.Chains.remove.Goals as goal

behind_it : (g : ℕ) (slots : List Slot) (at : ℕ) (slot : Slot) (firsts nexts : List ℕ) (page before : ℕ) → IsChained g slots firsts nexts
    → at < length slots → length nexts ≡ 1024 → at < 1024 → is_kept g slot ≡ false → first_of g slots firsts (page % 1024) < at
    → is_kept g (slot_at slots at) ≡ true → (slot_at slots at).page ≡ page
    → is_member g slots (page % 1024) before ≡ true → before < at → at ≤ slice_index nexts before
    → IsChained g (slice_set slots at slot) firsts (slice_set nexts before (slice_index nexts at))
behind_it g slots at slot firsts nexts page before chained fits long bound gone first kept own member below last =
    parted_behind g slots at slot fits firsts nexts chained (page % 1024) gone kept (ap (λ p. p % 1024) own) (omega arith) bound
    (slice_set nexts before (slice_index nexts at)) before first member below last
    (get_or-set_same nexts before (slice_index nexts at) 0 (omega (arith, long, below, bound)))
    (λ k ne. get_or-set_other nexts before k (slice_index nexts at) 0 ne)

first_of_all : (g : ℕ) (slots : List Slot) (at : ℕ) (slot : Slot) (firsts nexts : List ℕ) (page first : ℕ) → IsChained g slots firsts nexts
    → at < length slots → length firsts ≡ 1024 → at < 1024 → is_kept g slot ≡ false
    → first ≡ first_of g slots firsts (page % 1024) → at ≤ first → is_kept g (slot_at slots at) ≡ true → (slot_at slots at).page ≡ page
    → IsChained g (slice_set slots at slot) (slice_set firsts (page % 1024) (slice_index nexts at)) nexts
first_of_all g slots at slot firsts nexts page first chained fits long bound gone is below kept own =
    parted_first g slots at slot fits firsts nexts chained (page % 1024) gone kept (ap (λ p. p % 1024) own) (omega arith) bound
    (slice_set firsts (page % 1024) (slice_index nexts at)) (subst (λ n. at ≤ n) is below)
    (get_or-set_same firsts (page % 1024) (slice_index nexts at) 0 (omega (arith, long)))
    (λ other ne. get_or-set_other firsts (page % 1024) other (slice_index nexts at) 0 ne)

pub returns-then-first-at : goal.returns-then-first-at
returns-then-first-at c = record {
  chained = λ slot gone.
      let first : first_of c.args.generation c.args.slots.now c.args.self.now.firsts (c.args.page % 1024) < c.args.at =
      subst (λ n. first_of c.args.generation c.args.slots.now c.args.self.now.firsts n < c.args.at) c.bucket_of.ensures (subst (λ n. n < c.args.at) c.first-first.ensures c.if-first-at.true) in
      let member : is_member c.args.generation c.args.slots.now (c.args.page % 1024) c.before-before.result ≡ true =
      subst (λ n. is_member c.args.generation c.args.slots.now n c.before-before.result ≡ true) c.bucket_of-then-first-at.ensures c.before-before.ensures.member in
      rw c.from.ensures (rw c.from-then-first-at.ensures
      (behind_it c.args.generation c.args.slots.now c.args.at slot c.args.self.now.firsts c.args.self.now.nexts c.args.page c.before-before.result c.requires.chained
      (search rules) (search rules) c.requires.slot gone first c.requires.kept c.requires.page member c.before-before.ensures.below c.before-before.ensures.last));
}

pub returns-else-first-at : goal.returns-else-first-at
returns-else-first-at c = record {
  chained = λ slot gone.
      let first : c.first-first.result ≡ first_of c.args.generation c.args.slots.now c.args.self.now.firsts (c.args.page % 1024) =
      c.first-first.ensures ∙ ap (first_of c.args.generation c.args.slots.now c.args.self.now.firsts) c.bucket_of.ensures in
      rw c.from-else-first-at.ensures (rw (c.from-else-first-at-2.ensures ∙ c.bucket_of-else-first-at.ensures)
      (first_of_all c.args.generation c.args.slots.now c.args.at slot c.args.self.now.firsts c.args.self.now.nexts c.args.page c.first-first.result c.requires.chained
      (search rules) (search rules) c.requires.slot gone first c.if-first-at.false c.requires.kept c.requires.page));
}
