use Rattle.std.proofs.Common.{rules, ◌≡◌, ◌≢◌, ◌<◌, ℕ, ◌+◌, ◌%◌, true, true≢false, List, length, slice_index, slice_index_or, inl, inr, sym, ap, ◌∙◌, arith, eq-eqb}
use Rattle.std.proofs.lemmas.Bool.{and_from, cases_eq, cases_lt}
use Rattle.std.proofs.lemmas.List.{get_or_default}
use Rattle.tlb_model.specs.declared.slot.Slot.{Slot}
use Rattle.tlb_model.specs.SlotBuckets.{IsLeast, empty_slot, is_kept, is_member, slot_at}
use Rattle.tlb_model.proofs.ChangedSlots.{next_of}
use Rattle.tlb_model.proofs.chains.Chains.find.Goals as goal

-- slots of the bucket that were passed keep other pages, and those between two of the bucket aren't of it
none_before : (g : ℕ) (slots : List Slot) (page at next : ℕ) → IsLeast (is_member g slots (page % 1024)) (at + 1) next → (slot_at slots at).page ≢ page
    → ((k : ℕ) → k < at → is_kept g (slot_at slots k) ≡ true → (slot_at slots k).page ≢ page)
    → (k : ℕ) → k < next → is_kept g (slot_at slots k) ≡ true → (slot_at slots k).page ≢ page
none_before g slots page at next least differ before k below kept own = elim (cases_eq k at) [
  | inl e ↦ differ (sym (ap (λ n. (slot_at slots n).page) e) ∙ own)
  | inr ne ↦ elim (cases_lt k at) [
    | inl lower ↦ before k lower kept own
    | inr higher ↦ true≢false (sym (and_from _ _ kept (eq-eqb _ _ (ap (λ n. n % 1024) own))) ∙ least.none k (omega (arith, higher, ne)) below)
  ]
]

pub loop-at-preserved : goal.loop-at-preserved
loop-at-preserved c =
    let past : Slot = record empty_slot { place = 0 } in
    let least : IsLeast (is_member c.args.generation c.args.slots.now (c.args.page % 1024)) (c.loop-at.at + 1) (slice_index c.args.self.now.nexts c.loop-at.at) =
    next_of c.args.generation c.args.slots.now c.args.self.now.firsts c.args.self.now.nexts c.requires.chained (c.args.page % 1024) c.loop-at.at (c.loop-at.invariant.member c.loop-at-test.true) in
    let within : c.loop-at.at < length c.args.slots.now = search rules in
    let differ : (slot_at c.args.slots.now c.loop-at.at).page ≢ c.args.page =
    λ e. c.if-slots-from.true (ap (λ n. (slice_index_or c.args.slots.now n past).page) c.from.ensures ∙ ap (λ (slot : Slot). slot.page) (get_or_default c.args.slots.now c.loop-at.at past empty_slot within) ∙ e) in
    rw c.from-in-loop-at.ensures (record {
      most = least.most;
      member = least.is;
      before = none_before c.args.generation c.args.slots.now c.args.page c.loop-at.at (slice_index c.args.self.now.nexts c.loop-at.at) least differ c.loop-at.invariant.before;
    })
