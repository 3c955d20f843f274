-- A slot that was free joins a bucket, as its first or behind the last one below it, and chains are chains again.
use Rattle.std.proofs.Common.{◌≡◌, ◌≢◌, ℕ, ◌+◌, ◌%◌, ◌<◌, ◌≤◌, true, false, true≢false, List, length, slice_index, slice_set, inl, inr, refl, sym, ap, ◌∙◌, subst, arith, eq-eqb, eqb-true, ne_eqb}
use Rattle.std.proofs.lemmas.Bool.{cases_eq, and_from, and_left, and_right, and_parts}
use Rattle.tlb_model.specs.declared.slot.Slot.{Slot}
use Rattle.tlb_model.specs.SlotBuckets.{IsChained, IsLeast, first_of, is_kept, is_member, slot_at}
use Rattle.tlb_model.proofs.Leasts.{least_bound, least_same, least_joined, least_later}
use Rattle.tlb_model.proofs.ChangedSlots.{member_there, member_elsewhere, next_of}
use Rattle.tlb_model.proofs.Chained.{chained_there, first_below, passes}

module _ (g : ℕ) (slots : List Slot) (at : ℕ) (slot : Slot) (fits : at < length slots) (firsts nexts : List ℕ) (chained : IsChained g slots firsts nexts) (bucket : ℕ)
    (kept : is_kept g slot ≡ true) (own : slot.page % 1024 ≡ bucket) (free : is_kept g (slot_at slots at) ≡ false) (small : bucket < 1024) (bound : at < 1024) where
  apart : (other : ℕ) → other ≢ bucket → is_member g (slice_set slots at slot) other at ≡ is_member g slots other at
  apart other ne = member_there g slots at slot fits other ∙ and_right _ _ (ne_eqb _ _ (λ e. ne (sym e ∙ own))) ∙ sym (and_left _ _ free)

  holds : is_member g (slice_set slots at slot) bucket at ≡ true
  holds = member_there g slots at slot fits bucket ∙ and_from _ _ kept (eq-eqb _ _ own)

  same : (k : ℕ) → k ≢ at → is_member g (slice_set slots at slot) bucket k ≡ is_member g slots bucket k
  same k ne = member_elsewhere g slots at slot fits bucket k ne

  next_in : (k : ℕ) → is_member g slots bucket k ≡ true → IsLeast (is_member g slots bucket) (k + 1) (slice_index nexts k)
  next_in = next_of g slots firsts nexts chained bucket

  -- nothing leads to a free slot
  never : (from found : ℕ) → IsLeast (is_member g slots bucket) from found → found ≢ at
  never from found least e =
      let member : is_member g slots bucket at ≡ true = subst (λ n. is_member g slots bucket n ≡ true) e (least.is (omega (arith, e, bound))) in
      true≢false (sym ((and_parts _ _ member).0) ∙ free)

  -- what led from below the slot to one above it leads from the slot to that one
  from_there : (from found : ℕ) → IsLeast (is_member g slots bucket) from found → from ≤ at + 1 → at ≤ found → IsLeast (is_member g (slice_set slots at slot) bucket) (at + 1) found
  from_there from found least start above =
      let ne : found ≢ at = never from found least in
      least_same (is_member g slots bucket) (is_member g (slice_set slots at slot) bucket) (at + 1) found
      (least_later (is_member g slots bucket) from (at + 1) found least start (omega (arith, ne, above)))
      (λ k higher _. same k (omega (arith, higher)))

  pub joined_first : (others behind : List ℕ) → at ≤ first_of g slots firsts bucket
      → slice_index others bucket ≡ at → ((other : ℕ) → other ≢ bucket → slice_index others other ≡ slice_index firsts other)
      → slice_index behind at ≡ first_of g slots firsts bucket → ((k : ℕ) → k ≢ at → slice_index behind k ≡ slice_index nexts k)
      → IsChained g (slice_set slots at slot) others behind
  joined_first others behind below noted elsewhere linked unlinked =
      let first : ℕ = first_of g slots firsts bucket in
      let least : IsLeast (is_member g slots bucket) 0 first = chained.first bucket small in
      chained_there g slots at slot fits firsts nexts chained bucket others behind apart (λ _. own) elsewhere (λ k ne _. unlinked k ne)
      (subst (IsLeast (is_member g (slice_set slots at slot) bucket) 0) (sym noted)
      (least_joined (is_member g slots bucket) (is_member g (slice_set slots at slot) bucket) 0 first at least (omega arith) below holds same))
      (λ k member. elim (cases_eq k at) [
        | inl e ↦ subst (λ n. IsLeast (is_member g (slice_set slots at slot) bucket) (n + 1) (slice_index behind n)) (sym e)
            (subst (IsLeast (is_member g (slice_set slots at slot) bucket) (at + 1)) (sym linked) (from_there 0 first least (omega arith) below))
        | inr ne ↦
            let old : is_member g slots bucket k ≡ true = sym (same k ne) ∙ member in
            let higher : first ≤ k = least_bound (is_member g slots bucket) 0 first k least (omega arith) old in
            subst (IsLeast (is_member g (slice_set slots at slot) bucket) (k + 1)) (sym (unlinked k ne))
            (least_same (is_member g slots bucket) (is_member g (slice_set slots at slot) bucket) (k + 1) (slice_index nexts k) (next_in k old)
            (λ j start _. same j (omega (arith, start, higher, below))))
      ])

  pub joined_behind : (behind : List ℕ) (before : ℕ) → first_of g slots firsts bucket < at
      → is_member g slots bucket before ≡ true → before < at → at ≤ slice_index nexts before
      → slice_index behind at ≡ slice_index nexts before → slice_index behind before ≡ at
      → ((k : ℕ) → k ≢ at → k ≢ before → slice_index behind k ≡ slice_index nexts k)
      → IsChained g (slice_set slots at slot) firsts behind
  joined_behind behind before first member below last linked led unlinked =
      chained_there g slots at slot fits firsts nexts chained bucket firsts behind apart (λ _. own) (λ _ _. refl)
      (λ k ne elsewhere. unlinked k ne (λ e. elsewhere (ap (λ n. (slot_at slots n).page % 1024) e ∙ eqb-true _ _ ((and_parts _ _ member).1))))
      (first_below g slots at slot fits firsts nexts chained bucket small first bound)
      (λ k mine. elim (cases_eq k at) [
        | inl e ↦ subst (λ n. IsLeast (is_member g (slice_set slots at slot) bucket) (n + 1) (slice_index behind n)) (sym e)
            (subst (IsLeast (is_member g (slice_set slots at slot) bucket) (at + 1)) (sym linked) (from_there (before + 1) (slice_index nexts before) (next_in before member) (omega (arith, below)) last))
        | inr ne ↦ elim (cases_eq k before) [
          | inl e ↦ subst (λ n. IsLeast (is_member g (slice_set slots at slot) bucket) (n + 1) (slice_index behind n)) (sym e)
              (subst (IsLeast (is_member g (slice_set slots at slot) bucket) (before + 1)) (sym led)
              (least_joined (is_member g slots bucket) (is_member g (slice_set slots at slot) bucket) (before + 1) (slice_index nexts before) at (next_in before member) (omega (arith, below)) last holds same))
          | inr away ↦
              let old : is_member g slots bucket k ≡ true = sym (same k ne) ∙ mine in
              subst (IsLeast (is_member g (slice_set slots at slot) bucket) (k + 1)) (sym (unlinked k ne away))
              (least_same (is_member g slots bucket) (is_member g (slice_set slots at slot) bucket) (k + 1) (slice_index nexts k) (next_in k old)
              (λ j start most. same j (passes g slots at slot fits firsts nexts chained bucket before member below last k away old j start most)))
        ]
      ])
