-- A slot leaves its bucket, of which it is the first or behind the last one below it, and chains are chains again.
use Rattle.std.proofs.Common.{◌≡◌, ◌≢◌, ℕ, ◌+◌, ◌%◌, ◌<◌, ◌≤◌, true, false, true≢false, List, length, slice_index, slice_set, inl, inr, refl, sym, ap, ◌∙◌, subst, arith, eq-eqb, eqb-true, ne_eqb}
use Rattle.std.proofs.lemmas.Bool.{cases_eq, and_from, and_left, and_right, and_parts}
use Rattle.tlb_model.specs.declared.slot.Slot.{Slot}
use Rattle.tlb_model.specs.SlotBuckets.{IsChained, IsLeast, first_of, is_kept, is_member, slot_at}
use Rattle.tlb_model.proofs.Leasts.{least_bound, least_same, least_left}
use Rattle.tlb_model.proofs.ChangedSlots.{member_there, member_elsewhere, next_of}
use Rattle.tlb_model.proofs.Chained.{chained_there, first_below, passes}

module _ (g : ℕ) (slots : List Slot) (at : ℕ) (slot : Slot) (fits : at < length slots) (firsts nexts : List ℕ) (chained : IsChained g slots firsts nexts) (bucket : ℕ)
    (gone : is_kept g slot ≡ false) (kept : is_kept g (slot_at slots at) ≡ true) (own : (slot_at slots at).page % 1024 ≡ bucket) (small : bucket < 1024) (bound : at < 1024) where
  fails : (other : ℕ) → is_member g (slice_set slots at slot) other at ≡ false
  fails other = member_there g slots at slot fits other ∙ and_left _ _ gone

  apart : (other : ℕ) → other ≢ bucket → is_member g (slice_set slots at slot) other at ≡ is_member g slots other at
  apart other ne = fails other ∙ sym (and_right _ _ (ne_eqb _ _ (λ e. ne (sym e ∙ own))))

  held : is_member g slots bucket at ≡ true
  held = and_from _ _ kept (eq-eqb _ _ own)

  same : (k : ℕ) → k ≢ at → is_member g (slice_set slots at slot) bucket k ≡ is_member g slots bucket k
  same k ne = member_elsewhere g slots at slot fits bucket k ne

  next_in : (k : ℕ) → is_member g slots bucket k ≡ true → IsLeast (is_member g slots bucket) (k + 1) (slice_index nexts k)
  next_in = next_of g slots firsts nexts chained bucket

  away : (k : ℕ) → is_member g (slice_set slots at slot) bucket k ≡ true → k ≢ at
  away k member e = true≢false (sym member ∙ ap (is_member g (slice_set slots at slot) bucket) e ∙ fails bucket)

  -- what led to the slot leads to the one behind it
  past : (from : ℕ) → IsLeast (is_member g slots bucket) from at → IsLeast (is_member g (slice_set slots at slot) bucket) from (slice_index nexts at)
  past from least = least_left (is_member g slots bucket) (is_member g (slice_set slots at slot) bucket) from at (slice_index nexts at) least (next_in at held) (fails bucket) same

  pub parted_first : (others : List ℕ) → at ≤ first_of g slots firsts bucket
      → slice_index others bucket ≡ slice_index nexts at → ((other : ℕ) → other ≢ bucket → slice_index others other ≡ slice_index firsts other)
      → IsChained g (slice_set slots at slot) others nexts
  parted_first others below noted elsewhere =
      let first : ℕ = first_of g slots firsts bucket in
      let least : IsLeast (is_member g slots bucket) 0 first = chained.first bucket small in
      let above : first ≤ at = least_bound (is_member g slots bucket) 0 first at least (omega arith) held in
      let is : first ≡ at = omega (arith, below, above) in
      chained_there g slots at slot fits firsts nexts chained bucket others nexts apart (λ e. absurd (true≢false (sym e ∙ gone))) elsewhere (λ _ _ _. refl)
      (subst (IsLeast (is_member g (slice_set slots at slot) bucket) 0) (sym noted) (past 0 (subst (IsLeast (is_member g slots bucket) 0) is least)))
      (λ k member.
      let old : is_member g slots bucket k ≡ true = sym (same k (away k member)) ∙ member in
      let higher : first ≤ k = least_bound (is_member g slots bucket) 0 first k least (omega arith) old in
      least_same (is_member g slots bucket) (is_member g (slice_set slots at slot) bucket) (k + 1) (slice_index nexts k) (next_in k old)
      (λ j start _. same j (omega (arith, start, higher, below))))

  pub parted_behind : (behind : List ℕ) (before : ℕ) → first_of g slots firsts bucket < at
      → is_member g slots bucket before ≡ true → before < at → at ≤ slice_index nexts before
      → slice_index behind before ≡ slice_index nexts at
      → ((k : ℕ) → k ≢ before → slice_index behind k ≡ slice_index nexts k)
      → IsChained g (slice_set slots at slot) firsts behind
  parted_behind behind before first member below last led unlinked =
      let most : slice_index nexts before ≤ at = least_bound (is_member g slots bucket) (before + 1) (slice_index nexts before) at (next_in before member) (omega (arith, below)) held in
      let is : slice_index nexts before ≡ at = omega (arith, most, last) in
      chained_there g slots at slot fits firsts nexts chained bucket firsts behind apart (λ e. absurd (true≢false (sym e ∙ gone))) (λ _ _. refl)
      (λ k _ elsewhere. unlinked k (λ e. elsewhere (ap (λ n. (slot_at slots n).page % 1024) e ∙ eqb-true _ _ ((and_parts _ _ member).1))))
      (first_below g slots at slot fits firsts nexts chained bucket small first bound)
      (λ k mine. elim (cases_eq k before) [
        | inl e ↦ subst (λ n. IsLeast (is_member g (slice_set slots at slot) bucket) (n + 1) (slice_index behind n)) (sym e)
            (subst (IsLeast (is_member g (slice_set slots at slot) bucket) (before + 1)) (sym led)
            (past (before + 1) (subst (IsLeast (is_member g slots bucket) (before + 1)) is (next_in before member))))
        | inr ne ↦
            let old : is_member g slots bucket k ≡ true = sym (same k (away k mine)) ∙ mine in
            subst (IsLeast (is_member g (slice_set slots at slot) bucket) (k + 1)) (sym (unlinked k ne))
            (least_same (is_member g slots bucket) (is_member g (slice_set slots at slot) bucket) (k + 1) (slice_index nexts k) (next_in k old)
            (λ j start last_of. same j (passes g slots at slot fits firsts nexts chained bucket before member below last k ne old j start last_of)))
      ])
