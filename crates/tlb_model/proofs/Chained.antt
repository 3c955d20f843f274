-- Chains over slots of which one changes: what is left to show of its own bucket.
use Rattle.std.proofs.Common.{◌≡◌, ◌≢◌, ℕ, ◌+◌, ◌%◌, ◌<◌, ◌≤◌, true, cond, List, length, slice_index, slice_set, inl, inr, sym, ap, ◌∙◌, subst, arith, eq-eqb}
use Rattle.std.proofs.lemmas.Bool.{cases_eq, cases_lt, and_from}
use Rattle.tlb_model.specs.declared.slot.Slot.{Slot}
use Rattle.tlb_model.specs.SlotBuckets.{IsChained, IsLeast, first_of, is_kept, is_member, slot_at}
use Rattle.tlb_model.proofs.Leasts.{least_bound, least_same}
use Rattle.tlb_model.proofs.ChangedSlots.{first_noted, noted_first, slot_there, slot_elsewhere, member_elsewhere, next_of}

module _ (g : ℕ) (slots : List Slot) (at : ℕ) (slot : Slot) (fits : at < length slots) (firsts nexts : List ℕ) (chained : IsChained g slots firsts nexts) (bucket : ℕ) where
  -- a bucket that the slot neither joins nor leaves has the same members
  members_same : (other : ℕ) → is_member g (slice_set slots at slot) other at ≡ is_member g slots other at
      → (k : ℕ) → is_member g (slice_set slots at slot) other k ≡ is_member g slots other k
  members_same other there k = elim (cases_eq k at) [
    | inl e ↦ subst (λ n. is_member g (slice_set slots at slot) other n ≡ is_member g slots other n) (sym e) there
    | inr ne ↦ member_elsewhere g slots at slot fits other k ne
  ]

  first_same : (others : List ℕ) (other : ℕ) → other < 1024 → is_member g (slice_set slots at slot) other at ≡ is_member g slots other at
      → slice_index others other ≡ slice_index firsts other
      → IsLeast (is_member g (slice_set slots at slot) other) 0 (first_of g (slice_set slots at slot) others other)
  first_same others other small there noted =
      let same : (k : ℕ) → is_member g (slice_set slots at slot) other k ≡ is_member g slots other k = members_same other there in
      let first : first_of g (slice_set slots at slot) others other ≡ first_of g slots firsts other =
      subst (λ n. cond (is_member g (slice_set slots at slot) other n) n 1024 ≡ first_of g slots firsts other) (sym noted)
      (ap (λ b. cond b (slice_index firsts other) 1024) (same (slice_index firsts other))) in
      subst (IsLeast (is_member g (slice_set slots at slot) other) 0) (sym first)
      (least_same (is_member g slots other) (is_member g (slice_set slots at slot) other) 0 (first_of g slots firsts other) (chained.first other small) (λ k _ _. same k))

  next_same : (k : ℕ) → k ≢ at → is_kept g (slot_at slots k) ≡ true
      → is_member g (slice_set slots at slot) ((slot_at slots k).page % 1024) at ≡ is_member g slots ((slot_at slots k).page % 1024) at
      → IsLeast (is_member g (slice_set slots at slot) ((slot_at (slice_set slots at slot) k).page % 1024)) (k + 1) (slice_index nexts k)
  next_same k ne kept there =
      subst (λ s. IsLeast (is_member g (slice_set slots at slot) (s.page % 1024)) (k + 1) (slice_index nexts k)) (sym (slot_elsewhere g slots at slot fits k ne))
      (least_same (is_member g slots ((slot_at slots k).page % 1024)) (is_member g (slice_set slots at slot) ((slot_at slots k).page % 1024)) (k + 1) (slice_index nexts k)
      (chained.next k kept) (λ n _ _. members_same ((slot_at slots k).page % 1024) there n))

  -- chains need be seen to in the slot's own bucket alone
  pub chained_there : (others behind : List ℕ)
      → ((other : ℕ) → other ≢ bucket → is_member g (slice_set slots at slot) other at ≡ is_member g slots other at)
      → (is_kept g slot ≡ true → slot.page % 1024 ≡ bucket)
      → ((other : ℕ) → other ≢ bucket → slice_index others other ≡ slice_index firsts other)
      → ((k : ℕ) → k ≢ at → (slot_at slots k).page % 1024 ≢ bucket → slice_index behind k ≡ slice_index nexts k)
      → IsLeast (is_member g (slice_set slots at slot) bucket) 0 (slice_index others bucket)
      → ((k : ℕ) → is_member g (slice_set slots at slot) bucket k ≡ true → IsLeast (is_member g (slice_set slots at slot) bucket) (k + 1) (slice_index behind k))
      → IsChained g (slice_set slots at slot) others behind
  chained_there others behind apart own noted linked first next = record {
    first = λ other small. elim (cases_eq other bucket) [
      | inl e ↦ subst (λ n. IsLeast (is_member g (slice_set slots at slot) n) 0 (first_of g (slice_set slots at slot) others n)) (sym e) (first_noted g (slice_set slots at slot) others bucket first)
      | inr ne ↦ first_same others other small (apart other ne) (noted other ne)
    ];
    next = λ k kept. elim (cases_eq ((slot_at (slice_set slots at slot) k).page % 1024) bucket) [
      | inl e ↦ subst (λ n. IsLeast (is_member g (slice_set slots at slot) n) (k + 1) (slice_index behind k)) (sym e) (next k (and_from _ _ kept (eq-eqb _ _ e)))
      | inr ne ↦
          let away : k ≢ at = λ e.
          let there : slot_at (slice_set slots at slot) k ≡ slot = ap (slot_at (slice_set slots at slot)) e ∙ slot_there g slots at slot fits in
          ne (ap (λ s. s.page % 1024) there ∙ own (sym (ap (is_kept g) there) ∙ kept)) in
          let same : slot_at (slice_set slots at slot) k ≡ slot_at slots k = slot_elsewhere g slots at slot fits k away in
          let elsewhere : (slot_at slots k).page % 1024 ≢ bucket = λ e. ne (ap (λ s. s.page % 1024) same ∙ e) in
          subst (IsLeast (is_member g (slice_set slots at slot) ((slot_at (slice_set slots at slot) k).page % 1024)) (k + 1)) (sym (linked k away elsewhere))
          (next_same k away (sym (ap (is_kept g) same) ∙ kept) (apart _ elsewhere))
    ];
  }

  -- a member that isn't the last one below the slot leads to one below it, or is above it
  pub passes : (before : ℕ) → is_member g slots bucket before ≡ true → before < at → at ≤ slice_index nexts before
      → (k : ℕ) → k ≢ before → is_member g slots bucket k ≡ true → (j : ℕ) → k + 1 ≤ j → j ≤ slice_index nexts k → j ≢ at
  passes before member below last k ne own j start most e = elim (cases_lt k before) [
    | inl lower ↦
        let bound : slice_index nexts k ≤ before = least_bound (is_member g slots bucket) (k + 1) (slice_index nexts k) before (next_of g slots firsts nexts chained bucket k own) (omega (arith, lower)) member in
        omega (arith, bound, below, most, e)
    | inr higher ↦
        let bound : slice_index nexts before ≤ k = least_bound (is_member g slots bucket) (before + 1) (slice_index nexts before) k (next_of g slots firsts nexts chained bucket before member) (omega (arith, higher, ne)) own in
        omega (arith, bound, last, start, e)
  ]

  -- the bucket's first slot stays where it is below the slot
  pub first_below : bucket < 1024 → first_of g slots firsts bucket < at → at < 1024 → IsLeast (is_member g (slice_set slots at slot) bucket) 0 (slice_index firsts bucket)
  first_below small below bound =
      let first : ℕ = first_of g slots firsts bucket in
      subst (IsLeast (is_member g (slice_set slots at slot) bucket) 0) (sym (noted_first g slots firsts bucket (omega (arith, below, bound))))
      (least_same (is_member g slots bucket) (is_member g (slice_set slots at slot) bucket) 0 first (chained.first bucket small)
      (λ k _ most. member_elsewhere g slots at slot fits bucket k (omega (arith, below, most))))
