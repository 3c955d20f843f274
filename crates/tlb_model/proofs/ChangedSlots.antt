-- One slot changes: what is a member of which bucket, and which facts on a bucket's own numbers make chains again.
use Rattle.std.proofs.Common.{◌≡◌, ◌≢◌, ℕ, ◌+◌, ◌%◌, ◌<◌, Bool, true, cond, ◌&&◌, ◌==◌, true≢false, List, length, slice_index, slice_set, inl, inr, refl, sym, ap, ap₂, ◌∙◌, subst, arith, get_or-set_other, get_or-set_same, eqb-true}
use Rattle.std.proofs.lemmas.Bool.{and_parts, cases_lt, cond_both}
use Rattle.tlb_model.specs.declared.slot.Slot.{Slot}
use Rattle.tlb_model.specs.SlotBuckets.{IsChained, IsLeast, empty_slot, first_of, is_kept, is_member, slot_at}
use Rattle.tlb_model.proofs.Leasts.{least_same}

-- what is noted as first and is least is first
pub first_noted : (g : ℕ) (slots : List Slot) (firsts : List ℕ) (bucket : ℕ) → IsLeast (is_member g slots bucket) 0 (slice_index firsts bucket)
    → IsLeast (is_member g slots bucket) 0 (first_of g slots firsts bucket)
first_noted g slots firsts bucket least =
    let noted : ℕ = slice_index firsts bucket in
    cond_both (is_member g slots bucket noted) noted 1024 (IsLeast (is_member g slots bucket) 0) (λ _. least)
    (λ missing. elim (cases_lt noted 1024) [
      | inl below ↦ absurd (true≢false (sym (least.is below) ∙ missing))
      | inr above ↦ subst (IsLeast (is_member g slots bucket) 0) (omega (arith, above, least.most)) least
    ])

-- a first slot is as it is noted
pub noted_first : (g : ℕ) (slots : List Slot) (firsts : List ℕ) (bucket : ℕ) → first_of g slots firsts bucket < 1024
    → slice_index firsts bucket ≡ first_of g slots firsts bucket
noted_first g slots firsts bucket =
    let noted : ℕ = slice_index firsts bucket in
    cond_both (is_member g slots bucket noted) noted 1024 (λ first. first < 1024 → noted ≡ first) (λ _ _. refl) (λ _ below. absurd (omega (arith, below)))

-- what is noted of a member leads to the bucket's next one
pub next_of : (g : ℕ) (slots : List Slot) (firsts nexts : List ℕ) → IsChained g slots firsts nexts → (bucket k : ℕ)
    → is_member g slots bucket k ≡ true → IsLeast (is_member g slots bucket) (k + 1) (slice_index nexts k)
next_of g slots firsts nexts chained bucket k member =
    let parts : (is_kept g (slot_at slots k) ≡ true) × (((slot_at slots k).page % 1024 == bucket) ≡ true) = and_parts _ _ member in
    subst (λ n. IsLeast (is_member g slots n) (k + 1) (slice_index nexts k)) (eqb-true _ _ parts.1) (chained.next k parts.0)

-- chains stay chains where every slot keeps its page, and is kept as it was
pub chained_same : (g : ℕ) (slots after : List Slot) (firsts nexts : List ℕ) → IsChained g slots firsts nexts
    → ((k : ℕ) → is_kept g (slot_at after k) ≡ is_kept g (slot_at slots k)) → ((k : ℕ) → (slot_at after k).page ≡ (slot_at slots k).page)
    → IsChained g after firsts nexts
chained_same g slots after firsts nexts chained kept page =
    let same : (bucket k : ℕ) → is_member g after bucket k ≡ is_member g slots bucket k =
    λ bucket k. ap₂ (λ (held : Bool) (own : ℕ). held && (own % 1024 == bucket)) (kept k) (page k) in
    record {
      first = λ bucket small. subst (IsLeast (is_member g after bucket) 0) (sym (ap (λ b. cond b (slice_index firsts bucket) 1024) (same bucket (slice_index firsts bucket))))
          (least_same (is_member g slots bucket) (is_member g after bucket) 0 (first_of g slots firsts bucket) (chained.first bucket small) (λ k _ _. same bucket k));
      next = λ i own. subst (λ p. IsLeast (is_member g after (p % 1024)) (i + 1) (slice_index nexts i)) (sym (page i))
          (least_same (is_member g slots ((slot_at slots i).page % 1024)) (is_member g after ((slot_at slots i).page % 1024)) (i + 1) (slice_index nexts i)
          (chained.next i (sym (kept i) ∙ own)) (λ k _ _. same ((slot_at slots i).page % 1024) k));
    }

module _ (g : ℕ) (slots : List Slot) (at : ℕ) (slot : Slot) (fits : at < length slots) where
  pub slot_there : slot_at (slice_set slots at slot) at ≡ slot
  slot_there = get_or-set_same slots at slot empty_slot fits

  pub slot_elsewhere : (k : ℕ) → k ≢ at → slot_at (slice_set slots at slot) k ≡ slot_at slots k
  slot_elsewhere k ne = get_or-set_other slots at k slot empty_slot ne

  pub member_there : (bucket : ℕ) → is_member g (slice_set slots at slot) bucket at ≡ (is_kept g slot && (slot.page % 1024 == bucket))
  member_there bucket = ap (λ s. is_kept g s && (s.page % 1024 == bucket)) slot_there

  pub member_elsewhere : (bucket k : ℕ) → k ≢ at → is_member g (slice_set slots at slot) bucket k ≡ is_member g slots bucket k
  member_elsewhere bucket k ne = ap (λ s. is_kept g s && (s.page % 1024 == bucket)) (slot_elsewhere k ne)
