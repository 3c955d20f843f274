-- The highest of sixteen pending vectors is the greatest that waits: the scan finds the greatest set bit.
use Rattle.std.proofs.Common.{◌≡◌, ◌≢◌, ℕ, ◌+◌, ◌-◌, ◌/◌, ◌^◌, ◌<◌, ◌≤◌, ◌==◌, Bool, true, false, suc, None, Some, MatchOption, refl, sym, ap, subst, ◌∙◌, arith, inl, inr, lit<, one-add, pow_mono}
use Rattle.std.specs.Prelude.{if◌then◌else◌}
use Rattle.std.specs.Int.{bit_at, leading_zeros, w64}
use Rattle.std.proofs.lemmas.Bool.{cases_lt, eqb-false, eqb-true}
use Rattle.std.proofs.lemmas.Nat.{leading_top, le-div, pow_pos, shr_below}
use Rattle.std.proofs.lemmas.Nat.Bits.{bit_at_above}
use Rattle.x86_alu.specs.Scans.{scanned}
use Rattle.x86_alu.specs.SignedNumbers.{bit}
use Rattle.cpu_step.specs.Processor.{highest_pending}
use Rattle.gate_state.specs.HighestPendingLaws.{IsGreatestWaiting}

-- a number from 2 ^ j on, and below twice that, has bit j
top_bit : (n j : ℕ) → 2 ^ j ≤ n → n < 2 ^ (suc j) → bit_at n j ≡ 1
top_bit n j low high =
    let above : 1 ≤ n / 2 ^ j = le-div 1 n (2 ^ j) (pow_pos j) (omega arith) in
    let below : n / 2 ^ j < 2 = shr_below n 1 j (rw (one-add j) high) in
    grind arith

none_waits : (pending k : ℕ) → pending ≡ 0 → bit pending k ≡ false
none_waits pending k none =
    subst (λ (n : ℕ). bit n k ≡ false) (sym none) (ap (λ (n : ℕ). n == 1) (bit_at_above 0 0 k (lit< tt) (omega arith)))

greatest_waits : (pending : ℕ) → 0 < pending → pending < 2 ^ 16
    → IsGreatestWaiting pending (32 + (63 - leading_zeros w64 pending))
greatest_waits pending some small =
    let top = leading_top 64 pending some (omega (arith, small)) in
    let j : ℕ = top.0 in
    let few : j < 16 = elim (cases_lt j 16) [
      | inl few ↦ few
      | inr many ↦ absurd (omega (arith, top.2, pow_mono many))
    ] in
    let place : 32 + (63 - leading_zeros w64 pending) ≡ 32 + j = omega (arith, top.1) in
    let back : 32 + j - 32 ≡ j = omega arith in
    subst (IsGreatestWaiting pending) (sym place) (record {
      least = omega arith;
      most = omega (arith, few);
      waits = ap (bit pending) back ∙ ap (λ (n : ℕ). n == 1) (top_bit pending j top.2 top.3);
      none_above = λ other above.
          ap (λ (n : ℕ). n == 1) (bit_at_above pending (suc j) (other - 32) top.3 (omega (arith, above)));
    })

pub highest_waits : (pending : ℕ) → pending < 2 ^ 16 → MatchOption (highest_pending pending)
    ((vector : ℕ) → bit pending (vector - 32) ≡ false) (IsGreatestWaiting pending)
highest_waits pending small = choice (pending == 0) refl
  where
    choice : (b : Bool) → (pending == 0) ≡ b → MatchOption (if b then None else Some (32 + scanned false pending))
        ((vector : ℕ) → bit pending (vector - 32) ≡ false) (IsGreatestWaiting pending)
    choice true is = λ vector. none_waits pending (vector - 32) (eqb-true pending 0 is)
    choice false is =
        let some : pending ≢ 0 = eqb-false pending 0 is in
        let found : 32 + (63 - leading_zeros w64 pending) ≡ 32 + scanned false pending =
        ap (λ (c : Bool). 32 + (if c then 0 else 63 - leading_zeros w64 pending)) (sym is) in
        subst (IsGreatestWaiting pending) found (greatest_waits pending (omega (arith, some)) small)
