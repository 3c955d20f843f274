-- The pending vectors are 32 to 47: what is delivered, and what is left.
use Rattle.std.proofs.Common.{◌≡◌, ◌≢◌, ℕ, ◌+◌, ◌-◌, ◌^◌, ◌<◌, ◌≤◌, Bool, true, false, refl, arith, inl, inr}
use Rattle.std.specs.Prelude.{None, Some, not, ◌==◌, ◌&&◌, if◌then◌else◌}
use Rattle.std.specs.Int.{leading_zeros, w64}
use Rattle.x86_alu.specs.Flags.{with_flag}
use Rattle.x86_alu.specs.Scans.{scanned}
use Rattle.x86_alu.specs.SignedNumbers.{bit, one_if}
use Rattle.x86_regs.specs.Combinations.{interrupt_flag}
use Rattle.cpu_step.specs.Processor.{Processor, deliverable, highest_pending}
use Rattle.std.proofs.Common.{below_more, below_none, pow_mono}
use Rattle.std.proofs.lemmas.Bool.{cases_lt, eqb-false}
use Rattle.std.proofs.lemmas.Nat.{leading_top}

one_small : (set : Bool) → one_if set ≤ 1
one_small true = omega arith
one_small false = omega arith

-- a flag among the sixteen low bits leaves the others above them 0
abbrev Stays : ℕ → Bool → ℕ → Type 0
Stays n set k = with_flag k set n < 2 ^ 16

flag_stays : (n : ℕ) (set : Bool) → n < 2 ^ 16 → (k : ℕ) → k < 16 → Stays n set k
unfolding with_flag
flag_stays n set small =
    let one : one_if set ≤ 1 = one_small set in
    below_more (Stays n set) 15 (below_more (Stays n set) 14 (below_more (Stays n set) 13 (below_more (Stays n set) 12
    (below_more (Stays n set) 11 (below_more (Stays n set) 10 (below_more (Stays n set) 9 (below_more (Stays n set) 8
    (below_more (Stays n set) 7 (below_more (Stays n set) 6 (below_more (Stays n set) 5 (below_more (Stays n set) 4
    (below_more (Stays n set) 3 (below_more (Stays n set) 2 (below_more (Stays n set) 1 (below_more (Stays n set) 0
    (below_none (Stays n set)) (omega arith)) (omega arith)) (omega arith)) (omega arith)) (omega arith)) (omega arith)) (omega arith)) (omega arith))
    (omega arith)) (omega arith)) (omega arith)) (omega arith)) (omega arith)) (omega arith)) (omega arith)) (omega arith)

pub pending_changed : (n k : ℕ) (set : Bool) → n < 2 ^ 16 → k < 16 → with_flag k set n < 2 ^ 16
pending_changed n k set small few = flag_stays n set small k few

-- the greatest set bit of sixteen
greatest_below : (n : ℕ) → n ≢ 0 → n < 2 ^ 16 → 63 - leading_zeros w64 n < 16
greatest_below n some small =
    let top = leading_top 64 n (omega arith) (omega arith) in
    elim (cases_lt top.0 16) [
      | inl few ↦ omega (arith, top.1, few)
      | inr many ↦ absurd (omega (arith, top.2, pow_mono many))
    ]

scanned_below : (n : ℕ) → n ≢ 0 → n < 2 ^ 16 → scanned false n < 16
scanned_below n some small = choice (n == 0) refl
  where
    choice : (b : Bool) → (n == 0) ≡ b → (if b then 0 else 63 - leading_zeros w64 n) < 16
    choice true is = omega arith
    choice false is = greatest_below n some small

-- the highest of sixteen vectors
pub highest_bounds : (pending : ℕ) → pending < 2 ^ 16 → pending ≢ 0 → 32 + scanned false pending < 48
highest_bounds pending small some = omega (arith, scanned_below pending some small)

-- the vector that is delivered
pub vector_bounds : (p : Processor) (vector : ℕ) → p.pending < 2 ^ 16 → deliverable p ≡ Some vector → (32 ≤ vector) × (vector < 48)
vector_bounds p vector small is = may (bit p.regs.flags interrupt_flag && not p.shielded) is
  where
    some_is : (a b : ℕ) → Some a ≡ Some b → a ≡ b
    some_is a b e = cc

    highest : (b : Bool) → (p.pending == 0) ≡ b → (if b then None else Some (32 + scanned false p.pending)) ≡ Some vector → (32 ≤ vector) × (vector < 48)
    highest true none e = absurd (cc)
    highest false some e =
        let at : 32 + scanned false p.pending ≡ vector = some_is _ _ e in
        let below : scanned false p.pending < 16 = scanned_below p.pending (eqb-false p.pending 0 some) small in
        (omega arith, omega arith)

    may : (b : Bool) → (if b then highest_pending p.pending else None) ≡ Some vector → (32 ≤ vector) × (vector < 48)
    may true e = highest (p.pending == 0) refl e
    may false e = absurd (cc)
