-- The instruction of each gate point stands in the text.
use Rattle.std.proofs.Common.{◌≡◌, ℕ, ◌<◌, ◌≤◌, ◌+◌, Bool, true, false, nat_eq, nat_lt, nat_le, length, refl, inl, inr, arith, ◌∙◌, sym, ap}
use Rattle.std.specs.Prelude.{not, ◌&&◌, ◌||◌, slice_index}
use Rattle.std.proofs.lemmas.Bool.{eqb-true, leb-true, lt-ltb, le-ltb, ne_eqb, and_parts, and_right, agree_below, agree_below_at, cases_lt, false≢true}
use Rattle.gate_text.specs.Listing.{gate_byte, listing, entry_and_exit, trap_gate}
use Rattle.gate_text.specs.GatePoints.{instruction_bytes, is_point}

-- byte k of the instruction at an offset, if it has one, stands there
abbrev stands_from : ℕ → ℕ → Bool
stands_from at k = not (nat_lt k (length (instruction_bytes at))) || nat_eq (gate_byte (at + k)) (slice_index (instruction_bytes at) k)

-- each byte of the instruction at a point does, of which there are at most ten
abbrev stands : ℕ → Bool
stands at = not (is_point at) || (nat_le (length (instruction_bytes at)) 10 && agree_below (stands_from at) (λ _. true) 10)

all_stand : agree_below stands (λ _. true) 480 ≡ true
unfolding is_point instruction_bytes gate_byte listing entry_and_exit trap_gate
all_stand = refl

neither : (x y z : Bool) → y ≡ false → (x && y && z) ≡ false
neither x y z off = ap (λ b. b && z) (and_right x y off)

-- no point lies past the text
points_within : (at : ℕ) → 480 ≤ at → is_point at ≡ false
unfolding is_point
points_within at past =
    simp (ne_eqb 16 at (λ e. absurd (omega arith)), ne_eqb 17 at (λ e. absurd (omega arith)), ne_eqb 27 at (λ e. absurd (omega arith)), ne_eqb 29 at (λ e. absurd (omega arith)), ne_eqb 32 at (λ e. absurd (omega arith)), ne_eqb 37 at (λ e. absurd (omega arith)), ne_eqb 40 at (λ e. absurd (omega arith)), ne_eqb 45 at (λ e. absurd (omega arith)), ne_eqb 448 at (λ e. absurd (omega arith)), ne_eqb 449 at (λ e. absurd (omega arith)), ne_eqb 452 at (λ e. absurd (omega arith)), ne_eqb 457 at (λ e. absurd (omega arith)), ne_eqb 460 at (λ e. absurd (omega arith)), ne_eqb 465 at (λ e. absurd (omega arith)))
    (neither (nat_le 320 at) (nat_lt at 448) _ (le-ltb at 448 (omega arith)))

either_true : (a b : Bool) → not a || b ≡ true → a ≡ true → b ≡ true
either_true true b is a = is
either_true false b is a = absurd (false≢true a)

pub instruction_stands : (at k : ℕ) → is_point at ≡ true → k < length (instruction_bytes at) → gate_byte (at + k) ≡ slice_index (instruction_bytes at) k
instruction_stands at k point within = elim (cases_lt at 480) [
  | inr past ↦ absurd (false≢true (sym (points_within at past) ∙ point))
  | inl here ↦
      let parts = and_parts (nat_le (length (instruction_bytes at)) 10) _ (either_true (is_point at) _ (agree_below_at stands (λ _. true) 480 at all_stand here) point) in
      let few : k < 10 = omega (arith, leb-true _ _ parts.0) in
      eqb-true _ _ (either_true (nat_lt k (length (instruction_bytes at))) _ (agree_below_at (stands_from at) (λ _. true) 10 k parts.1 few) (lt-ltb _ _ within))
]
