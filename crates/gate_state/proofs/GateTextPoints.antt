-- The bytes of the instruction at each gate point decode to it, and to nothing before the last of them.
use Rattle.std.proofs.Common.{◌≡◌, ℕ, ◌<◌, ◌≤◌, Bool, true, false, not, ◌&&◌, ◌||◌, nat_eq, nat_le, nat_lt, [], length, refl, sym, ap, ◌∙◌, arith, inl, inr}
use Rattle.std.proofs.lemmas.Bool.{agree_below, agree_below_at, and_parts, and_right, cases_lt, false≢true, le-ltb, leb-true, ne_eqb}
use Rattle.x86_decode.specs.Grid.{entry_at, slots_from}
use Rattle.gate_text.specs.Listing.{entry_and_exit, listing, trap_gate}
use Rattle.gate_text.specs.GatePoints.{instruction_bytes, is_point}
use Rattle.gate_state.proofs.FetchKnown.{reads_on}

-- what is tested at an offset, where it is a point
abbrev is_read : ℕ → Bool
is_read at = not (is_point at) || (nat_le (length (instruction_bytes at)) 15 && reads_on [] (instruction_bytes at))

all_read : agree_below is_read (λ _. true) 480 ≡ true
unfolding is_point instruction_bytes listing entry_and_exit trap_gate entry_at slots_from
all_read = refl

neither : (x y z : Bool) → y ≡ false → (x && y && z) ≡ false
neither x y z off = ap (λ b. b && z) (and_right x y off)

other : (point at : ℕ) → point < at → nat_eq point at ≡ false
other point at past = ne_eqb point at (λ e. absurd (omega (arith, e, past)))

-- no point lies past the text
no_point_past : (at : ℕ) → 480 ≤ at → is_point at ≡ false
unfolding is_point
no_point_past at past =
    simp (
      other 16 at (omega arith),
      other 17 at (omega arith),
      other 27 at (omega arith),
      other 29 at (omega arith),
      other 32 at (omega arith),
      other 37 at (omega arith),
      other 40 at (omega arith),
      other 45 at (omega arith),
      other 448 at (omega arith),
      other 449 at (omega arith),
      other 452 at (omega arith),
      other 457 at (omega arith),
      other 460 at (omega arith),
      other 465 at (omega arith),
    )
    (neither (nat_le 320 at) (nat_lt at 448) _ (le-ltb at 448 (omega arith)))

pub point_within : (at : ℕ) → is_point at ≡ true → at < 480
point_within at point = elim (cases_lt at 480) [
  | inl within ↦ within
  | inr past ↦ absurd (false≢true (sym (no_point_past at past) ∙ point))
]

either_true : (a b : Bool) → not a || b ≡ true → a ≡ true → b ≡ true
either_true true b is a = is
either_true false b is a = absurd (false≢true a)

point_parts : (at : ℕ) → is_point at ≡ true
    → (nat_le (length (instruction_bytes at)) 15 ≡ true) × (reads_on [] (instruction_bytes at) ≡ true)
point_parts at point =
    and_parts _ _
    (either_true (is_point at) _ (agree_below_at is_read (λ _. true) 480 at all_read (point_within at point)) point)

-- at most fifteen bytes
pub point_few : (at : ℕ) → is_point at ≡ true → length (instruction_bytes at) ≤ 15
point_few at point = leb-true _ _ (point_parts at point).0

pub point_reads : (at : ℕ) → is_point at ≡ true → reads_on [] (instruction_bytes at) ≡ true
point_reads at point = (point_parts at point).1
